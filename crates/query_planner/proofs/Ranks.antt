-- An interval of entries is the interval of their keys.
use Rattle.std.proofs.Common.{◌≡◌, Bool, true, false, cond, suc, List, [], ◌∷◌, length, map, max, min, refl}
use Rattle.std.specs.List.{filter}
use Rattle.std.specs.Ordering.{is_le, is_lt}
use Rattle.rows.specs.declared.plain.Bound.{Bound}
use Rattle.rows.specs.declared.plain.BoundOp.{BoundOp}
use Rattle.rows.specs.declared.plain.BoundOp.TheVariants as bound
use Rattle.rows.specs.declared.plain.KeyEntry.{KeyEntry}
use Rattle.rows.specs.declared.value.Value.{Value}
use Rattle.rows.specs.Values.{value_cmp}
use Rattle.key_index.specs.Intervals as index
use Rattle.plan_tree.specs.Intervals as tree

abbrev pub keys_in : List KeyEntry → List Value
keys_in entries = map (λ (e : KeyEntry). e.key) entries

count_keys : (d : Value → Bool) (es : List KeyEntry) → length (filter d (keys_in es)) ≡ length (filter (λ e. d e.key) es)
count_keys d [] = refl
count_keys d (e ∷ es) = elim (d e.key) as (λ b. length (cond b (e.key ∷ filter d (keys_in es)) (filter d (keys_in es))) ≡ length (cond b (e ∷ filter (λ x. d x.key) es) (filter (λ x. d x.key) es))) [
  | true ↦ (λ i. suc (count_keys d es i))
  | false ↦ count_keys d es
]

count_all : (es : List KeyEntry) → length (keys_in es) ≡ length es
count_all [] = refl
count_all (e ∷ es) = λ i. suc (count_all es i)

lower_same : (o : BoundOp) (c : Value) (es : List KeyEntry) → tree.lower_at o c (keys_in es) ≡ index.lower_end o c es
lower_same bound.Equal c es = count_keys (λ key. is_lt (value_cmp key c)) es
lower_same bound.AtLeast c es = count_keys (λ key. is_lt (value_cmp key c)) es
lower_same bound.More c es = count_keys (λ key. is_le (value_cmp key c)) es
lower_same bound.Less c es = refl
lower_same bound.AtMost c es = refl

upper_same : (o : BoundOp) (c : Value) (es : List KeyEntry) → tree.upper_at o c (keys_in es) ≡ index.upper_end o c es
upper_same bound.Equal c es = count_keys (λ key. is_le (value_cmp key c)) es
upper_same bound.AtMost c es = count_keys (λ key. is_le (value_cmp key c)) es
upper_same bound.Less c es = count_keys (λ key. is_lt (value_cmp key c)) es
upper_same bound.More c es = count_all es
upper_same bound.AtLeast c es = count_all es

pub lower_agrees : (bs : List Bound) (es : List KeyEntry) → tree.lower_end bs (keys_in es) ≡ index.lower_of bs es
lower_agrees [] es = refl
lower_agrees (b ∷ bs) es = λ i. max (lower_same b.op b.value es i) (lower_agrees bs es i)

upper_agrees : (bs : List Bound) (es : List KeyEntry) → tree.upper_end bs (keys_in es) ≡ index.upper_of bs es
upper_agrees [] es = count_all es
upper_agrees (b ∷ bs) es = λ i. min (upper_same b.op b.value es i) (upper_agrees bs es i)

pub end_agrees : (bs : List Bound) (es : List KeyEntry) → tree.interval_end bs (keys_in es) ≡ (index.interval_of bs es).upto
end_agrees bs es = λ i. max (lower_agrees bs es i) (upper_agrees bs es i)
