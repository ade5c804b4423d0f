-- The entries with a smaller key stand in front, and so do those up to a key and those up to a number.
use Rattle.std.proofs.Common.{◌≡◌, ℕ, zero, suc, ◌+◌, ◌-◌, ◌<◌, Bool, true, false, cond, List, [], ◌∷◌, length, get_or, Some, refl, ap, subst, ◌∙◌, arith, inl, inr}
use Rattle.std.specs.Prelude.{slice_get}
use Rattle.std.specs.List.{AllByRecursion, filter}
use Rattle.std.specs.declared.cmp.Ordering.{Ordering}
use Rattle.std.specs.declared.cmp.Ordering.TheVariants.{Less, Equal, Greater}
use Rattle.std.specs.Ordering.{is_gt, is_lt, is_le, ordering_reverse, ordering_then}
use Rattle.std.proofs.lemmas.Bool.{cases_Bool}
use Rattle.std.proofs.lemmas.Cmp.{upto}
use Rattle.lists.specs.Arranged.{Ascends, one_if}
use Rattle.rows.specs.declared.plain.KeyEntry.{KeyEntry}
use Rattle.rows.specs.declared.value.Value.{Value}
use Rattle.rows.specs.Values.{value_cmp}
use Rattle.rows.proofs.Orders.{value_total}
use Rattle.key_index.specs.Aims.{IsFront, NonePass, count, upto_number}
use Rattle.key_index.specs.Entries.{Item, blank, entry_cmp, items_from, items_of, number_below, number_upto}
use Rattle.key_index.proofs.Numbers.{Numbered, front_upto, count_upto}

-- a test of keys that holds of each key before one of which it holds
abbrev IsLow : (Value → Bool) → Type 0
IsLow q = (a b : Value) → is_gt (value_cmp a b) ≡ false → q b ≡ true → q a ≡ true

key_first : (r s : Ordering) → is_gt (ordering_then r s) ≡ false → is_gt r ≡ false
key_first Less s e = refl
key_first Equal s e = refl
key_first Greater s e = e

not_gt : (r : Ordering) → is_le r ≡ true → is_gt r ≡ false
not_gt Less e = refl
not_gt Equal e = refl
not_gt Greater e = cc

le_if : (r : Ordering) → is_gt r ≡ false → is_le r ≡ true
le_if Less e = refl
le_if Equal e = refl
le_if Greater e = cc

gt_back : (r s : Ordering) → s ≡ ordering_reverse r → is_lt r ≡ true → is_gt s ≡ true
gt_back Less s e h = ap is_gt e
gt_back Equal s e h = cc
gt_back Greater s e h = cc

lt_back : (r s : Ordering) → s ≡ ordering_reverse r → is_gt s ≡ true → is_lt r ≡ true
lt_back Less s e h = refl
lt_back Equal s e h = cc
lt_back Greater s e h = cc

upto_low : (key : Value) → IsLow (λ v. is_le (value_cmp v key))
upto_low key a b le h = le_if (value_cmp a key) (upto value_total a b key le (not_gt (value_cmp b key) h))

below_low : (key : Value) → IsLow (λ v. is_lt (value_cmp v key))
below_low key a b le h =
    elim (cases_Bool (is_gt (value_cmp key a))) [
      | inl gt ↦ lt_back (value_cmp a key) (value_cmp key a) (value_total.antisymm key a) gt
      | inr other ↦ (let behind = upto value_total key a b other le in let is = gt_back (value_cmp b key) (value_cmp key b) (value_total.antisymm key b) h in absurd cc)
    ]

module _ (q : Value → Bool) (low : IsLow q) where
  none_behind : (x : KeyEntry) (n : ℕ) (es : List KeyEntry) → q x.key ≡ false → AllByRecursion (λ y. is_gt (entry_cmp x y) ≡ false) es → NonePass (λ (e : Item). q e.key) (items_from n es)
  none_behind x n [] fails all = tt
  none_behind x n (y ∷ ys) fails all = (by (q y.key) refl, none_behind x (suc n) ys fails all.1) where
    by : (b : Bool) → q y.key ≡ b → q y.key ≡ false
    by false e = e
    by true e = let yes = low x.key y.key (key_first (value_cmp x.key y.key) _ all.0) e in absurd cc

  front_low : (n : ℕ) (es : List KeyEntry) → Ascends entry_cmp es → IsFront (λ (e : Item). q e.key) (items_from n es)
  front_low n [] up = tt
  front_low n (x ∷ xs) up = ((λ fails. none_behind x (suc n) xs fails up.0), front_low (suc n) xs up.1)

-- what is counted is what a filter leaves
count_filter : (q : Value → Bool) (n : ℕ) (es : List KeyEntry) → count (λ (e : Item). q e.key) (items_from n es) ≡ length (filter (λ (e : KeyEntry). q e.key) es)
count_filter q n [] = refl
count_filter q n (e ∷ es) = by (q e.key) (count_filter q (suc n) es) where
  by : (b : Bool) → count (λ (x : Item). q x.key) (items_from (suc n) es) ≡ length (filter (λ (x : KeyEntry). q x.key) es) →
      one_if b + count (λ (x : Item). q x.key) (items_from (suc n) es) ≡ length (cond b (e ∷ filter (λ (x : KeyEntry). q x.key) es) (filter (λ (x : KeyEntry). q x.key) es))
  by true h = omega (arith, h)
  by false h = omega (arith, h)

pub front_below : (key : Value) (es : List KeyEntry) → Ascends entry_cmp es → IsFront (λ (e : Item). is_lt (value_cmp e.key key)) (items_of es)
front_below key es up = front_low (λ v. is_lt (value_cmp v key)) (below_low key) 0 es up

pub front_key : (key : Value) (es : List KeyEntry) → Ascends entry_cmp es → IsFront (λ (e : Item). is_le (value_cmp e.key key)) (items_of es)
front_key key es up = front_low (λ v. is_le (value_cmp v key)) (upto_low key) 0 es up

pub count_below : (key : Value) (es : List KeyEntry) → count (λ (e : Item). is_lt (value_cmp e.key key)) (items_of es) ≡ number_below key es
count_below key es = count_filter (λ v. is_lt (value_cmp v key)) 0 es

pub count_key : (key : Value) (es : List KeyEntry) → count (λ (e : Item). is_le (value_cmp e.key key)) (items_of es) ≡ number_upto key es
count_key key es = count_filter (λ v. is_le (value_cmp v key)) 0 es

-- ---- by number

pub numbered : (n : ℕ) (es : List KeyEntry) → Numbered n (items_from n es)
numbered n [] = tt
numbered n (e ∷ es) = (refl, numbered (suc n) es)

pub front_number : (m : ℕ) (es : List KeyEntry) → IsFront (upto_number m) (items_of es)
front_number m es = front_upto 0 m (items_of es) (numbered 0 es)

pub item_at : (n i : ℕ) (es : List KeyEntry) (e : KeyEntry) → slice_get es i ≡ Some e → (i < length (items_from n es)) × (get_or (items_from n es) i blank ≡ record { key = e.key; page = e.page; slot = e.slot; left = n + i })
item_at n i [] e h = absurd cc
item_at n zero (x ∷ xs) e h = let k : x ≡ e = cc in let z : n ≡ n + 0 = omega arith in (omega arith, subst (λ (y : KeyEntry). ◌≡◌ {A = Item} (record { key = x.key; page = x.page; slot = x.slot; left = n }) (record { key = y.key; page = y.page; slot = y.slot; left = n + 0 })) k (ap (λ (j : ℕ). record { key = x.key; page = x.page; slot = x.slot; left = j }) z))
item_at n (suc i) (x ∷ xs) e h =
    let r = item_at (suc n) i xs e h in
    let z : suc n + i ≡ n + suc i = omega arith in
    (omega (arith, r.0), r.1 ∙ ap (λ (j : ℕ). record { key = e.key; page = e.page; slot = e.slot; left = j }) z)

-- the item that is chosen of the leaf is that of the entry
pub chosen_entry : (index_items : List KeyEntry) (m : ℕ) (e : KeyEntry) (x : Item) → slice_get index_items m ≡ Some e → x ≡ get_or (items_of index_items) (count (upto_number m) (items_of index_items) - 1) blank →
    (x.left ≡ m) × (x.page ≡ e.page) × (x.slot ≡ e.slot)
chosen_entry es m e x at is =
    let r = item_at 0 m es e at in
    let n = count_upto 0 m (items_of es) (numbered 0 es) (omega arith) (omega (arith, r.0)) in
    let k : count (upto_number m) (items_of es) - 1 ≡ m = omega (arith, n) in
    let same : x ≡ record { key = e.key; page = e.page; slot = e.slot; left = 0 + m } = is ∙ (ap (λ (j : ℕ). get_or (items_of es) j blank) k ∙ r.1) in
    let z : 0 + m ≡ m = omega arith in
    (ap (λ (y : Item). y.left) same ∙ z, ap (λ (y : Item). y.page) same, ap (λ (y : Item). y.slot) same)
