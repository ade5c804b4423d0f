-- The interval of an index's entries that bounds leave. The entries are those rows whose key isn't null, in ascending order of their keys.
use Rattle.std.specs.Prelude.{◌≡◌, ◌-◌, ℕ, Bool, true, not, List, [], ◌∷◌, length, map, filter, min, max, take, drop}
use Rattle.std.specs.Ordering.{is_lt, is_le}
use Rattle.std.specs.declared.cmp.Ordering.{Ordering}
use Rattle.lists.specs.Arranged.{Ascends}
use Rattle.rows.specs.declared.value.Value.{Value}
use Rattle.rows.specs.declared.plain.Bound.{Bound}
use Rattle.rows.specs.declared.plain.BoundOp.{BoundOp}
use Rattle.rows.specs.declared.plain.BoundOp.TheVariants as bound
use Rattle.rows.specs.declared.plain.LayoutPart.{LayoutPart}
use Rattle.rows.specs.Values.{value_cmp, is_null}
use Rattle.rel_meaning.specs.declared.expr.CompareOp.{CompareOp}
use Rattle.rel_meaning.specs.declared.expr.CompareOp.TheVariants as op
use Rattle.rel_meaning.specs.Expression.{Expression}
use Rattle.rel_meaning.specs.Eval.{compare_values}
use Rattle.rows.specs.Layouts.{column_in}
use Rattle.rel_meaning.specs.Meaning.{is_true}
use Rattle.plan_tree.specs.Assignments.{Assignment}
use Rattle.plan_tree.specs.Conjuncts.{all_met}
use Rattle.plan_tree.specs.TreeLaws.{SameRows}

-- ---- bounds

abbrev pub compare_op : BoundOp → CompareOp
compare_op bound.Equal = op.Equal
compare_op bound.Less = op.Less
compare_op bound.AtMost = op.AtMost
compare_op bound.More = op.More
compare_op bound.AtLeast = op.AtLeast

-- whether the comparison of a key with the bound's constant is true
abbrev pub is_within_bound : Bound → Value → Bool
is_within_bound b key = is_true (compare_values (compare_op b.op) key b.value)

-- tests set a bound to a column where it holds for every row that passes them
abbrev pub Sets : List Expression → ℕ → ℕ → Bound → Type 0
Sets tests v k b = (e : Assignment) → all_met tests e ≡ true → is_within_bound b (e v k) ≡ true

-- ---- the interval

-- how many keys are below a value, and how many are at most it
abbrev pub rank_low : Value → List Value → ℕ
rank_low value keys = length (filter (λ key. is_lt (value_cmp key value)) keys)

abbrev pub rank_high : Value → List Value → ℕ
rank_high value keys = length (filter (λ key. is_le (value_cmp key value)) keys)

-- where the keys begin that a bound leaves
abbrev pub lower_at : BoundOp → Value → List Value → ℕ
lower_at bound.Equal value keys = rank_low value keys
lower_at bound.AtLeast value keys = rank_low value keys
lower_at bound.More value keys = rank_high value keys
lower_at bound.Less value keys = 0
lower_at bound.AtMost value keys = 0

-- where they end
abbrev pub upper_at : BoundOp → Value → List Value → ℕ
upper_at bound.Equal value keys = rank_high value keys
upper_at bound.AtMost value keys = rank_high value keys
upper_at bound.Less value keys = rank_low value keys
upper_at bound.More value keys = length keys
upper_at bound.AtLeast value keys = length keys

-- the greatest of the lower ends
abbrev pub lower_end : List Bound → List Value → ℕ
lower_end [] keys = 0
lower_end (b ∷ bs) keys = max (lower_at b.op b.value keys) (lower_end bs keys)

-- the least of the upper ends
abbrev pub upper_end : List Bound → List Value → ℕ
upper_end [] keys = length keys
upper_end (b ∷ bs) keys = min (upper_at b.op b.value keys) (upper_end bs keys)

-- where the interval ends: at its beginning, where it would be negative
abbrev pub interval_end : List Bound → List Value → ℕ
interval_end bounds keys = max (lower_end bounds keys) (upper_end bounds keys)

-- ---- the rows of an index

abbrev pub key_in : List LayoutPart → ℕ → ℕ → List Value → Value
key_in layout v k row = column_in layout row v k

abbrev pub by_key : List LayoutPart → ℕ → ℕ → List Value → List Value → Ordering
by_key layout v k a b = value_cmp (key_in layout v k a) (key_in layout v k b)

abbrev pub has_key : List LayoutPart → ℕ → ℕ → List Value → Bool
has_key layout v k row = not (is_null (key_in layout v k row))

-- the rows of the entries of an index on a column, in the order of the entries
pub record AreEntries (layout : List LayoutPart) (v k : ℕ) (rows entries : List (List Value)) : Type 0 where
  pub same : SameRows entries (filter (has_key layout v k) rows)
  pub ascend : Ascends (by_key layout v k) entries

-- the rows of the entries in the interval
abbrev pub interval_rows : List LayoutPart → ℕ → ℕ → List Bound → List (List Value) → List (List Value)
interval_rows layout v k bounds entries =
    let keys = map (key_in layout v k) entries in take (interval_end bounds keys - lower_end bounds keys) (drop (lower_end bounds keys) entries)
