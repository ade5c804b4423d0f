-- The two sides of a merge, and the order of their keys.
use Rattle.std.specs.Prelude.{◌≡◌, ◌≤◌, ◌<◌, ℕ, true, false, List, map, length, slice_index_or, filter}
use Rattle.std.specs.List.{AllByRecursion, AllWithin}
use Rattle.std.specs.List.Sorted.{IsNonDecreasingBy, IsPartitionPoint}
use Rattle.std.specs.Ordering.{is_eq, is_lt, ordering_index}
use Rattle.std.specs.declared.cmp.Ordering.{Ordering}
use Rattle.std.specs.Cmp.Lexicographic.{slice_cmp}
use Rattle.rows.specs.declared.value.Value.{Value}
use Rattle.rows.specs.declared.plain.ColumnRef.{ColumnRef}
use Rattle.rows.specs.declared.plain.KeyPair.{KeyPair}
use Rattle.rows.specs.declared.plain.LayoutPart.{LayoutPart}
use Rattle.rows.specs.Keys.{keys_match}
use Rattle.rows.specs.Layouts.{IsRowIn}
use Rattle.rows.specs.Values.{arranged, value_cmp}
use Rattle.hash_join.specs.Table.{IsColumn, row_key, rows_of}
use Rattle.plan_tree.specs.Combining.{combined}
use Rattle.plan_tree.specs.WellFormed.{sort_key}

-- the columns of the keys on each side
abbrev pub left_columns : List KeyPair → List ColumnRef
left_columns keys = map (λ key. key.build) keys

abbrev pub right_columns : List KeyPair → List ColumnRef
right_columns keys = map (λ key. key.probe) keys

-- one list of rows of the layout, in answer order by these columns
pub record IsSide (layout : List LayoutPart) (columns : List ColumnRef)
    (lists : List (List (List Value))) : Type 0 where
  pub one : length lists ≡ 1
  pub fit : AllByRecursion (IsRowIn layout) (rows_of lists)
  pub columns_there : AllByRecursion (IsColumn layout) columns
  pub in_order : rows_of lists ≡ arranged false (map (sort_key layout) columns) (rows_of lists)

-- the order of the key of a right row and that of a left row
abbrev pub key_order : List LayoutPart → List LayoutPart → List KeyPair → List Value → List Value
    → Ordering
key_order left right keys a b =
    slice_cmp value_cmp (row_key right (right_columns keys) b)
    (row_key left (left_columns keys) a)

-- beside the key of a left row, the keys of these right rows don't fall
abbrev pub Rises : List LayoutPart → List LayoutPart → List KeyPair → List Value
    → List (List Value) → Type 0
Rises left right keys a rows =
    IsNonDecreasingBy (λ b. ordering_index (key_order left right keys a b)) rows

-- the keys of the first right rows, so many, are below that of a left row
abbrev pub AreBelow : List LayoutPart → List LayoutPart → List KeyPair → List Value
    → List (List Value) → ℕ → Type 0
AreBelow left right keys a rows count =
    AllWithin (λ b. is_lt (key_order left right keys a b) ≡ true) rows 0 count

-- and those of the others are not
abbrev pub IsStart : List LayoutPart → List LayoutPart → List KeyPair → List Value
    → List (List Value) → ℕ → Type 0
IsStart left right keys a rows start =
    IsPartitionPoint (λ b. is_lt (key_order left right keys a b) ≡ true)
    (λ b. is_lt (key_order left right keys a b) ≡ false) rows start

-- the keys of so many right rows are below those of the left rows from a number on
abbrev pub ArePassed : List LayoutPart → List LayoutPart → List KeyPair → List (List Value)
    → List (List Value) → ℕ → ℕ → Type 0
ArePassed left right keys lefts rows from count =
    (k : ℕ) (a : List Value) → from ≤ k → k < length lefts
    → AreBelow left right keys (slice_index_or lefts k a) rows count

-- the right rows whose key is that of a left row, null or not
abbrev pub of_key : List LayoutPart → List LayoutPart → List KeyPair → List Value
    → List (List Value) → List (List Value)
of_key left right keys a rows = filter (λ b. is_eq (key_order left right keys a b)) rows

-- the right rows that match a left row
abbrev pub matches_of : List LayoutPart → List LayoutPart → List KeyPair → List Value
    → List (List Value) → List (List Value)
matches_of left right keys a rows = filter (λ b. keys_match left right keys a b) rows

-- a left row with each of these right rows
abbrev pub with_each : List LayoutPart → List LayoutPart → List LayoutPart → List Value
    → List (List Value) → List (List Value)
with_each layout left right a rows = map (λ b. combined layout left right a b) rows
