-- The rows of an interval of a small index.
use Rattle.std.proofs.Common.{◌≡◌, ℕ, false, List, [], ◌∷◌, pos, refl}
use Rattle.rows.specs.declared.field.ColType.TheVariants.{Int4}
use Rattle.rows.specs.declared.plain.BoundOp.TheVariants as bound
use Rattle.rows.specs.declared.plain.Column.{Column}
use Rattle.rows.specs.declared.plain.KeyEntry.{KeyEntry}
use Rattle.rows.specs.declared.value.Value.{Value}
use Rattle.rows.specs.declared.value.Value.TheVariants as value
use Rattle.key_index.specs.Intervals.{interval_of}
use Rattle.query_planner.specs.Reading.{entries_in, entry_rows}

-- one column of integers
abbrev columns : List Column
columns = record { name = []; col_type = Int4; nullable = false } ∷ []

-- 3 and 1 on one page, 2 on the next
abbrev blocks : List (List (List ℕ))
blocks = ((0 ∷ 0 ∷ 0 ∷ 3 ∷ []) ∷ (0 ∷ 0 ∷ 0 ∷ 1 ∷ []) ∷ []) ∷ ((0 ∷ 0 ∷ 0 ∷ 2 ∷ []) ∷ []) ∷ []

abbrev number : ℕ → Value
number n = value.Number (pos n)

abbrev entries : List KeyEntry
entries = record { key = number 1; page = 0; slot = 1 } ∷ record { key = number 2; page = 1; slot = 0 } ∷ record { key = number 3; page = 0; slot = 0 } ∷ []

-- the rows above 1, in ascending order
above_one : entry_rows columns blocks (entries_in (interval_of (record { op = bound.More; value = number 1 } ∷ []) entries) entries) ≡ (number 2 ∷ []) ∷ (number 3 ∷ []) ∷ []
above_one = refl

-- an entry that leads to no item gives no row
astray : entry_rows columns blocks (record { key = number 1; page = 2; slot = 0 } ∷ record { key = number 1; page = 0; slot = 2 } ∷ []) ≡ []
astray = refl
