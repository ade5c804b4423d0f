-- What is kept of earlier fragments, where a later one reads it.
use Rattle.std.specs.Prelude.{◌≡◌, ℕ, List, Some, map, slice_get}
use Rattle.std.specs.List.{AllByRecursion, AllZip, range_with_len}
use Rattle.rows.specs.declared.value.Value.{Value}
use Rattle.hash_join.specs.Table.{Table, rows_of}
use Rattle.plan_tree.specs.EndValues.{IsEndValue}
use Rattle.plan_tree.specs.Fragments.{Stored, position_rows, value_at}
use Rattle.plan_tree.specs.Inputs.{inputs_of}
use Rattle.plan_tree.specs.Pieces.{Piece}
use Rattle.plan_tree.specs.WellFormed.{HasShape}

-- a table is the end's value of parts of a fragment's shape
abbrev pub IsShapedValue : Piece → Table → Type 0
IsShapedValue piece table =
    (parts : List (List (List Value))) × AllByRecursion (HasShape piece.layout piece.end) parts × IsEndValue piece.end piece.layout parts table

-- a table is kept of the fragment of a number, if there is one
abbrev pub IsKept : List Piece → ℕ → Table → Type 0
IsKept pieces number table = (piece : Piece) → slice_get pieces number ≡ Some piece → IsShapedValue piece table

-- tables are kept of the fragments that a fragment reads, in order
abbrev pub AreKept : List Piece → Piece → List Table → Type 0
AreKept pieces piece tables = AllZip (IsKept pieces) (inputs_of piece) tables

-- a table has the rows of the value of the fragment of a number
abbrev pub HasRows : List (List (List Value)) → ℕ → Table → Type 0
HasRows values number table = value_at values number ≡ rows_of table.lists

-- the rows of each position of a fragment before the end, in order
abbrev pub rows_by_position : Stored → List (List (List Value)) → Piece → List (List (List Value))
rows_by_position stored values piece = map (position_rows stored values piece) (range_with_len 0 piece.positions)
