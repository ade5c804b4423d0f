-- What is kept of a fragment's positions: the lists by position and the columns of the key where it
-- is looked up, and otherwise one list.
use Rattle.std.specs.Prelude.{◌≡◌, List, [], ◌∷◌, map, false}
use Rattle.std.specs.List.{range_with_len}
use Rattle.rows.specs.declared.value.Value.{Value}
use Rattle.rows.specs.declared.plain.LayoutPart.{LayoutPart}
use Rattle.rows.specs.Values.{arranged}
use Rattle.hash_join.specs.Table.{Table, places_of, rows_of}
use Rattle.aggregate_op.specs.Partials.{partial}
use Rattle.plan_tree.specs.Pieces.{Ending, building, answering, folding, sorting, Piece}
use Rattle.plan_tree.specs.Fragments.{Stored, out, value_of}

-- one list, with no key column
abbrev pub one_list : List (List Value) → Table
one_list rows = record { lists = rows ∷ []; columns = [] }

-- the table is the end's value of what some positions gave, in order; where these are the partials of
-- some lists of rows, it has the partial of all their rows
abbrev pub IsEndValue : Ending → List LayoutPart → List (List (List Value)) → Table → Type 0
IsEndValue (building keys) layout parts table =
    table ≡ record { lists = parts; columns = places_of layout keys }
IsEndValue (answering targets unique keys) layout parts table =
    table ≡ one_list (arranged unique keys (rows_of parts))
IsEndValue (folding targets fold) layout parts table =
    (lists : List (List (List Value))) × (parts ≡ map (partial fold) lists)
    × (table ≡ one_list (partial fold (rows_of lists)))
IsEndValue (sorting keys) layout parts table = table ≡ one_list (arranged false keys (rows_of parts))

-- what all positions of a fragment give, in order
abbrev pub all_outs : Stored → List (List (List Value)) → Piece → List (List (List Value))
all_outs stored values piece = map (out stored values piece) (range_with_len 0 piece.positions)

abbrev pub kept_by : Ending → List LayoutPart → List (List (List Value)) → List (List Value) → Table
kept_by (building keys) layout parts value = record { lists = parts; columns = places_of layout keys }
kept_by (answering targets unique keys) layout parts value = one_list value
kept_by (folding targets fold) layout parts value = one_list value
kept_by (sorting keys) layout parts value = one_list value

-- a fragment's value, as it is kept
abbrev pub kept_value : Stored → List (List (List Value)) → Piece → Table
kept_value stored values piece =
    kept_by piece.end piece.layout (all_outs stored values piece) (value_of stored values piece)
