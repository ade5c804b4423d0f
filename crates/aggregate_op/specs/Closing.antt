-- How the rows that are known of groups are closed.
use Rattle.std.specs.Prelude.{ℤ, pos, negsuc, ◌+◌, ◌+ℤ◌, ◌*ℤ◌, ◌^◌, ◌||◌, ◌==◌, ◌&&◌, int_lt, List, [], ◌∷◌, map, take, drop, length, if◌then◌else◌, Option, Some, None}
use Rattle.std.specs.Int.{w64, saturate_signed}
use Rattle.std.specs.Option.{option_map}
use Rattle.rows.specs.declared.value.Value.{Value}
use Rattle.rows.specs.declared.value.Value.TheVariants.{Null, Number}
use Rattle.rows.specs.Values.{column_of}
use Rattle.aggregate_op.specs.declared.fold.Fold.{Fold}
use Rattle.aggregate_op.specs.declared.fold.FoldOp.{FoldOp}
use Rattle.aggregate_op.specs.declared.fold.FoldOp.TheVariants.{Sum}
use Rattle.aggregate_op.specs.declared.closing.Closed.{Closed}
use Rattle.aggregate_op.specs.declared.closing.Closed.TheVariants as closed_as
use Rattle.aggregate_op.specs.Partials.{integer_in, number, most_rows}
use Rattle.aggregate_op.specs.Joined.{no_parts, part_width}
use Rattle.aggregate_op.specs.FoldMeaning.{all_some, shown}

-- a sum by how often it holds 2^62 and what is left
abbrev pub closed_sum : ℤ → ℤ → Option Value
closed_sum high low =
    if int_lt high (negsuc 1) || int_lt (pos 1) high then None
    else Some (Number (saturate_signed w64 ((high *ℤ pos (2 ^ 62)) +ℤ low)))

-- an op's answer by its part, at the front of values
abbrev pub closed_part : FoldOp → List Value → Option Value
closed_part Sum parts =
    if int_lt (pos 0) (integer_in (column_of parts 0)) then closed_sum (integer_in (column_of parts 1)) (integer_in (column_of parts 2))
    else Some Null
closed_part other parts = Some (column_of parts 0)

abbrev pub closed_parts : List FoldOp → List Value → List (Option Value)
closed_parts [] parts = []
closed_parts (op ∷ ops) parts = closed_part op parts ∷ closed_parts ops (drop (part_width op) parts)

abbrev pub closed_row : Fold → List Value → Option (List Value)
closed_row fold row =
    if int_lt (integer_in (column_of row fold.groups)) (pos most_rows)
    then option_map (λ answers. map (shown (take fold.groups row) answers) fold.places) (all_some (closed_parts fold.ops (drop (fold.groups + 1) row)))
    else None

-- what is known of a group without values of no row
abbrev pub nothing_known : Fold → List Value
nothing_known fold = number 0 ∷ no_parts fold.ops

abbrev pub closed_groups : Fold → List (List Value) → Option (List (List Value))
closed_groups fold groups = all_some (map (closed_row fold) (if fold.groups == 0 && length groups == 0 then nothing_known fold ∷ [] else groups))

-- the rows of an answer, and none where it is too large
abbrev pub rows_in : Closed → Option (List (List Value))
rows_in (closed_as.Rows rows) = Some rows
rows_in closed_as.TooLarge = None
