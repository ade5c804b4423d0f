-- What a fold answers of some rows: its groups, and for each its counts, its least and greatest values and its sums.
use Rattle.std.specs.Prelude.{ℕ, ℤ, pos, negsuc, ◌+◌, ◌-◌, ◌^◌, ◌==◌, ◌&&◌, int_lt, not, Bool, false, List, [], ◌∷◌, length, map, if◌then◌else◌, nat_lt, Option, Some, None}
use Rattle.std.specs.Option.{option_map}
use Rattle.rows.specs.declared.value.Value.{Value}
use Rattle.rows.specs.declared.value.Value.TheVariants.{Null, Number}
use Rattle.rows.specs.declared.order.SortKey.{SortKey}
use Rattle.rows.specs.Values.{column_of, arranged}
use Rattle.aggregate_op.specs.declared.fold.Fold.{Fold}
use Rattle.aggregate_op.specs.declared.fold.FoldOp.{FoldOp}
use Rattle.aggregate_op.specs.declared.fold.FoldOp.TheVariants.{Count, Min, Max, Sum}
use Rattle.aggregate_op.specs.declared.fold.FoldPlace.{FoldPlace}
use Rattle.aggregate_op.specs.declared.fold.FoldPlace.TheVariants.{Group, Op}
use Rattle.aggregate_op.specs.Partials.{groups_of, members, op_values, least, greatest, sum_of, number, most_rows}

-- each of the values, and nothing where one is missing
abbrev pub all_some : {X : Type 0} → List (Option X) → Option (List X)
all_some [] = Some []
all_some (None ∷ others) = None
all_some (Some x ∷ others) = option_map (λ xs. x ∷ xs) (all_some others)

-- from -2^63 to 2^63 - 1
abbrev pub is_small : ℤ → Bool
is_small z = not (int_lt z (negsuc (2 ^ 63 - 1))) && int_lt z (pos (2 ^ 63))

-- an op's answer of the values of a group that aren't null; none where it is too large
abbrev pub op_answer : FoldOp → List Value → Option Value
op_answer Count values = Some (number (length values))
op_answer Min values = Some (least values)
op_answer Max values = Some (greatest values)
op_answer Sum [] = Some Null
op_answer Sum (v ∷ vs) = if is_small (sum_of (v ∷ vs)) then Some (Number (sum_of (v ∷ vs))) else None

abbrev pub op_answers_from : Fold → ℕ → List FoldOp → List (List Value) → List (Option Value)
op_answers_from fold k [] rows = []
op_answers_from fold k (op ∷ ops) rows = op_answer op (op_values fold k rows) ∷ op_answers_from fold (k + 1) ops rows

-- the value that a column of the answer shows
abbrev pub shown : List Value → List Value → FoldPlace → Value
shown group answers (Group k) = column_of group k
shown group answers (Op k) = column_of answers k

-- the row of a group of some rows; none where the rows are too many, or an answer is too large
abbrev pub group_answer : Fold → List Value → List (List Value) → Option (List Value)
group_answer fold group rows =
    if nat_lt (length rows) most_rows then option_map (λ answers. map (shown group answers) fold.places) (all_some (op_answers_from fold 0 fold.ops rows))
    else None

-- without group values there is one group, even of no row
abbrev pub answered_groups : Fold → List (List Value) → List (List Value)
answered_groups fold rows = if fold.groups == 0 then [] ∷ [] else groups_of fold rows

-- the row of each group in ascending order of the groups; none where one is missing
abbrev pub fold_answer : Fold → List (List Value) → Option (List (List Value))
fold_answer fold rows = all_some (map (λ group. group_answer fold group (members fold group rows)) (answered_groups fold rows))

-- the answer in the order of sort keys
abbrev pub fold_meaning : Fold → List SortKey → List (List Value) → Option (List (List Value))
fold_meaning fold keys rows = option_map (arranged false keys) (fold_answer fold rows)
