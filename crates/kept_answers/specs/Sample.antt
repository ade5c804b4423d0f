-- Two statements for the tests: one that keeps a great number, and one that reads it; and what the tests fold.
use Rattle.std.specs.Prelude.{◌≡◌, true, false, ℕ, ℤ, pos, List, [], ◌∷◌, length, map, Option, None, Some, IfSome}
use Rattle.std.specs.List.{AllByRecursion}
use Rattle.rows.specs.declared.value.Value.{Value}
use Rattle.rows.specs.declared.value.Value.TheVariants.{Number}
use Rattle.aggregate_op.specs.declared.fold.FoldOp.TheVariants.{Sum}
use Rattle.aggregate_op.specs.declared.fold.FoldPlace.TheVariants.{Op}
use Rattle.aggregate_op.specs.declared.fold.FoldPlan.{FoldPlan}
use Rattle.rows.specs.declared.field.ColType.TheVariants as col
use Rattle.rel_meaning.specs.Expression as ex
use Rattle.rel_meaning.specs.Expression.{Question}
use Rattle.kept_relations.specs.declared.kept.Kept.{Kept}

abbrev pub great : ℕ
great = 5000000000

abbrev pub keeping : Question
keeping = record {
  vars = [];
  targets = record { name = []; expr = ex.number (pos great) } ∷ [];
  test = None;
  unique = false;
  keys = [];
}

abbrev pub reading : Question
reading = record {
  vars = record { name = []; relation = 0 } ∷ [];
  targets = record { name = []; expr = ex.column 0 0 } ∷ [];
  test = None;
  unique = false;
  keys = [];
}

abbrev pub great_kept : Kept
great_kept = record {
  name = [];
  statement = 0;
  columns = record { name = []; col_type = col.Int4; nullable = true } ∷ [];
  bounds = great ∷ [];
}

-- the second statement adds up what it reads
abbrev pub reading_sum : List (Option FoldPlan)
reading_sum = None ∷ Some (record { fold = record { groups = 0; ops = Sum ∷ []; places = Op 0 ∷ [] }; keys = [] }) ∷ []

-- four numbers, as the folds of the tests want
pub record AreFour (row : List Value) : Type 0 where
  pub numbers : List ℤ
  pub whole : row ≡ map (λ n. Number n) numbers
  pub count : length numbers ≡ 4

-- a fold of one group value and three ops
pub record IsPerGroup (plan : FoldPlan) : Type 0 where
  pub groups : plan.fold.groups ≡ 1
  pub ops : length plan.fold.ops ≡ 3

abbrev pub ArePerGroup : List (Option FoldPlan) → Type 0
ArePerGroup folds = AllByRecursion (λ plan. IfSome plan IsPerGroup) folds

abbrev pub AreFours : List (List (List Value)) → Type 0
AreFours answers = AllByRecursion (λ rows. AllByRecursion AreFour rows) answers
