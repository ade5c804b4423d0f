-- The queries of the tests are resolved, and their rows may be folded.
use Rattle.std.proofs.Common.{◌≡◌, ◌<◌, ℕ, zero, suc, ◌+◌, ℤ, List, [], ◌∷◌, length, map, Option, Some, None, refl, sym, arith, IsSome}
use Rattle.std.specs.List.{AllByRecursion}
use Rattle.std.specs.Prelude.{IfSome}
use Rattle.rows.specs.declared.value.Value.{Value}
use Rattle.rows.specs.declared.value.Value.TheVariants.{Number}
use Rattle.aggregate_op.specs.declared.fold.Fold.{Fold}
use Rattle.aggregate_op.specs.declared.fold.FoldOp.{FoldOp}
use Rattle.aggregate_op.specs.declared.fold.FoldOp.TheVariants.{Count, Min, Max, Sum}
use Rattle.aggregate_op.specs.declared.fold.FoldPlan.{FoldPlan}
use Rattle.aggregate_op.specs.Partials.{AreOpValues, IsFoldRow}
use Rattle.kept_answers.specs.FoldedAnswers.{plan_at, FitFolds, FitFoldsFrom, FoldQueries}
use Rattle.std.proofs.lemmas.List.Elements.{All-from_recursion}
use Rattle.rows.specs.Layouts.{column_type}
use Rattle.rel_meaning.specs.Typing.{type_of}
use Rattle.kept_answers.specs.KeptAnswers.{layout_in, columns_kept, FitKept, FitsTargets, IsResolvedIn}
use Rattle.kept_answers.specs.Sample.{great_kept, keeping, reading, reading_sum, AreFour, AreFours, ArePerGroup, IsPerGroup}

keeping_resolved : IsResolvedIn [] keeping
keeping_resolved = record {
  few = omega arith;
  relations = All-from_recursion (λ v. v.relation < 0) [] tt;
  targets = All-from_recursion (λ target. IsSome (type_of target.expr (column_type (layout_in [] keeping)))) keeping.targets (refl, tt);
  test = tt;
}

reading_resolved : IsResolvedIn (columns_kept great_kept ∷ []) reading
reading_resolved = record {
  few = omega arith;
  relations = All-from_recursion (λ v. v.relation < 1) reading.vars (omega arith, tt);
  targets = All-from_recursion (λ target. IsSome (type_of target.expr (column_type (layout_in (columns_kept great_kept ∷ []) reading)))) reading.targets (refl, tt);
  test = tt;
}

keeping_fits : FitsTargets [] keeping great_kept
keeping_fits = record { each = refl; types = refl }

pub sample_fits : FitKept [] (great_kept ∷ []) (keeping ∷ reading ∷ [])
sample_fits = record {
  ascending = (omega arith, tt);
  within = All-from_recursion (λ k. k.statement < 2) (great_kept ∷ []) (omega arith, tt);
  queries = (keeping_resolved, keeping_fits, (reading_resolved, tt, tt));
}

pub sample_sums : FoldQueries [] (great_kept ∷ []) reading_sum (keeping ∷ reading ∷ [])
sample_sums = (tt, (record { groups = []; values = columns_kept great_kept; width = refl; types = refl; ops = (refl, tt) }, tt))

-- ---- rows of four numbers

numbers_are : (ops : List FoldOp) (ns : List ℤ) → length ops ≡ length ns → AreOpValues ops (map (λ n. Number n) ns)
numbers_are [] [] e = tt
numbers_are [] (n ∷ ns) e = absurd (omega (arith, e))
numbers_are (op ∷ ops) [] e = absurd (omega (arith, e))
numbers_are (Count ∷ ops) (n ∷ ns) e = (tt, numbers_are ops ns (omega (arith, e)))
numbers_are (Min ∷ ops) (n ∷ ns) e = (tt, numbers_are ops ns (omega (arith, e)))
numbers_are (Max ∷ ops) (n ∷ ns) e = (tt, numbers_are ops ns (omega (arith, e)))
numbers_are (Sum ∷ ops) (n ∷ ns) e = (tt, numbers_are ops ns (omega (arith, e)))

four_fold : (fold : Fold) (row : List Value) (ns : List ℤ) → fold.groups ≡ 1 → length fold.ops ≡ 3 → row ≡ map (λ n. Number n) ns → length ns ≡ 4 → IsFoldRow fold row
four_fold fold row [] g o e c = absurd (omega (arith, c))
four_fold fold row (n ∷ ns) g o e c = record {
  groups = Number n ∷ [];
  values = map (λ n. Number n) ns;
  width = sym g;
  whole = e;
  ops = numbers_are fold.ops ns (omega (arith, o, c));
}

fours_fold : (plan : FoldPlan) → IsPerGroup plan → (rows : List (List Value)) → AllByRecursion AreFour rows → AllByRecursion (IsFoldRow plan.fold) rows
fours_fold plan per [] all = tt
fours_fold plan per (row ∷ rows) all = (four_fold plan.fold row all.0.numbers per.groups per.ops all.0.whole all.0.count, fours_fold plan per rows all.1)

plan_per : (folds : List (Option FoldPlan)) (k : ℕ) → ArePerGroup folds → IfSome (plan_at folds k) IsPerGroup
plan_per [] k all = tt
plan_per (None ∷ folds) zero all = tt
plan_per (Some plan ∷ folds) zero all = all.0
plan_per (plan ∷ folds) (suc k) all = plan_per folds k all.1

one_fits : (plan : Option FoldPlan) (rows : List (List Value)) → IfSome plan IsPerGroup → AllByRecursion AreFour rows → IfSome plan (λ p. AllByRecursion (IsFoldRow p.fold) rows)
one_fits None rows per all = tt
one_fits (Some plan) rows per all = fours_fold plan per rows all

fit_from : (folds : List (Option FoldPlan)) (k : ℕ) (answers : List (List (List Value))) → ArePerGroup folds → AreFours answers → FitFoldsFrom folds k answers
fit_from folds k [] per all = tt
fit_from folds k (rows ∷ answers) per all = (one_fits (plan_at folds k) rows (plan_per folds k per) all.0, fit_from folds (k + 1) answers per all.1)

pub fours_fit : (folds : List (Option FoldPlan)) (answers : List (List (List Value))) → ArePerGroup folds → AreFours answers → FitFolds folds answers
fours_fit folds answers per all = fit_from folds 0 answers per all
