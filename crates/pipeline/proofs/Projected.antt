-- The values of targets have their types.
use Rattle.std.proofs.Common.{List, [], ◌∷◌, map}
use Rattle.std.specs.Prelude.{IsSome}
use Rattle.std.specs.List.{All, AllByRecursion}
use Rattle.std.proofs.lemmas.List.Elements.{All-cons, All-nil}
use Rattle.rows.specs.declared.value.Value.{Value}
use Rattle.rows.specs.declared.plain.LayoutPart.{LayoutPart}
use Rattle.rows.specs.Layouts.{IsRowIn, column_in, column_type}
use Rattle.rel_meaning.specs.declared.query.Target.{Target}
use Rattle.rel_meaning.specs.Expression.{Output, expression_of, output_of}
use Rattle.rel_meaning.specs.Meaning.{project}
use Rattle.rel_meaning.specs.Typing.{type_of}
use Rattle.plan_tree.specs.Fragments.{targets_of}
use Rattle.plan_tree.specs.WellFormed.{AreTargets, FitsTypes, target_types}
use Rattle.plan_tree.proofs.Elements.{all_map}
use Rattle.plan_tree.proofs.Shapes.{targets_fit}

pub all_targets_fit : (layout : List LayoutPart) (targets : List Output) → AreTargets layout targets → (rows : List (List Value)) → AllByRecursion (IsRowIn layout) rows → AllByRecursion (FitsTypes (target_types layout targets)) (targets_of targets layout rows)
all_targets_fit layout targets typed rows fits = all_map (IsRowIn layout) (FitsTypes (target_types layout targets)) (λ row. project targets (column_in layout row)) (λ row f. targets_fit layout row f targets typed) rows fits

pub each_typed : (layout : List LayoutPart) (targets : List Target) → AreTargets layout (map output_of targets) → All (λ target. IsSome (type_of (expression_of target.expr) (column_type layout))) targets
each_typed layout [] typed = All-nil (λ (target : Target). IsSome (type_of (expression_of target.expr) (column_type layout)))
each_typed layout (t ∷ ts) typed = All-cons (λ (target : Target). IsSome (type_of (expression_of target.expr) (column_type layout))) t ts typed.0 (each_typed layout ts typed.1)
