use Rattle.std.proofs.Common.{subst, sym}
use Rattle.std.specs.Prelude.{IsSome}
use Rattle.std.specs.List.{All}
use Rattle.rows.specs.Layouts.{column_type}
use Rattle.rel_meaning.specs.declared.query.Target.{Target}
use Rattle.rel_meaning.specs.Expression.{expression_of}
use Rattle.rel_meaning.specs.Typing.{type_of}
use Rattle.pipeline.proofs.Projected.{each_typed}
use Rattle.pipeline.proofs.projecting.projected_rows.Goals as goal

pub target_values-requires-clause-typed : goal.target_values-requires-clause-typed
target_values-requires-clause-typed c =
    subst (All (λ (target : Target). IsSome (type_of (expression_of target.expr) (column_type c.args.layout.now)))) (sym c.items.ensures) (each_typed c.args.layout.now c.args.targets.now c.requires.typed)
