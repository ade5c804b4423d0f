use Rattle.std.proofs.Common.{◌∙◌, ap, map, subst}
use Rattle.std.specs.List.{AllByRecursion}
use Rattle.aggregate_op.specs.Partials.{partial}
use Rattle.aggregate_op.specs.Runs.{seen}
use Rattle.aggregate_op.specs.Stored.{IsStoredRow}
use Rattle.aggregate_op.proofs.SameRows.{of_ordered}
use Rattle.aggregate_op.proofs.partials.partial_of.Goals as goal

pub returns : goal.returns
returns c = λ fit.
    of_ordered c.args.fold.now c.args.rows.now (map seen c.in_ok-ordered.ordered.items) _ c.in_ok-ordered.ensures.moved
    (c.in_ok-known_rows.ensures.known ∙ ap (λ rows. partial c.args.fold.now (map seen rows)) c.as_slice.ensures.value)
    (subst (λ rows. AllByRecursion (IsStoredRow c.args.fold.now) (map seen rows)) c.as_slice.ensures.value c.in_ok-known_rows.ensures.stored) fit
