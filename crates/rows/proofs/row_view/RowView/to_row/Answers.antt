use Rattle.std.proofs.Common.{◌∙◌, sym, ap, ◌++◌, ◌∷◌, []}
use Rattle.rows.specs.RowSeen.{seen}
use Rattle.rows.proofs.RowWhole.{step}
use Rattle.rows.proofs.row_view.RowView.to_row.Goals as goal

pub loop-column-preserved : goal.loop-column-preserved
loop-column-preserved c =
    rw (c.bits_behind-bits.ensures) (step c.self.inside.columns.now c.loop-column.column-index c.loop-column.bits c.loop-column.rest.now c.args.self.now c.loop-column.row.items c.push.new.self.items c.column-item.result (seen c.known_front.result.0) c.known_front.result.1.now
    c.loop-column-test.true c.column-item.is c.loop-column.invariant (sym c.known_front.ensures) (c.in_ok-push.ensures.items ∙ ap (λ v. c.loop-column.row.items ++ v ∷ []) c.in_ok-to_value.ensures))
