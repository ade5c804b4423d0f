use Rattle.std.proofs.Common.{ap}
use Rattle.hash_join.specs.Table.{Table, rows_of}
use Rattle.merge_join.proofs.InOrder.{arranged_side}
use Rattle.merge_join.proofs.tests.side.Goals as goal

pub returns-then-rows_fit : goal.returns-then-rows_fit
returns-then-rows_fit c =
    let is = ap (λ (table : Table). table.lists) c.in_ok-built.ensures in
    arranged_side c.args.layout.now c.args.keys.now (rows_of c.push.new.self)
    c.in_ok-built.built.lists
    (rw c.in_ok-sort.ensures at is)
    (c.are_there.ensures c.if-are_there.true) (c.rows_fit.ensures c.if-rows_fit.true)
