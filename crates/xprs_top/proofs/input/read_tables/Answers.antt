use Rattle.std.proofs.Common.{◌∙◌, le_trans, arith}
use Rattle.xprs_top.proofs.Stored.{all_loaded, one_loaded}
use Rattle.xprs_top.proofs.Told.{stopped_at, more_told_at}
use Rattle.xprs_top.proofs.input.read_tables.Goals as goal

pub returns-in-Err-clause-told : goal.returns-in-Err-clause-told
returns-in-Err-clause-told g c =
    rw (← c.items-relation-items.ensures)
    (stopped_at (g.S.Shelf.files c.args.shelf.now) (g.S.Shelf.files c.loop-relation.shelf) c.loop-relation.invariant.files (g.S.Shelf.faults c.args.shelf.now) (g.S.Shelf.faults c.loop-relation.shelf) (g.S.Shelf.faults c.table.new.shelf)
    c.loop-relation.invariant.count c.items-relation-items.result.now c.loop-relation.relation-index c.relation-item.result c.loop-relation-test.true c.relation-item.is c.loop-relation.tables.items c.loop-relation.invariant.told c.in-Err.status c.in-Err.ensures.told)

pub loop-relation-preserved : goal.loop-relation-preserved
loop-relation-preserved g c = record {
  files = c.table.ensures.files ∙ c.loop-relation.invariant.files;
  count = le_trans c.loop-relation.invariant.count c.table.ensures.count;
  quiet = c.in-Ok.ensures.quiet (λ e. absurd cc) ∙ c.loop-relation.invariant.quiet;
  told = more_told_at (g.S.Shelf.files c.args.shelf.now) (g.S.Shelf.files c.loop-relation.shelf) c.loop-relation.invariant.files c.items-relation-items.result.now c.loop-relation.relation-index c.relation-item.result
      c.loop-relation-test.true c.relation-item.is c.loop-relation.tables.items c.push.new.self.items c.in-Ok.table c.loop-relation.invariant.told c.in-Ok.ensures.told c.in-Ok.ensures.table.columns c.in_ok-push-in-Ok.ensures.items;
  loaded = one_loaded c.items-relation-items.result.now c.loop-relation.relation-index c.loop-relation.tables.items c.push.new.self.items c.relation-item.result c.in-Ok.table c.loop-relation.invariant.loaded
      c.loop-relation-test.true c.relation-item.is c.in-Ok.ensures.table c.in_ok-push-in-Ok.ensures.items;
}

pub returns-clause-stored : goal.returns-clause-stored
returns-clause-stored g c =
    let here = all_loaded c.items-relation-items.result.now c.loop-relation.relation-index c.loop-relation.tables.items (rw c.items-relation-items.ensures c.requires.limits) c.loop-relation.invariant.loaded
    (omega (arith, c.loop-relation.auto.relation-index-end, c.loop-relation-test.false)) in
    rw (c.from_vec.ensures, ← c.items-relation-items.ensures) here
