use Rattle.std.proofs.Common.{arith}
use Rattle.table_store.proofs.Fitting.{all_fit, one_fits}
use Rattle.table_store.proofs.tests.all_fit.Goals as goal

pub loop-number-preserved : goal.loop-number-preserved
loop-number-preserved c = one_fits c.args.items.now c.loop-number.number c.get.result.now c.get.ensures (omega arith) c.loop-number.invariant

pub returns : goal.returns
returns c = λ yes. all_fit c.args.items.now c.loop-number.number (omega arith) c.loop-number.invariant
