use Rattle.std.proofs.Common.{arith, ◌+◌, ◌^◌, ◌≡◌}
use Rattle.seq_optimizer.proofs.Sets.{first_apart}
use Rattle.seq_optimizer.proofs.table.larger.Goals as goal

pub unreachable-requires : goal.unreachable-requires
unreachable-requires c =
    let sum : c.set_of.result + c.args.before ≡ 2 ^ c.args.var + c.args.before = omega arith in
    c.in-None.ensures c.args.before c.requires.var.1 (omega arith) (first_apart c.args.var c.args.before (c.set_of.result + c.args.before) c.requires.var.2 sum)

pub returns : goal.returns
returns c = rw c.set_of.ensures at c.in-Some.ensures
