use Rattle.std.proofs.Common.{arith, ◌≡◌}
use Rattle.std.specs.Int.{bit_at}
use Rattle.std.proofs.lemmas.Nat.Bits.{bit_at_above}
use Rattle.std.proofs.lemmas.Bool.Decides.{nat_tests}
use Rattle.seq_optimizer.proofs.naming.is_in_set.Goals as goal

pub returns-else-var-lt32 : goal.returns-else-var-lt32
returns-else-var-lt32 c =
    let none : bit_at c.args.set c.args.var ≡ 0 = bit_at_above c.args.set 32 c.args.var c.ranges.set.fits c.if-var-lt32.false in
    rw none (grind (arith, nat_tests))
