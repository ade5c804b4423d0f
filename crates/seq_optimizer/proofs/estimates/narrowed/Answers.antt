use Rattle.std.proofs.Common.{arith, ◌≤◌, ◌*◌, ◌^◌}
use Rattle.std.proofs.Math.Nat.{mul-le-mul}
use Rattle.seq_optimizer.proofs.estimates.narrowed.Goals as goal

pub overflow_mul-divisor : goal.overflow_mul-divisor
overflow_mul-divisor c =
    let most : c.args.divisor * c.factor_of.result ≤ 2 ^ 64 * 10 = mul-le-mul c.requires.divisor c.factor_of.ensures.most in
    omega arith
