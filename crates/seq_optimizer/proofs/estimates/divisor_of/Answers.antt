use Rattle.std.proofs.Common.{◌≡◌, ◌∙◌}
use Rattle.rel_meaning.specs.Expression.{expression_of}
use Rattle.plan_tree.specs.Conjuncts.{operands}
use Rattle.seq_optimizer.specs.Estimates.{divisor}
use Rattle.seq_optimizer.proofs.Sizes.{divisor_is, divisor_some, fixing, others}
use Rattle.seq_optimizer.proofs.estimates.divisor_of.Goals as goal

pub returns-in-Some-clause-value : goal.returns-in-Some-clause-value
returns-in-Some-clause-value c = rw c.in-Some.is (c.narrowed_by_all.ensures.value ∙ divisor_is c.args.var (operands (expression_of c.in-Some.expr)))

pub returns-in-Some-clause-some : goal.returns-in-Some-clause-some
returns-in-Some-clause-some c =
    let v = c.args.var in
    let cs = operands (expression_of c.in-Some.expr) in
    let value : c.narrowed_by_all.result ≡ divisor (fixing v cs) (others v cs) = c.narrowed_by_all.ensures.value ∙ divisor_is v cs in
    rw value (divisor_some (fixing v cs) (others v cs))
