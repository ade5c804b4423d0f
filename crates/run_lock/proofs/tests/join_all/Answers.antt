use Rattle.std.proofs.Common.{rules, subst}
use Rattle.std.specs.List.{All}
use Rattle.std.proofs.lemmas.List.Elements.{All-tail}
use Rattle.run_lock.specs.Passes.{IsFree}
use Rattle.run_lock.proofs.tests.join_all.Goals as goal

pub loop-other-preserved : goal.loop-other-preserved
loop-other-preserved c = record {
  left = All-tail (λ p. IsFree c.args.lock.now p) _ _ (subst (λ passes. All (λ p. IsFree c.args.lock.now p) passes) c.in-Some.ensures.steps.0 c.loop-other.invariant.left);
  free = search rules;
}
