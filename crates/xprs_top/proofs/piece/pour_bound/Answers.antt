use Rattle.std.proofs.Common.{codes, decimal}
use Rattle.xprs_top.proofs.Fronts.{front_after}
use Rattle.xprs_top.proofs.piece.pour_bound.Goals as goal

pub returns-clause-front : goal.returns-clause-front
returns-clause-front g c = rw c.in-Some.is (front_after _ _ _ (codes " ") (decimal c.in-Some.bound) c.in_ok-pour.ensures.whole c.pour_number.ensures.front)
