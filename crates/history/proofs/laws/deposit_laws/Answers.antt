use Rattle.history.proofs.RunSound.{once, by_owners, have_owners}
use Rattle.history.proofs.ProjectedLegal.{made_up_at}
use Rattle.history.proofs.laws.deposit_laws.Goals as goal

pub returns-clause-once : goal.returns-clause-once
returns-clause-once c = once

pub returns-clause-owners : goal.returns-clause-owners
returns-clause-owners c = λ run h f legal. by_owners run h legal f

pub returns-clause-made_up : goal.returns-clause-made_up
returns-clause-made_up c = λ run h f within legal lt. made_up_at run h within legal f lt

pub returns-clause-have_owners : goal.returns-clause-have_owners
returns-clause-have_owners c = have_owners
