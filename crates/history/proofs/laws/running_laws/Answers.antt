use Rattle.history.proofs.Few.{asked_then, at_most_two, one_beside}
use Rattle.history.proofs.Progress.{goes_on}
use Rattle.history.proofs.CheckerSound.{next_is}
use Rattle.history.proofs.laws.running_laws.Goals as goal

pub returns-clause-two : goal.returns-clause-two
returns-clause-two c = at_most_two

pub returns-clause-one : goal.returns-clause-one
returns-clause-one c = λ run h f within legal lt e. one_beside run h f within legal lt e

pub returns-clause-goes_on : goal.returns-clause-goes_on
returns-clause-goes_on c = λ run h f within ordered legal some whole still lt e backend. next_is run h backend whole (goes_on run h within ordered legal some whole still f lt e)

pub returns-clause-asked : goal.returns-clause-asked
returns-clause-asked c = asked_then
