use Rattle.history.proofs.ProjectedLegal.{projected}
use Rattle.history.proofs.laws.scan_laws.Goals as goal

pub returns : goal.returns
returns c = λ run h f within legal lt. projected run h within legal f lt
