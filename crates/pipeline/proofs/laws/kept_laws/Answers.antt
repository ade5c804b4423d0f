use Rattle.pipeline.proofs.Fitting.{kept_fit}
use Rattle.pipeline.proofs.Parts.{inputs_are, value_kept}
use Rattle.pipeline.proofs.laws.kept_laws.Goals as goal

pub returns : goal.returns
returns c = record { fit = kept_fit; rows = inputs_are; value = value_kept }
