use Rattle.std.proofs.Common.{◌∙◌, ap, refl}
use Rattle.catalog_load.specs.Records.{known, left_in, records_at}
use Rattle.catalog_load.proofs.records.records.Goals as goal

pub returns-clause-records : goal.returns-clause-records
unfolding left_in
returns-clause-records c =
    ap (λ o. records_at c.from_reader.result.state (known o)) c.from_reader.ensures.source ∙ rw c.from_reader.ensures.state refl
