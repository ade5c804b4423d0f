use Rattle.hash_join.proofs.Matched.{matched_rows}
use Rattle.hash_join.proofs.laws.match_laws.Goals as goal

pub returns : goal.returns
returns c table first second keys row has = matched_rows table first second keys row has
