use Rattle.postquel.proofs.OneReading.{one_reading}
use Rattle.postquel.proofs.parser.one_reading.Goals as goal

pub returns : goal.returns
returns c = one_reading
