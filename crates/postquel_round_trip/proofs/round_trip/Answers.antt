use Rattle.postquel_round_trip.proofs.Round.{round_trip}
use Rattle.postquel_round_trip.proofs.round_trip.Goals as goal

pub returns : goal.returns
returns c = round_trip
