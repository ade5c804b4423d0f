use Rattle.std.proofs.Common.{subst, sym}
use Rattle.std.specs.List.{All}
use Rattle.hash_join.specs.Table.{IsPlace}
use Rattle.hash_join.proofs.Places.{matches_are_places}
use Rattle.hash_join.proofs.table.Built.matches.Goals as goal

pub returns-clause-places : goal.returns-clause-places
returns-clause-places c = subst (All (IsPlace c.args.self.now.lists)) (sym c.found.ensures) (matches_are_places c.args.self.now c.items.result.now)
