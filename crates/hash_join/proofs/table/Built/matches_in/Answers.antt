use Rattle.std.proofs.Common.{subst, sym}
use Rattle.std.specs.List.{All}
use Rattle.hash_join.specs.Table.{IsPlace, key_of}
use Rattle.hash_join.proofs.Places.{matches_are_places}
use Rattle.hash_join.proofs.table.Built.matches_in.Goals as goal

pub returns-clause-places : goal.returns-clause-places
returns-clause-places c = subst (All (IsPlace c.args.self.now.lists)) (sym c.found_in.ensures) (matches_are_places c.args.self.now (key_of c.args.columns.now c.args.row.now))
