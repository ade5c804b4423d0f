use Rattle.std.proofs.Common.{◌≡◌, drop, []}
use Rattle.catalog_load.specs.declared.machine.Place.TheVariants.{Relation}
use Rattle.catalog_load.specs.Machine.{run}
use Rattle.catalog_load.proofs.machine.entries.Given as goal

-- the rest leads on from the place
abbrev pub invariant-loop-token : goal.invariant-loop-token
invariant-loop-token l = run l.entries.items l.place (drop l.token-index l.tokens) ≡ run [] Relation l.tokens
