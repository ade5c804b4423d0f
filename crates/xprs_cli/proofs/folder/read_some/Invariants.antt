use Rattle.std.proofs.Common.{◌≡◌, ◌<◌, length}
use Rattle.xprs_cli.proofs.folder.read_some.Given as goal
use Rattle.std.specs.Io.KnownBytes.{Keeps}

abbrev pub invariant-loop : goal.invariant-loop
invariant-loop g l = Keeps (g.F.Read.remaining l.initial.file) (g.F.Read.remaining l.file) × (0 < length l.piece)
