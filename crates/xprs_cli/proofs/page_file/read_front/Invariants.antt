use Rattle.std.proofs.Common.{◌≡◌}
use Rattle.xprs_cli.proofs.page_file.read_front.Given as goal

abbrev pub invariant-loop : goal.invariant-loop
invariant-loop g l = g.F.PageFile.bytes l.file ≡ g.F.PageFile.bytes l.initial.file
