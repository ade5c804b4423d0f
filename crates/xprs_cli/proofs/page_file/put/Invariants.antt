use Rattle.std.proofs.Common.{◌≡◌, ◌≤◌, ◌-◌, length}
use Rattle.xprs_cli.specs.Bytes.{Writes}
use Rattle.xprs_cli.proofs.page_file.put.Given as goal

abbrev pub invariant-loop-at : goal.invariant-loop-at
invariant-loop-at g l =
    (l.at ≤ length l.from)
    × Writes (g.F.PageFile.bytes l.initial.file) (g.F.PageFile.bytes l.file) l.offset l.at l.from

abbrev pub decreases-loop-at : goal.decreases-loop-at
decreases-loop-at g l = length l.from - l.at
