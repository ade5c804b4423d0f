use Rattle.std.proofs.Common.{◌≡◌, ◌≤◌, ◌-◌, length}
use Rattle.xprs_cli.specs.Bytes.{Reads}
use Rattle.xprs_cli.proofs.page_file.fill.Given as goal

abbrev pub invariant-loop-at : goal.invariant-loop-at
invariant-loop-at g l =
    (l.at ≤ length l.into)
    × (length l.into ≡ length l.initial.into)
    × Reads (g.F.PageFile.bytes l.initial.file) l.offset l.at l.into
    × (g.F.PageFile.bytes l.file ≡ g.F.PageFile.bytes l.initial.file)

abbrev pub decreases-loop-at : goal.decreases-loop-at
decreases-loop-at g l = length l.into - l.at
