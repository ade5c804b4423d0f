use Rattle.std.proofs.Common.{length}
use Rattle.key_index.proofs.Drives.{Stage}
use Rattle.key_index.proofs.writing.write_levels.Given as goal

abbrev pub invariant-loop-drives : goal.invariant-loop-drives
invariant-loop-drives g l = Stage g.D.Drive l.map l.file l.entries l.level l.fn.drives l.drives

abbrev pub decreases-loop-drives : goal.decreases-loop-drives
decreases-loop-drives g l = length l.level.nodes.items
