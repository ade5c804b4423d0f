use Rattle.key_index.specs.Files.{index_pages}
use Rattle.key_index.proofs.Drives.{Writing}
use Rattle.key_index.proofs.writing.write_level.Given as goal

abbrev pub invariant-loop-place : goal.invariant-loop-place
invariant-loop-place g l = Writing g.D.Drive l.map l.file (index_pages l.file l.entries) l.level.base l.place l.fn.drives l.drives
