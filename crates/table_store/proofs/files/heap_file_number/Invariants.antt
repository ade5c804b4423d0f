use Rattle.std.proofs.Common.{◌≡◌}
use Rattle.table_store.specs.Files.{file_number}
use Rattle.table_store.proofs.files.heap_file_number.Given as goal

abbrev pub invariant-loop-earlier : goal.invariant-loop-earlier
invariant-loop-earlier l = l.file ≡ file_number l.tables l.earlier
