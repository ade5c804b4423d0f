use Rattle.std.proofs.Common.{◌≡◌, take}
use Rattle.table_store.specs.Files.{files_of}
use Rattle.table_store.proofs.files.file_map.Given as goal

abbrev pub invariant-loop-table : goal.invariant-loop-table
invariant-loop-table l = l.files.items ≡ files_of (take l.table-index l.tables)
