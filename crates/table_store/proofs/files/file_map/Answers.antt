use Rattle.std.proofs.Common.{◌∙◌, ap}
use Rattle.std.proofs.lemmas.List.{take_all}
use Rattle.table_store.specs.Files.{files_of}
use Rattle.table_store.proofs.Cut.{is_map}
use Rattle.table_store.proofs.files.file_map.Goals as goal

pub returns-clause-map : goal.returns-clause-map
returns-clause-map c =
    is_map c.index_laws.ensures.are c.args.tables.now _ c.requires.drives c.requires.few c.requires.tables
    (c.loop-table.invariant ∙ ap files_of (take_all c.loop-table.table-index c.args.tables.now c.loop-table-test.false))
