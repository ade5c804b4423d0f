use Rattle.std.proofs.Common.{ap, refl}
use Rattle.heap_page.specs.declared.head.FileKind.TheVariants.{Index}
use Rattle.rows.specs.declared.plain.KeyIndex.{KeyIndex}
use Rattle.engine_bench.proofs.Files.{has_pages}
use Rattle.engine_bench.proofs.index.lay.Goals as goal

pub write_index-requires-clause-pages : goal.write_index-requires-clause-pages
write_index-requires-clause-pages c = has_pages _ Index _ _ _ c.in_ok-map.ensures.files (ap (λ (i : KeyIndex). i.file) c.in_ok-index.ensures) refl
