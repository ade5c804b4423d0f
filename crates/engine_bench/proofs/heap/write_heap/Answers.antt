use Rattle.std.proofs.Common.{refl}
use Rattle.heap_page.specs.declared.head.FileKind.TheVariants.{Heap}
use Rattle.engine_bench.proofs.Files.{has_pages}
use Rattle.engine_bench.proofs.heap.write_heap.Goals as goal

pub write_relation-requires-clause-pages : goal.write_relation-requires-clause-pages
write_relation-requires-clause-pages c = λ blocks pages. has_pages _ Heap 0 _ _ c.in_ok-map.ensures.files refl (c.pages_of-pages.ensures blocks pages)
