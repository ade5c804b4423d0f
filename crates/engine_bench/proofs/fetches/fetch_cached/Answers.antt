use Rattle.std.proofs.Common.{◌∙◌, refl}
use Rattle.heap_page.specs.declared.head.FileKind.TheVariants.{Heap}
use Rattle.engine_bench.proofs.Files.{has_pages}
use Rattle.engine_bench.proofs.fetches.fetch_cached.Goals as goal

pub fetch_by_all-requires-clause-pages : goal.fetch_by_all-requires-clause-pages
fetch_by_all-requires-clause-pages g c κs within = has_pages _ Heap 0 _ _ (c.in-Ok.ensures.files.0 ∙ c.in_ok-map.ensures.files) refl refl
