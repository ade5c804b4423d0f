use Rattle.std.proofs.Common.{refl}
use Rattle.pipeline.proofs.sample_pages.index_map.Goals as goal

pub returns-clause-pages : goal.returns-clause-pages
returns-clause-pages c = rw c.in_ok-vec.ensures.items (_, refl, refl)
