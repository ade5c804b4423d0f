use Rattle.std.proofs.Common.{refl}
use Rattle.key_index.proofs.tests.one_file.Goals as goal

pub returns-clause-pages : goal.returns-clause-pages
returns-clause-pages c = rw c.in_ok-vec.ensures.items (_, refl, refl)
