use Rattle.std.proofs.Common.{refl, arith}
use Rattle.heap_page.proofs.tests.a_source_stays_what_it_is.Goals as goal

pub fetches_both-requires-clause-first : goal.fetches_both-requires-clause-first
fetches_both-requires-clause-first g c = (_, refl, omega arith)

pub fetches_both-requires-clause-second : goal.fetches_both-requires-clause-second
fetches_both-requires-clause-second g c = (_, refl, omega arith)
