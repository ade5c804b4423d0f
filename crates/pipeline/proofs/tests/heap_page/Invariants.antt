use Rattle.heap_page.specs.Pages.{IsHeapPage}
use Rattle.pipeline.proofs.tests.heap_page.Given as goal

abbrev pub invariant-loop-item : goal.invariant-loop-item
invariant-loop-item l = IsHeapPage l.page
