use Rattle.std.proofs.Common.{◌≡◌, ◌++◌, ◌-◌}
use Rattle.heap_page.specs.Pages.{zeros}
use Rattle.key_index.proofs.index_page.put_zeros.Given as goal

abbrev pub invariant-loop-place : goal.invariant-loop-place
invariant-loop-place l = l.out.items ++ zeros (l.count - l._place) ≡ l.fn.out.items ++ zeros l.count
