use Rattle.key_index.proofs.Ordered.{Checked}
use Rattle.key_index.proofs.entry_order.are_entries.Given as goal

abbrev pub invariant-loop-place : goal.invariant-loop-place
invariant-loop-place l = Checked l.key_type l.heap_pages l.entries l.place
