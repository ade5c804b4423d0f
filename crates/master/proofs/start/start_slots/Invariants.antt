use Rattle.std.proofs.Common.{◌≡◌, ◌++◌, drop, length}
use Rattle.master.specs.Starts.{starts, starts_from}
use Rattle.master.proofs.start.start_slots.Given as goal

abbrev pub invariant-loop-number : goal.invariant-loop-number
invariant-loop-number l = l.slots.items ++ starts_from l.number (length l.fragments) (drop l.number l.fragments) ≡ starts l.fragments
