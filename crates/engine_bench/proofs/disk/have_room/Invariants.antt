use Rattle.std.proofs.Common.{◌≡◌, ◌<◌, ◌≤◌, ℕ, Some, slice_get}
use Rattle.heap_page.specs.Maps.{needs_of}
use Rattle.engine_bench.proofs.disk.have_room.Given as goal

abbrev pub invariant-loop-number : goal.invariant-loop-number
invariant-loop-number g l = (d : ℕ) (drive : _) → d < l.number → slice_get l.drives d ≡ Some drive → needs_of l.map d ≤ g.D.Drive.size drive
