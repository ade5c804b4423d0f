use Rattle.std.proofs.Common.{◌≡◌, ℕ, ◌<◌, ◌≤◌, Some}
use Rattle.std.specs.Prelude.{slice_get}
use Rattle.heap_page.specs.Maps.{needs_of}
use Rattle.heap_page.proofs.storing.check_room.Given as goal

abbrev pub invariant-loop-place : goal.invariant-loop-place
invariant-loop-place g l = (e : ℕ) (o : g.row.D.Denot) → e < l.place → slice_get l.drives e ≡ Some o → needs_of l.map e ≤ g.D.Drive.size o
