use Rattle.std.proofs.Common.{ℕ, ◌<◌}
use Rattle.adjust_protocol.specs.Release.{IsReleased}
use Rattle.master.specs.Ledger.{scans}
use Rattle.master.specs.Release.{AllGaveUp}
use Rattle.master.proofs.control.Control.release.Given as goal

abbrev pub invariant-loop-fragment : goal.invariant-loop-fragment
invariant-loop-fragment g l = record { gives_up : AllGaveUp l.initial.self l.self; released : (f : ℕ) → f < l.fragment → IsReleased (scans l.self.slots f) }
