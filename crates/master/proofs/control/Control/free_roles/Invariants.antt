use Rattle.std.proofs.Common.{ℕ, ◌<◌}
use Rattle.master.specs.Release.{GaveUpAt, IsFreed}
use Rattle.master.proofs.control.Control.free_roles.Given as goal

abbrev pub invariant-loop-role : goal.invariant-loop-role
invariant-loop-role g l = record { gives_up : GaveUpAt l.fragment l.initial.self l.self; freed : (q : ℕ) → q < l.role → IsFreed l.self.slots l.fragment q }
