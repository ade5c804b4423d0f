use Rattle.std.proofs.Common.{◌≡◌, ℕ, ◌<◌, []}
use Rattle.page_partition.specs.Scan.{out_of}
use Rattle.page_partition.proofs.division.is_idle.Given as goal

abbrev pub invariant-loop-role : goal.invariant-loop-role
invariant-loop-role g l = (r : ℕ) → r < l.role → out_of (g.V.Division.scan l.division).marks r ≡ []
