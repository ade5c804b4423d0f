use Rattle.std.proofs.Common.{◌≡◌, ◌<◌, ◌≤◌, ℕ}
use Rattle.io_cpu_scheduler.specs.Degrees.{gap}
use Rattle.io_cpu_scheduler.proofs.degree.least_gap.Given as goal

abbrev pub invariant-loop-degree : goal.invariant-loop-degree
invariant-loop-degree l = record {
  some : 1 ≤ l.best;
  part : l.best < l.degree;
  within : l.best < l.machine.backends;
  is : l.least ≡ gap l.fn.machine l.fn.io l.fn.cpu l.best;
  least : (y : ℕ) → 1 ≤ y → y < l.degree → l.least ≤ gap l.fn.machine l.fn.io l.fn.cpu y;
  first : (y : ℕ) → 1 ≤ y → y < l.degree → gap l.fn.machine l.fn.io l.fn.cpu y ≡ l.least → l.best ≤ y;
}
