-- The cases of a decision, over plain variables.
use Rattle.std.proofs.Common.{◌≡◌, arith, ℕ, ◌<◌, ◌≤◌, true, false, List, [], ◌∷◌, Option, Some, None, nat_le}
use Rattle.std.proofs.lemmas.Bool.Decides.{nat_tests}
use Rattle.io_cpu_scheduler.specs.declared.load.Load.{Load}
use Rattle.rows.specs.declared.plain.Machine.{Machine}
use Rattle.io_cpu_scheduler.specs.declared.load.Decision.{Decision}
use Rattle.io_cpu_scheduler.specs.declared.load.Class.{Class}
use Rattle.io_cpu_scheduler.specs.declared.load.Class.TheVariants as class
use Rattle.io_cpu_scheduler.specs.Degrees.{class_at, other_class}
use Rattle.io_cpu_scheduler.specs.Loads.{extreme, lowest}
use Rattle.io_cpu_scheduler.specs.Decisions.{alone, decision, joined, lone, paired}

several : (n : ℕ) → 2 ≤ n → nat_le 2 n ≡ true
several n h = grind (arith, nat_tests)

single : (n : ℕ) → n < 2 → nat_le 2 n ≡ false
single n h = grind (arith, nat_tests)

pub beside_joined : (m : Machine) (r o : Load) (c : Class) (ready : List Load) (d : Decision) → c ≡ other_class (class_at m r) → extreme m c ready ≡ Some o → 2 ≤ m.backends → d ≡ joined c m r o
    → d ≡ decision m (r ∷ []) ready
unfolding decision
beside_joined m r o c ready d is found two h = rw (← is, found, several m.backends two) h

pub beside_alone : (m : Machine) (r o : Load) (c : Class) (ready : List Load) (d : Decision) → c ≡ other_class (class_at m r) → extreme m c ready ≡ Some o → m.backends < 2 → d ≡ alone m r
    → d ≡ decision m (r ∷ []) ready
unfolding decision
beside_alone m r o c ready d is found one h = rw (← is, found, single m.backends one) h

pub beside_none : (m : Machine) (r : Load) (c : Class) (ready : List Load) (d : Decision) → c ≡ other_class (class_at m r) → extreme m c ready ≡ None → d ≡ alone m r → d ≡ decision m (r ∷ []) ready
unfolding decision
beside_none m r c ready d is found h = rw (← is, found) h

pub fresh_paired : (m : Machine) (i j : Load) (ready : List Load) (d : Decision) → extreme m class.Io ready ≡ Some i → extreme m class.Cpu ready ≡ Some j → 2 ≤ m.backends → d ≡ paired m i j
    → d ≡ decision m [] ready
unfolding decision
fresh_paired m i j ready d io cpu two h = rw (io, cpu, several m.backends two) h

-- one backend, or a class with no load
abbrev pub NotBoth : Machine → Option Load → Option Load → Type 0
NotBoth m None j = Unit {0}
NotBoth m (Some i) None = Unit {0}
NotBoth m (Some i) (Some j) = m.backends < 2

pub fresh_alone : (m : Machine) (i j : Option Load) (ready : List Load) (d : Decision) → extreme m class.Io ready ≡ i → extreme m class.Cpu ready ≡ j → NotBoth m i j → d ≡ lone m (lowest ready)
    → d ≡ decision m [] ready
unfolding decision
fresh_alone m None j ready d io cpu n h = rw (io) h
fresh_alone m (Some i) None ready d io cpu n h = rw (io, cpu) h
fresh_alone m (Some i) (Some j) ready d io cpu n h = rw (io, cpu, single m.backends n) h
