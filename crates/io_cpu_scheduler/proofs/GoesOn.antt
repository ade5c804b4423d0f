-- What runs is in the decision.
use Rattle.std.proofs.Common.{◌≤◌, List, [], ◌∷◌, length, refl, Option, Some, None, inl, inr, arith, nat_lt, nat_le}
use Rattle.std.specs.List.{All}
use Rattle.std.proofs.lemmas.Bool.{cases_Bool}
use Rattle.std.proofs.lemmas.List.Elements.{All-nil}
use Rattle.rows.specs.declared.plain.Machine.{Machine}
use Rattle.io_cpu_scheduler.specs.declared.load.Load.{Load}
use Rattle.io_cpu_scheduler.specs.declared.load.Part.{Part}
use Rattle.io_cpu_scheduler.specs.declared.load.Class.{Class}
use Rattle.io_cpu_scheduler.specs.declared.load.Class.TheVariants as class
use Rattle.io_cpu_scheduler.specs.Degrees.{class_at, other_class}
use Rattle.io_cpu_scheduler.specs.Loads.{extreme}
use Rattle.io_cpu_scheduler.specs.Decisions.{beside, decision, in_order, joined}
use Rattle.io_cpu_scheduler.specs.Sensible.{HasPart}
use Rattle.io_cpu_scheduler.proofs.Sense.{only}

first_kept : (a b : Part) → HasPart (in_order a b) a.fragment
first_kept a b = elim (cases_Bool (nat_lt b.fragment a.fragment)) [ inl t ↦ simp t (inr refl) | inr f ↦ simp f (inl refl) ]

second_kept : (a b : Part) → HasPart (in_order a b) b.fragment
second_kept a b = elim (cases_Bool (nat_lt b.fragment a.fragment)) [ inl t ↦ simp t (inl refl) | inr f ↦ simp f (inr refl) ]

joined_kept : (c : Class) (m : Machine) (r o : Load) → HasPart (joined c m r o) r.fragment
joined_kept class.Io m r o = second_kept _ _
joined_kept class.Cpu m r o = first_kept _ _

beside_kept : (m : Machine) (r : Load) (c : Class) (o : Option Load) → HasPart (beside m r c o) r.fragment
beside_kept m r c None = inl refl
beside_kept m r c (Some o) = elim (cases_Bool (nat_le 2 m.backends)) [ inl t ↦ simp t (joined_kept c m r o) | inr f ↦ simp f (inl refl) ]

pub decision_goes_on : (m : Machine) (running ready : List Load) → length running ≤ 1 → All (λ r. HasPart (decision m running ready) r.fragment) running
unfolding decision
decision_goes_on m [] ready few = All-nil _
decision_goes_on m (r ∷ []) ready few = (let c = other_class (class_at m r) in only (λ (x : Load). HasPart (decision m (r ∷ []) ready) x.fragment) r (beside_kept m r c (extreme m c ready)))
decision_goes_on m (r ∷ s ∷ rs) ready few = absurd (omega arith)
