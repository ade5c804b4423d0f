-- Each degree that a decision gives is from 1 to 64.
use Rattle.std.proofs.Common.{◌≡◌, ℕ, ◌≤◌, Bool, eqb, nat_le, List, [], ◌∷◌, ◌++◌, inl, inr, arith, Option, Some, None, filter}
use Rattle.std.specs.Prelude.{IfSome}
use Rattle.std.specs.List.{AllByRecursion, last_or}
use Rattle.std.proofs.lemmas.Bool.{cases_Bool}
use Rattle.rows.specs.declared.plain.Machine.{Machine}
use Rattle.rows.specs.declared.plain.Step.{Step}
use Rattle.io_cpu_scheduler.specs.declared.load.Load.{Load}
use Rattle.io_cpu_scheduler.specs.declared.load.Part.{Part}
use Rattle.io_cpu_scheduler.specs.declared.load.Decision.{Decision}
use Rattle.io_cpu_scheduler.specs.Decisions.{decision}
use Rattle.io_cpu_scheduler.specs.Limits.{IsMachine, IsStep}
use Rattle.io_cpu_scheduler.specs.Sensible.{IsPartOf, IsSensible}
use Rattle.io_cpu_scheduler.specs.Steps.{with_step, step_at}
use Rattle.io_cpu_scheduler.proofs.Sense.{decision_sense}
use Rattle.history.specs.declared.event.Event.{Event}
use Rattle.history.specs.Outline.{Run, IsWithin}
use Rattle.history.specs.Projected.{part_for, earlier_of, given}
use Rattle.history.specs.State.{machine_after, running_loads, ready_loads, decision_after, finishes}

-- ---- the machine stays within its limits
last_fits : (t : Step → Bool) (o : Option Step) (xs : List Step) → IfSome o IsStep → AllByRecursion IsStep xs → IfSome (last_or o (filter t xs)) IsStep
last_fits t o [] h all = h
last_fits t o (x ∷ xs) h all = elim (cases_Bool (t x)) [ inl y ↦ simp y (last_fits t (Some x) xs all.0 all.1) | inr n ↦ simp n (last_fits t o xs h all.1) ]

step_fits : (m : Machine) (o : Option Step) → IsMachine m → IfSome o IsStep → IsMachine (with_step m o)
step_fits m None fits h = fits
step_fits m (Some s) fits h = record {
  some_backend = h.some_backend;
  backends = h.backends;
  some_drive = fits.some_drive;
  drives = fits.drives;
  some_batch = fits.some_batch;
  batch = fits.batch;
}

pub machine_fits : (run : Run) (h : List Event) → IsWithin run → IsMachine (machine_after run h)
machine_fits run h within = step_fits run.machine (step_at run.steps (finishes h)) within.machine (last_fits (λ s. nat_le s.after (finishes h)) None run.steps tt within.steps)

-- ---- parts
abbrev Fits : Part → Type 0
Fits p = (1 ≤ p.degree) × (p.degree ≤ 64)

part_fits : (m : Machine) (loads : List Load) (o : Option Part) → IsMachine m → IfSome o (IsPartOf m loads) → IfSome o Fits
part_fits m loads None fits h = tt
part_fits m loads (Some p) fits h = (h.some, (let a = h.most in let b = fits.backends in omega arith))

sense_fits : (m : Machine) (running ready : List Load) (d : Decision) → IsMachine m → IsSensible m running ready d → IfSome d.first Fits × IfSome d.second Fits
sense_fits m running ready d fits s = (part_fits m (running ++ ready) d.first fits s.first, part_fits m (running ++ ready) d.second fits s.second)

decision_fits : (m : Machine) (running ready : List Load) → IsMachine m → IfSome (decision m running ready).first Fits × IfSome (decision m running ready).second Fits
unfolding decision
decision_fits m [] ready fits = sense_fits m [] ready _ fits (decision_sense m [] ready fits (omega arith))
decision_fits m (r ∷ rs) ready fits = sense_fits m (r ∷ []) ready _ fits (decision_sense m (r ∷ []) ready fits (omega arith))

part_given : (o : Option Part) (f n : ℕ) → IfSome o Fits → part_for o f ≡ Some n → (1 ≤ n) × (n ≤ 64)
part_given None f n h e = absurd (cc)
part_given (Some p) f n h e =
    elim (cases_Bool (eqb p.fragment f)) [
      | inl y ↦ let e' = simp y at e in let same : p.degree ≡ n = cc in let low = h.0 in let high = h.1 in (omega arith, omega arith)
      | inr z ↦ absurd (let e' = simp z at e in cc)
    ]

either_given : (a b : Option ℕ) (n : ℕ) → (a ≡ Some n → (1 ≤ n) × (n ≤ 64)) → (b ≡ Some n → (1 ≤ n) × (n ≤ 64)) → earlier_of a b ≡ Some n → (1 ≤ n) × (n ≤ 64)
either_given None b n ha hb e = hb e
either_given (Some k) b n ha hb e = ha e

pub given_fits : (run : Run) (h : List Event) (f n : ℕ) → IsWithin run → given (decision_after run h) f ≡ Some n → (1 ≤ n) × (n ≤ 64)
given_fits run h f n within e =
    let fit = decision_fits (machine_after run h) (running_loads run h) (ready_loads run h) (machine_fits run h within) in
    let d = decision_after run h in
    either_given (part_for d.first f) (part_for d.second f) n (part_given d.first f n fit.0) (part_given d.second f n fit.1) e
