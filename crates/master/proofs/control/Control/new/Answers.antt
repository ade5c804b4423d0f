use Rattle.std.proofs.Common.{◌≡◌, ◌+◌, ◌-◌, ◌<◌, ◌≤◌, ◌++◌, ◌∷◌, [], sym, ◌∙◌, ap, subst, arith, List, ℕ, length, map, drop, refl, reverse, vec_len, vec_capacity, None}
use Rattle.std.specs.List.{AllByRecursion}
use Rattle.rows.specs.declared.plain.Machine.{Machine}
use Rattle.rows.specs.declared.plain.Step.{Step}
use Rattle.plan_tree.specs.Pieces.{pieces_of}
use Rattle.plan_tree.specs.WellFormed.{AreWellFormed}
use Rattle.plan_tree.specs.declared.fragment.Fragment.{Fragment}
use Rattle.io_cpu_scheduler.specs.Limits.{IsMachine, IsStep}
use Rattle.io_cpu_scheduler.specs.Steps.{machine_at}
use Rattle.history.specs.Outline.{IsWithin}
use Rattle.history.specs.State.{decision_after}
use Rattle.history.specs.declared.event.Event.TheVariants as event
use Rattle.master.specs.Gives.{AllGiven, CanDecide, Decides}
use Rattle.master.specs.Kind.{Slotted}
use Rattle.master.specs.Lasts.{last_flags}
use Rattle.master.specs.Meaning.{run_of}
use Rattle.master.specs.Starts.{starts}
use Rattle.master.proofs.Begins.{all_steps, begin_decides, begin_given, kept_begin, length_starts, only_begin, start_decides}
use Rattle.master.proofs.Finishes.{written_back}
use Rattle.master.proofs.control.Control.new.Goals as goal

pub decide_all-none-requires-clause-can : goal.decide_all-none-requires-clause-can
decide_all-none-requires-clause-can g c =
    let m = g.K.RunName.meaning in
    let formed = subst (λ (fs : List Fragment). AreWellFormed (pieces_of fs)) c.requires.fragments c.requires.formed in
    let limits = c.machine_after-first.ensures.limits c.requires.limits (all_steps c.in_ok-steps.steps (subst (λ (xs : List Step). AllByRecursion IsStep xs) (sym c.in_ok-steps.ensures) c.requires.within)) in
    let there = c.deref_mut.ensures.value ∙ c.in_ok-slots.ensures ∙ ap (λ (fs : List Fragment). starts fs) (c.items.ensures ∙ c.requires.fragments) in
    subst (λ (xs : List Slotted). CanDecide c.machine_after-first.result xs) (sym there) (start_decides m c.machine_after-first.result formed limits)

pub decide_all-none-requires-clause-running : goal.decide_all-none-requires-clause-running
decide_all-none-requires-clause-running g c =
    let m = g.K.RunName.meaning in
    let there = c.deref_mut.ensures.value ∙ c.in_ok-slots.ensures ∙ ap (λ (fs : List Fragment). starts fs) (c.items.ensures ∙ c.requires.fragments) in
    let size = ap (λ (xs : List Slotted). length xs) there ∙ length_starts 0 (length m.fragments) m.fragments ∙ sym (ap (λ (fs : List Fragment). length fs) c.requires.fragments) in
    omega (arith, size, c.len.ensures, c.in_ok-running.ensures.capacity)

pub decide_all-none-requires-clause-ready : goal.decide_all-none-requires-clause-ready
decide_all-none-requires-clause-ready g c =
    let m = g.K.RunName.meaning in
    let there = c.deref_mut.ensures.value ∙ c.in_ok-slots.ensures ∙ ap (λ (fs : List Fragment). starts fs) (c.items.ensures ∙ c.requires.fragments) in
    let size = ap (λ (xs : List Slotted). length xs) there ∙ length_starts 0 (length m.fragments) m.fragments ∙ sym (ap (λ (fs : List Fragment). length fs) c.requires.fragments) in
    omega (arith, size, c.len-2.ensures, c.in_ok-ready.ensures.capacity)

pub invariant_of-result : goal.invariant_of-result
invariant_of-result g c =
    let m = g.K.RunName.meaning in
    let formed = subst (λ (fs : List Fragment). AreWellFormed (pieces_of fs)) c.requires.fragments c.requires.formed in
    let there = c.deref_mut.ensures.value ∙ c.in_ok-slots.ensures ∙ ap (λ (fs : List Fragment). starts fs) (c.items.ensures ∙ c.requires.fragments) in
    let call = c.decide_all-none in
    let d = call.result.0 in
    let mach = c.machine_after-first.result in
    let steps : c.in_ok-steps.steps ≡ m.steps = c.in_ok-steps.ensures ∙ c.requires.steps in
    let machine : mach ≡ machine_at m.machine m.steps 0 = c.machine_after-first.ensures.value ∙ ap (λ (x : Machine). machine_at x c.in_ok-steps.steps 0) c.requires.machine ∙ ap (λ (xs : List Step). machine_at m.machine xs 0) steps in
    let told = subst (λ (xs : List Slotted). Decides mach xs d call.result.1 call.new.slots) there call.ensures.decides in
    let back = written_back c.in_ok-slots.slots.len call.new.slots (drop (length call.new.slots) c.in_ok-slots.slots.items) (omega (arith, c.deref_mut.ensures.len, call.ensures.size)) in
    let size = ap (λ (fs : List Fragment). length fs) c.requires.fragments in
    let within : IsWithin (run_of m) = record { machine = subst IsMachine c.requires.machine c.requires.limits; steps = subst (λ (xs : List Step). AllByRecursion IsStep xs) c.requires.steps c.requires.within } in
    let items = only_begin c.in_ok-history.history.items c.push_reserved.new.self.items d c.in_ok-history.ensures.items c.push_reserved.ensures.items in
    rw back
    (kept_begin m c.push_reserved.new.self.items call.new.slots _ mach d call.result.1 within formed machine told.decided told.given items refl refl refl c.requires.machine steps
    (c.in_ok-lasts.ensures ∙ ap (λ (fs : List Fragment). last_flags fs) (c.items-2.ensures ∙ c.requires.fragments), ap (map (λ x. x.value)) c.in_ok-answers.ensures.items, c.in_ok-answers.ensures.len, (omega (arith, size, c.len-3.ensures, c.in_ok-answers.ensures.capacity)))
    (omega (arith, size, c.len.ensures, c.in_ok-running.ensures.capacity, call.ensures.running)) (omega (arith, size, c.len-2.ensures, c.in_ok-ready.ensures.capacity, call.ensures.ready)))

pub returns-clause-fits : goal.returns-clause-fits
returns-clause-fits g c = (invariant_of-result g c.before).fits

pub returns-clause-events : goal.returns-clause-events
returns-clause-events g c =
    let m = g.K.RunName.meaning in
    let formed = subst (λ (fs : List Fragment). AreWellFormed (pieces_of fs)) c.requires.fragments c.requires.formed in
    let there = c.deref_mut.ensures.value ∙ c.in_ok-slots.ensures ∙ ap (λ (fs : List Fragment). starts fs) (c.items.ensures ∙ c.requires.fragments) in
    let call = c.decide_all-none in
    let d = call.result.0 in
    let mach = c.machine_after-first.result in
    let steps : c.in_ok-steps.steps ≡ m.steps = c.in_ok-steps.ensures ∙ c.requires.steps in
    let machine : mach ≡ machine_at m.machine m.steps 0 = c.machine_after-first.ensures.value ∙ ap (λ (x : Machine). machine_at x c.in_ok-steps.steps 0) c.requires.machine ∙ ap (λ (xs : List Step). machine_at m.machine xs 0) steps in
    let told = subst (λ (xs : List Slotted). Decides mach xs d call.result.1 call.new.slots) there call.ensures.decides in
    only_begin c.in_ok-history.history.items c.push_reserved.new.self.items d c.in_ok-history.ensures.items c.push_reserved.ensures.items ∙ ap (λ x. event.Begin x ∷ []) (begin_decides m mach d formed machine told.decided.value)

pub returns-clause-slots : goal.returns-clause-slots
returns-clause-slots g c =
    let m = g.K.RunName.meaning in
    let formed = subst (λ (fs : List Fragment). AreWellFormed (pieces_of fs)) c.requires.fragments c.requires.formed in
    let there = c.deref_mut.ensures.value ∙ c.in_ok-slots.ensures ∙ ap (λ (fs : List Fragment). starts fs) (c.items.ensures ∙ c.requires.fragments) in
    let call = c.decide_all-none in
    let d = call.result.0 in
    let mach = c.machine_after-first.result in
    let steps : c.in_ok-steps.steps ≡ m.steps = c.in_ok-steps.ensures ∙ c.requires.steps in
    let machine : mach ≡ machine_at m.machine m.steps 0 = c.machine_after-first.ensures.value ∙ ap (λ (x : Machine). machine_at x c.in_ok-steps.steps 0) c.requires.machine ∙ ap (λ (xs : List Step). machine_at m.machine xs 0) steps in
    let told = subst (λ (xs : List Slotted). Decides mach xs d call.result.1 call.new.slots) there call.ensures.decides in
    let back = written_back c.in_ok-slots.slots.len call.new.slots (drop (length call.new.slots) c.in_ok-slots.slots.items) (omega (arith, c.deref_mut.ensures.len, call.ensures.size)) in
    let all = subst (λ x. AllGiven (starts m.fragments) x None call.new.slots) (begin_decides m mach d formed machine told.decided.value) (begin_given m call.new.slots d call.result.1 told.given) in
    rw back (subst (λ (fs : List Fragment). AllGiven (starts fs) (decision_after (run_of m) []) None call.new.slots) (sym c.requires.fragments) all)
