-- A decision given to all fragments, at the begin of a run and at a finish, keeps a control as it must be.
use Rattle.std.proofs.Common.{◌≡◌, ◌≢◌, ℕ, zero, suc, ◌+◌, ◌-◌, ◌*◌, ◌<◌, ◌≤◌, ◌⊎◌, ◌&&◌, not, Bool, true, false, cond, eqb, List, [], ◌∷◌, ◌++◌, length, reverse, take, set, get_or, append_assoc, refl, ap, sym, ◌∙◌, subst, inl, inr, arith, Option, Some, None, IfSome, is_some}
use Rattle.std.specs.List.{All, AllByRecursion, sum_by}
use Rattle.std.proofs.lemmas.Bool.{and_parts, cases_Bool, cases_eq, eq-eqb, ne_eqb, true≢false}
use Rattle.std.proofs.lemmas.List.{get_or-set_same, get_or-set_other, length-set, reverse-append}
use Rattle.std.proofs.lemmas.List.Sums.{sum_by-cons, sum_by-set, get_or-le-sum_by}
use Rattle.rows.specs.declared.plain.Machine.{Machine}
use Rattle.hash_join.specs.Table.{Table}
use Rattle.adjust_protocol.specs.Moves.{IsDue, Makes, Move, Running}
use Rattle.adjust_protocol.specs.Moves as move
use Rattle.io_cpu_scheduler.specs.Decisions.{decision, nothing}
use Rattle.io_cpu_scheduler.specs.Limits.{IsLoad, IsMachine}
use Rattle.io_cpu_scheduler.specs.Sensible.{HasPart, IsOf, IsPartOf, IsSensible}
use Rattle.io_cpu_scheduler.specs.Steps.{machine_at}
use Rattle.io_cpu_scheduler.specs.declared.load.Decision.{Decision}
use Rattle.io_cpu_scheduler.specs.declared.load.Load.{Load}
use Rattle.io_cpu_scheduler.specs.declared.load.Part.{Part}
use Rattle.history.specs.Boards.{BoardIs, Follows, GivenTo, rule_by, rule_of}
use Rattle.history.specs.Outline.{IsWithin, Run, outline}
use Rattle.history.specs.Projected.{begun, earlier_of, given, is_finished, moves_of, part_for, runs}
use Rattle.history.specs.Running.{AreOrdered}
use Rattle.history.specs.State.{decision_after, finishes, is_collecting, load_of, machine_after, running_loads}
use Rattle.history.specs.declared.event.Event.{Event}
use Rattle.history.specs.declared.event.Event.TheVariants as event
use Rattle.history.proofs.Degrees.{machine_fits}
use Rattle.history.proofs.Few.{collecting_runs, one_beside}
use Rattle.history.proofs.Follows.{begun_collecting, follows_begin, follows_finish, follows_finish_cut, open_of, whole_of}
use Rattle.master.specs.Boards.{collected_as, with_board}
use Rattle.master.specs.Finish.{ended_at, finish_events}
use Rattle.master.specs.Gives.{AllGiven, AreTwo, CanDecide, CanGive, CanTake, GivesOne, GivesSlot, IsCut, IsDecided, cut_for, finished, ready_in, running_in}
use Rattle.master.specs.Content.{HasContent, IsValue}
use Rattle.master.specs.Kind.{Slotted, is_ended, is_running, is_waiting, scan_of}
use Rattle.master.specs.Kind as kind
use Rattle.master.specs.Ledger.{HasAnswerRoom, AreFed, Fits, HasAsks, IsKept, IsSlotOf, Ledger, Tools, at, need, needs, no_slot, scans, unended}
use Rattle.master.specs.Meaning.{Meaning, run_of}
use Rattle.master.proofs.Gave.{Unbegun, ended_stays, given_asks, given_begun, given_calm, given_content, given_ended, given_need, given_runs, given_same, running_not_ended, to_cut, to_given, unbegun_of}
use Rattle.master.proofs.Kept.{looked, within_run}
use Rattle.master.proofs.Loads.{AreSlots, decided, decision_in_order, fed_later, goes_on_at, loads_fit, part_fed, part_fits, running_are, takes}
use Rattle.master.proofs.Needs.{needs_set}
use Rattle.master.proofs.Nexts.{begun_at, of_same, runs_is}

-- ---- sums over all fragments
sum_le : (w : Slotted → ℕ) (xs ys : List Slotted) → length ys ≡ length xs → ((k : ℕ) → k < length xs → w (at ys k) ≤ w (at xs k)) → sum_by w ys ≤ sum_by w xs
sum_le w [] [] e each = omega arith
sum_le w [] (y ∷ ys) e each = absurd (omega arith)
sum_le w (x ∷ xs) [] e each = absurd (omega arith)
sum_le w (x ∷ xs) (y ∷ ys) e each =
    let first : w y ≤ w x = each 0 (omega arith) in
    let rest = sum_le w xs ys (omega arith) (λ k lt. each (suc k) (omega arith)) in
    let a = sum_by-cons w x xs in
    let b = sum_by-cons w y ys in
    omega arith

same_ended : (xs ys : List Slotted) → length ys ≡ length xs → ((k : ℕ) → k < length xs → is_ended (at ys k) ≡ is_ended (at xs k)) → unended ys ≡ unended xs
same_ended xs ys e each =
    let w : Slotted → ℕ = λ s. cond {A = ℕ} (is_ended s) 0 1 in
    let less = sum_le w xs ys e (λ k lt. let q = ap (λ b. cond {A = ℕ} b 0 1) (each k lt) in omega arith) in
    let more = sum_le w ys xs (sym e) (λ k lt. let q = ap (λ b. cond {A = ℕ} b 0 1) (each k (omega arith)) in omega arith) in
    omega arith

-- ---- who is named
part_is : (o : Option Part) (f k : ℕ) → part_for o f ≡ Some k → IsOf o f
part_is None f k e = absurd (cc)
part_is (Some p) f k e = elim (cases_eq p.fragment f) [ inl i ↦ i | inr ne ↦ absurd (let other = ne_eqb p.fragment f ne in let e' = simp other at e in cc) ]

either_is : (a b : Option ℕ) (k : ℕ) → earlier_of a b ≡ Some k → (a ≡ Some k) ⊎ (b ≡ Some k)
either_is None b k e = inr e
either_is (Some n) b k e = inl e

given_named : (d : Decision) (f k : ℕ) → given d f ≡ Some k → HasPart d f
given_named d f k e = elim (either_is (part_for d.first f) (part_for d.second f) k e) [ inl a ↦ inl (part_is d.first f k a) | inr b ↦ inr (part_is d.second f k b) ]

-- ---- after a decision was given to all
-- the fragments before it, beside what the history tells of them
pub record IsBase (run : Run) (o : ℕ → Option ℕ) (fin : ℕ → Bool) (f : ℕ) (s : Slotted) : Type 0 where
  pub kind : s.by_entries ≡ (outline run f).by_entries
  pub inputs : s.inputs ≡ (outline run f).inputs
  pub load : s.load ≡ load_of run f
  pub has_begun : is_some (o f) ≡ not (is_waiting s)
  pub has_ended : fin f ≡ is_ended s

-- and what is kept of them
pub record AreBase (m : Meaning) (o : ℕ → Option ℕ) (fin : ℕ → Bool) (k : ℕ) (slots : List Slotted) (t : Tools) : Type 0 where
  pub within : IsWithin (run_of m)
  pub ordered : AreOrdered (run_of m)
  pub small : length slots ≤ 1000
  pub size : length slots ≡ length (run_of m).fragments
  pub each : (f : ℕ) → f < length slots → IsBase (run_of m) o fin f (at slots f)
  pub content : (f : ℕ) → f < length slots → HasContent m f (at slots f)
  pub unbegun : (f : ℕ) → f < length slots → Unbegun (at slots f)
  pub calm : (f : ℕ) → f < length slots → IsDue (scans slots f) → ⊥
  pub fed : (f : ℕ) → f < length slots → is_running (at slots f) ≡ true → AreFed slots (at slots f).inputs
  pub asks : (f : ℕ) → f < length slots → HasAsks (length slots) k (at slots f)
  pub fewer : k ≤ t.finishes
  pub more : (f : ℕ) → f < length slots → is_running (at slots f) ≡ true → k + 1 ≤ t.finishes
  pub counted : needs slots ≤ t.needed
  pub kept : t.needed ≤ t.spare
  pub unended : t.finishes + unended slots ≡ length slots
  pub lists : (length slots ≤ t.running) × (length slots ≤ t.ready)
  pub machine : t.machine ≡ m.machine
  pub steps : t.steps ≡ m.steps
  pub answers : HasAnswerRoom m t

-- the history that tells of the decision
pub record IsGiving (m : Meaning) (o : ℕ → Option ℕ) (fin : ℕ → Bool) (later : List Event) (h : List Event) (t : Tools) : Type 0 where
  pub is : reverse later ≡ h
  pub some : h ≢ []
  pub begun_as : (f : ℕ) → begun h f ≡ earlier_of (o f) (given t.decision f)
  pub finished_as : (f : ℕ) → is_finished h f ≡ fin f
  pub finishes_as : t.finishes ≡ finishes h

given_fed : (m : Meaning) (f : ℕ) (slots slots' : List Slotted) (d : Decision) (divide : Option Event) → AreOrdered (run_of m) → length slots ≡ length (run_of m).fragments → (at slots f).inputs ≡ (outline (run_of m) f).inputs → AllGiven slots d divide slots' → f < length slots
    → AreFed slots (at slots f).inputs → AreFed slots' (at slots f).inputs
given_fed m f slots slots' d divide ordered size inputs given' lt fed =
    fed_later (λ i. is_ended (at slots i)) (λ i. is_ended (at slots' i)) f (at slots f).inputs
    (λ g l e. given_ended (given d g) (cut_for divide g) (at slots g) (at slots' g) (given'.each g (omega arith)) ∙ e)
    (subst (λ xs. AllByRecursion (λ g. g < f) xs) (sym inputs) (ordered f (omega arith)).0) fed

pub kept_given : (m : Meaning) (o : ℕ → Option ℕ) (fin : ℕ → Bool) (k : ℕ) (later h before : List Event) (slots slots' : List Slotted) (t : Tools) (mach : Machine) (divide : Option Event)
    → AreBase m o fin k slots t → IsGiving m o fin later h t → AreSlots (run_of m) before slots → IsDecided mach slots t.decision → AllGiven slots t.decision divide slots' → Follows (run_of m) h (scans slots') → IsKept m later slots' t
kept_given m o fin k later h before slots slots' t mach divide base giving are is given' follows =
    let size = given'.size in
    let below : (f : ℕ) → f < length slots' → f < length slots = λ f lt. omega arith in
    let now : Follows (run_of m) (reverse later) (scans slots') = subst (λ xs. Follows (run_of m) xs (scans slots')) (sym giving.is) follows in
    let calms : (f : ℕ) → f < length slots' → IsDue (scans slots' f) → ⊥ = λ f lt.
    let l = below f lt in given_calm (given t.decision f) (cut_for divide f) (at slots f) (at slots' f) (base.unbegun f l) (base.calm f l) (given'.each f l) in
    record {
      fits = record {
        started = λ e. giving.some (sym giving.is ∙ ap reverse e);
        size = size ∙ base.size;
        each = λ f lt.
            let l = below f lt in
            let b = base.each f l in
            let g = given'.each f l in
            let same = given_same (given t.decision f) (cut_for divide f) (at slots f) (at slots' f) g in
            record {
              kind = same.kind ∙ b.kind;
              inputs = same.inputs ∙ b.inputs;
              load = same.load ∙ b.load;
              has_begun = ap is_some (ap (λ xs. begun xs f) giving.is ∙ giving.begun_as f) ∙ given_begun (given t.decision f) (cut_for divide f) (o f) (at slots f) (at slots' f) b.has_begun g;
              has_ended = ap (λ xs. is_finished xs f) giving.is ∙ giving.finished_as f ∙ b.has_ended ∙ sym (given_ended (given t.decision f) (cut_for divide f) (at slots f) (at slots' f) g);
            };
        follows = now;
        whole = whole_of (run_of m) (reverse later) (scans slots') now (λ f lt. calms f (let e = base.size in omega arith));
        content = λ f lt. let l = below f lt in given_content m f (given t.decision f) (cut_for divide f) (at slots f) (at slots' f) (base.content f l) (given'.each f l);
      };
      within = base.within;
      ordered = base.ordered;
      small = (let s = base.small in omega arith);
      calm = calms;
      asks = λ f lt.
          let l = below f lt in
          subst (λ n. HasAsks n t.finishes (at slots' f)) (sym size)
          (given_asks (given t.decision f) (cut_for divide f) (at slots f) (at slots' f) (length slots) k t.finishes (base.unbegun f l) base.fewer (base.more f l) (base.asks f l) (given'.each f l));
      named = λ f lt e.
          let l = below f lt in
          elim (given_runs (given t.decision f) (cut_for divide f) (at slots f) (at slots' f) (given'.each f l) e) [
            | inl r ↦ goes_on_at (run_of m) before slots t.decision f are is.goes_on l r
            | inr n ↦ given_named t.decision f n.0 n.1
          ];
      fed = λ f lt e.
          let l = below f lt in
          let g = given'.each f l in
          let same = (given_same (given t.decision f) (cut_for divide f) (at slots f) (at slots' f) g).inputs in
          let was : AreFed slots (at slots f).inputs = elim (given_runs (given t.decision f) (cut_for divide f) (at slots f) (at slots' f) g e) [
            | inl r ↦ base.fed f l r
            | inr n ↦ elim (given_named t.decision f n.0 n.1) [
              | inl a ↦ part_fed (run_of m) before slots mach t.decision.first f are base.fed is.sensible.first a
              | inr b ↦ part_fed (run_of m) before slots mach t.decision.second f are base.fed is.sensible.second b
            ]
          ] in
          subst (λ xs. AreFed slots' xs) (sym same) (given_fed m f slots slots' t.decision divide base.ordered base.size (base.each f l).inputs given' l was);
      in_order = decision_in_order (run_of m) before slots mach t.decision are is.sensible;
      counted = (
          let c = base.counted in
          let less = sum_le need slots slots' size (λ f l. given_need (given t.decision f) (cut_for divide f) (at slots f) (at slots' f) (base.unbegun f l) (given'.each f l)) in
          omega arith);
      kept = base.kept;
      finished = giving.finishes_as ∙ sym (ap finishes giving.is);
      unended = (
          let u = base.unended in
          let same = same_ended slots slots' size (λ f l. given_ended (given t.decision f) (cut_for divide f) (at slots f) (at slots' f) (given'.each f l)) in
          omega arith);
      lists = (let a = base.lists.0 in let b = base.lists.1 in (omega arith, omega arith));
      machine = base.machine;
      steps = base.steps;
      answers = base.answers;
    }

-- ---- a finish
-- what is being collected runs
pub collecting_running : (m : Meaning) (log : List Event) (slots : List Slotted) (t : Tools) (g : ℕ) → IsKept m log slots t → g < length slots → (scans slots g).collecting ≡ true → is_running (at slots g) ≡ true
collecting_running m log slots t g k lt c =
    let inside = within_run m log slots t g k lt in
    let d = begun_collecting (run_of m) g (begun (reverse log) g) (moves_of (reverse log) g) (scans slots g) (k.fits.follows.each g inside) c in
    let told = (open_of (run_of m) (reverse log) (scans slots) g d.0 k.fits.follows inside d.1).1 in
    sym (runs_is m log slots t g k lt) ∙ collecting_runs (run_of m) (reverse log) k.fits.follows.legal g (told ∙ c)

-- a control whose fragment g, which is being collected, is finished with the value v
pub record IsEnding (m : Meaning) (log : List Event) (slots : List Slotted) (t : Tools) (g : ℕ) : Type 0 where
  pub kept : IsKept m log slots t
  pub inside : g < length slots
  pub collecting : (scans slots g).collecting ≡ true

ended_here : (slots : List Slotted) (g : ℕ) (v : Table) → g < length slots → at (ended_at slots g v) g ≡ finished (at slots g) v
ended_here slots g v lt = get_or-set_same slots g (finished (at slots g) v) no_slot lt

ended_other : (slots : List Slotted) (g f : ℕ) (v : Table) → f ≢ g → at (ended_at slots g v) f ≡ at slots f
ended_other slots g f v ne = get_or-set_other slots g f (finished (at slots g) v) no_slot ne

earlier_nothing : (o : Option ℕ) → earlier_of o None ≡ o
earlier_nothing None = refl
earlier_nothing (Some n) = refl

-- each fragment after it
ended_each : (P : ℕ → Slotted → Type 0) (slots : List Slotted) (g : ℕ) (v : Table) → g < length slots → P g (finished (at slots g) v) → ((f : ℕ) → f < length slots → f ≢ g → P f (at slots f)) → (f : ℕ) → f < length (ended_at slots g v) → P f (at (ended_at slots g v) f)
ended_each P slots g v lt here others f l =
    elim (cases_eq f g) [
      | inl e ↦ subst (λ q. P q (at (ended_at slots g v) q)) (sym e) (subst (P g) (sym (ended_here slots g v lt)) here)
      | inr ne ↦ subst (P f) (sym (ended_other slots g f v ne)) (others f (omega (arith, length-set slots g (finished (at slots g) v))) ne)
    ]

begun_one : (m : Meaning) (log : List Event) (slots : List Slotted) (t : Tools) (g : ℕ) → IsEnding m log slots t g → (d : ℕ) × (begun (reverse log) g ≡ Some d)
begun_one m log slots t g n = begun_collecting (run_of m) g (begun (reverse log) g) (moves_of (reverse log) g) (scans slots g) (n.kept.fits.follows.each g (within_run m log slots t g n.kept n.inside)) n.collecting

-- what the history tells of each fragment then
ended_base : (m : Meaning) (log : List Event) (slots : List Slotted) (t : Tools) (g : ℕ) (v : Table) (e : Decision) → IsEnding m log slots t g
    → (f : ℕ) → f < length (ended_at slots g v) → IsBase (run_of m) (λ q. begun (reverse log) q) (λ q. is_finished (event.Finish g e ∷ reverse log) q) f (at (ended_at slots g v) f)
ended_base m log slots t g v e n =
    let k = n.kept in
    let here = k.fits.each g n.inside in
    let d = begun_one m log slots t g n in
    let self = eq-eqb g g refl in
    ended_each (λ f s. IsBase (run_of m) (λ q. begun (reverse log) q) (λ q. is_finished (event.Finish g e ∷ reverse log) q) f s) slots g v n.inside
    (record { kind = here.kind; inputs = here.inputs; load = here.load; has_begun = ap is_some d.1; has_ended = simp self })
    (λ f l ne. let of = k.fits.each f l in let other = ne_eqb g f (λ x. ne (sym x)) in
    record { kind = of.kind; inputs = of.inputs; load = of.load; has_begun = of.has_begun; has_ended = simp other of.has_ended })

pub ended_slots : (m : Meaning) (log : List Event) (slots : List Slotted) (t : Tools) (g : ℕ) (v : Table) → IsEnding m log slots t g → AreSlots (run_of m) (event.Finish g nothing ∷ reverse log) (ended_at slots g v)
ended_slots m log slots t g v n = record {
  size = length-set slots g (finished (at slots g) v) ∙ n.kept.fits.size;
  each = λ f lt.
      let b = ended_base m log slots t g v nothing n f lt in
      record { kind = b.kind; inputs = b.inputs; load = b.load; has_begun = ap is_some (earlier_nothing (begun (reverse log) f)) ∙ b.has_begun; has_ended = b.has_ended };
}

ended_one : (m : Meaning) (log : List Event) (slots : List Slotted) (t : Tools) (g : ℕ) (v : Table) → IsEnding m log slots t g → length (running_in (ended_at slots g v)) ≤ 1
ended_one m log slots t g v n =
    let k = n.kept in
    let inside = within_run m log slots t g k n.inside in
    let d = begun_one m log slots t g n in
    let told = (open_of (run_of m) (reverse log) (scans slots) g d.0 k.fits.follows inside d.1).1 in
    subst (λ ls. length ls ≤ 1) (sym (running_are (run_of m) (event.Finish g nothing ∷ reverse log) (ended_at slots g v) (ended_slots m log slots t g v n)))
    (one_beside (run_of m) (reverse log) g k.within k.fits.follows.legal inside (told ∙ n.collecting))

ended_loads : (m : Meaning) (log : List Event) (slots : List Slotted) (t : Tools) (g : ℕ) (v : Table) → IsEnding m log slots t g → All IsLoad (running_in (ended_at slots g v)) × All IsLoad (ready_in (ended_at slots g v))
ended_loads m log slots t g v n = loads_fit (run_of m) (event.Finish g nothing ∷ reverse log) (ended_at slots g v) (ended_slots m log slots t g v n) n.kept.ordered

-- the machine at the finish
machine_is : (m : Meaning) (log : List Event) (slots : List Slotted) (t : Tools) (g n : ℕ) → IsKept m log slots t → n ≡ t.finishes + 1 → machine_at t.machine t.steps n ≡ machine_after (run_of m) (event.Finish g nothing ∷ reverse log)
machine_is m log slots t g n k e =
    ap (λ x. machine_at x t.steps n) k.machine ∙ ap (λ xs. machine_at m.machine xs n) k.steps ∙ ap (λ q. machine_at m.machine m.steps q) (e ∙ ap (λ q. q + 1) k.finished)

ended_machine : (m : Meaning) (log : List Event) (slots : List Slotted) (t : Tools) (g n : ℕ) (mach : Machine) → IsKept m log slots t → n ≡ t.finishes + 1 → mach ≡ machine_at t.machine t.steps n → IsMachine mach
ended_machine m log slots t g n mach k e is = subst IsMachine (sym (is ∙ machine_is m log slots t g n k e)) (machine_fits (run_of m) (event.Finish g nothing ∷ reverse log) k.within)

ended_unbegun : (m : Meaning) (log : List Event) (slots : List Slotted) (t : Tools) (g : ℕ) (v : Table) → IsEnding m log slots t g → (f : ℕ) → f < length (ended_at slots g v) → Unbegun (at (ended_at slots g v) f)
ended_unbegun m log slots t g v n = ended_each (λ f s. Unbegun s) slots g v n.inside (λ w. absurd (let x : false ≡ true = w in cc)) (λ f l ne.
    let k = n.kept in
    unbegun_of (run_of m) f (begun (reverse log) f) (moves_of (reverse log) f) (at slots f) (k.fits.each f l).kind (k.fits.each f l).has_begun (k.fits.follows.each f (within_run m log slots t f k l)))

going_one : (m : Meaning) (log : List Event) (slots : List Slotted) (t : Tools) (g : ℕ) → IsEnding m log slots t g → t.finishes < length slots
going_one m log slots t g n =
    let u = n.kept.unended in
    let w : Slotted → ℕ = λ s. cond {A = ℕ} (is_ended s) 0 1 in
    let e = ap (λ b. cond {A = ℕ} b 0 1) (running_not_ended (at slots g) (collecting_running m log slots t g n.kept n.inside n.collecting)) in
    let le = get_or-le-sum_by w slots g no_slot n.inside in
    omega arith

ended_can : (m : Meaning) (log : List Event) (slots : List Slotted) (t : Tools) (g : ℕ) (v : Table) → IsEnding m log slots t g → (f : ℕ) → f < length (ended_at slots g v) → is_ended (at (ended_at slots g v) f) ≡ false → CanGive (at (ended_at slots g v) f)
ended_can m log slots t g v n f lt going = record {
  going = going;
  room = ended_each (λ q s. is_ended s ≡ false → 0 < (scan_of s).scan.room) slots g v n.inside (λ e. absurd (let x : true ≡ false = e in cc))
      (λ q l ne e. let a = n.kept.asks q l in let b = going_one m log slots t g n in omega arith) f lt going;
  unbegun = ended_unbegun m log slots t g v n f lt;
}

three_named : (d : Decision) (a b c : ℕ) → HasPart d a → HasPart d b → HasPart d c → a ≢ b → a ≢ c → b ≢ c → ⊥
three_named d a b c (inl x) (inl y) z ab ac bc = ab (of_same d.first a b x y)
three_named d a b c (inl x) (inr y) (inl z) ab ac bc = ac (of_same d.first a c x z)
three_named d a b c (inl x) (inr y) (inr z) ab ac bc = bc (of_same d.second b c y z)
three_named d a b c (inr x) (inl y) (inl z) ab ac bc = bc (of_same d.first b c y z)
three_named d a b c (inr x) (inl y) (inr z) ab ac bc = ac (of_same d.second a c x z)
three_named d a b c (inr x) (inr y) z ab ac bc = ab (of_same d.second a b x y)

-- what runs after it ran before, and is another fragment
still_running : (slots : List Slotted) (g f : ℕ) (v : Table) → g < length slots → is_running (at (ended_at slots g v) f) ≡ true → (f ≢ g) × (is_running (at slots f) ≡ true)
still_running slots g f v lt e =
    elim (cases_eq f g) [
      | inl i ↦ absurd (let x : false ≡ true = ap is_running (sym (ended_here slots g v lt)) ∙ ap (λ q. is_running (at (ended_at slots g v) q)) (sym i) ∙ e in cc)
      | inr ne ↦ (ne, sym (ap is_running (ended_other slots g f v ne)) ∙ e)
    ]

ended_two : (m : Meaning) (log : List Event) (slots : List Slotted) (t : Tools) (g : ℕ) (v : Table) (mach : Machine) (d : Decision) → IsEnding m log slots t g → IsMachine mach → IsSensible mach (running_in (ended_at slots g v)) (ready_in (ended_at slots g v)) d
    → AreTwo (ended_at slots g v) d
ended_two m log slots t g v mach d n machine sensible =
    let are = ended_slots m log slots t g v n in
    let size = length-set slots g (finished (at slots g) v) in
    let order = decision_in_order (run_of m) (event.Finish g nothing ∷ reverse log) (ended_at slots g v) mach d are sensible in
    record {
      apart = λ p q a b e. let lt = order p q a b in absurd (omega arith);
      one = λ p q a b rp rq.
          let lt = order p q a b in
          let ip = subst (λ o. IfSome o (IsPartOf mach (running_in (ended_at slots g v) ++ ready_in (ended_at slots g v)))) a sensible.first in
          let iq = subst (λ o. IfSome o (IsPartOf mach (running_in (ended_at slots g v) ++ ready_in (ended_at slots g v)))) b sensible.second in
          let fp = part_fits (run_of m) (event.Finish g nothing ∷ reverse log) (ended_at slots g v) mach p are machine ip in
          let fq = part_fits (run_of m) (event.Finish g nothing ∷ reverse log) (ended_at slots g v) mach q are machine iq in
          let sp = still_running slots g p.fragment v n.inside rp in
          let sq = still_running slots g q.fragment v n.inside rq in
          let bp = fp.0 in
          let bq = fq.0 in
          three_named t.decision g p.fragment q.fragment (n.kept.named g n.inside (collecting_running m log slots t g n.kept n.inside n.collecting)) (n.kept.named p.fragment (omega arith) sp.1) (n.kept.named q.fragment (omega arith) sq.1)
          (λ e. sp.0 (sym e)) (λ e. sq.0 (sym e)) (λ e. absurd (omega arith));
    }

ended_takes : (m : Meaning) (log : List Event) (slots : List Slotted) (t : Tools) (g : ℕ) (v : Table) (mach : Machine) (o : Option Part) → IsEnding m log slots t g → IsMachine mach → IfSome o (IsPartOf mach (running_in (ended_at slots g v) ++ ready_in (ended_at slots g v)))
    → IfSome o (CanTake (ended_at slots g v))
ended_takes m log slots t g v mach o n machine part = takes (run_of m) (event.Finish g nothing ∷ reverse log) (ended_at slots g v) mach o (ended_slots m log slots t g v n) machine (ended_can m log slots t g v n) part

pub ended_decides : (m : Meaning) (log : List Event) (slots : List Slotted) (t : Tools) (g n : ℕ) (v : Table) (mach : Machine) → IsEnding m log slots t g → n ≡ t.finishes + 1 → mach ≡ machine_at t.machine t.steps n → CanDecide mach (ended_at slots g v)
ended_decides m log slots t g n v mach ending count is =
    let machine = ended_machine m log slots t g n mach ending.kept count is in
    record {
      one = ended_one m log slots t g v ending;
      loads = ended_loads m log slots t g v ending;
      limits = machine;
      takes = λ d sensible. (
        ended_takes m log slots t g v mach d.first ending machine sensible.first,
        ended_takes m log slots t g v mach d.second ending machine sensible.second,
        ended_two m log slots t g v mach d ending machine sensible,
      );
    }

-- ---- the finish and its decision
none_elsewhere : (c degree cut f : ℕ) → f ≢ c → cut_for (Some (event.Divide c degree cut)) f ≡ None
none_elsewhere c degree cut f ne = let other = ne_eqb c f (λ x. ne (sym x)) in simp other

cut_here : (c degree cut : ℕ) → cut_for (Some (event.Divide c degree cut)) c ≡ Some cut
cut_here c degree cut = let self = eq-eqb c c refl in simp self

finish_follows : (m : Meaning) (log : List Event) (slots slots' : List Slotted) (t : Tools) (g : ℕ) (v : Table) (d : Decision) (divide : Option Event) → IsEnding m log slots t g → d ≡ decision_after (run_of m) (event.Finish g nothing ∷ reverse log)
    → AllGiven (ended_at slots g v) d divide slots' → Follows (run_of m) (reverse (log ++ finish_events g d divide)) (scans slots')
finish_follows m log slots slots' t g v d divide n decides given' = go divide refl
  where
    k : IsKept m log slots t
    k = n.kept

    size : length (ended_at slots g v) ≡ length slots
    size = length-set slots g (finished (at slots g) v)

    inside : g < length (run_of m).fragments
    inside = within_run m log slots t g n.kept n.inside

    below : (f : ℕ) → f < length (run_of m).fragments → f < length slots
    below f lt = (let e = n.kept.fits.size in omega arith)

    -- the board of the finished fragment
    made : Makes (rule_of (run_of m) g) (run_of m).machine.batch (scans slots g) (move.Uncollect ∷ []) (scans slots' g)
    made =
        let stays = ended_stays (given d g) (cut_for divide g) (at (ended_at slots g v) g) (at slots' g) (ap is_ended (ended_here slots g v n.inside)) (given'.each g (let s = size in let i = n.inside in omega arith)) in
        (((n.kept.calm g n.inside, n.collecting), tt), ap scan_of (stays ∙ ended_here slots g v n.inside))

    each : (f : ℕ) → f < length slots → f ≢ g → GivesSlot (given d f) (cut_for divide f) (at slots f) (at slots' f)
    each f lt ne = subst (λ x. GivesSlot (given d f) (cut_for divide f) x (at slots' f)) (ended_other slots g f v ne) (given'.each f (let s = size in omega arith))

    gives : (f : ℕ) → f < length (run_of m).fragments → (g ≡ f → ⊥) → cut_for divide f ≡ None → GivenTo (run_of m) f (begun (reverse log) f) (is_finished (reverse log) f) (given d f) (scans slots f) (scans slots' f)
    gives f lt ne none =
        let l = below f lt in
        let of = n.kept.fits.each f l in
        to_given (run_of m) f (begun (reverse log) f) (given d f) (is_finished (reverse log) f) (moves_of (reverse log) f) (at slots f) (at slots' f) of.kind of.has_begun of.has_ended (n.kept.fits.follows.each f lt)
        (subst (λ c. GivesSlot (given d f) c (at slots f) (at slots' f)) none (each f l (λ x. ne (sym x))))

    calm : (f : ℕ) → f < length (run_of m).fragments → IsDue (scans slots' f) → ⊥
    calm f lt = (let l = below f lt in
        elim (cases_eq f g) [
          | inl e ↦ subst (λ q. IsDue (scans slots' q) → ⊥) (sym e) (λ due. n.kept.calm g n.inside (let x = subst IsDue made.1 due in x))
          | inr ne ↦ given_calm (given d f) (cut_for divide f) (at slots f) (at slots' f)
              (unbegun_of (run_of m) f (begun (reverse log) f) (moves_of (reverse log) f) (at slots f) (n.kept.fits.each f l).kind (n.kept.fits.each f l).has_begun (n.kept.fits.follows.each f lt)) (n.kept.calm f l) (each f l ne)
        ])

    go : (o : Option Event) → divide ≡ o → Follows (run_of m) (reverse (log ++ finish_events g d o)) (scans slots')
    go None e =
        let b = begun_one m log slots t g n in
        subst (λ xs. Follows (run_of m) xs (scans slots')) (sym (reverse-append log (event.Finish g d ∷ [])))
        (follows_finish (run_of m) (reverse log) (scans slots) (scans slots') g b.0 d n.kept.within n.kept.fits.follows n.kept.fits.whole inside b.1 decides made (λ f lt ne. gives f lt ne (ap (λ x. cut_for x f) e)))
    go (Some x) e =
        let b = begun_one m log slots t g n in
        let cut = subst (IsCut (ended_at slots g v) d) e given'.cut in
        let is = e ∙ ap (λ y. Some y) cut.3 in
        let still = still_running slots g cut.0 v n.inside cut.6 in
        let lc : cut.0 < length slots = (let l = cut.4 in let s = size in omega arith) in
        let in_run = within_run m log slots t cut.0 n.kept lc in
        let began = begun_at m log slots t cut.0 n.kept lc still.1 in
        let ran : is_finished (reverse log) cut.0 ≡ false = (n.kept.fits.each cut.0 lc).has_ended ∙ running_not_ended (at slots cut.0) still.1 in
        let one = subst (λ c. GivesSlot (given d cut.0) c (at slots cut.0) (at slots' cut.0)) (ap (λ y. cut_for y cut.0) is ∙ cut_here cut.0 cut.1 cut.2) (each cut.0 lc still.0) in
        let one' = subst (λ y. GivesSlot y (Some cut.2) (at slots cut.0) (at slots' cut.0)) cut.5 one in
        let moves = to_cut (run_of m) cut.0 cut.1 cut.2 (at slots cut.0) (at slots' cut.0) (n.kept.fits.each cut.0 lc).kind still.1 one' in
        subst (λ y. Follows (run_of m) (reverse (log ++ event.Finish g d ∷ y ∷ [])) (scans slots')) (sym cut.3)
        (subst (λ xs. Follows (run_of m) xs (scans slots')) (sym (reverse-append log (event.Finish g d ∷ event.Divide cut.0 cut.1 cut.2 ∷ [])))
        (follows_finish_cut (run_of m) (reverse log) (scans slots) (scans slots') g b.0 cut.0 began.0 cut.1 cut.2 d n.kept.within n.kept.fits.follows n.kept.fits.whole inside b.1 decides made in_run still.0 began.1 ran cut.5 moves
        (λ f lt ne other. gives f lt ne (ap (λ y. cut_for y f) is ∙ none_elsewhere cut.0 cut.1 cut.2 f other)) (λ f lt ne due. calm f lt due)))

-- which events a finish adds, the latest first
giving_finish : (m : Meaning) (log later : List Event) (slots : List Slotted) (t : Tools) (g : ℕ) (v : Table) (d : Decision) (divide : Option Event) (t' : Tools) → IsKept m log slots t → t'.decision ≡ d → t'.finishes ≡ t.finishes + 1
    → later ≡ log ++ finish_events g d divide → IsCut (ended_at slots g v) d divide
    → IsGiving m (λ q. begun (reverse log) q) (λ q. is_finished (event.Finish g d ∷ reverse log) q) later (reverse (log ++ finish_events g d divide)) t'
giving_finish m log later slots t g v d None t' k decision' count items cut =
    let turned = reverse-append log (event.Finish g d ∷ []) in
    record {
      is = ap reverse items;
      some = λ e. absurd (let x = sym turned ∙ e in cc);
      begun_as = λ f. ap (λ xs. begun xs f) turned ∙ ap (λ y. earlier_of (begun (reverse log) f) (given y f)) (sym decision');
      finished_as = λ f. ap (λ xs. is_finished xs f) turned;
      finishes_as = count ∙ ap (λ q. q + 1) k.finished ∙ sym (ap finishes turned);
    }
giving_finish m log later slots t g v d (Some x) t' k decision' count items cut =
    let turned : reverse (log ++ event.Finish g d ∷ x ∷ []) ≡ event.Divide cut.0 cut.1 cut.2 ∷ event.Finish g d ∷ reverse log =
    ap (λ y. reverse (log ++ event.Finish g d ∷ y ∷ [])) cut.3 ∙ reverse-append log (event.Finish g d ∷ event.Divide cut.0 cut.1 cut.2 ∷ []) in
    record {
      is = ap reverse items;
      some = λ e. absurd (let y = sym turned ∙ e in cc);
      begun_as = λ f. ap (λ xs. begun xs f) turned ∙ ap (λ y. earlier_of (begun (reverse log) f) (given y f)) (sym decision');
      finished_as = λ f. ap (λ xs. is_finished xs f) turned;
      finishes_as = count ∙ ap (λ q. q + 1) k.finished ∙ sym (ap finishes turned);
    }

ended_fed : (m : Meaning) (log : List Event) (slots : List Slotted) (t : Tools) (g : ℕ) (v : Table) → IsEnding m log slots t g → (f : ℕ) → f < length (ended_at slots g v) → is_running (at (ended_at slots g v) f) ≡ true → AreFed (ended_at slots g v) (at (ended_at slots g v) f).inputs
ended_fed m log slots t g v n f lt e =
    let still = still_running slots g f v n.inside e in
    let l : f < length slots = omega (arith, length-set slots g (finished (at slots g) v)) in
    let k = n.kept in
    subst (λ (s : Slotted). AreFed (ended_at slots g v) s.inputs) (sym (ended_other slots g f v still.0))
    (fed_later (λ i. is_ended (at slots i)) (λ i. is_ended (at (ended_at slots g v) i)) f (at slots f).inputs
    (λ q b w. elim (cases_eq q g) [
      | inl i ↦ ap (λ x. is_ended (at (ended_at slots g v) x)) i ∙ ap is_ended (ended_here slots g v n.inside)
      | inr ne ↦ ap is_ended (ended_other slots g q v ne) ∙ w
    ])
    (subst (λ xs. AllByRecursion (λ q. q < f) xs) (sym (k.fits.each f l).inputs) (k.ordered f (within_run m log slots t f k l)).0) (k.fed f l still.1))

ended_content : (m : Meaning) (g : ℕ) (s : Slotted) (v : Table) → IsValue m g v → HasContent m g s → HasContent m g (finished s v)
ended_content m g s v fits h = record { size = h.size; outputs = h.outputs; value = λ w e. subst (IsValue m g) (let same : v ≡ w = cc in same) fits }

pub kept_finish : (m : Meaning) (log later : List Event) (slots slots' : List Slotted) (t : Tools) (g n needed spare running ready : ℕ) (v : Table) (mach : Machine) (d : Decision) (divide : Option Event) → IsEnding m log slots t g → IsValue m g v → n ≡ t.finishes + 1
    → mach ≡ machine_at t.machine t.steps n → IsDecided mach (ended_at slots g v) d → AllGiven (ended_at slots g v) d divide slots' → later ≡ log ++ finish_events g d divide → t.needed ≤ needed + 2 → needed ≤ spare
    → t.running ≤ running → t.ready ≤ ready → IsKept m later slots' (record t { decision = d; finishes = n; needed = needed; spare = spare; running = running; ready = ready })
kept_finish m log later slots slots' t g n needed spare running ready v mach d divide ending fits_value count machine is given' items change room lists readies =
    let k = ending.kept in
    let t' : Tools = record t { decision = d; finishes = n; needed = needed; spare = spare; running = running; ready = ready } in
    let slots1 = ended_at slots g v in
    let size = length-set slots g (finished (at slots g) v) in
    let are = ended_slots m log slots t g v ending in
    let run = collecting_running m log slots t g k ending.inside ending.collecting in
    let decides = decided (run_of m) (event.Finish g nothing ∷ reverse log) slots1 mach d are k.ordered (machine ∙ machine_is m log slots t g n k count) is.value in
    let w : Slotted → ℕ = λ s. cond {A = ℕ} (is_ended s) 0 1 in
    let fewer = sum_by-set w slots g (finished (at slots g) v) no_slot ending.inside in
    let going = ap (λ b. cond {A = ℕ} b 0 1) (running_not_ended (at slots g) run) in
    let need' = needs_set slots g (finished (at slots g) v) ending.inside in
    let collected = ap (λ b. cond {A = ℕ} b 1 0) ending.collecting in
    let base : AreBase m (λ q. begun (reverse log) q) (λ q. is_finished (event.Finish g d ∷ reverse log) q) t.finishes slots1 t' = record {
      within = k.within;
      ordered = k.ordered;
      small = (let s = k.small in omega arith);
      size = size ∙ k.fits.size;
      each = ended_base m log slots t g v d ending;
      content = ended_each (HasContent m) slots g v ending.inside (ended_content m g (at slots g) v fits_value (k.fits.content g ending.inside)) (λ f l ne. k.fits.content f l);
      unbegun = ended_unbegun m log slots t g v ending;
      calm = ended_each (λ f s. IsDue (scan_of s) → ⊥) slots g v ending.inside (k.calm g ending.inside) (λ f l ne. k.calm f l);
      fed = ended_fed m log slots t g v ending;
      asks = subst (λ q. (f : ℕ) → f < length slots1 → HasAsks q t.finishes (at slots1 f)) (sym size) (ended_each (λ f s. HasAsks (length slots) t.finishes s) slots g v ending.inside (let a = k.asks g ending.inside in omega arith) (λ f l ne. k.asks f l));
      fewer = (let c = count in omega arith);
      more = λ f lt e. (let c = count in omega arith);
      counted = (let c = k.counted in omega arith);
      kept = room;
      unended = (let u = k.unended in let c = count in omega arith);
      lists = (let a = k.lists.0 in let b = k.lists.1 in (omega arith, omega arith));
      machine = k.machine;
      steps = k.steps;
      answers = k.answers;
    } in
    kept_given m (λ q. begun (reverse log) q) (λ q. is_finished (event.Finish g d ∷ reverse log) q) t.finishes later (reverse (log ++ finish_events g d divide)) (event.Finish g nothing ∷ reverse log) slots1 slots' t' mach divide
    base (giving_finish m log later slots t g v d divide t' k refl count items given'.cut) are is given' (finish_follows m log slots slots' t g v d divide ending decides given')

pub finish_decides : (m : Meaning) (log : List Event) (slots : List Slotted) (t : Tools) (g n : ℕ) (v : Table) (mach : Machine) (d : Decision) → IsEnding m log slots t g → n ≡ t.finishes + 1 → mach ≡ machine_at t.machine t.steps n
    → d ≡ decision mach (running_in (ended_at slots g v)) (ready_in (ended_at slots g v)) → d ≡ decision_after (run_of m) (event.Finish g nothing ∷ reverse log)
finish_decides m log slots t g n v mach d ending count machine is =
    decided (run_of m) (event.Finish g nothing ∷ reverse log) (ended_at slots g v) mach d (ended_slots m log slots t g v ending) ending.kept.ordered (machine ∙ machine_is m log slots t g n ending.kept count) is

-- ---- the call, of the slots as it passes them on
pub ending_of : (m : Meaning) (log : List Event) (slots : List Slotted) (t : Tools) (g : ℕ) → IsKept m log slots t → g < length slots → (scans slots g).collecting ≡ true → IsEnding m log slots t g
ending_of m log slots t g k lt c = record { kept = k; inside = lt; collecting = c }

pub ended_as : (slots xs : List Slotted) (g : ℕ) (v : Table) (s s' : Slotted) → g < length slots → s ≡ get_or slots g s → s' ≡ finished s v → xs ≡ set slots g s' → xs ≡ ended_at slots g v
ended_as slots xs g v s s' lt is done now = now ∙ ap (set slots g) (done ∙ ap (λ (x : Slotted). finished x v) (looked slots g s lt is))

pub written_back : (n : ℕ) (ys zs : List Slotted) → n ≡ length ys → take n (ys ++ zs) ≡ ys
written_back n ys zs e = ap (λ q. take q (ys ++ zs)) e ∙ go ys
  where
    go : (ys : List Slotted) → take (length ys) (ys ++ zs) ≡ ys
    go [] = refl
    go (y ∷ ys) = ap (λ xs. y ∷ xs) (go ys)

pub finish_none : (log one : List Event) (g : ℕ) (d : Decision) (divide : Option Event) → one ≡ log ++ event.Finish g d ∷ [] → divide ≡ None → one ≡ log ++ finish_events g d divide
finish_none log one g d divide e is = e ∙ ap (λ o. log ++ finish_events g d o) (sym is)

pub finish_some : (log one two : List Event) (g : ℕ) (d : Decision) (x : Event) (divide : Option Event) → one ≡ log ++ event.Finish g d ∷ [] → two ≡ one ++ x ∷ [] → divide ≡ Some x → two ≡ log ++ finish_events g d divide
finish_some log one two g d x divide e f is = f ∙ ap (λ xs. xs ++ x ∷ []) e ∙ append_assoc log (event.Finish g d ∷ []) (x ∷ []) ∙ ap (λ o. log ++ finish_events g d o) (sym is)

pub is_none : (o : Option Event) → ((x : Event) → o ≡ Some x → ⊥) → o ≡ None
is_none None h = refl
is_none (Some x) h = absurd (h x refl)
