-- What is left to be done never grows, and a settle of some positions and a finish each lower it.
use Rattle.std.proofs.Common.{◌≡◌, ◌≢◌, ℕ, zero, suc, ◌+◌, ◌-◌, ◌<◌, ◌≤◌, Bool, true, false, cond, eqb, List, [], ◌∷◌, ◌++◌, length, length-append, take, reverse, refl, ap, sym, ◌∙◌, subst, inl, inr, arith, not, is_some, Option, Some, None, unwrap_or}
use Rattle.std.proofs.lemmas.Bool.{and_parts, cases_Bool, cases_eq, eq-eqb, ne_eqb}
use Rattle.std.proofs.lemmas.List.{length-take, reverse-append}
use Rattle.page_partition.specs.Counts.{sum_below}
use Rattle.io_cpu_scheduler.specs.declared.load.Decision.{Decision}
use Rattle.adjust_protocol.specs.History.{out_in}
use Rattle.adjust_protocol.specs.Told.{last_is}
use Rattle.history.specs.declared.event.Event.{Event}
use Rattle.history.specs.declared.event.Event.TheVariants as event
use Rattle.history.specs.Allowed.{IsLegal}
use Rattle.history.specs.Outline.{Run, outline}
use Rattle.history.specs.Projected.{begun, deposited, is_finished, last_claim, moves_of, runs}
use Rattle.history.specs.State.{setting}
use Rattle.history.proofs.Few.{collecting_runs}
use Rattle.history.proofs.Projections.{claims_are, deposits_are}
use Rattle.history.proofs.RunSound.{keeps}
use Rattle.history.proofs.ScanSound.{deposits_fit}
use Rattle.adjust_protocol.specs.declared.answers.Settled.{Settled}
use Rattle.adjust_protocol.specs.declared.answers.Settled.TheVariants.{More, Cut, Finished}
use Rattle.master.specs.Calls.{settle_events}
use Rattle.master.specs.Finish.{finish_events}
use Rattle.engine.specs.Remaining.{lacking, remaining}

-- ---- sums
sum_le : (n : ℕ) (a b : ℕ → ℕ) → ((k : ℕ) → k < n → a k ≤ b k) → sum_below n a ≤ sum_below n b
unfolding sum_below
sum_le zero a b each = omega arith
sum_le (suc n) a b each = let rest = sum_le n a b (λ k lt. each k (omega arith)) in let here = each n (omega arith) in omega arith

sum_less : (n : ℕ) (a b : ℕ → ℕ) (f : ℕ) → ((k : ℕ) → k < n → a k ≤ b k) → f < n → a f < b f → sum_below n a < sum_below n b
unfolding sum_below
sum_less zero a b f each lt less = absurd (omega arith)
sum_less (suc n) a b f each lt less =
    let here = each n (omega arith) in
    let rest : sum_below n a ≤ sum_below n b = sum_le n a b (λ k l. each k (omega arith)) in
    elim (cases_eq f n) [
      | inl e ↦ let at : a n < b n = subst (λ k. a k < b k) e less in omega arith
      | inr ne ↦ let below = sum_less n a b f (λ k l. each k (omega arith)) (omega arith) less in omega arith
    ]

-- ---- an event
more_deposited : (b : Bool) (xs ys : List ℕ) → length xs ≤ length (cond b (xs ++ ys) xs)
more_deposited true xs ys = omega (arith, length-append xs ys)
more_deposited false xs ys = omega arith

still_finished : (b fin : Bool) → cond {A = ℕ} (cond b true fin) 0 1 ≤ cond fin 0 1
still_finished true true = omega arith
still_finished true false = omega arith
still_finished false fin = omega arith

lacks : (run : Run) (h : List Event) (e : Event) (f : ℕ) → lacking run (e ∷ h) f ≤ lacking run h f
lacks run h (event.Begin d) f = omega arith
lacks run h (event.Seat b g r) f = omega arith
lacks run h (event.Claim g r ps) f = omega arith
lacks run h (event.Settle g r n) f = let more = more_deposited (eqb g f) (deposited h f) (take n (last_claim h f r)) in omega arith
lacks run h (event.Divide g n c) f = omega arith
lacks run h (event.Leave g r) f = omega arith
lacks run h (event.Collect b g) f = omega arith
lacks run h (event.Uncollect g) f = omega arith
lacks run h (event.Finish g d) f = let still = still_finished (eqb g f) (is_finished h f) in omega arith

remaining_event : (run : Run) (h : List Event) (e : Event) → remaining run (e ∷ h) ≤ remaining run h
remaining_event run h e = sum_le (length run.fragments) (lacking run (e ∷ h)) (lacking run h) (λ f lt. lacks run h e f)

remaining_events : (run : Run) (later h : List Event) → remaining run (later ++ h) ≤ remaining run h
remaining_events run [] h = omega arith
remaining_events run (e ∷ later) h = let rest = remaining_events run later h in let here = remaining_event run (later ++ h) e in omega arith

-- what is added to a history leaves no more to be done
pub remaining_grown : (run : Run) (log later events : List Event) → later ≡ log ++ events → remaining run (reverse later) ≤ remaining run (reverse log)
remaining_grown run log later events e =
    let turned : reverse later ≡ reverse events ++ reverse log = ap reverse e ∙ reverse-append log events in
    subst (λ (h : List Event). remaining run h ≤ remaining run (reverse log)) (sym turned) (remaining_events run (reverse events) (reverse log))

-- ---- a settle
deposits_few : (run : Run) (h : List Event) (f : ℕ) → IsLegal run h → length (deposited h f) ≤ (outline run f).positions
deposits_few run h f legal =
    let fit = deposits_fit (setting run h f) (moves_of h f) (keeps run h legal f).sound.apart in
    subst (λ xs. length xs ≤ (outline run f).positions) (deposits_are h f) fit

own_deposit : (h : List Event) (f r n : ℕ) → deposited (event.Settle f r n ∷ h) f ≡ deposited h f ++ take n (last_claim h f r)
own_deposit h f r n = let a = eq-eqb f f refl in simp a

-- a settle that deposits something
pub remaining_settled : (run : Run) (h : List Event) (f r n : ℕ) → IsLegal run (event.Settle f r n ∷ h) → 0 < n → remaining run (event.Settle f r n ∷ h) < remaining run h
remaining_settled run h f r n legal some =
    let later = event.Settle f r n ∷ h in
    let fits = deposits_few run later f legal in
    let allowed = legal.0.2 in
    let last = ap length (sym (claims_are h f r) ∙ last_is (moves_of h f) r (out_in (moves_of h f) r) refl allowed.1) in
    let is = ap length (own_deposit h f r n) ∙ length-append (deposited h f) (take n (last_claim h f r)) in
    let taken = length-take n (last_claim h f r) in
    let few = allowed.2 in
    sum_less (length run.fragments) (lacking run later) (lacking run h) f (λ g lt. lacks run h (event.Settle f r n) g) legal.0.1 (omega arith)

-- ---- a finish
not_done : (b fin : Bool) → b ≡ true → fin ≡ false → cond {A = ℕ} (cond b true fin) 0 1 < cond fin 0 1
not_done true false e g = omega arith
not_done true true e g = absurd (cc)
not_done false fin e g = absurd (cc)

not_true : (b : Bool) → not b ≡ true → b ≡ false
not_true true e = absurd (cc)
not_true false e = refl

pub remaining_finished : (run : Run) (h : List Event) (f : ℕ) (d : Decision) → IsLegal run (event.Finish f d ∷ h) → remaining run (event.Finish f d ∷ h) < remaining run h
remaining_finished run h f d legal =
    let running = collecting_runs run h legal.1 f legal.0.2 in
    let unfinished = not_true (is_finished h f) (and_parts (is_some (begun h f)) (not (is_finished h f)) running).1 in
    let fewer = not_done (eqb f f) (is_finished h f) (eq-eqb f f refl) unfinished in
    sum_less (length run.fragments) (lacking run (event.Finish f d ∷ h)) (lacking run h) f (λ g lt. lacks run h (event.Finish f d) g) legal.0.1 (omega arith)

-- ---- the calls of a control, whose log is the earliest first
abbrev Left : Run → List Event → ℕ
Left run log = remaining run (reverse log)

turned : (log events : List Event) (later : List Event) → later ≡ log ++ events → reverse later ≡ reverse events ++ reverse log
turned log events later e = ap reverse e ∙ reverse-append log events

pub left_settled : (run : Run) (log later : List Event) (f r n : ℕ) (asked : Option ℕ) (answer : Settled) → IsLegal run (reverse later) → later ≡ log ++ settle_events f r n asked answer → 0 < n → Left run later < Left run log
left_settled run log later f r n asked More legal e some =
    let t = turned log (event.Settle f r n ∷ []) later e in
    subst (λ (h : List Event). remaining run h < remaining run (reverse log)) (sym t) (remaining_settled run (reverse log) f r n (subst (λ (h : List Event). IsLegal run h) t legal) some)
left_settled run log later f r n asked (Cut k) legal e some =
    let cut = event.Divide f (unwrap_or asked 0) k in
    let t = turned log (event.Settle f r n ∷ cut ∷ []) later e in
    let two = subst (λ (h : List Event). IsLegal run h) t legal in
    let less = remaining_settled run (reverse log) f r n two.1 some in
    let more = remaining_event run (event.Settle f r n ∷ reverse log) cut in
    subst (λ (h : List Event). remaining run h < remaining run (reverse log)) (sym t) (omega arith)
left_settled run log later f r n asked Finished legal e some =
    let t = turned log (event.Settle f r n ∷ []) later e in
    subst (λ (h : List Event). remaining run h < remaining run (reverse log)) (sym t) (remaining_settled run (reverse log) f r n (subst (λ (h : List Event). IsLegal run h) t legal) some)

pub left_finished : (run : Run) (log later : List Event) (f : ℕ) (d : Decision) (divide : Option Event) → IsLegal run (reverse later) → later ≡ log ++ finish_events f d divide → Left run later < Left run log
left_finished run log later f d None legal e =
    let t = turned log (event.Finish f d ∷ []) later e in
    subst (λ (h : List Event). remaining run h < remaining run (reverse log)) (sym t) (remaining_finished run (reverse log) f d (subst (λ (h : List Event). IsLegal run h) t legal))
left_finished run log later f d (Some x) legal e =
    let t = turned log (event.Finish f d ∷ x ∷ []) later e in
    let two = subst (λ (h : List Event). IsLegal run h) t legal in
    let less = remaining_finished run (reverse log) f d two.1 in
    let more = remaining_event run (event.Finish f d ∷ reverse log) x in
    subst (λ (h : List Event). remaining run h < remaining run (reverse log)) (sym t) (omega arith)
