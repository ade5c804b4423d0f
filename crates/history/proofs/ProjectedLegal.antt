-- The moves of each fragment of a legal history are a legal history of its scan.
use Rattle.std.proofs.Common.{◌≡◌, ℕ, ◌<◌, ◌≤◌, ◌&&◌, not, Bool, true, false, cond, eqb, List, [], ◌∷◌, ◌++◌, length, refl, ap, sym, ◌∙◌, subst, arith, Option, Some, None, is_some, unwrap_or}
use Rattle.std.proofs.lemmas.Bool.{eqb-true}
use Rattle.page_partition.specs.Counts.{sum_below, MakeUp}
use Rattle.page_partition.specs.Owners.{Divided}
use Rattle.adjust_protocol.specs.Moves.{Move}
use Rattle.adjust_protocol.specs.Moves as move
use Rattle.adjust_protocol.specs.History as scan
use Rattle.adjust_protocol.specs.History.{Setting, Allowed, IsDueIn, is_collecting_in}
use Rattle.io_cpu_scheduler.specs.Decisions.{nothing}
use Rattle.history.specs.declared.event.Event.{Event}
use Rattle.history.specs.declared.event.Event.TheVariants as event
use Rattle.history.specs.Outline.{Run, IsWithin, outline}
use Rattle.history.specs.Projected.{given, begun, earlier_of, is_finished, asks, moves_of, deposited}
use Rattle.history.specs.State.{setting, setting_from, owns_by, out, left}
use Rattle.history.specs.Allowed.{IsLegal, Permits}
use Rattle.history.proofs.RunSound.{KeepsAt, keeps, late_collecting}
use Rattle.history.proofs.Projections.{deposits_are}
use Rattle.history.proofs.Degrees.{given_fits}
use Rattle.history.proofs.Owners.{DividesFit, LatestLacks, one_page_owner, one_entry_owner}
use Rattle.history.proofs.MadeUp.{divides_fit, latest_lacks, made_up}

abbrev LegalAt : Run → List Event → ℕ → Type 0
LegalAt run h f = scan.IsLegal (setting run h f) (moves_of h f)

legal_local : (S : Setting) (xs : List Move) (m : Move) (b : Bool) → (b ≡ true → Allowed S xs m) → scan.IsLegal S xs → scan.IsLegal S (cond b (m ∷ []) [] ++ xs)
legal_local S xs m true a legal = (a refl, legal)
legal_local S xs m false a legal = legal

legal_at : (run : Run) (h : List Event) (g : ℕ) (m : Move) → Allowed (setting run h g) (moves_of h g) m → (f : ℕ) → LegalAt run h f
    → scan.IsLegal (setting run h f) (cond (eqb g f) (m ∷ []) [] ++ moves_of h f)
legal_at run h g m a f legal =
    legal_local (setting run h f) (moves_of h f) m (eqb g f) (λ e. subst (λ (q : ℕ). Allowed (setting run h q) (moves_of h q) m) (eqb-true g f e) a) legal

legal_finish : (run : Run) (f : ℕ) (o n : Option ℕ) (fin b : Bool) (xs : List Move) → (b ≡ true → is_collecting_in xs ≡ true) → (IsDueIn (setting_from run f o) xs → ⊥)
    → ((k : ℕ) → n ≡ Some k → (1 ≤ k) × (k ≤ 64)) → (o ≡ None → xs ≡ []) → scan.IsLegal (setting_from run f o) xs
    → scan.IsLegal (setting_from run f (earlier_of o n)) (cond b (move.Uncollect ∷ []) (asks (is_some o && not fin) n) ++ xs)
legal_finish run f (Some d) n fin true xs c calm fits still legal = ((calm, c refl), legal)
legal_finish run f (Some d) n true false xs c calm fits still legal = legal
legal_finish run f (Some d) None false false xs c calm fits still legal = legal
legal_finish run f (Some d) (Some k) false false xs c calm fits still legal = let fit = fits k refl in ((calm, fit.0, fit.1), legal)
legal_finish run f None n fin true xs c calm fits still legal = absurd (late_collecting xs (c refl) (still refl))
legal_finish run f None n fin false xs c calm fits still legal = subst (scan.IsLegal (setting_from run f n)) (sym (still refl)) tt

legal_event : (run : Run) (h : List Event) (e : Event) → IsWithin run → Permits run h e → (f : ℕ) → f < length run.fragments → KeepsAt run h f → LegalAt run h f → LegalAt run (e ∷ h) f
legal_event run h (event.Begin d) w a f lt k legal = subst (λ (xs : List Event). LegalAt run (event.Begin d ∷ xs) f) (sym a.0) tt
legal_event run h (event.Seat b g role) w a f lt k legal = legal_at run h g (move.Seat role) a.3 f legal
legal_event run h (event.Claim g role ps) w a f lt k legal = legal_at run h g (move.Claim role ps) a.2 f legal
legal_event run h (event.Settle g role count) w a f lt k legal = legal_at run h g (move.Settle role count) a.2 f legal
legal_event run h (event.Divide g degree cut) w a f lt k legal = legal_at run h g (move.Divide degree cut) a.2 f legal
legal_event run h (event.Leave g role) w a f lt k legal = legal_at run h g (move.Leave role) a.2 f legal
legal_event run h (event.Collect b g) w a f lt k legal = legal_at run h g move.Collect (a.0 g a.1.0, a.1.1.1, a.1.1.2) f legal
legal_event run h (event.Uncollect g) w a f lt k legal = legal_at run h g move.Uncollect (a.0 g a.1, a.2) f legal
legal_event run h (event.Finish g d) w a f lt k legal =
    legal_finish run f (begun h f) (given d f) (is_finished h f) (eqb g f) (moves_of h f)
    (λ e. subst (λ (q : ℕ). is_collecting_in (moves_of h q) ≡ true) (eqb-true g f e) a.2)
    (a.0 f lt) (λ n e. given_fits run (event.Finish g nothing ∷ h) f n w (ap (λ d. given d f) (sym a.3) ∙ e)) k.still legal

pub projected : (run : Run) (h : List Event) → IsWithin run → IsLegal run h → (f : ℕ) → f < length run.fragments → LegalAt run h f
projected run [] w legal f lt = tt
projected run (e ∷ h) w legal f lt = legal_event run h e w legal.0 f lt (keeps run h legal.1 f) (projected run h w legal.1 f lt)

-- ---- the degree of the start
abbrev pub StartFits : Option ℕ → Type 0
StartFits o = (1 ≤ unwrap_or o 1) × (unwrap_or o 1 ≤ 64)

earlier_fits : (o n : Option ℕ) → StartFits o → ((k : ℕ) → n ≡ Some k → (1 ≤ k) × (k ≤ 64)) → StartFits (earlier_of o n)
earlier_fits (Some k) n h fits = h
earlier_fits None None h fits = h
earlier_fits None (Some k) h fits = fits k refl

pub start_fits : (run : Run) (h : List Event) → IsWithin run → IsLegal run h → (f : ℕ) → StartFits (begun h f)
start_fits run [] w legal f = (omega arith, omega arith)
start_fits run (event.Begin d ∷ h) w legal f =
    earlier_fits (begun h f) (given d f) (start_fits run h w legal.1 f) (λ k e. given_fits run [] f k w (ap (λ d. given d f) (sym legal.0.1) ∙ e))
start_fits run (event.Seat b g role ∷ h) w legal f = start_fits run h w legal.1 f
start_fits run (event.Claim g role ps ∷ h) w legal f = start_fits run h w legal.1 f
start_fits run (event.Settle g role count ∷ h) w legal f = start_fits run h w legal.1 f
start_fits run (event.Divide g degree cut ∷ h) w legal f = start_fits run h w legal.1 f
start_fits run (event.Leave g role ∷ h) w legal f = start_fits run h w legal.1 f
start_fits run (event.Collect b g ∷ h) w legal f = start_fits run h w legal.1 f
start_fits run (event.Uncollect g ∷ h) w legal f = start_fits run h w legal.1 f
start_fits run (event.Finish g d ∷ h) w legal f =
    earlier_fits (begun h f) (given d f) (start_fits run h w legal.1 f) (λ k e. given_fits run (event.Finish g nothing ∷ h) f k w (ap (λ d. given d f) (sym legal.0.3) ∙ e))

-- ---- made up
one_owner : (by_entries : Bool) (positions n : ℕ) (ds : List Divided) (p : ℕ) → (1 ≤ n) × (n ≤ 64) → DividesFit ds → p < positions → LatestLacks p ds
    → sum_below 64 (λ r. cond (owns_by by_entries positions n ds r p) 1 0) ≡ 1
one_owner false positions n ds p fit h lt lacks = one_page_owner positions n ds p fit h
one_owner true positions n ds p fit h lt lacks = one_entry_owner positions n ds p fit h lt lacks

pub made_up_at : (run : Run) (h : List Event) → IsWithin run → IsLegal run h → (f : ℕ) → f < length run.fragments
    → MakeUp (outline run f).positions (deposited h f) (out h f) (left run h f)
made_up_at run h w legal f lt =
    let S = setting run h f in
    let xs = moves_of h f in
    let k = keeps run h legal f in
    let one = projected run h w legal f lt in
    subst (λ (ds : List ℕ). MakeUp (outline run f).positions ds (out h f) (left run h f)) (deposits_are h f)
    (made_up S xs k.sound.apart (λ p l lacks. one_owner (outline run f).by_entries (outline run f).positions S.degree (scan.divides_in xs) p (start_fits run h w legal f) (divides_fit S xs one) l (latest_lacks xs p lacks)))
