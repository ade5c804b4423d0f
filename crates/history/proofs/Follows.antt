-- What the boards of a run do is allowed after its history, and they follow the history with that event.
use Rattle.std.proofs.Common.{◌≡◌, ℕ, zero, suc, ◌<◌, ◌≤◌, ◌&&◌, not, Bool, true, false, cond, eqb, List, [], ◌∷◌, ◌++◌, length, reverse, get_or, replicate, ◌≢◌, refl, ap, sym, ◌∙◌, subst, inl, inr, arith, Option, Some, None, is_some}
use Rattle.std.proofs.lemmas.List.{reverse-append}
use Rattle.std.proofs.lemmas.Bool.{cases_eq, eq-eqb, ne_eqb}
use Rattle.page_partition.specs.declared.table.Mark.TheVariants.{Left}
use Rattle.page_partition.specs.Owners.{AllOwned}
use Rattle.page_partition.specs.StrideKept.{stride_kept, stride_length, stride_named, stride_idle, idle_fresh}
use Rattle.page_partition.specs.PageOwnerLaws.{page_cut_is, page_owned_start, page_owned_divided}
use Rattle.range_partition.specs.ShareLaws.{share_kept, share_length, share_named, share_idle}
use Rattle.range_partition.specs.EntryOwnerLaws.{entry_cut_is, entry_owned_start, entry_owned_divided}
use Rattle.adjust_protocol.specs.Moves.{Rule, Running, Move, after, Makes, IsDue, is_held, is_free, holders, wanted}
use Rattle.adjust_protocol.specs.Moves.{is_full as board_full}
use Rattle.adjust_protocol.specs.History as scan
use Rattle.page_partition.specs.Scan.{out_of}
use Rattle.adjust_protocol.specs.Moves as move
use Rattle.adjust_protocol.specs.Steps.{IsRule}
use Rattle.adjust_protocol.specs.Told.{Divides, full_told}
use Rattle.adjust_protocol.specs.HistoryLaws.{Stands, stands_makes, told_start, calm_told, free_told, holders_told, wanted_told}
use Rattle.adjust_protocol.specs.History.{Setting, Allowed, IsDueIn, pending_in, is_free_in, holders_in, wanted_in}
use Rattle.io_cpu_scheduler.specs.declared.load.Decision.{Decision}
use Rattle.io_cpu_scheduler.specs.Decisions.{nothing}
use Rattle.history.specs.declared.event.Event.{Event}
use Rattle.history.specs.declared.event.Event.TheVariants as event
use Rattle.history.specs.Outline.{Run, IsWithin, outline}
use Rattle.history.specs.Projected.{given, begun, earlier_of, is_finished, runs, asks, moves_of}
use Rattle.history.specs.State.{setting, setting_from, owns_by, cut_by, is_full, is_collecting, decision_after, IsOpen, MaySeat}
use Rattle.history.specs.Allowed.{IsLowest, NoneDue, OthersCalm, NoneOpen}
use Rattle.history.specs.Boards.{rule_by, rule_of, BoardIs, Follows, Changed, GivenTo}
use Rattle.history.proofs.RunSound.{keeps}
use Rattle.history.proofs.Degrees.{given_fits}

-- ---- both kinds of division
is_rule : (b : Bool) → IsRule (rule_by b)
is_rule false = record { deposits_kept = stride_kept; positions_kept = stride_length; none_out = stride_idle; named = stride_named }
is_rule true = record { deposits_kept = share_kept; positions_kept = share_length; none_out = share_idle; named = share_named }

divides_by : (b : Bool) (positions degree least most : ℕ) → Divides (rule_by b) (record { positions = positions; degree = degree; least = least; most = most; owns = owns_by b; cut = cut_by b })
divides_by false positions degree least most = record { divided = page_owned_divided positions degree; cut_is = page_cut_is positions }
divides_by true positions degree least most = record { divided = entry_owned_divided positions degree; cut_is = entry_cut_is positions }

owned_start : (b : Bool) (positions degree : ℕ) → 1 ≤ degree → AllOwned (owns_by b positions degree []) 0 ((rule_by b).redivided degree (replicate positions (Left 0)))
owned_start false positions degree low = page_owned_start positions degree low
owned_start true positions degree low = entry_owned_start positions degree low

divides_at : (run : Run) (f d : ℕ) → Divides (rule_of run f) (setting_from run f (Some d))
divides_at run f d = divides_by (outline run f).by_entries (outline run f).positions d run.machine.batch run.machine.batch

-- ---- a move of one board
moved : (run : Run) (f : ℕ) (o : Option ℕ) (d : ℕ) (xs : List Move) (m : Move) (s later : Running) → o ≡ Some d → BoardIs run f o xs s → Makes (rule_of run f) run.machine.batch s (m ∷ []) later
    → Stands (setting_from run f o) (m ∷ xs) later
moved run f None d xs m s later is b made = absurd (cc)
moved run f (Some k) d xs m s later is b made =
    stands_makes (rule_of run f) (setting_from run f (Some k)) (is_rule (outline run f).by_entries) (divides_at run f k) run.machine.batch (omega arith) (omega arith) (m ∷ []) xs s later made b

as_board : (run : Run) (f : ℕ) (o : Option ℕ) (d : ℕ) (xs : List Move) (s : Running) → o ≡ Some d → Stands (setting_from run f o) xs s → BoardIs run f o xs s
as_board run f None d xs s is st = absurd (cc)
as_board run f (Some k) d xs s is st = st

abbrev AllBoards : Run → List Event → (ℕ → Running) → Type 0
AllBoards run h boards = (f : ℕ) → f < length run.fragments → BoardIs run f (begun h f) (moves_of h f) (boards f)

each_local : (run : Run) (h : List Event) (boards later : ℕ → Running) (g d : ℕ) (m : Move) (s : Running) → AllBoards run h boards → begun h g ≡ Some d → g < length run.fragments
    → Makes (rule_of run g) run.machine.batch (boards g) (m ∷ []) s → Changed boards later g s
    → (f : ℕ) → f < length run.fragments → BoardIs run f (begun h f) (cond (eqb g f) (m ∷ []) [] ++ moves_of h f) (later f)
each_local run h boards later g d m s each is within made changed f lt =
    let Is = λ (q : ℕ) (b : Bool) (z : Running). BoardIs run q (begun h q) (cond b (m ∷ []) [] ++ moves_of h q) z in
    elim (cases_eq g f) [
      | inl e ↦
          let st = as_board run g (begun h g) d (m ∷ moves_of h g) s is (moved run g (begun h g) d (moves_of h g) m (boards g) s is (each g within) made) in
          let self : eqb g g ≡ true = eq-eqb g g refl in
          subst (λ (q : ℕ). Is q (eqb g q) (later q)) e (subst (λ (b : Bool). Is g b (later g)) (sym self) (subst (λ (z : Running). Is g true z) (sym changed.here) st))
      | inr ne ↦
          let other = ne_eqb g f ne in
          subst (λ (b : Bool). Is f b (later f)) (sym other) (subst (λ (z : Running). Is f false z) (sym (changed.others f (λ e. ne (sym e)))) (each f lt))
    ]

allowed_move : (run : Run) (h : List Event) (boards : ℕ → Running) (g d : ℕ) (m : Move) (s : Running) → AllBoards run h boards → begun h g ≡ Some d → g < length run.fragments
    → Makes (rule_of run g) run.machine.batch (boards g) (m ∷ []) s → Allowed (setting run h g) (moves_of h g) m
allowed_move run h boards g d m s each is within made = (moved run g (begun h g) d (moves_of h g) m (boards g) s is (each g within) made).legal.0

-- ---- due
calm_of : (run : Run) (f : ℕ) (o : Option ℕ) (xs : List Move) (s : Running) → (o ≡ None → xs ≡ []) → BoardIs run f o xs s → (IsDue s → ⊥) → IsDueIn (setting_from run f o) xs → ⊥
calm_of run f None xs s still b calm due = due.0 (subst (λ (ys : List Move). pending_in (setting_from run f None) ys ≡ None) (sym (still refl)) refl)
calm_of run f (Some k) xs s still b calm due = calm_told (setting_from run f (Some k)) xs s b.told calm due

as_stand : (run : Run) (f : ℕ) (o : Option ℕ) (d : ℕ) (xs : List Move) (s : Running) → o ≡ Some d → BoardIs run f o xs s → Stands (setting_from run f o) xs s
as_stand run f None d xs s is b = absurd (cc)
as_stand run f (Some k) d xs s is b = b

-- ---- the events of one board
pub follows_claim : (run : Run) (h : List Event) (boards later : ℕ → Running) (g d role : ℕ) (ps : List ℕ) (s : Running) → Follows run h boards → NoneDue run h → g < length run.fragments → begun h g ≡ Some d
    → Makes (rule_of run g) run.machine.batch (boards g) (move.Claim role ps ∷ []) s → Changed boards later g s → Follows run (event.Claim g role ps ∷ h) later
follows_claim run h boards later g d role ps s fo whole lt is made changed = record {
  legal = ((whole, lt, allowed_move run h boards g d (move.Claim role ps) s fo.each is lt made), fo.legal);
  each = each_local run h boards later g d (move.Claim role ps) s fo.each is lt made changed;
}

pub follows_settle : (run : Run) (h : List Event) (boards later : ℕ → Running) (g d role count : ℕ) (s : Running) → Follows run h boards → NoneDue run h → g < length run.fragments → begun h g ≡ Some d
    → Makes (rule_of run g) run.machine.batch (boards g) (move.Settle role count ∷ []) s → Changed boards later g s → Follows run (event.Settle g role count ∷ h) later
follows_settle run h boards later g d role count s fo whole lt is made changed = record {
  legal = ((whole, lt, allowed_move run h boards g d (move.Settle role count) s fo.each is lt made), fo.legal);
  each = each_local run h boards later g d (move.Settle role count) s fo.each is lt made changed;
}

pub follows_divide : (run : Run) (h : List Event) (boards later : ℕ → Running) (g d degree cut : ℕ) (s : Running) → Follows run h boards → OthersCalm run h g → g < length run.fragments → begun h g ≡ Some d
    → Makes (rule_of run g) run.machine.batch (boards g) (move.Divide degree cut ∷ []) s → Changed boards later g s → Follows run (event.Divide g degree cut ∷ h) later
follows_divide run h boards later g d degree cut s fo calm lt is made changed = record {
  legal = ((calm, lt, allowed_move run h boards g d (move.Divide degree cut) s fo.each is lt made), fo.legal);
  each = each_local run h boards later g d (move.Divide degree cut) s fo.each is lt made changed;
}

pub follows_leave : (run : Run) (h : List Event) (boards later : ℕ → Running) (g d role : ℕ) (s : Running) → Follows run h boards → OthersCalm run h g → g < length run.fragments → begun h g ≡ Some d
    → Makes (rule_of run g) run.machine.batch (boards g) (move.Leave role ∷ []) s → Changed boards later g s → Follows run (event.Leave g role ∷ h) later
follows_leave run h boards later g d role s fo calm lt is made changed = record {
  legal = ((calm, lt, allowed_move run h boards g d (move.Leave role) s fo.each is lt made), fo.legal);
  each = each_local run h boards later g d (move.Leave role) s fo.each is lt made changed;
}

pub follows_uncollect : (run : Run) (h : List Event) (boards later : ℕ → Running) (g d : ℕ) (s : Running) → Follows run h boards → NoneDue run h → g < length run.fragments → begun h g ≡ Some d
    → Makes (rule_of run g) run.machine.batch (boards g) (move.Uncollect ∷ []) s → Changed boards later g s → Follows run (event.Uncollect g ∷ h) later
follows_uncollect run h boards later g d s fo whole lt is made changed = record {
  legal = ((whole, lt, (allowed_move run h boards g d move.Uncollect s fo.each is lt made).1), fo.legal);
  each = each_local run h boards later g d move.Uncollect s fo.each is lt made changed;
}

pub follows_collect : (run : Run) (h : List Event) (boards later : ℕ → Running) (backend g d : ℕ) (s : Running) → Follows run h boards → NoneDue run h → IsLowest run (IsOpen run h) g → begun h g ≡ Some d
    → Makes (rule_of run g) run.machine.batch (boards g) (move.Collect ∷ []) s → Changed boards later g s → Follows run (event.Collect backend g ∷ h) later
follows_collect run h boards later backend g d s fo whole low is made changed = record {
  legal = ((whole, low), fo.legal);
  each = each_local run h boards later g d move.Collect s fo.each is low.0 made changed;
}

pub follows_seat : (run : Run) (h : List Event) (boards later : ℕ → Running) (backend g d role : ℕ) (s : Running) → Follows run h boards → NoneDue run h → NoneOpen run h → IsLowest run (MaySeat run h) g → begun h g ≡ Some d
    → Makes (rule_of run g) run.machine.batch (boards g) (move.Seat role ∷ []) s → Changed boards later g s → Follows run (event.Seat backend g role ∷ h) later
follows_seat run h boards later backend g d role s fo whole none low is made changed = record {
  legal = ((whole, none, low, allowed_move run h boards g d (move.Seat role) s fo.each is low.0 made), fo.legal);
  each = each_local run h boards later g d (move.Seat role) s fo.each is low.0 made changed;
}

-- ---- what the boards tell of the history
-- nothing is due where no board is
pub whole_of : (run : Run) (h : List Event) (boards : ℕ → Running) → Follows run h boards → ((f : ℕ) → f < length run.fragments → IsDue (boards f) → ⊥) → NoneDue run h
whole_of run h boards fo calm f lt due = calm_of run f (begun h f) (moves_of h f) (boards f) (keeps run h fo.legal f).still (fo.each f lt) (calm f lt) due

pub others_of : (run : Run) (h : List Event) (boards : ℕ → Running) (g : ℕ) → Follows run h boards → ((f : ℕ) → f < length run.fragments → f ≢ g → IsDue (boards f) → ⊥) → OthersCalm run h g
others_of run h boards g fo calm f lt ne due = calm_of run f (begun h f) (moves_of h f) (boards f) (keeps run h fo.legal f).still (fo.each f lt) (calm f lt ne) due

nothing_held : (n r : ℕ) → get_or (replicate n false) r false ≡ false
nothing_held zero r = refl
nothing_held (suc n) zero = refl
nothing_held (suc n) (suc r) = nothing_held n r

-- what is held, out or collecting has begun
pub begun_held : (run : Run) (f : ℕ) (o : Option ℕ) (xs : List Move) (s : Running) (role : ℕ) → BoardIs run f o xs s → is_held s role ≡ true → (d : ℕ) × (o ≡ Some d)
begun_held run f (Some d) xs s role b e = (d, refl)
begun_held run f None xs s role b e = absurd (let h = sym (nothing_held 64 role) ∙ ap (λ (z : Running). is_held z role) (sym b.2) ∙ e in cc)

pub begun_collecting : (run : Run) (f : ℕ) (o : Option ℕ) (xs : List Move) (s : Running) → BoardIs run f o xs s → s.collecting ≡ true → (d : ℕ) × (o ≡ Some d)
begun_collecting run f (Some d) xs s b e = (d, refl)
begun_collecting run f None xs s b e = absurd (let h = ap (λ (z : Running). z.collecting) (sym b.2) ∙ e in cc)

pub begun_out : (run : Run) (f : ℕ) (o : Option ℕ) (xs : List Move) (s : Running) (role : ℕ) → BoardIs run f o xs s → 0 < length (out_of s.scan.marks role) → (d : ℕ) × (o ≡ Some d)
begun_out run f (Some d) xs s role b e = (d, refl)
begun_out run f None xs s role b e = absurd (
    let z = (is_rule (outline run f).by_entries).none_out b.0 role (replicate (outline run f).positions (Left 0)) (idle_fresh role 0 (outline run f).positions) in
    let y = ap (λ (z : Running). length (out_of z.scan.marks role)) b.2 ∙ ap (λ (xs : List ℕ). length xs) z in omega arith)

-- a fragment waits to be collected, or takes a role, where its board says so
pub open_of : (run : Run) (h : List Event) (boards : ℕ → Running) (f d : ℕ) → Follows run h boards → f < length run.fragments → begun h f ≡ Some d
    → (is_full run h f ≡ board_full (boards f).scan.marks) × (is_collecting h f ≡ (boards f).collecting)
open_of run h boards f d fo lt is =
    let st = as_stand run f (begun h f) d (moves_of h f) (boards f) is (fo.each f lt) in
    (full_told (setting run h f) (scan.deposited (moves_of h f)) (boards f).scan.marks st.told.marks.number st.told.marks.size, st.told.collecting)

pub seat_of : (run : Run) (h : List Event) (boards : ℕ → Running) (f d : ℕ) → Follows run h boards → f < length run.fragments → begun h f ≡ Some d
    → ((role : ℕ) → role < 64 → is_free_in (setting run h f) (moves_of h f) role ≡ is_free (boards f) role) × (holders_in (moves_of h f) ≡ holders (boards f)) × (wanted_in (setting run h f) (moves_of h f) ≡ wanted (boards f))
seat_of run h boards f d fo lt is =
    let st = as_stand run f (begun h f) d (moves_of h f) (boards f) is (fo.each f lt) in
    (free_told (setting run h f) (moves_of h f) (boards f) st.told, holders_told (setting run h f) (moves_of h f) (boards f) st.told, wanted_told (setting run h f) (moves_of h f) (boards f) st.told)

-- ---- a finish
given_board : (run : Run) (f : ℕ) (o n : Option ℕ) (fin : Bool) (xs : List Move) (s later : Running) → (o ≡ None → xs ≡ []) → ((k : ℕ) → n ≡ Some k → (1 ≤ k) × (k ≤ 64)) → BoardIs run f o xs s → GivenTo run f o fin n s later
    → BoardIs run f (earlier_of o n) (asks (is_some o && not fin) n ++ xs) later
given_board run f None None fin xs s later still fits b to = (b.0, b.1, to ∙ b.2)
given_board run f None (Some k) fin xs s later still fits b to =
    let fit = fits k refl in
    let start = told_start (rule_of run f) (setting_from run f (Some k)) to.0 (is_rule (outline run f).by_entries) (owned_start (outline run f).by_entries (outline run f).positions k fit.0) fit.0 fit.1 in
    subst (λ (ys : List Move). Stands (setting_from run f (Some k)) ys later) (sym (still refl))
    (subst (λ (z : Running). Stands (setting_from run f (Some k)) [] z) (sym to.1) (record { legal = tt; told = start }))
given_board run f (Some d) n true xs s later still fits b to = subst (λ (z : Running). Stands (setting_from run f (Some d)) xs z) (sym to) b
given_board run f (Some d) None false xs s later still fits b to = subst (λ (z : Running). Stands (setting_from run f (Some d)) xs z) (sym to) b
given_board run f (Some d) (Some k) false xs s later still fits b to = moved run f (Some d) d xs (move.Ask k) s later refl b to

uncollected : (run : Run) (f d : ℕ) (o n : Option ℕ) (xs : List Move) (s : Running) → o ≡ Some d → Stands (setting_from run f o) xs s → BoardIs run f (earlier_of o n) xs s
uncollected run f d None n xs s is st = absurd (cc)
uncollected run f d (Some k) n xs s is st = st

pub follows_finish : (run : Run) (h : List Event) (boards later : ℕ → Running) (g d : ℕ) (e : Decision) → IsWithin run → Follows run h boards → NoneDue run h → g < length run.fragments → begun h g ≡ Some d
    → e ≡ decision_after run (event.Finish g nothing ∷ h)
    → Makes (rule_of run g) run.machine.batch (boards g) (move.Uncollect ∷ []) (later g)
    → ((f : ℕ) → f < length run.fragments → (g ≡ f → ⊥) → GivenTo run f (begun h f) (is_finished h f) (given e f) (boards f) (later f))
    → Follows run (event.Finish g e ∷ h) later
follows_finish run h boards later g d e within fo whole lt is decided made gives = record {
  legal = ((whole, lt, (allowed_move run h boards g d move.Uncollect (later g) fo.each is lt made).1, decided), fo.legal);
  each = λ f l.
      let Is = λ (q : ℕ) (b : Bool). BoardIs run q (earlier_of (begun h q) (given e q)) (cond b (move.Uncollect ∷ []) (asks (runs h q) (given e q)) ++ moves_of h q) (later q) in
      elim (cases_eq g f) [
        | inl i ↦
            let self : eqb g g ≡ true = eq-eqb g g refl in
            let st = moved run g (begun h g) d (moves_of h g) move.Uncollect (boards g) (later g) is (fo.each g lt) made in
            subst (λ (q : ℕ). Is q (eqb g q)) i (subst (λ (b : Bool). Is g b) (sym self) (uncollected run g d (begun h g) (given e g) (move.Uncollect ∷ moves_of h g) (later g) is st))
        | inr ne ↦
            subst (λ (b : Bool). Is f b) (sym (ne_eqb g f ne))
            (given_board run f (begun h f) (given e f) (is_finished h f) (moves_of h f) (boards f) (later f) (keeps run h fo.legal f).still
            (λ k i. given_fits run (event.Finish g nothing ∷ h) f k within (ap (λ z. given z f) (sym decided) ∙ i)) (fo.each f l) (gives f l ne))
      ];
}

-- ---- a settle and the divide that it causes
others_after : (run : Run) (h : List Event) (g : ℕ) (m : Move) → NoneDue run h → (f : ℕ) → f < length run.fragments → f ≢ g → IsDueIn (setting run h f) (cond (eqb g f) (m ∷ []) [] ++ moves_of h f) → ⊥
others_after run h g m whole f lt ne due =
    whole f lt (subst (λ (b : Bool). IsDueIn (setting run h f) (cond b (m ∷ []) [] ++ moves_of h f)) (ne_eqb g f (λ e. ne (sym e))) due)

pub follows_cut : (run : Run) (h : List Event) (boards later : ℕ → Running) (g d role count degree cut : ℕ) (s : Running) → Follows run h boards → NoneDue run h → g < length run.fragments → begun h g ≡ Some d
    → Makes (rule_of run g) run.machine.batch (boards g) (move.Settle role count ∷ move.Divide degree cut ∷ []) s → Changed boards later g s → Follows run (event.Divide g degree cut ∷ event.Settle g role count ∷ h) later
follows_cut run h boards later g d role count degree cut s fo whole lt is made changed =
    let mid = after (rule_of run g) (boards g) (move.Settle role count) in
    let between : ℕ → Running = λ f. cond (eqb f g) mid (boards f) in
    let self : eqb g g ≡ true = eq-eqb g g refl in
    let first : Changed boards between g mid = record { here = ap (λ b. cond b mid (boards g)) self; others = λ f ne. ap (λ b. cond b mid (boards f)) (ne_eqb f g ne) } in
    let second : Changed between later g s = record { here = changed.here; others = λ f ne. changed.others f ne ∙ sym (first.others f ne) } in
    let settled = follows_settle run h boards between g d role count mid fo whole lt is ((made.0.0, tt), refl) first in
    let made' : Makes (rule_of run g) run.machine.batch (between g) (move.Divide degree cut ∷ []) s = subst (λ (z : Running). Makes (rule_of run g) run.machine.batch z (move.Divide degree cut ∷ []) s) (sym first.here) ((made.0.1.0, tt), made.1) in
    follows_divide run (event.Settle g role count ∷ h) between later g d degree cut s settled (others_after run h g (move.Settle role count) whole) lt is made' second

-- only a claim depends on the most that a claim may take
settle_any : (rule : Rule) (a b : ℕ) (s later : Running) (role count : ℕ) → Makes rule a s (move.Settle role count ∷ []) later → Makes rule b s (move.Settle role count ∷ []) later
settle_any rule a b s later role count m = m

cut_any : (rule : Rule) (a b : ℕ) (s later : Running) (role count degree cut : ℕ) → Makes rule a s (move.Settle role count ∷ move.Divide degree cut ∷ []) later → Makes rule b s (move.Settle role count ∷ move.Divide degree cut ∷ []) later
cut_any rule a b s later role count degree cut m = m

-- a log is written in order
log_push : (events : List Event) (e : Event) → reverse (events ++ e ∷ []) ≡ e ∷ reverse events
log_push events e = reverse-append events (e ∷ [])

-- ---- a finish whose decision asks a board that is divided at once
still_begun : (o n : Option ℕ) (d : ℕ) → o ≡ Some d → earlier_of o n ≡ Some d
still_begun None n d is = absurd (cc)
still_begun (Some k) n d is = is

asked_board : (run : Run) (f : ℕ) (o n : Option ℕ) (fin : Bool) (d k : ℕ) (s later : Running) → o ≡ Some d → fin ≡ false → n ≡ Some k → Makes (rule_of run f) run.machine.batch s (move.Ask k ∷ []) later → GivenTo run f o fin n s later
asked_board run f None n fin d k s later is ran gives made = absurd (cc)
asked_board run f (Some d') n true d k s later is ran gives made = absurd (cc)
asked_board run f (Some d') None false d k s later is ran gives made = absurd (cc)
asked_board run f (Some d') (Some j) false d k s later is ran gives made =
    let same : k ≡ j = (let z : j ≡ k = cc in sym z) in
    subst (λ (i : ℕ). Makes (rule_of run f) run.machine.batch s (move.Ask i ∷ []) later) same made

pub follows_finish_cut : (run : Run) (h : List Event) (boards later : ℕ → Running) (g d c d' k cut : ℕ) (e : Decision) → IsWithin run → Follows run h boards → NoneDue run h → g < length run.fragments → begun h g ≡ Some d
    → e ≡ decision_after run (event.Finish g nothing ∷ h)
    → Makes (rule_of run g) run.machine.batch (boards g) (move.Uncollect ∷ []) (later g)
    → c < length run.fragments → c ≢ g → begun h c ≡ Some d' → is_finished h c ≡ false → given e c ≡ Some k
    → Makes (rule_of run c) run.machine.batch (boards c) (move.Ask k ∷ move.Divide k cut ∷ []) (later c)
    → ((f : ℕ) → f < length run.fragments → (g ≡ f → ⊥) → f ≢ c → GivenTo run f (begun h f) (is_finished h f) (given e f) (boards f) (later f))
    → ((f : ℕ) → f < length run.fragments → f ≢ c → IsDue (later f) → ⊥)
    → Follows run (event.Divide c k cut ∷ event.Finish g e ∷ h) later
follows_finish_cut run h boards later g d c d' k cut e within fo whole lt is decided made lc apart is' ran gives cuts others calm =
    let mid = after (rule_of run c) (boards c) (move.Ask k) in
    let between : ℕ → Running = λ f. cond (eqb f c) mid (later f) in
    let self : eqb c c ≡ true = eq-eqb c c refl in
    let here : between c ≡ mid = ap (λ b. cond b mid (later c)) self in
    let there : (f : ℕ) → f ≢ c → between f ≡ later f = λ f ne. ap (λ b. cond b mid (later f)) (ne_eqb f c ne) in
    let made' : Makes (rule_of run g) run.machine.batch (boards g) (move.Uncollect ∷ []) (between g) =
    subst (λ (z : Running). Makes (rule_of run g) run.machine.batch (boards g) (move.Uncollect ∷ []) z) (sym (there g (λ i. apart (sym i)))) made in
    let each : (f : ℕ) → f < length run.fragments → (g ≡ f → ⊥) → GivenTo run f (begun h f) (is_finished h f) (given e f) (boards f) (between f) = λ f l ne. elim (cases_eq f c) [
      | inl i ↦
          subst (λ (q : ℕ). GivenTo run q (begun h q) (is_finished h q) (given e q) (boards q) (between q)) (sym i)
          (subst (λ (z : Running). GivenTo run c (begun h c) (is_finished h c) (given e c) (boards c) z) (sym here)
          (asked_board run c (begun h c) (given e c) (is_finished h c) d' k (boards c) mid is' ran gives ((cuts.0.0, tt), refl)))
      | inr other ↦ subst (λ (z : Running). GivenTo run f (begun h f) (is_finished h f) (given e f) (boards f) z) (sym (there f other)) (others f l ne other)
    ] in
    let first = follows_finish run h boards between g d e within fo whole lt is decided made' each in
    let quiet = others_of run (event.Finish g e ∷ h) between c first (λ f l ne due. calm f l ne (subst IsDue (there f ne) due)) in
    let cuts' : Makes (rule_of run c) run.machine.batch (between c) (move.Divide k cut ∷ []) (later c) =
    subst (λ (z : Running). Makes (rule_of run c) run.machine.batch z (move.Divide k cut ∷ []) (later c)) (sym here) ((cuts.0.1.0, tt), cuts.1) in
    follows_divide run (event.Finish g e ∷ h) between later c d' k cut (later c) first quiet lc (still_begun (begun h c) (given e c) d' is') cuts'
    (record { here = refl; others = λ f ne. sym (there f ne) })

-- ---- the begin
pub follows_begin : (run : Run) (boards later : ℕ → Running) (d : Decision) → IsWithin run → d ≡ decision_after run []
    → ((f : ℕ) → f < length run.fragments → BoardIs run f None [] (boards f)) → ((f : ℕ) → f < length run.fragments → GivenTo run f None false (given d f) (boards f) (later f))
    → Follows run (event.Begin d ∷ []) later
follows_begin run boards later d within is fresh_all gives = record {
  legal = ((refl, is), tt);
  each = λ f l. given_board run f None (given d f) false [] (boards f) (later f) (λ e. refl) (λ k i. given_fits run [] f k within (ap (λ z. given z f) (sym is) ∙ i)) (fresh_all f l) (gives f l);
}
