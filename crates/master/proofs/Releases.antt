-- What a release does, call by call.
use Rattle.std.proofs.Common.{◌≡◌, ◌≢◌, ℕ, zero, suc, ◌+◌, ◌<◌, ◌≤◌, Bool, true, false, List, [], ◌∷◌, ◌++◌, length, get_or, set, refl, ap, sym, ◌∙◌, subst, append_assoc, append-nil, inl, inr, arith, Option, Some, None, below_more}
use Rattle.std.specs.List.{AllByRecursion}
use Rattle.std.proofs.lemmas.Bool.{cases_eq}
use Rattle.std.proofs.lemmas.List.{get_or-set_same, get_or-set_other, length-set}
use Rattle.rows.specs.declared.value.Value.{Value}
use Rattle.page_partition.specs.Scan.{out_of}
use Rattle.plan_tree.proofs.Elements.{all_append}
use Rattle.adjust_protocol.specs.Answers.{settle_moves}
use Rattle.adjust_protocol.specs.Moves.{IsDue, Makes, Running, is_held}
use Rattle.adjust_protocol.specs.Moves as move
use Rattle.adjust_protocol.specs.Release.{IsReleased, Releases}
use Rattle.adjust_protocol.specs.ReleaseLaws.{emptied, idle_released, release_one, release_settle, releases_none, releases_then, unheld_released}
use Rattle.adjust_protocol.specs.Steps.{calm_none}
use Rattle.adjust_protocol.specs.declared.answers.Settled.{Settled}
use Rattle.adjust_protocol.specs.declared.answers.Settled.TheVariants.{More, Cut, Finished}
use Rattle.history.specs.Boards.{rule_by}
use Rattle.history.specs.declared.event.Event.{Event}
use Rattle.history.specs.declared.event.Event.TheVariants as event
use Rattle.master.specs.Boards.{with_board}
use Rattle.master.specs.Calls.{moved_at, settle_events, settled, settled_at}
use Rattle.master.specs.Kind.{Slotted, scan_of}
use Rattle.master.specs.Ledger.{Ledger, at, no_slot, scans}
use Rattle.master.specs.Release.{AllGaveUp, AreReleased, GaveUp, GaveUpAt, GivesUp, IsFreed}
use Rattle.master.proofs.Needs.{is_rule}

-- ---- one fragment
pub gave_none : (s : Slotted) → GaveUp s s
gave_none s = record { board = releases_none (rule_by s.by_entries) (scan_of s); rest = refl }

pub gave_then : (a b c : Slotted) → GaveUp a b → GaveUp b c → GaveUp a c
gave_then a b c x y =
    let kind : b.by_entries ≡ a.by_entries = ap (λ (z : Slotted). z.by_entries) x.rest in
    record {
      board = releases_then (rule_by a.by_entries) (scan_of a) (scan_of b) (scan_of c) x.board (subst (λ e. Releases (rule_by e) (scan_of b) (scan_of c)) kind y.board);
      rest = y.rest ∙ ap (λ (z : Slotted). with_board z (scan_of c) z.board.outputs) x.rest;
    }

-- ---- one fragment of a control
pub gave_none_at : (f : ℕ) (c : Ledger) → GaveUpAt f c c
gave_none_at f c = record { events = []; log = sym (append-nil c.log); only = tt; size = refl; here = gave_none (at c.slots f); others = λ g ne. refl }

pub gave_then_at : (f : ℕ) (a b c : Ledger) → GaveUpAt f a b → GaveUpAt f b c → GaveUpAt f a c
gave_then_at f a b c x y = record {
  events = x.events ++ y.events;
  log = y.log ∙ ap (λ es. es ++ y.events) x.log ∙ append_assoc a.log x.events y.events;
  only = all_append GivesUp x.events y.events x.only y.only;
  size = y.size ∙ x.size;
  here = gave_then (at a.slots f) (at b.slots f) (at c.slots f) x.here y.here;
  others = λ g ne. y.others g ne ∙ x.others g ne;
}

-- one fragment set to what it gave up to, with these events
pub gave_set : (f : ℕ) (a b : Ledger) (events : List Event) (s : Slotted) → f < length a.slots → b.log ≡ a.log ++ events → AllByRecursion GivesUp events → b.slots ≡ set a.slots f s → GaveUp (at a.slots f) s → GaveUpAt f a b
gave_set f a b events s lt log only slots gave = record {
  events = events;
  log = log;
  only = only;
  size = ap length slots ∙ length-set a.slots f s;
  here = subst (GaveUp (at a.slots f)) (sym (ap (λ xs. at xs f) slots ∙ get_or-set_same a.slots f s no_slot lt)) gave;
  others = λ g ne. ap (λ xs. at xs g) slots ∙ get_or-set_other a.slots f g s no_slot ne;
}

-- ---- all fragments
pub all_gave_none : (c : Ledger) → AllGaveUp c c
all_gave_none c = record { events = []; log = sym (append-nil c.log); only = tt; size = refl; each = λ f lt. gave_none (at c.slots f) }

pub all_gave_then : (f : ℕ) (a b c : Ledger) → AllGaveUp a b → GaveUpAt f b c → AllGaveUp a c
all_gave_then f a b c x y = record {
  events = x.events ++ y.events;
  log = y.log ∙ ap (λ es. es ++ y.events) x.log ∙ append_assoc a.log x.events y.events;
  only = all_append GivesUp x.events y.events x.only y.only;
  size = y.size ∙ x.size;
  each = λ g lt. elim (cases_eq g f) [
    | inl e ↦ subst (λ q. GaveUp (at a.slots q) (at c.slots q)) (sym e) (gave_then (at a.slots f) (at b.slots f) (at c.slots f) (x.each f (subst (λ q. q < length a.slots) e lt)) y.here)
    | inr ne ↦ subst (GaveUp (at a.slots g)) (sym (y.others g ne)) (x.each g lt)
  ];
}

-- ---- the calls
settles_nothing : (f role : ℕ) (asked : Option ℕ) (a : Settled) → AllByRecursion GivesUp (settle_events f role 0 asked a)
settles_nothing f role asked More = (refl, tt)
settles_nothing f role asked (Cut k) = (refl, (tt, tt))
settles_nothing f role asked Finished = (refl, tt)

pub gave_settle : (f role : ℕ) (a b : Ledger) (outputs : List (List (List Value))) (answer : Settled) → f < length a.slots → outputs ≡ [] → b.log ≡ a.log ++ settle_events f role (length outputs) (scans a.slots f).asked answer → b.slots ≡ settled_at a.slots f role outputs answer
    → Makes (rule_by (at a.slots f).by_entries) 64 (scans a.slots f) (settle_moves (scans a.slots f).asked role (length outputs) answer) (scans b.slots f) → GaveUpAt f a b × (out_of (scans b.slots f).scan.marks role ≡ [])
gave_settle f role a b outputs answer lt none log slots made =
    let s = at a.slots f in
    let log' = subst (λ (xs : List (List (List Value))). b.log ≡ a.log ++ settle_events f role (length xs) (scans a.slots f).asked answer) none log in
    let slots' = subst (λ (xs : List (List (List Value))). b.slots ≡ settled_at a.slots f role xs answer) none slots in
    let made' = subst (λ (xs : List (List (List Value))). Makes (rule_by s.by_entries) 64 (scan_of s) (settle_moves (scan_of s).asked role (length xs) answer) (scans b.slots f)) none made in
    let now : scans b.slots f ≡ scan_of (settled s role [] answer) = ap (λ xs. scans xs f) slots' ∙ ap scan_of (get_or-set_same a.slots f (settled s role [] answer) no_slot lt) in (
      gave_set f a b (settle_events f role 0 (scan_of s).asked answer) (settled s role [] answer) lt log' (settles_nothing f role (scan_of s).asked answer) slots'
          (record { board = release_settle (rule_by s.by_entries) role (scan_of s).asked answer (scan_of s) (scan_of (settled s role [] answer)) (subst (λ z. Makes (rule_by s.by_entries) 64 (scan_of s) (settle_moves (scan_of s).asked role 0 answer) z) now made'); rest = refl }),
      emptied (rule_by s.by_entries) (is_rule s.by_entries) role (scan_of s).asked answer (scan_of s) (scans b.slots f) made',
    )

pub gave_leave : (f role : ℕ) (a b : Ledger) → f < length a.slots → role < 64 → is_held (scans a.slots f) role ≡ true → out_of (scans a.slots f).scan.marks role ≡ [] → b.log ≡ a.log ++ event.Leave f role ∷ [] → b.slots ≡ moved_at a.slots f (move.Leave role ∷ [])
    → GaveUpAt f a b × IsFreed b.slots f role
gave_leave f role a b lt below held out log slots =
    let s = at a.slots f in
    let z = move.after (rule_by s.by_entries) (scan_of s) (move.Leave role) in
    let now : scans b.slots f ≡ z = ap (λ xs. scans xs f) slots ∙ ap scan_of (get_or-set_same a.slots f (with_board s z s.board.outputs) no_slot lt) in (
      gave_set f a b (event.Leave f role ∷ []) (with_board s z s.board.outputs) lt log (tt, tt) slots
          (record { board = release_one (rule_by s.by_entries) (scan_of s) z (move.Leave role) tt (((below, held, out), tt), refl); rest = refl }),
      record { out = ap (λ (x : Running). out_of x.scan.marks role) now ∙ out; held = ap (λ (x : Running). is_held x role) now ∙ left_free (scan_of s).held role },
    )
  where
    left_free : (hs : List Bool) (r : ℕ) → get_or (set hs r false) r false ≡ false
    left_free [] r = refl
    left_free (h ∷ hs) zero = refl
    left_free (h ∷ hs) (suc r) = left_free hs r

pub gave_uncollect : (f : ℕ) (a b : Ledger) → f < length a.slots → (IsDue (scans a.slots f) → ⊥) → (scans a.slots f).collecting ≡ true → b.log ≡ a.log ++ event.Uncollect f ∷ [] → b.slots ≡ moved_at a.slots f (move.Uncollect ∷ [])
    → ((role : ℕ) → role < 64 → IsFreed a.slots f role) → GaveUpAt f a b × IsReleased (scans b.slots f)
gave_uncollect f a b lt calm collecting log slots freed =
    let s = at a.slots f in
    let z = move.after (rule_by s.by_entries) (scan_of s) move.Uncollect in
    let now : scans b.slots f ≡ z = ap (λ xs. scans xs f) slots ∙ ap scan_of (get_or-set_same a.slots f (with_board s z s.board.outputs) no_slot lt) in (
      gave_set f a b (event.Uncollect f ∷ []) (with_board s z s.board.outputs) lt log (tt, tt) slots
          (record { board = release_one (rule_by s.by_entries) (scan_of s) z move.Uncollect tt (((calm, collecting), tt), refl); rest = refl }),
      subst IsReleased (sym now) (record {
        idle = λ r l. (freed r l).out;
        unheld = λ r l. (freed r l).held;
        uncollected = refl;
        unasked = calm_none (scan_of s).asked calm (λ r l. (freed r l).out);
      }),
    )

-- where nobody collects the fragment
pub released_at : (slots : List Slotted) (f : ℕ) → (IsDue (scans slots f) → ⊥) → (scans slots f).collecting ≡ false → ((role : ℕ) → role < 64 → IsFreed slots f role) → IsReleased (scans slots f)
released_at slots f calm alone freed = record {
  idle = λ r l. (freed r l).out;
  unheld = λ r l. (freed r l).held;
  uncollected = alone;
  unasked = calm_none (scans slots f).asked calm (λ r l. (freed r l).out);
}

-- ---- what is free stays free
pub freed_kept : (f role : ℕ) (a b : Ledger) → GaveUpAt f a b → IsFreed a.slots f role → IsFreed b.slots f role
freed_kept f role a b x freed =
    let s = at a.slots f in
    record {
      out = idle_released (rule_by s.by_entries) (is_rule s.by_entries) role (scan_of s) (scans b.slots f) x.here.board freed.out;
      held = unheld_released (rule_by s.by_entries) role (scan_of s) (scans b.slots f) x.here.board freed.held;
    }

pub freed_more : (f role : ℕ) (a b : Ledger) → GaveUpAt f a b → ((q : ℕ) → q < role → IsFreed a.slots f q) → IsFreed b.slots f role → (q : ℕ) → q < role + 1 → IsFreed b.slots f q
freed_more f role a b x before here = below_more (IsFreed b.slots f) role (λ q lt. freed_kept f q a b x (before q lt)) here

pub released_more : (f : ℕ) (a b : Ledger) → GaveUpAt f a b → ((g : ℕ) → g < f → IsReleased (scans a.slots g)) → IsReleased (scans b.slots f) → (g : ℕ) → g < f + 1 → IsReleased (scans b.slots g)
released_more f a b x before here = below_more (λ g. IsReleased (scans b.slots g)) f (λ g lt. subst (λ (s : Slotted). IsReleased (scan_of s)) (sym (x.others g (λ e. absurd (omega arith)))) (before g lt)) here
