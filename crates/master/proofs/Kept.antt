-- What one board does keeps a control as it must be.
use Rattle.std.proofs.Common.{◌≡◌, ◌≢◌, ℕ, zero, suc, ◌+◌, ◌-◌, ◌*◌, ◌<◌, ◌≤◌, Bool, not, ◌&&◌, List, [], ◌∷◌, ◌++◌, length, reverse, get_or, set, refl, ap, sym, ◌∙◌, subst, inl, inr, arith, true, false, cond, is_some, Option, Some, None, unwrap_or}
use Rattle.std.specs.List.{list_all}
use Rattle.std.proofs.lemmas.Bool.{cases_eq}
use Rattle.std.proofs.lemmas.List.{get_or_default, reverse-append, get_or-set_same, get_or-set_other, length-set, set-get_or}
use Rattle.std.proofs.lemmas.List.Sums.{sum_by-set, get_or-le-sum_by}
use Rattle.rows.specs.declared.value.Value.{Value}
use Rattle.rows.specs.declared.plain.Machine.{Machine}
use Rattle.page_partition.specs.Scan.{out_of, given_back}
use Rattle.adjust_protocol.specs.Moves.{Rule, Running, Move, Makes, Allows, IsDue, after, is_held, is_full, holders, wanted, MayClaim}
use Rattle.adjust_protocol.specs.Moves as move
use Rattle.adjust_protocol.specs.Answers.{SettleAnswer, settle_moves, claim_moves}
use Rattle.adjust_protocol.specs.Outputs.{put_outputs}
use Rattle.adjust_protocol.specs.declared.answers.Claimed.{Claimed}
use Rattle.adjust_protocol.specs.declared.answers.Claimed.TheVariants as claimed
use Rattle.adjust_protocol.specs.declared.answers.Settled.{Settled}
use Rattle.adjust_protocol.specs.declared.answers.Settled.TheVariants.{More, Cut, Finished}
use Rattle.io_cpu_scheduler.specs.Sensible.{HasPart}
use Rattle.history.specs.Allowed.{NoneDue}
use Rattle.history.specs.declared.event.Event.{Event}
use Rattle.history.specs.declared.event.Event.TheVariants as event
use Rattle.history.specs.Outline.{Run, outline}
use Rattle.history.specs.Projected.{begun, is_finished, moves_of}
use Rattle.history.specs.State.{finishes}
use Rattle.history.specs.Boards.{Follows, Changed, rule_by, rule_of}
use Rattle.history.proofs.Follows.{follows_leave, follows_settle, follows_cut, follows_claim, follows_uncollect, follows_collect, follows_seat, begun_held, begun_out, begun_collecting, others_of, whole_of}
use Rattle.master.specs.Kind.{Slotted, is_ended, is_running, is_waiting, scan_of}
use Rattle.master.specs.Boards.{with_board, collected_as}
use Rattle.master.specs.Calls.{moved, settle_events}
use Rattle.master.specs.Content.{AreOuts, HasContent}
use Rattle.master.specs.Meaning.{Meaning, run_of}
use Rattle.master.specs.Ledger.{AreFed, Ledger, IsSlotOf, Fits, HasAsks, IsKept, Tools, at, need, needs, no_slot, outs_below, scans, unended}
use Rattle.master.proofs.Contents.{content_put, content_same}
use Rattle.master.proofs.Needs.{held_less, held_more, inside_held, is_rule, needs_set, none_back, outs-given_back, outs_claim, outs_divide}

abbrev Outputs : Type 0
Outputs = List (Option (List (List Value)))

-- one fragment set
pub changed_set : (slots : List Slotted) (g : ℕ) (s : Slotted) → g < length slots → Changed (scans slots) (scans (set slots g s)) g (scan_of s)
changed_set slots g s lt = record {
  here = ap scan_of (get_or-set_same slots g s no_slot lt);
  others = λ f ne. ap scan_of (get_or-set_other slots g f s no_slot ne);
}

-- what holds of each fragment holds after one is set
pub set_all : (P : ℕ → Slotted → Type 0) (slots : List Slotted) (g : ℕ) (s : Slotted) → g < length slots → ((f : ℕ) → f < length slots → P f (at slots f)) → P g s → (f : ℕ) → f < length (set slots g s) → P f (at (set slots g s) f)
set_all P slots g s lt all here f l =
    elim (cases_eq f g) [
      | inl e ↦ subst (λ q. P q (at (set slots g s) q)) (sym e) (subst (P g) (sym (get_or-set_same slots g s no_slot lt)) here)
      | inr ne ↦ subst (P f) (sym (get_or-set_other slots g f s no_slot ne)) (all f (omega (arith, length-set slots g s)))
    ]

-- what was looked up is the fragment
pub looked : (slots : List Slotted) (g : ℕ) (s : Slotted) → g < length slots → s ≡ get_or slots g s → s ≡ at slots g
looked slots g s lt is = is ∙ get_or_default slots g s no_slot lt

-- where as many are finished, as many lists of them are
same_tests : (t u : ℕ → Bool) → ((i : ℕ) → t i ≡ u i) → (xs : List ℕ) → list_all t xs ≡ list_all u xs
same_tests t u same [] = refl
same_tests t u same (x ∷ xs) = ap (λ b. b && list_all t xs) (same x) ∙ ap (λ b. u x && b) (same_tests t u same xs)

ended_set : (slots : List Slotted) (g i : ℕ) (s : Slotted) → g < length slots → is_ended s ≡ is_ended (at slots g) → is_ended (at slots i) ≡ is_ended (at (set slots g s) i)
ended_set slots g i s lt same =
    elim (cases_eq i g) [
      | inl e ↦ ap (λ q. is_ended (at slots q)) e ∙ sym same ∙ sym (ap is_ended (get_or-set_same slots g s no_slot lt)) ∙ ap (λ q. is_ended (at (set slots g s) q)) (sym e)
      | inr ne ↦ sym (ap is_ended (get_or-set_other slots g i s no_slot ne))
    ]

pub fed_set : (slots : List Slotted) (g : ℕ) (s : Slotted) (xs : List ℕ) → g < length slots → is_ended s ≡ is_ended (at slots g) → AreFed slots xs → AreFed (set slots g s) xs
fed_set slots g s xs lt same fed = sym (same_tests (λ i. is_ended (at slots i)) (λ i. is_ended (at (set slots g s) i)) (λ i. ended_set slots g i s lt same) xs) ∙ fed

-- events that begin and finish no fragment
pub record IsLocal (h later : List Event) : Type 0 where
  pub begun_as : (f : ℕ) → begun later f ≡ begun h f
  pub finished_as : (f : ℕ) → is_finished later f ≡ is_finished h f
  pub finishes_as : finishes later ≡ finishes h
  pub some : later ≢ []

-- the board of one fragment changed, by events that begin and finish none
pub kept_board : (m : Meaning) (log later : List Event) (h : List Event) (slots : List Slotted) (t : Tools) (g needed spare : ℕ) (z : Running) (o : Outputs) → IsKept m log slots t → g < length slots → HasContent m g (with_board (at slots g) z o)
    → reverse later ≡ h → IsLocal (reverse log) h → (IsDue z → ⊥) → HasAsks (length slots) t.finishes (with_board (at slots g) z o) → Follows (run_of m) h (scans (set slots g (with_board (at slots g) z o)))
    → need (with_board (at slots g) z o) + t.needed ≤ need (at slots g) + needed → needed ≤ spare
    → IsKept m later (set slots g (with_board (at slots g) z o)) (record t { needed = needed; spare = spare })
kept_board m log later h slots t g needed spare z o k lt content is local calm asks follows change room =
    let s = with_board (at slots g) z o in
    let size = length-set slots g s in
    let of : (f : ℕ) → f < length slots → IsSlotOf (run_of m) (reverse later) f (at slots f) = λ f l. record {
      kind = (k.fits.each f l).kind;
      inputs = (k.fits.each f l).inputs;
      load = (k.fits.each f l).load;
      has_begun = ap is_some (ap (λ xs. begun xs f) is ∙ local.begun_as f) ∙ (k.fits.each f l).has_begun;
      has_ended = ap (λ xs. is_finished xs f) is ∙ local.finished_as f ∙ (k.fits.each f l).has_ended;
    } in
    let each = set_all (IsSlotOf (run_of m) (reverse later)) slots g s lt of
    (record { kind = (of g lt).kind; inputs = (of g lt).inputs; load = (of g lt).load; has_begun = (of g lt).has_begun; has_ended = (of g lt).has_ended }) in
    let calms = set_all (λ f x. IsDue (scan_of x) → ⊥) slots g s lt k.calm calm in
    let now : Follows (run_of m) (reverse later) (scans (set slots g s)) = subst (λ xs. Follows (run_of m) xs (scans (set slots g s))) (sym is) follows in
    record {
      fits = record {
        started = λ e. local.some (sym is ∙ ap reverse e);
        size = size ∙ k.fits.size;
        each = each;
        follows = now;
        whole = whole_of (run_of m) (reverse later) (scans (set slots g s)) now (λ f l. calms f (omega (arith, size, k.fits.size)));
        content = set_all (HasContent m) slots g s lt k.fits.content content;
      };
      within = k.within;
      ordered = k.ordered;
      small = omega (arith, size, k.small);
      calm = calms;
      asks = subst (λ n. (f : ℕ) → f < length (set slots g s) → HasAsks n t.finishes (at (set slots g s) f)) (sym size) (set_all (λ f x. HasAsks (length slots) t.finishes x) slots g s lt k.asks asks);
      named = set_all (λ f x. is_running x ≡ true → HasPart t.decision f) slots g s lt k.named (k.named g lt);
      fed = set_all (λ f x. is_running x ≡ true → AreFed (set slots g s) x.inputs) slots g s lt (λ f l r. fed_set slots g s (at slots f).inputs lt refl (k.fed f l r)) (λ r. fed_set slots g s (at slots g).inputs lt refl (k.fed g lt r));
      in_order = k.in_order;
      counted = omega (arith, needs_set slots g s lt, k.counted, change);
      kept = room;
      finished = k.finished ∙ sym (ap finishes is ∙ local.finishes_as);
      unended = omega (arith, k.unended, size, sum_by-set (λ (x : Slotted). cond {A = ℕ} (is_ended x) 0 1) slots g s no_slot lt);
      lists = (omega (arith, size, k.lists.0), omega (arith, size, k.lists.1));
      machine = k.machine;
      steps = k.steps;
      answers = k.answers;
    }

-- the fragment has begun, at some degree
abbrev HasBegun : Meaning → List Event → ℕ → Type 0
HasBegun m log g = (d : ℕ) × (begun (reverse log) g ≡ Some d)

pub within_run : (m : Meaning) (log : List Event) (slots : List Slotted) (t : Tools) (g : ℕ) → IsKept m log slots t → g < length slots → g < length (run_of m).fragments
within_run m log slots t g k lt = let e = k.fits.size in omega arith

none_due : (m : Meaning) (log : List Event) (slots : List Slotted) (t : Tools) → IsKept m log slots t → NoneDue (run_of m) (reverse log)
none_due m log slots t k = k.fits.whole

-- a move by the rule of the board is one by the rule of the run
pub by_run : (m : Meaning) (log : List Event) (slots : List Slotted) (t : Tools) (g batch : ℕ) (moves : List Move) (z : Running) → IsKept m log slots t → g < length slots
    → Makes (rule_by (at slots g).by_entries) batch (scans slots g) moves z → Makes (rule_of (run_of m) g) batch (scans slots g) moves z
by_run m log slots t g batch moves z k lt made = subst (λ b. Makes (rule_by b) batch (scans slots g) moves z) (k.fits.each g lt).kind made

pub need_some : (m : Meaning) (log : List Event) (slots : List Slotted) (t : Tools) (g : ℕ) → IsKept m log slots t → g < length slots → need (at slots g) ≤ t.needed
need_some m log slots t g k lt = omega (arith, get_or-le-sum_by need slots g no_slot lt, k.counted)

pub need_held : (s : Slotted) (role : ℕ) → is_held (scan_of s) role ≡ true → 1 ≤ need s
need_held s role held = let h = held_less (scan_of s) role (inside_held (scan_of s) role held) held in omega arith

pub need_out : (s : Slotted) (role : ℕ) → role < 64 → 0 < length (out_of (scan_of s).scan.marks role) → 2 ≤ need s
need_out s role lt some = let h = outs-given_back role 0 (scan_of s).scan.marks lt some in omega arith

pub need_collecting : (s : Slotted) → (scan_of s).collecting ≡ true → 2 ≤ need s
need_collecting s c = let h = ap (λ (b : Bool). cond {A = ℕ} b 1 0) c in omega arith

-- ---- leave
pub kept_leave : (m : Meaning) (log : List Event) (slots : List Slotted) (t : Tools) (g role needed spare : ℕ) (z : Running) → IsKept m log slots t → g < length slots → is_held (scans slots g) role ≡ true
    → Makes (rule_by (at slots g).by_entries) 64 (scans slots g) (move.Leave role ∷ []) z → t.needed ≤ needed + 1 → needed ≤ spare
    → IsKept m (log ++ event.Leave g role ∷ []) (set slots g (with_board (at slots g) z (at slots g).board.outputs)) (record t { needed = needed; spare = spare })
kept_leave m log slots t g role needed spare z k lt held made change room =
    let run = run_of m in
    let in_run = within_run m log slots t g k lt in
    let s = with_board (at slots g) z (at slots g).board.outputs in
    let began = begun_held run g (begun (reverse log) g) (moves_of (reverse log) g) (scans slots g) role (k.fits.follows.each g in_run) held in
    let made' = by_run m log slots t g 64 (move.Leave role ∷ []) z k lt made in
    let calm : IsDue z → ⊥ = λ due. k.calm g lt (subst IsDue made.1 due) in
    let less = held_less (scans slots g) role (inside_held (scans slots g) role held) held in
    kept_board m log (log ++ event.Leave g role ∷ []) (event.Leave g role ∷ reverse log) slots t g needed spare z (at slots g).board.outputs k lt (content_same m g (at slots g) _ (k.fits.content g lt)) (reverse-append log (event.Leave g role ∷ []))
    (record { begun_as = λ f. refl; finished_as = λ f. refl; finishes_as = refl; some = λ e. absurd (cc) }) calm
    (subst (λ (x : Running). HasAsks (length slots) t.finishes (with_board (at slots g) x (at slots g).board.outputs)) (sym made.1) (k.asks g lt))
    (follows_leave run (reverse log) (scans slots) (scans (set slots g s)) g began.0 role z k.fits.follows (λ f l ne. none_due m log slots t k f l) in_run began.1 made' (changed_set slots g s lt))
    (subst (λ (x : Running). need (with_board (at slots g) x (at slots g).board.outputs) + t.needed ≤ need (at slots g) + needed) (sym made.1) (omega arith)) room

-- ---- uncollect
pub kept_uncollect : (m : Meaning) (log : List Event) (slots : List Slotted) (t : Tools) (g needed spare : ℕ) → IsKept m log slots t → g < length slots → (scans slots g).collecting ≡ true → t.needed ≤ needed + 2 → needed ≤ spare
    → IsKept m (log ++ event.Uncollect g ∷ []) (set slots g (with_board (at slots g) (collected_as false (scans slots g)) (at slots g).board.outputs)) (record t { needed = needed; spare = spare })
kept_uncollect m log slots t g needed spare k lt collecting change room =
    let run = run_of m in
    let in_run = within_run m log slots t g k lt in
    let z = collected_as false (scans slots g) in
    let s = with_board (at slots g) z (at slots g).board.outputs in
    let began = begun_collecting run g (begun (reverse log) g) (moves_of (reverse log) g) (scans slots g) (k.fits.follows.each g in_run) collecting in
    let made : Makes (rule_of run g) run.machine.batch (scans slots g) (move.Uncollect ∷ []) z = (((k.calm g lt, collecting), tt), refl) in
    let less = ap (λ (b : Bool). cond {A = ℕ} b 1 0) collecting in
    kept_board m log (log ++ event.Uncollect g ∷ []) (event.Uncollect g ∷ reverse log) slots t g needed spare z (at slots g).board.outputs k lt (content_same m g (at slots g) _ (k.fits.content g lt)) (reverse-append log (event.Uncollect g ∷ []))
    (record { begun_as = λ f. refl; finished_as = λ f. refl; finishes_as = refl; some = λ e. absurd (cc) }) (k.calm g lt) (k.asks g lt)
    (follows_uncollect run (reverse log) (scans slots) (scans (set slots g s)) g began.0 z k.fits.follows (none_due m log slots t k) in_run began.1 made (changed_set slots g s lt))
    (omega arith) room

-- ---- claim
pub kept_claim : (m : Meaning) (log : List Event) (slots : List Slotted) (t : Tools) (g role most needed spare : ℕ) (ps : List ℕ) (z : Running) → IsKept m log slots t → g < length slots → most ≡ t.machine.batch
    → Makes (rule_by (at slots g).by_entries) most (scans slots g) (move.Claim role ps ∷ []) z → t.needed + 2 ≤ needed → needed ≤ spare
    → IsKept m (log ++ event.Claim g role ps ∷ []) (set slots g (with_board (at slots g) z (at slots g).board.outputs)) (record t { needed = needed; spare = spare })
kept_claim m log slots t g role most needed spare ps z k lt is made change room =
    let run = run_of m in
    let in_run = within_run m log slots t g k lt in
    let s = with_board (at slots g) z (at slots g).board.outputs in
    let may = made.0.0 in
    let began = begun_held run g (begun (reverse log) g) (moves_of (reverse log) g) (scans slots g) role (k.fits.follows.each g in_run) may.held in
    let batch : most ≡ run.machine.batch = is ∙ ap (λ (x : Machine). x.batch) k.machine in
    let made' = subst (λ n. Makes (rule_of run g) n (scans slots g) (move.Claim role ps ∷ []) z) batch (by_run m log slots t g most (move.Claim role ps ∷ []) z k lt made) in
    let low = k.within.machine.some_batch in
    let more = outs_claim most role (scans slots g) ps (omega arith) may in
    let calm : IsDue z → ⊥ = λ due. due.0 (ap (λ (x : Running). x.asked) made.1 ∙ may.calm) in
    kept_board m log (log ++ event.Claim g role ps ∷ []) (event.Claim g role ps ∷ reverse log) slots t g needed spare z (at slots g).board.outputs k lt (content_same m g (at slots g) _ (k.fits.content g lt)) (reverse-append log (event.Claim g role ps ∷ []))
    (record { begun_as = λ f. refl; finished_as = λ f. refl; finishes_as = refl; some = λ e. absurd (cc) }) calm
    (subst (λ (x : Running). HasAsks (length slots) t.finishes (with_board (at slots g) x (at slots g).board.outputs)) (sym made.1) (k.asks g lt))
    (follows_claim run (reverse log) (scans slots) (scans (set slots g s)) g began.0 role ps z k.fits.follows (none_due m log slots t k) in_run began.1 made' (changed_set slots g s lt))
    (subst (λ (x : Running). need (with_board (at slots g) x (at slots g).board.outputs) + t.needed ≤ need (at slots g) + needed) (sym made.1) (omega arith)) room

-- ---- settle
asked_full : (old z : Running) (rule : Rule) (role count : ℕ) → z ≡ after rule old (move.Settle role count) → is_full z.scan.marks ≡ true → z.asked ≡ None
asked_full old z rule role count is full =
    let full' = subst (λ (x : Running). is_full x.scan.marks ≡ true) is full in
    ap (λ (x : Running). x.asked) is ∙ simp full'

fewer_asks : (b : Bool) (n w r : ℕ) (o : Option ℕ) → n + cond (is_some o) 1 0 + w ≤ r → n + cond (is_some (cond b None o)) 1 0 + w ≤ r
fewer_asks true n w r o h = omega arith
fewer_asks false n w r o h = h

pub kept_settle : (m : Meaning) (log : List Event) (slots : List Slotted) (t : Tools) (g role count needed spare : ℕ) (answer : Settled) (z : Running) (o : Outputs) → IsKept m log slots t → g < length slots → HasContent m g (with_board (at slots g) z o) → role < 64
    → 0 < length (out_of (scans slots g).scan.marks role)
    → Makes (rule_by (at slots g).by_entries) 64 (scans slots g) (settle_moves (scans slots g).asked role count answer) z → SettleAnswer (scans slots g) z answer → t.needed ≤ needed + 2 → needed ≤ spare
    → IsKept m (log ++ settle_events g role count (scans slots g).asked answer) (set slots g (with_board (at slots g) z o)) (record t { needed = needed; spare = spare })
kept_settle m log slots t g role count needed spare answer z o k lt content below some made told change room = go answer made told
  where
    run : Run
    run = run_of m

    old : Running
    old = scans slots g

    s : Slotted
    s = with_board (at slots g) z o

    in_run : g < length (run_of m).fragments
    in_run = within_run m log slots t g k lt

    began : HasBegun m log g
    began = begun_out (run_of m) g (begun (reverse log) g) (moves_of (reverse log) g) (scans slots g) role (k.fits.follows.each g in_run) some

    less : outs_below 64 (given_back role count (scans slots g).scan.marks) + 1 ≡ outs_below 64 (scans slots g).scan.marks
    less = outs-given_back role count (scans slots g).scan.marks below some

    go : (a : Settled) → Makes (rule_by (at slots g).by_entries) 64 (scans slots g) (settle_moves (scans slots g).asked role count a) z → SettleAnswer (scans slots g) z a
        → IsKept m (log ++ settle_events g role count (scans slots g).asked a) (set slots g (with_board (at slots g) z o)) (record t { needed = needed; spare = spare })
    go More made told =
        kept_board m log (log ++ event.Settle g role count ∷ []) (event.Settle g role count ∷ reverse log) slots t g needed spare z o k lt content (reverse-append log (event.Settle g role count ∷ []))
        (record { begun_as = λ f. refl; finished_as = λ f. refl; finishes_as = refl; some = λ e. absurd (cc) }) told.1
        (subst (λ (x : Running). HasAsks (length slots) t.finishes (with_board (at slots g) x o)) (sym made.1) (fewer_asks _ _ _ _ _ (k.asks g lt)))
        (follows_settle (run_of m) (reverse log) (scans slots) (scans (set slots g (with_board (at slots g) z o))) g began.0 role count z k.fits.follows (none_due m log slots t k) in_run began.1 (by_run m log slots t g 64 (move.Settle role count ∷ []) z k lt made) (changed_set slots g (with_board (at slots g) z o) lt))
        (subst (λ (x : Running). need (with_board (at slots g) x o) + t.needed ≤ need (at slots g) + needed) (sym made.1) (let l = less in omega arith)) room
    go Finished made told =
        kept_board m log (log ++ event.Settle g role count ∷ []) (event.Settle g role count ∷ reverse log) slots t g needed spare z o k lt content (reverse-append log (event.Settle g role count ∷ []))
        (record { begun_as = λ f. refl; finished_as = λ f. refl; finishes_as = refl; some = λ e. absurd (cc) }) (λ due. due.0 (asked_full (scans slots g) z (rule_by (at slots g).by_entries) role count made.1 told))
        (subst (λ (x : Running). HasAsks (length slots) t.finishes (with_board (at slots g) x o)) (sym made.1) (fewer_asks _ _ _ _ _ (k.asks g lt)))
        (follows_settle (run_of m) (reverse log) (scans slots) (scans (set slots g (with_board (at slots g) z o))) g began.0 role count z k.fits.follows (none_due m log slots t k) in_run began.1 (by_run m log slots t g 64 (move.Settle role count ∷ []) z k lt made) (changed_set slots g (with_board (at slots g) z o) lt))
        (subst (λ (x : Running). need (with_board (at slots g) x o) + t.needed ≤ need (at slots g) + needed) (sym made.1) (let l = less in omega arith)) room
    go (Cut c) made told =
        let degree = unwrap_or (scans slots g).asked 0 in
        let one = ap (λ (x : Option ℕ). cond {A = ℕ} (is_some x) 1 0) told.0.1 in
        let asks = k.asks g lt in
        let idle = outs_divide (rule_by (at slots g).by_entries) (is_rule (at slots g).by_entries) degree (given_back role count (scans slots g).scan.marks) made.0.1.0.1 in
        kept_board m log (log ++ event.Settle g role count ∷ event.Divide g degree c ∷ []) (event.Divide g degree c ∷ event.Settle g role count ∷ reverse log) slots t g needed spare z o k lt content (reverse-append log (event.Settle g role count ∷ event.Divide g degree c ∷ []))
        (record { begun_as = λ f. refl; finished_as = λ f. refl; finishes_as = refl; some = λ e. absurd (cc) }) (λ due. due.0 (ap (λ (x : Running). x.asked) made.1))
        (subst (λ (x : Running). HasAsks (length slots) t.finishes (with_board (at slots g) x o)) (sym made.1) (omega arith))
        (follows_cut (run_of m) (reverse log) (scans slots) (scans (set slots g (with_board (at slots g) z o))) g began.0 role count degree c z k.fits.follows (none_due m log slots t k) in_run began.1 (by_run m log slots t g 64 (move.Settle role count ∷ move.Divide degree c ∷ []) z k lt made) (changed_set slots g (with_board (at slots g) z o) lt))
        (subst (λ (x : Running). need (with_board (at slots g) x o) + t.needed ≤ need (at slots g) + needed) (sym made.1) (let l = less in omega arith)) room

-- what a call did to the fragment that it looked up is what these moves do to it
pub as_moved : (batch : ℕ) (moves : List Move) (slots : List Slotted) (g : ℕ) (s s' : Slotted) → g < length slots → s ≡ get_or slots g s → Makes (rule_by s.by_entries) batch (scan_of s) moves (scan_of s') → s' ≡ with_board s (scan_of s') s.board.outputs
    → (s' ≡ moved (at slots g) moves) × Makes (rule_by (at slots g).by_entries) batch (scans slots g) moves (move.run (rule_by (at slots g).by_entries) (scans slots g) moves)
as_moved batch moves slots g s s' lt is made rest =
    let same = looked slots g s lt is in
    let made' = subst (λ (x : Slotted). Makes (rule_by x.by_entries) batch (scan_of x) moves (scan_of s')) same made in
    (rest ∙ ap (λ (x : Slotted). with_board x (scan_of s') x.board.outputs) same ∙ ap (λ (z : Running). with_board (at slots g) z (at slots g).board.outputs) made'.1, (made'.0, refl))

-- ---- the calls, of the fragment as they looked it up and left it
abbrev Left : Meaning → List Event → List Slotted → Tools → ℕ → ℕ → ℕ → Slotted → Type 0
Left m later slots t g needed spare s = IsKept m later (set slots g s) (record t { needed = needed; spare = spare })

pub call_leave : (m : Meaning) (log later : List Event) (slots : List Slotted) (t : Tools) (g role needed spare : ℕ) (s s' : Slotted) → IsKept m log slots t → g < length slots → is_held (scans slots g) role ≡ true → s ≡ get_or slots g s
    → Makes (rule_by s.by_entries) 64 (scan_of s) (move.Leave role ∷ []) (scan_of s') → s' ≡ with_board s (scan_of s') s.board.outputs → later ≡ log ++ event.Leave g role ∷ []
    → t.needed ≤ needed + 1 → needed ≤ spare → IsKept m later (set slots g s') (record t { needed = needed; spare = spare })
call_leave m log later slots t g role needed spare s s' k lt held is made rest items change room =
    let step = as_moved 64 (move.Leave role ∷ []) slots g s s' lt is made rest in
    subst (λ (x : Slotted). Left m later slots t g needed spare x) (sym step.0)
    (subst (λ xs. Left m xs slots t g needed spare (moved (at slots g) (move.Leave role ∷ []))) (sym items) (kept_leave m log slots t g role needed spare _ k lt held step.1 change room))

pub call_uncollect : (m : Meaning) (log later : List Event) (slots : List Slotted) (t : Tools) (g needed spare : ℕ) (s s' : Slotted) → IsKept m log slots t → g < length slots → (scans slots g).collecting ≡ true → s ≡ get_or slots g s
    → s' ≡ with_board s (collected_as false (scan_of s)) s.board.outputs → later ≡ log ++ event.Uncollect g ∷ []
    → t.needed ≤ needed + 2 → needed ≤ spare → IsKept m later (set slots g s') (record t { needed = needed; spare = spare })
call_uncollect m log later slots t g needed spare s s' k lt collecting is rest items change room =
    let same = looked slots g s lt is in
    let there : s' ≡ with_board (at slots g) (collected_as false (scans slots g)) (at slots g).board.outputs = rest ∙ ap (λ (x : Slotted). with_board x (collected_as false (scan_of x)) x.board.outputs) same in
    subst (λ (x : Slotted). Left m later slots t g needed spare x) (sym there)
    (subst (λ xs. Left m xs slots t g needed spare (with_board (at slots g) (collected_as false (scans slots g)) (at slots g).board.outputs)) (sym items) (kept_uncollect m log slots t g needed spare k lt collecting change room))

pub call_claim : (m : Meaning) (log later : List Event) (slots : List Slotted) (t : Tools) (g role most needed spare : ℕ) (ps : List ℕ) (a : Claimed) (s s' : Slotted) → IsKept m log slots t → g < length slots → most ≡ t.machine.batch → a ≡ claimed.Batch ps
    → s ≡ get_or slots g s → Makes (rule_by s.by_entries) most (scan_of s) (claim_moves role a) (scan_of s') → s' ≡ with_board s (scan_of s') s.board.outputs → later ≡ log ++ event.Claim g role ps ∷ []
    → t.needed + 2 ≤ needed → needed ≤ spare → IsKept m later (set slots g s') (record t { needed = needed; spare = spare })
call_claim m log later slots t g role most needed spare ps a s s' k lt batch answer is made rest items change room =
    let made' = subst (λ x. Makes (rule_by s.by_entries) most (scan_of s) (claim_moves role x) (scan_of s')) answer made in
    let step = as_moved most (move.Claim role ps ∷ []) slots g s s' lt is made' rest in
    subst (λ (x : Slotted). Left m later slots t g needed spare x) (sym step.0)
    (subst (λ xs. Left m xs slots t g needed spare (moved (at slots g) (move.Claim role ps ∷ []))) (sym items) (kept_claim m log slots t g role most needed spare ps _ k lt batch step.1 change room))

-- nothing happened but that room was made
pub kept_room : (m : Meaning) (log later : List Event) (slots : List Slotted) (t : Tools) (spare : ℕ) → IsKept m log slots t → later ≡ log → t.needed ≤ spare → IsKept m later slots (record t { spare = spare })
kept_room m log later slots t spare k items room = subst (λ xs. IsKept m xs slots (record t { spare = spare })) (sym items) (record {
  fits = k.fits;
  within = k.within;
  ordered = k.ordered;
  small = k.small;
  calm = k.calm;
  asks = k.asks;
  named = k.named;
  fed = k.fed;
  in_order = k.in_order;
  counted = k.counted;
  kept = room;
  finished = k.finished;
  unended = k.unended;
  lists = k.lists;
  machine = k.machine;
  steps = k.steps;
  answers = k.answers;
})

-- a fragment was looked up and left as it was
pub as_before : (slots : List Slotted) (g : ℕ) (s s' : Slotted) → s ≡ get_or slots g s → s' ≡ s → set slots g s' ≡ slots
as_before slots g s s' is same = ap (set slots g) (same ∙ is) ∙ set-get_or slots g s

pub call_none : (m : Meaning) (log later : List Event) (slots : List Slotted) (t : Tools) (g spare : ℕ) (s s' : Slotted) → IsKept m log slots t → s ≡ get_or slots g s → s' ≡ s → later ≡ log → t.needed ≤ spare → IsKept m later (set slots g s') (record t { spare = spare })
call_none m log later slots t g spare s s' k is same items room =
    subst (λ xs. IsKept m later xs (record t { spare = spare })) (sym (as_before slots g s s' is same)) (kept_room m log later slots t spare k items room)

-- a claim that gives no batch changes nothing
pub unclaimed : (rule : Rule) (most role : ℕ) (a : Claimed) (s s' : Slotted) → ((ps : List ℕ) → a ≡ claimed.Batch ps → ⊥) → Makes rule most (scan_of s) (claim_moves role a) (scan_of s') → s' ≡ with_board s (scan_of s') s.board.outputs → s' ≡ s
unclaimed rule most role (claimed.Batch ps) s s' none made rest = absurd (none ps refl)
unclaimed rule most role claimed.Hold s s' none made rest = rest ∙ ap (λ (z : Running). with_board s z s.board.outputs) made.1
unclaimed rule most role claimed.Leave s s' none made rest = rest ∙ ap (λ (z : Running). with_board s z s.board.outputs) made.1

pub call_settle : (m : Meaning) (log later : List Event) (slots : List Slotted) (t : Tools) (g role needed spare : ℕ) (outputs : List (List (List Value))) (answer : Settled) (s s' : Slotted) → IsKept m log slots t → g < length slots → AreOuts m g (out_of (scans slots g).scan.marks role) outputs → role < 64
    → 0 < length (out_of (scans slots g).scan.marks role) → s ≡ get_or slots g s
    → Makes (rule_by s.by_entries) 64 (scan_of s) (settle_moves (scan_of s).asked role (length outputs) answer) (scan_of s') → SettleAnswer (scan_of s) (scan_of s') answer
    → s' ≡ with_board s (scan_of s') (put_outputs (out_of (scan_of s).scan.marks role) outputs s.board.outputs)
    → later ≡ log ++ settle_events g role (length outputs) (scan_of s).asked answer → t.needed ≤ needed + 2 → needed ≤ spare
    → IsKept m later (set slots g s') (record t { needed = needed; spare = spare })
call_settle m log later slots t g role needed spare outputs answer s s' k lt outs below some is made told rest items change room =
    let same = looked slots g s lt is in
    let o = put_outputs (out_of (scan_of s).scan.marks role) outputs s.board.outputs in
    let content = subst (λ (x : Slotted). HasContent m g (with_board (at slots g) (scan_of s') (put_outputs (out_of (scan_of x).scan.marks role) outputs x.board.outputs))) (sym same)
    (content_put m g (at slots g) (scan_of s') (out_of (scans slots g).scan.marks role) outputs outs (k.fits.content g lt)) in
    let made' = subst (λ (x : Slotted). Makes (rule_by x.by_entries) 64 (scan_of x) (settle_moves (scan_of x).asked role (length outputs) answer) (scan_of s')) same made in
    let told' = subst (λ (x : Slotted). SettleAnswer (scan_of x) (scan_of s') answer) same told in
    let there : s' ≡ with_board (at slots g) (scan_of s') o = rest ∙ ap (λ (x : Slotted). with_board x (scan_of s') o) same in
    let events : later ≡ log ++ settle_events g role (length outputs) (scans slots g).asked answer = items ∙ ap (λ (x : Slotted). log ++ settle_events g role (length outputs) (scan_of x).asked answer) same in
    subst (λ (x : Slotted). Left m later slots t g needed spare x) (sym there)
    (subst (λ xs. Left m xs slots t g needed spare (with_board (at slots g) (scan_of s') o)) (sym events) (kept_settle m log slots t g role (length outputs) needed spare answer (scan_of s') o k lt content below some made' told' change room))
