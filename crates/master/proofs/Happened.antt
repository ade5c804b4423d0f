-- The events of a call, as they are pushed.
use Rattle.std.proofs.Common.{◌≡◌, ℕ, ◌+◌, ◌<◌, List, [], ◌∷◌, ◌++◌, length, set, get_or, refl, ap, sym, ◌∙◌, subst, append_assoc, append-nil, arith, Option, Some, None, unwrap_or}
use Rattle.std.proofs.lemmas.List.{get_or-set_same, set-get_or}
use Rattle.rows.specs.declared.value.Value.{Value}
use Rattle.page_partition.specs.Scan.{out_of}
use Rattle.adjust_protocol.specs.Moves.{Rule, Running, Makes}
use Rattle.adjust_protocol.specs.Answers.{ClaimAnswer, SettleAnswer, claim_moves, settle_moves}
use Rattle.adjust_protocol.specs.Outputs.{put_outputs}
use Rattle.adjust_protocol.specs.declared.answers.Claimed.{Claimed}
use Rattle.adjust_protocol.specs.declared.answers.Claimed.TheVariants as claimed
use Rattle.adjust_protocol.specs.declared.answers.Settled.{Settled}
use Rattle.adjust_protocol.specs.declared.answers.Settled.TheVariants.{More, Cut, Finished}
use Rattle.history.specs.declared.event.Event.{Event}
use Rattle.history.specs.declared.event.Event.TheVariants as event
use Rattle.master.specs.Answers.{Claims}
use Rattle.master.specs.Calls.{claim_events, moved_at, settle_events, settled}
use Rattle.master.specs.Boards.{with_board}
use Rattle.history.specs.Boards.{rule_by}
use Rattle.master.proofs.Kept.{looked}
use Rattle.master.specs.Kind.{Slotted, scan_of}
use Rattle.master.specs.Ledger.{Ledger, at, no_slot, scans}

-- ---- claim
pub no_claim_events : (f role : ℕ) (a : Claimed) → ((ps : List ℕ) → a ≡ claimed.Batch ps → ⊥) → claim_events f role a ≡ []
no_claim_events f role (claimed.Batch ps) none = absurd (none ps refl)
no_claim_events f role claimed.Hold none = refl
no_claim_events f role claimed.Leave none = refl

pub none_moved : (slots : List Slotted) (f role : ℕ) (a : Claimed) → ((ps : List ℕ) → a ≡ claimed.Batch ps → ⊥) → moved_at slots f (claim_moves role a) ≡ slots
none_moved slots f role (claimed.Batch ps) none = absurd (none ps refl)
none_moved slots f role claimed.Hold none = set-get_or slots f no_slot
none_moved slots f role claimed.Leave none = set-get_or slots f no_slot

pub no_batch : (most : ℕ) (s : Running) (role : ℕ) (a : Claimed) → ((ps : List ℕ) → a ≡ claimed.Batch ps → ⊥) → ClaimAnswer s role a → Claims most s role a
no_batch most s role (claimed.Batch ps) none told = absurd (none ps refl)
no_batch most s role claimed.Hold none told = told
no_batch most s role claimed.Leave none told = told

-- ---- settle
pub cut_events : (log one two : List Event) (g role n degree k : ℕ) (asked : Option ℕ) (a : Settled) → a ≡ Cut k → degree ≡ unwrap_or asked 0 → one ≡ log ++ event.Settle g role n ∷ [] → two ≡ one ++ event.Divide g degree k ∷ []
    → two ≡ log ++ settle_events g role n asked a
cut_events log one two g role n degree k asked a is d e f =
    f ∙ ap (λ xs. xs ++ event.Divide g degree k ∷ []) e ∙ append_assoc log (event.Settle g role n ∷ []) (event.Divide g degree k ∷ [])
    ∙ ap (λ (m : ℕ). log ++ event.Settle g role n ∷ event.Divide g m k ∷ []) d ∙ ap (λ (b : Settled). log ++ settle_events g role n asked b) (sym is)

pub only_settle : (g role n : ℕ) (asked : Option ℕ) (a : Settled) → ((k : ℕ) → a ≡ Cut k → ⊥) → event.Settle g role n ∷ [] ≡ settle_events g role n asked a
only_settle g role n asked More h = refl
only_settle g role n asked (Cut k) h = absurd (h k refl)
only_settle g role n asked Finished h = refl

pub cut_degree : (rule : Rule) (s later : Running) (role n k : ℕ) (a : Settled) → a ≡ Cut k → Makes rule 64 s (settle_moves s.asked role n a) later → later.scan.degree ≡ unwrap_or s.asked 0
cut_degree rule s later role n k a is made =
    let made' = subst (λ (b : Settled). Makes rule 64 s (settle_moves s.asked role n b) later) is made in
    ap (λ (z : Running). z.scan.degree) made'.1

-- what a settle did to the fragment that it looked up
pub as_settled : (slots : List Slotted) (g role : ℕ) (outputs : List (List (List Value))) (answer : Settled) (s s' : Slotted) → g < length slots → s ≡ get_or slots g s
    → Makes (rule_by s.by_entries) 64 (scan_of s) (settle_moves (scan_of s).asked role (length outputs) answer) (scan_of s') → s' ≡ with_board s (scan_of s') (put_outputs (out_of (scan_of s).scan.marks role) outputs s.board.outputs)
    → s' ≡ settled (at slots g) role outputs answer
as_settled slots g role outputs answer s s' lt is made rest =
    rest ∙ ap (λ (z : Running). with_board s z (put_outputs (out_of (scan_of s).scan.marks role) outputs s.board.outputs)) made.1 ∙ ap (λ (x : Slotted). settled x role outputs answer) (looked slots g s lt is)

-- what it answered, told of the fragments before and after it
pub answered : (l : Ledger) (log : List Event) (slots : List Slotted) (g : ℕ) (answer : Settled) (s s' : Slotted) → record { log = log; slots = slots } ≡ l → g < length slots → s ≡ get_or slots g s → SettleAnswer (scan_of s) (scan_of s') answer
    → SettleAnswer (scans l.slots g) (scans (set slots g s') g) answer
answered l log slots g answer s s' view lt is told =
    let here = looked slots g s lt is ∙ ap (λ (x : Ledger). at x.slots g) view in
    let now = get_or-set_same slots g s' no_slot lt in
    subst (λ (x : Slotted). SettleAnswer (scans l.slots g) (scan_of x) answer) (sym now) (subst (λ (x : Slotted). SettleAnswer (scan_of x) (scan_of s') answer) here told)

-- the moves that it made
pub made_at : (l : Ledger) (log : List Event) (slots : List Slotted) (g role count : ℕ) (answer : Settled) (s s' : Slotted) → record { log = log; slots = slots } ≡ l → g < length slots → s ≡ get_or slots g s
    → Makes (rule_by s.by_entries) 64 (scan_of s) (settle_moves (scan_of s).asked role count answer) (scan_of s')
    → Makes (rule_by (at l.slots g).by_entries) 64 (scans l.slots g) (settle_moves (scans l.slots g).asked role count answer) (scans (set slots g s') g)
made_at l log slots g role count answer s s' view lt is made =
    let here = looked slots g s lt is ∙ ap (λ (x : Ledger). at x.slots g) view in
    let now = get_or-set_same slots g s' no_slot lt in
    subst (λ (x : Slotted). Makes (rule_by (at l.slots g).by_entries) 64 (scans l.slots g) (settle_moves (scans l.slots g).asked role count answer) (scan_of x)) (sym now)
    (subst (λ (x : Slotted). Makes (rule_by x.by_entries) 64 (scan_of x) (settle_moves (scan_of x).asked role count answer) (scan_of s')) here made)
