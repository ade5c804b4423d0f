use Rattle.std.proofs.Common.{◌≡◌, ℕ, zero, suc, Bool, false, List, [], ◌∷◌, ◌++◌, get_or, set, refl, ap, sym, ◌∙◌, subst, inl, inr, Option}
use Rattle.std.proofs.lemmas.Bool.{cases_eq}
use Rattle.page_partition.specs.declared.table.Mark.{Mark}
use Rattle.page_partition.specs.declared.table.Mark.TheVariants.{Left}
use Rattle.page_partition.specs.Scan.{is_out, out_of, given_back}
use Rattle.page_partition.specs.Marks.{out-out, places-mark_all_same, places-mark_all_other}
use Rattle.adjust_protocol.specs.Moves.{Rule, Running, Move, Seat, Claim, Settle, Divide, Leave, Collect, Uncollect, Ask, Makes, Legal, run, after, is_held}
use Rattle.adjust_protocol.specs.Steps.{IsRule}
use Rattle.adjust_protocol.specs.Answers.{settle_moves}
use Rattle.adjust_protocol.specs.Release.{IsRelease, AllRelease, Releases}
use Rattle.adjust_protocol.specs.declared.answers.Settled.{Settled}
use Rattle.adjust_protocol.specs.declared.answers.Settled.TheVariants.{More, Cut, Finished}

pub releases_none : (rule : Rule) (s : Running) → Releases rule s s
releases_none rule s = record { moves = []; only = tt; made = (tt, refl) }

all_append : (ms ns : List Move) → AllRelease ms → AllRelease ns → AllRelease (ms ++ ns)
all_append [] ns a b = b
all_append (m ∷ ms) ns a b = (a.0, all_append ms ns a.1 b)

pub run_append : (rule : Rule) (s : Running) (ms ns : List Move) → run rule s (ms ++ ns) ≡ run rule (run rule s ms) ns
run_append rule s [] ns = refl
run_append rule s (m ∷ ms) ns = run_append rule (after rule s m) ms ns

pub legal_append : (rule : Rule) (batch : ℕ) (s : Running) (ms ns : List Move) → Legal rule batch s ms → Legal rule batch (run rule s ms) ns → Legal rule batch s (ms ++ ns)
legal_append rule batch s [] ns a b = b
legal_append rule batch s (m ∷ ms) ns a b = (a.0, legal_append rule batch (after rule s m) ms ns a.1 b)

pub makes_append : (rule : Rule) (batch : ℕ) (s mid end : Running) (ms ns : List Move) → Makes rule batch s ms mid → Makes rule batch mid ns end → Makes rule batch s (ms ++ ns) end
makes_append rule batch s mid end ms ns a b =
    (legal_append rule batch s ms ns a.0 (subst (λ (z : Running). Legal rule batch z ns) a.1 b.0), b.1 ∙ ap (λ (z : Running). run rule z ns) a.1 ∙ sym (run_append rule s ms ns))

pub releases_then : (rule : Rule) (s mid end : Running) → Releases rule s mid → Releases rule mid end → Releases rule s end
releases_then rule s mid end a b = record { moves = a.moves ++ b.moves; only = all_append a.moves b.moves a.only b.only; made = makes_append rule 64 s mid end a.moves b.moves a.made b.made }

idle_given : (r q : ℕ) (ms : List Mark) → out_of ms q ≡ [] → out_of (given_back r 0 ms) q ≡ []
idle_given r q ms h =
    elim (cases_eq r q) [
      | inl e ↦ subst (λ z. out_of (given_back r 0 ms) z ≡ []) e (places-mark_all_same (is_out r) (Left r) refl 0 ms)
      | inr ne ↦ places-mark_all_other (is_out r) (is_out q) (Left r) refl (out-out r q ne) 0 ms ∙ h
    ]

idle_after : (rule : Rule) → IsRule rule → (q : ℕ) (s : Running) (m : Move) → IsRelease m → out_of s.scan.marks q ≡ [] → out_of (after rule s m).scan.marks q ≡ []
idle_after rule laws q s (Settle role count) a h = subst (λ n. out_of (given_back role n s.scan.marks) q ≡ []) (sym a) (idle_given role q s.scan.marks h)
idle_after rule laws q s (Divide degree cut) a h = laws.none_out degree q s.scan.marks h
idle_after rule laws q s (Leave role) a h = h
idle_after rule laws q s Uncollect a h = h
idle_after rule laws q s (Seat role) a h = absurd a
idle_after rule laws q s (Claim role ps) a h = absurd a
idle_after rule laws q s Collect a h = absurd a
idle_after rule laws q s (Ask degree) a h = absurd a

idle_run : (rule : Rule) → IsRule rule → (q : ℕ) (s : Running) (ms : List Move) → AllRelease ms → out_of s.scan.marks q ≡ [] → out_of (run rule s ms).scan.marks q ≡ []
idle_run rule laws q s [] a h = h
idle_run rule laws q s (m ∷ ms) a h = idle_run rule laws q (after rule s m) ms a.1 (idle_after rule laws q s m a.0 h)

pub idle_released : (rule : Rule) → IsRule rule → (q : ℕ) (s s' : Running) → Releases rule s s' → out_of s.scan.marks q ≡ [] → out_of s'.scan.marks q ≡ []
idle_released rule laws q s s' r h = ap (λ (z : Running). out_of z.scan.marks q) r.made.1 ∙ idle_run rule laws q s r.moves r.only h

unheld_set : (hs : List Bool) (role q : ℕ) → get_or hs q false ≡ false → get_or (set hs role false) q false ≡ false
unheld_set [] role q h = h
unheld_set (x ∷ hs) zero zero h = refl
unheld_set (x ∷ hs) zero (suc q) h = h
unheld_set (x ∷ hs) (suc role) zero h = h
unheld_set (x ∷ hs) (suc role) (suc q) h = unheld_set hs role q h

unheld_after : (rule : Rule) (q : ℕ) (s : Running) (m : Move) → IsRelease m → is_held s q ≡ false → is_held (after rule s m) q ≡ false
unheld_after rule q s (Settle role count) a h = h
unheld_after rule q s (Divide degree cut) a h = h
unheld_after rule q s (Leave role) a h = unheld_set s.held role q h
unheld_after rule q s Uncollect a h = h
unheld_after rule q s (Seat role) a h = absurd a
unheld_after rule q s (Claim role ps) a h = absurd a
unheld_after rule q s Collect a h = absurd a
unheld_after rule q s (Ask degree) a h = absurd a

unheld_run : (rule : Rule) (q : ℕ) (s : Running) (ms : List Move) → AllRelease ms → is_held s q ≡ false → is_held (run rule s ms) q ≡ false
unheld_run rule q s [] a h = h
unheld_run rule q s (m ∷ ms) a h = unheld_run rule q (after rule s m) ms a.1 (unheld_after rule q s m a.0 h)

pub unheld_released : (rule : Rule) (q : ℕ) (s s' : Running) → Releases rule s s' → is_held s q ≡ false → is_held s' q ≡ false
unheld_released rule q s s' r h = ap (λ (z : Running). is_held z q) r.made.1 ∙ unheld_run rule q s r.moves r.only h

pub release_settle : (rule : Rule) (role : ℕ) (asked : Option ℕ) (r : Settled) (s s' : Running) → Makes rule 64 s (settle_moves asked role 0 r) s' → Releases rule s s'
release_settle rule role asked More s s' made = record { moves = Settle role 0 ∷ []; only = (refl, tt); made = made }
release_settle rule role asked (Cut k) s s' made = record { moves = settle_moves asked role 0 (Cut k); only = (refl, (tt, tt)); made = made }
release_settle rule role asked Finished s s' made = record { moves = Settle role 0 ∷ []; only = (refl, tt); made = made }

emptied_run : (rule : Rule) → IsRule rule → (role : ℕ) (s : Running) (ms : List Move) → AllRelease ms → out_of (run rule s (Settle role 0 ∷ ms)).scan.marks role ≡ []
emptied_run rule laws role s ms a = idle_run rule laws role (after rule s (Settle role 0)) ms a (places-mark_all_same (is_out role) (Left role) refl 0 s.scan.marks)

pub emptied : (rule : Rule) → IsRule rule → (role : ℕ) (asked : Option ℕ) (r : Settled) (s s' : Running) → Makes rule 64 s (settle_moves asked role 0 r) s' → out_of s'.scan.marks role ≡ []
emptied rule laws role asked More s s' made = ap (λ (z : Running). out_of z.scan.marks role) made.1 ∙ emptied_run rule laws role s [] tt
emptied rule laws role asked (Cut k) s s' made = ap (λ (z : Running). out_of z.scan.marks role) made.1 ∙ emptied_run rule laws role s (Divide _ k ∷ []) (tt, tt)
emptied rule laws role asked Finished s s' made = ap (λ (z : Running). out_of z.scan.marks role) made.1 ∙ emptied_run rule laws role s [] tt

pub release_one : (rule : Rule) (s s' : Running) (m : Move) → IsRelease m → Makes rule 64 s (m ∷ []) s' → Releases rule s s'
release_one rule s s' m a made = record { moves = m ∷ []; only = (a, tt); made = made }
