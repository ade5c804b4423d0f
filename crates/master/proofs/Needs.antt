-- How many events each move of a board makes needless, or needed.
use Rattle.std.proofs.Common.{◌≡◌, ℕ, zero, suc, ◌+◌, ◌*◌, ◌<◌, ◌≤◌, Bool, List, [], ◌∷◌, length, refl, ap, sym, ◌∙◌, subst, inl, inr, arith, true, false, ltb, cond, set, get_or, take, Option}
use Rattle.std.proofs.lemmas.Bool.{cases_eq, cases_lt, cases_Bool, ne_eqb, eq-eqb, lt-ltb, le-ltb}
use Rattle.std.proofs.lemmas.List.{length-take, set_past}
use Rattle.std.proofs.lemmas.List.Sums.{sum_by-set}
use Rattle.page_partition.specs.declared.table.Mark.{Mark}
use Rattle.page_partition.specs.declared.table.Mark.TheVariants.{Left, Out, Deposited}
use Rattle.page_partition.specs.Scan.{is_left, is_out, left_of, out_of, mark_first, given_back, IsIdle}
use Rattle.page_partition.specs.Places.{places-mark_first_other, places-mark_first_new}
use Rattle.page_partition.specs.Marks.{out-out, left-out, places-mark_all_same, places-mark_all_other}
use Rattle.page_partition.specs.StrideKept.{stride_kept, stride_length, stride_named, stride_idle}
use Rattle.range_partition.specs.ShareLaws.{share_kept, share_length, share_named, share_idle}
use Rattle.adjust_protocol.specs.Moves.{Running, Rule, holders, is_held, MayClaim}
use Rattle.adjust_protocol.specs.Steps.{IsRule, mark_first_taken}
use Rattle.history.specs.Boards.{rule_by}
use Rattle.master.specs.Kind.{Slotted}
use Rattle.master.specs.Ledger.{at, need, needs, no_slot, outs_below}

-- both divisions keep the laws of a division
pub is_rule : (b : Bool) → IsRule (rule_by b)
is_rule false = record { deposits_kept = stride_kept; positions_kept = stride_length; none_out = stride_idle; named = stride_named }
is_rule true = record { deposits_kept = share_kept; positions_kept = share_length; none_out = share_idle; named = share_named }

-- marks that agree on each role's batch have as many out
outs_same : (k : ℕ) (ms ms' : List Mark) → ((r : ℕ) → r < k → out_of ms' r ≡ out_of ms r) → outs_below k ms' ≡ outs_below k ms
unfolding outs_below
outs_same zero ms ms' h = refl
outs_same (suc k) ms ms' h = let here = ap (λ (xs : List ℕ). cond {A = ℕ} (ltb 0 (length xs)) 1 0) (h k (omega arith)) in let ih = outs_same k ms ms' (λ r lt. h r (omega arith)) in omega arith

-- one role's batch comes back
outs_less : (k role : ℕ) (ms ms' : List Mark) → role < k → 0 < length (out_of ms role) → out_of ms' role ≡ [] → ((r : ℕ) → (r ≡ role → ⊥) → out_of ms' r ≡ out_of ms r) → outs_below k ms' + 1 ≡ outs_below k ms
unfolding outs_below
outs_less zero role ms ms' lt some none others = absurd (omega arith)
outs_less (suc k) role ms ms' lt some none others =
    elim (cases_eq k role) [
      | inl e ↦
          let was : ltb 0 (length (out_of ms k)) ≡ true = lt-ltb 0 (length (out_of ms k)) (subst (λ (r : ℕ). 0 < length (out_of ms r)) (sym e) some) in
          let now : out_of ms' k ≡ [] = subst (λ (r : ℕ). out_of ms' r ≡ []) (sym e) none in
          let same = outs_same k ms ms' (λ r l. others r (λ f. absurd (omega arith))) in
          rw (now, was) (omega arith)
      | inr ne ↦
          let here = ap (λ (xs : List ℕ). cond {A = ℕ} (ltb 0 (length xs)) 1 0) (others k ne) in
          let ih = outs_less k role ms ms' (omega arith) some none others in
          omega arith
    ]

pub outs-given_back : (role n : ℕ) (ms : List Mark) → role < 64 → 0 < length (out_of ms role) → outs_below 64 (given_back role n ms) + 1 ≡ outs_below 64 ms
outs-given_back role n ms lt some =
    outs_less 64 role ms (given_back role n ms) lt some (places-mark_all_same (is_out role) (Left role) refl 0 (mark_first (is_out role) n Deposited ms))
    (λ r ne. places-mark_all_other (is_out role) (is_out r) (Left role) refl (out-out role r (λ e. ne (sym e))) 0 (mark_first (is_out role) n Deposited ms)
    ∙ places-mark_first_other (is_out role) (is_out r) Deposited refl (out-out role r (λ e. ne (sym e))) n 0 ms)

-- after a settle the role has nothing out
pub none_back : (role n : ℕ) (ms : List Mark) → out_of (given_back role n ms) role ≡ []
none_back role n ms = places-mark_all_same (is_out role) (Left role) refl 0 (mark_first (is_out role) n Deposited ms)

-- a claim takes one more batch out
pub outs_claim : (batch role : ℕ) (s : Running) (ps : List ℕ) → 1 ≤ batch → MayClaim batch s role ps → outs_below 64 s.scan.marks + 1 ≡ outs_below 64 (mark_first (is_left role) (length ps) (Out role) s.scan.marks)
outs_claim batch role s ps low may =
    let ms = s.scan.marks in
    let after = mark_first (is_left role) (length ps) (Out role) ms in
    let t : ltb 0 1 ≡ true = refl in
    let same : after ≡ mark_first (is_left role) batch (Out role) ms = ap (λ (n : ℕ). mark_first (is_left role) n (Out role) ms) (ap length may.first) ∙ mark_first_taken (is_left role) (Out role) batch ms in
    let out : out_of after role ≡ take batch (left_of ms role) = ap (λ (xs : List Mark). out_of xs role) same ∙ places-mark_first_new (is_left role) (is_out role) (Out role) (eq-eqb role role refl) (left-out role role) batch 0 ms may.idle in
    let some = may.some in
    let len = length-take batch (left_of ms role) in
    outs_less 64 role after ms may.below (omega (arith, ap length out)) may.idle
    (λ r ne. sym (places-mark_first_other (is_left role) (is_out r) (Out role) (ne_eqb role r (λ e. ne (sym e))) (left-out role r) (length ps) 0 ms))

-- a divide finds none out and leaves none out
pub outs_divide : (rule : Rule) → IsRule rule → (degree : ℕ) (ms : List Mark) → IsIdle ms → outs_below 64 (rule.redivided degree ms) ≡ outs_below 64 ms
outs_divide rule laws degree ms idle = outs_same 64 ms (rule.redivided degree ms) (λ r lt. laws.none_out degree r ms (idle r lt) ∙ sym (idle r lt))

-- a role is held, or left
pub held_more : (s : Running) (role : ℕ) → holders (record s { held = set s.held role true }) ≤ holders s + 1
held_more s role =
    elim (cases_lt role (length s.held)) [
      | inl lt ↦ let change = sum_by-set (λ (b : Bool). cond {A = ℕ} b 1 0) s.held role true false lt in omega arith
      | inr ge ↦ let same = ap (λ (bs : List Bool). holders (record s { held = bs })) (set_past s.held role true ge) in omega arith
    ]

pub held_less : (s : Running) (role : ℕ) → role < length s.held → is_held s role ≡ true → holders (record s { held = set s.held role false }) + 1 ≡ holders s
held_less s role lt held =
    let change = sum_by-set (λ (b : Bool). cond {A = ℕ} b 1 0) s.held role false false lt in
    let was = ap (λ (b : Bool). cond {A = ℕ} b 1 0) held in
    omega arith

pub inside_held : (s : Running) (role : ℕ) → is_held s role ≡ true → role < length s.held
inside_held s role held = go s.held role held
  where
    go : (bs : List Bool) (r : ℕ) → get_or bs r false ≡ true → r < length bs
    go [] r h = absurd (cc)
    go (b ∷ bs) zero h = omega arith
    go (b ∷ bs) (suc r) h = let ih = go bs r h in omega arith

pub needs_set : (slots : List Slotted) (f : ℕ) (s : Slotted) → f < length slots → needs (set slots f s) + need (at slots f) ≡ needs slots + need s
needs_set slots f s lt = sum_by-set need slots f s no_slot lt
