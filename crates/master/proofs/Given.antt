-- What a decision does to one fragment, and to all.
use Rattle.std.proofs.Common.{◌≡◌, ◌≢◌, ℕ, zero, suc, ◌+◌, ◌-◌, ◌<◌, ◌≤◌, ◌⊎◌, ◌&&◌, ◌||◌, not, Bool, true, false, cond, eqb, List, [], ◌∷◌, ◌++◌, length, map, filter, take, set, get_or, replicate, refl, ap, sym, ◌∙◌, subst, inl, inr, arith, Option, Some, None, IfSome, append-nil}
use Rattle.std.proofs.lemmas.Bool.{cases_Bool, cases_eq, eq-eqb, ne_eqb, true≢false}
use Rattle.std.proofs.lemmas.List.{get_or-set_same, get_or-set_other, length-set, take_more}
use Rattle.rows.specs.declared.value.Value.{Value}
use Rattle.page_partition.specs.Scan.{IsIdle, is_deposited, out_of, places}
use Rattle.page_partition.specs.StrideKept.{idle_fresh, no_deposits}
use Rattle.page_partition.specs.declared.table.Mark.TheVariants.{Left}
use Rattle.adjust_protocol.specs.Answers.{AskAnswer, ask_moves}
use Rattle.adjust_protocol.specs.Calls.{fresh}
use Rattle.adjust_protocol.specs.Moves.{IsDue, Makes, Rule, Running, after, asked_for, is_full, wanted}
use Rattle.adjust_protocol.specs.Moves as move
use Rattle.adjust_protocol.specs.Steps.{IsRule}
use Rattle.adjust_protocol.specs.declared.answers.Asked.{Asked}
use Rattle.adjust_protocol.specs.declared.answers.Asked.TheVariants as asked
use Rattle.io_cpu_scheduler.specs.declared.load.Decision.{Decision}
use Rattle.io_cpu_scheduler.specs.declared.load.Load.{Load}
use Rattle.io_cpu_scheduler.specs.declared.load.Part.{Part}
use Rattle.history.specs.Boards.{rule_by}
use Rattle.history.specs.Projected.{earlier_of, given, part_for}
use Rattle.history.specs.declared.event.Event.{Event}
use Rattle.history.specs.declared.event.Event.TheVariants as event
use Rattle.master.specs.Boards.{cut_in, with_board}
use Rattle.master.specs.Gives.{AllGiven, AreTwo, Asks, CanGive, CanTake, GivesIn, GivesOne, GivesPart, GivesSlot, IsCut, cut_for, divide_of}
use Rattle.master.specs.Kind.{Slotted, Stage, board_in, by_entries_in, is_running, scan_of, slotted}
use Rattle.master.specs.Kind as kind
use Rattle.master.specs.Ledger.{at, no_slot}
use Rattle.master.specs.declared.slot.AnyBoard.{AnyBoard}
use Rattle.master.specs.declared.slot.Phase.{Phase}

-- ---- a board as it was made
pub unbegun_none : (rule : Rule) → IsRule rule → (s : Running) (positions from room : ℕ) → s ≡ fresh rule positions from room → places is_deposited s.scan.marks ≡ []
unbegun_none rule laws s positions from room is =
    ap (λ (z : Running). places is_deposited z.scan.marks) is ∙ laws.deposits_kept from (replicate positions (Left 0)) ∙ no_deposits 0 positions

pub unbegun_idle : (rule : Rule) → IsRule rule → (s : Running) (positions from room : ℕ) → s ≡ fresh rule positions from room → IsIdle s.scan.marks
unbegun_idle rule laws s positions from room is role lt =
    ap (λ (z : Running). out_of z.scan.marks role) is ∙ laws.none_out from role (replicate positions (Left 0)) (idle_fresh role 0 positions)

-- ---- an ask
abbrev with_by : Bool → Slotted → Slotted
with_by k s = record s { by_entries = k }

pub slotted_rest : (b b' : AnyBoard) (inputs : List ℕ) (load : Load) (phase : Phase) → by_entries_in b' ≡ by_entries_in b → (board_in b').outputs ≡ (board_in b).outputs
    → slotted b' inputs load phase ≡ with_board (slotted b inputs load phase) (board_in b').running (board_in b).outputs
slotted_rest b b' inputs load phase kind outputs =
    ap (λ k. with_by k (slotted b' inputs load phase)) kind ∙ ap (λ o. with_by (by_entries_in b) (with_board (slotted b' inputs load phase) (board_in b').running o)) outputs

or_true : (b : Bool) → b || true ≡ true
or_true true = refl
or_true false = refl

same_asked : (s : Running) (degree : ℕ) → wanted s ≡ degree → asked_for s degree ≡ s.asked
same_asked s degree e =
    let t : eqb degree (wanted s) ≡ true = eq-eqb degree (wanted s) (sym e) in
    let o = or_true (is_full s.scan.marks) in
    simp (t, o)

full_asked : (s : Running) (degree : ℕ) → is_full s.scan.marks ≡ true → asked_for s degree ≡ s.asked
full_asked s degree e = simp e

still_calm : (rule : Rule) (s s' : Running) (degree : ℕ) → s' ≡ after rule s (move.Ask degree) → asked_for s degree ≡ s.asked → (IsDue s → ⊥) → IsDue s' → ⊥
still_calm rule s s' degree is same calm due =
    let due' = subst IsDue is due in
    calm (λ e. due'.0 (same ∙ e), due'.1)

pub asks_of : (s s' : Slotted) (degree : ℕ) (answer : Asked) → Makes (rule_by s.by_entries) 64 (scan_of s) (ask_moves degree answer) (scan_of s') → AskAnswer (scan_of s) (scan_of s') degree answer → s' ≡ with_board s (scan_of s') s.board.outputs
    → Asks s degree (cut_in answer) s'
asks_of s s' degree asked.Pending made told rest = record { moves = made; calm = λ calm. told.3; rest = rest }
asks_of s s' degree (asked.Cut k) made told rest = record { moves = made; calm = λ calm due. due.0 (ap (λ (z : Running). z.asked) made.1); rest = rest }
asks_of s s' degree asked.NoChange made told rest =
    record { moves = made; calm = still_calm (rule_by s.by_entries) (scan_of s) (scan_of s') degree made.1 (same_asked (scan_of s) degree told.1); rest = rest }
asks_of s s' degree asked.AlreadyFinished made told rest =
    record { moves = made; calm = still_calm (rule_by s.by_entries) (scan_of s) (scan_of s') degree made.1 (full_asked (scan_of s) degree told); rest = rest }

-- ---- a part
cut_of_divide : (p : Part) (cut : Option ℕ) → cut_for (divide_of p cut) p.fragment ≡ cut
cut_of_divide p None = refl
cut_of_divide p (Some k) = let self = eq-eqb p.fragment p.fragment refl in simp self

cut_elsewhere : (p : Part) (cut : Option ℕ) (f : ℕ) → eqb p.fragment f ≡ false → cut_for (divide_of p cut) f ≡ None
cut_elsewhere p None f e = refl
cut_elsewhere p (Some k) f e = simp e

none_cut : (divide : Option Event) (f : ℕ) → divide ≡ None → cut_for divide f ≡ None
none_cut divide f e = ap (λ o. cut_for o f) e

-- what one part does to each fragment
part_all : (slots slots' : List Slotted) (o : Option Part) (divide : Option Event) → IfSome o (CanTake slots) → GivesPart slots o divide slots' → (f : ℕ) → f < length slots → GivesSlot (part_for o f) (cut_for divide f) (at slots f) (at slots' f)
part_all slots slots' None divide can gives f lt = (none_cut divide f gives.0, ap (λ xs. at xs f) gives.1)
part_all slots slots' (Some p) divide can gives f lt =
    let new : at slots' f ≡ at (set slots p.fragment gives.2) f = ap (λ xs. at xs f) gives.4 in
    elim (cases_eq p.fragment f) [
      | inl e ↦
          let self = eq-eqb p.fragment f e in
          let there : at slots' f ≡ gives.2 = new ∙ ap (λ q. at (set slots p.fragment gives.2) q) (sym e) ∙ get_or-set_same slots p.fragment gives.2 no_slot can.inside in
          let cut : cut_for divide f ≡ gives.0 = ap (λ o. cut_for o f) gives.1 ∙ ap (λ q. cut_for (divide_of p gives.0) q) (sym e) ∙ cut_of_divide p gives.0 in
          rw self
          (subst (λ x. GivesOne (at slots f) p.degree (cut_for divide f) x) (sym there)
          (subst (λ k. GivesOne (at slots f) p.degree k gives.2) (sym cut) (subst (λ q. GivesOne (at slots q) p.degree gives.0 gives.2) e gives.3)))
      | inr ne ↦
          let other = ne_eqb p.fragment f ne in
          rw other
          (ap (λ o. cut_for o f) gives.1 ∙ cut_elsewhere p gives.0 f other, new ∙ get_or-set_other slots p.fragment f gives.2 no_slot (λ x. ne (sym x)))
    ]

-- the divide of one of two parts
abbrev pub either : Option Event → Option Event → Option Event
either None e = e
either (Some d) e = Some d

earlier_same : (o : Option ℕ) → earlier_of o None ≡ o
earlier_same None = refl
earlier_same (Some n) = refl

both_slots : (a b c1 c2 : Option ℕ) (s m s' : Slotted) → ((n : ℕ) → a ≡ Some n → b ≡ None) → GivesSlot a c1 s m → GivesSlot b c2 m s' → GivesSlot (earlier_of a b) (earlier_of c1 c2) s s'
both_slots None b c1 c2 s m s' apart one two =
    subst (λ c. GivesSlot b (earlier_of c c2) s s') (sym one.0) (subst (λ x. GivesSlot b c2 x s') one.1 two)
both_slots (Some n) b c1 c2 s m s' apart one two =
    let none = apart n refl in
    let two' = subst (λ o. GivesSlot o c2 m s') none two in
    subst (λ x. GivesOne s n (earlier_of c1 c2) x) (sym two'.1)
    (subst (λ c. GivesOne s n (earlier_of c1 c) m) (sym two'.0) (subst (λ c. GivesOne s n c m) (sym (earlier_same c1)) one))

either_cut : (e1 e2 : Option Event) (f : ℕ) → ((d : Event) → e1 ≡ Some d → e2 ≡ None) → cut_for (either e1 e2) f ≡ earlier_of (cut_for e1 f) (cut_for e2 f)
either_cut None e2 f one = refl
either_cut (Some d) e2 f one = sym (ap (λ o. earlier_of (cut_for (Some d) f) (cut_for o f)) (one d refl) ∙ earlier_same (cut_for (Some d) f))

-- a part whose fragment is divided names a fragment that runs
runs_cut : (s s' : Slotted) (degree k : ℕ) (st : Stage) → s.stage ≡ st → GivesIn st s degree (Some k) s' → kind.runs_in st ≡ true
runs_cut s s' degree k kind.waiting e gives = absurd (let x = gives.0 in cc)
runs_cut s s' degree k kind.runs e gives = refl
runs_cut s s' degree k (kind.ended v) e gives = absurd (let x = gives.0 in cc)

divides : (slots slots' : List Slotted) (o : Option Part) (d : Event) → GivesPart slots o (Some d) slots'
    → (p : Part) × (k : ℕ) × (o ≡ Some p) × (d ≡ event.Divide p.fragment p.degree k) × (is_running (at slots p.fragment) ≡ true)
divides slots slots' None d gives = absurd (let x = gives.0 in cc)
divides slots slots' (Some p) d gives = go gives.0 gives.1 gives.3
  where
    go : (cut : Option ℕ) → Some d ≡ divide_of p cut → GivesOne (at slots p.fragment) p.degree cut gives.2
        → (q : Part) × (k : ℕ) × (Some p ≡ Some q) × (d ≡ event.Divide q.fragment q.degree k) × (is_running (at slots q.fragment) ≡ true)
    go None e one = absurd (cc)
    go (Some k) e one = (p, k, refl, (let same : d ≡ event.Divide p.fragment p.degree k = cc in same), runs_cut (at slots p.fragment) gives.2 p.degree k (at slots p.fragment).stage refl one)

-- the other part's fragment is as it was
mid_at : (slots mid : List Slotted) (o : Option Part) (divide : Option Event) (q : Part) → GivesPart slots o divide mid → ((p : Part) → o ≡ Some p → p.fragment ≢ q.fragment) → at mid q.fragment ≡ at slots q.fragment
mid_at slots mid None divide q gives apart = ap (λ xs. at xs q.fragment) gives.1
mid_at slots mid (Some p) divide q gives apart = ap (λ xs. at xs q.fragment) gives.4 ∙ get_or-set_other slots p.fragment q.fragment gives.2 no_slot (λ e. apart p refl (sym e))

pub can_second : (slots mid : List Slotted) (d : Decision) (divide : Option Event) → AreTwo slots d → GivesPart slots d.first divide mid → length mid ≡ length slots → IfSome d.second (CanTake slots) → IfSome d.second (CanTake mid)
can_second slots mid d divide two gives size can = go d.second refl can
  where
    go : (o : Option Part) → d.second ≡ o → IfSome o (CanTake slots) → IfSome o (CanTake mid)
    go None e h = tt
    go (Some q) e h = record {
      inside = (let l = h.inside in omega arith);
      low = h.low;
      high = h.high;
      can = subst CanGive (sym (mid_at slots mid d.first divide q gives (λ p e'. two.apart p q e' e))) h.can;
    }

part_named : (o : Option Part) (f n : ℕ) → part_for o f ≡ Some n → (p : Part) × (o ≡ Some p) × (p.fragment ≡ f) × (p.degree ≡ n)
part_named None f n e = absurd (cc)
part_named (Some p) f n e =
    elim (cases_eq p.fragment f) [
      | inl i ↦ let self = eq-eqb p.fragment f i in let e' = simp self at e in (p, refl, i, (let d : p.degree ≡ n = cc in d))
      | inr ne ↦ absurd (let other = ne_eqb p.fragment f ne in let e' = simp other at e in cc)
    ]

part_here : (o : Option Part) (p : Part) → o ≡ Some p → part_for o p.fragment ≡ Some p.degree
part_here o p e = ap (λ x. part_for x p.fragment) e ∙ (let self = eq-eqb p.fragment p.fragment refl in simp self)

some_none : (o : Option ℕ) → ((n : ℕ) → o ≡ Some n → ⊥) → o ≡ None
some_none None h = refl
some_none (Some n) h = absurd (h n refl)

event_none : (o : Option Event) → ((d : Event) → o ≡ Some d → ⊥) → o ≡ None
event_none None h = refl
event_none (Some d) h = absurd (h d refl)

pub gives_all : (slots mid slots' : List Slotted) (d : Decision) (e1 e2 : Option Event) → IfSome d.first (CanTake slots) → IfSome d.second (CanTake slots) → AreTwo slots d
    → GivesPart slots d.first e1 mid → length mid ≡ length slots → GivesPart mid d.second e2 slots' → length slots' ≡ length mid → AllGiven slots d (either e1 e2) slots'
gives_all slots mid slots' d e1 e2 can1 can2 two one size1 other size2 = record {
  size = size2 ∙ size1;
  each = λ f lt.
      subst (λ c. GivesSlot (given d f) c (at slots f) (at slots' f)) (sym (either_cut e1 e2 f single))
      (both_slots (part_for d.first f) (part_for d.second f) (cut_for e1 f) (cut_for e2 f) (at slots f) (at mid f) (at slots' f) (apart f)
      (part_all slots mid d.first e1 can1 one f lt) (part_all mid slots' d.second e2 (can_second slots mid d e1 two one size1 can2) other f (omega arith)));
  cut = cuts e1 refl;
}
  where
    apart : (f n : ℕ) → part_for d.first f ≡ Some n → part_for d.second f ≡ None
    apart f n e = some_none (part_for d.second f) (λ k e'.
        let p = part_named d.first f n e in
        let q = part_named d.second f k e' in
        two.apart p.0 q.0 p.1 q.1 (p.2 ∙ sym q.2))

    single : (x : Event) → e1 ≡ Some x → e2 ≡ None
    single x e = event_none e2 (λ y e'.
        let p = divides slots mid d.first x (subst (λ o. GivesPart slots d.first o mid) e one) in
        let q = divides mid slots' d.second y (subst (λ o. GivesPart mid d.second o slots') e' other) in
        two.one p.0 q.0 p.2 q.2 p.4 (sym (ap is_running (mid_at slots mid d.first e1 q.0 one (λ p' i. two.apart p' q.0 i q.2))) ∙ q.4))

    first_given : (p : Part) → d.first ≡ Some p → given d p.fragment ≡ Some p.degree
    first_given p e = ap (λ o. earlier_of o (part_for d.second p.fragment)) (part_here d.first p e)

    second_given : (q : Part) → d.second ≡ Some q → given d q.fragment ≡ Some q.degree
    second_given q e =
        let none : part_for d.first q.fragment ≡ None = some_none (part_for d.first q.fragment) (λ n e'. let p = part_named d.first q.fragment n e' in two.apart p.0 q p.1 e p.2) in
        ap (λ o. earlier_of o (part_for d.second q.fragment)) none ∙ part_here d.second q e

    inside_of : (o : Option Part) (p : Part) → o ≡ Some p → IfSome o (CanTake slots) → p.fragment < length slots
    inside_of o p e h = (let can = subst (λ x. IfSome x (CanTake slots)) e h in can.inside)

    second_cut : (o : Option Event) → e2 ≡ o → IsCut slots d o
    second_cut None e = tt
    second_cut (Some y) e =
        let q = divides mid slots' d.second y (subst (λ o. GivesPart mid d.second o slots') e other) in (
          q.0.fragment,
          q.0.degree,
          q.1,
          q.3,
          inside_of d.second q.0 q.2 can2,
          second_given q.0 q.2,
          sym (ap is_running (mid_at slots mid d.first e1 q.0 one (λ p' i. two.apart p' q.0 i q.2))) ∙ q.4,
        )

    cuts : (o : Option Event) → e1 ≡ o → IsCut slots d (either o e2)
    cuts None e = second_cut e2 refl
    cuts (Some x) e =
        let p = divides slots mid d.first x (subst (λ o. GivesPart slots d.first o mid) e one) in
        (p.0.fragment, p.0.degree, p.1, p.3, inside_of d.first p.0 p.2 can1, first_given p.0 p.2, p.4)

-- ---- a list of loads, one fragment further
pub more_yes : (t : Slotted → Bool) (xs : List Slotted) (i : ℕ) (s : Slotted) → i < length xs → s ≡ get_or xs i s → t s ≡ true
    → map (λ (x : Slotted). x.load) (filter t (take (i + 1) xs)) ≡ map (λ (x : Slotted). x.load) (filter t (take i xs)) ++ s.load ∷ []
more_yes t xs i s lt is e =
    ap (λ ys. map (λ (x : Slotted). x.load) (filter t ys)) (take_more xs i s lt ∙ ap (λ x. take i xs ++ x ∷ []) (sym is)) ∙ go (take i xs)
  where
    go : (ys : List Slotted) → map (λ (x : Slotted). x.load) (filter t (ys ++ s ∷ [])) ≡ map (λ (x : Slotted). x.load) (filter t ys) ++ s.load ∷ []
    go [] = simp e
    go (y ∷ ys) = elim (cases_Bool (t y)) [ inl a ↦ simp a (ap (λ zs. y.load ∷ zs) (go ys)) | inr b ↦ simp b (go ys) ]

pub more_no : (t : Slotted → Bool) (xs : List Slotted) (i : ℕ) (s : Slotted) → i < length xs → s ≡ get_or xs i s → t s ≡ false
    → map (λ (x : Slotted). x.load) (filter t (take (i + 1) xs)) ≡ map (λ (x : Slotted). x.load) (filter t (take i xs))
more_no t xs i s lt is e =
    ap (λ ys. map (λ (x : Slotted). x.load) (filter t ys)) (take_more xs i s lt ∙ ap (λ x. take i xs ++ x ∷ []) (sym is)) ∙ go (take i xs)
  where
    go : (ys : List Slotted) → map (λ (x : Slotted). x.load) (filter t (ys ++ s ∷ [])) ≡ map (λ (x : Slotted). x.load) (filter t ys)
    go [] = simp e
    go (y ∷ ys) = elim (cases_Bool (t y)) [ inl a ↦ simp a (ap (λ zs. y.load ∷ zs) (go ys)) | inr b ↦ simp b (go ys) ]
