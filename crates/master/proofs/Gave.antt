-- What a fragment is after a decision gave it its degree.
use Rattle.std.proofs.Common.{◌≡◌, ◌≢◌, ℕ, zero, suc, ◌+◌, ◌-◌, ◌*◌, ◌<◌, ◌≤◌, ◌⊎◌, ◌&&◌, not, Bool, true, false, cond, eqb, List, [], ◌∷◌, ◌++◌, length, replicate, refl, ap, sym, ◌∙◌, subst, inl, inr, arith, Option, Some, None, is_some}
use Rattle.std.proofs.lemmas.Bool.{cases_Bool, true≢false}
use Rattle.page_partition.specs.Scan.{IsIdle}
use Rattle.page_partition.specs.StrideKept.{idle_fresh}
use Rattle.page_partition.specs.declared.table.Mark.TheVariants.{Left}
use Rattle.adjust_protocol.specs.Calls.{fresh}
use Rattle.adjust_protocol.specs.Moves.{IsDue, Makes, Move, Rule, Running, asked_for, holders}
use Rattle.adjust_protocol.specs.Moves as move
use Rattle.io_cpu_scheduler.specs.declared.load.Load.{Load}
use Rattle.history.specs.Boards.{BoardIs, GivenTo, rule_by, rule_of}
use Rattle.history.specs.Outline.{Run, outline}
use Rattle.history.specs.Projected.{earlier_of}
use Rattle.master.specs.Gives.{Asks, Begins, GivesIn, GivesOne, GivesSlot, IsUnbegun, given_moves}
use Rattle.master.specs.Content.{HasContent, HasOutputs}
use Rattle.master.specs.Meaning.{Meaning}
use Rattle.master.specs.Kind.{Slotted, Stage, ended_in, is_ended, is_running, is_waiting, runs_in, scan_of, value_in, waits_in}
use Rattle.master.specs.Kind as kind
use Rattle.master.specs.Ledger.{HasAsks, need, outs_below}
use Rattle.master.proofs.Needs.{is_rule, outs_divide}

abbrev pub Unbegun : Slotted → Type 0
Unbegun s = is_waiting s ≡ true → IsUnbegun s

-- ---- what stays the same
pub record IsSame (s s' : Slotted) : Type 0 where
  pub kind : s'.by_entries ≡ s.by_entries
  pub inputs : s'.inputs ≡ s.inputs
  pub load : s'.load ≡ s.load
  pub outputs : s'.board.outputs ≡ s.board.outputs

pub given_same : (n cut : Option ℕ) (s s' : Slotted) → GivesSlot n cut s s' → IsSame s s'
given_same None cut s s' g = record { kind = ap (λ (x : Slotted). x.by_entries) g.1; inputs = ap (λ (x : Slotted). x.inputs) g.1; load = ap (λ (x : Slotted). x.load) g.1; outputs = ap (λ (x : Slotted). x.board.outputs) g.1 }
given_same (Some k) cut s s' g = go s.stage g
  where
    go : (st : Stage) → GivesIn st s k cut s' → IsSame s s'
    go kind.waiting g = record { kind = ap (λ (x : Slotted). x.by_entries) g.1.rest; inputs = ap (λ (x : Slotted). x.inputs) g.1.rest; load = ap (λ (x : Slotted). x.load) g.1.rest; outputs = ap (λ (x : Slotted). x.board.outputs) g.1.rest }
    go kind.runs g = record { kind = ap (λ (x : Slotted). x.by_entries) g.rest; inputs = ap (λ (x : Slotted). x.inputs) g.rest; load = ap (λ (x : Slotted). x.load) g.rest; outputs = ap (λ (x : Slotted). x.board.outputs) g.rest }
    go (kind.ended v) g = record { kind = ap (λ (x : Slotted). x.by_entries) g.1; inputs = ap (λ (x : Slotted). x.inputs) g.1; load = ap (λ (x : Slotted). x.load) g.1; outputs = ap (λ (x : Slotted). x.board.outputs) g.1 }

-- ---- how far it is
-- one that waits begins where a degree is given; nothing else changes
stage_given : Stage → Option ℕ → Stage
stage_given st None = st
stage_given kind.waiting (Some k) = kind.runs
stage_given kind.runs (Some k) = kind.runs
stage_given (kind.ended v) (Some k) = kind.ended v

stage_is : (n cut : Option ℕ) (s s' : Slotted) (st : Stage) → s.stage ≡ st → GivesSlot n cut s s' → s'.stage ≡ stage_given st n
unfolding stage_given
stage_is None cut s s' st e g = ap (λ (x : Slotted). x.stage) g.1 ∙ e
stage_is (Some k) cut s s' st e g = go st e (subst (λ x. GivesIn x s k cut s') e g)
  where
    go : (st : Stage) → s.stage ≡ st → GivesIn st s k cut s' → s'.stage ≡ stage_given st (Some k)
    go kind.waiting e g = ap (λ (x : Slotted). x.stage) g.1.rest
    go kind.runs e g = ap (λ (x : Slotted). x.stage) g.rest ∙ e
    go (kind.ended v) e g = ap (λ (x : Slotted). x.stage) g.1 ∙ e

begun_stage : (st : Stage) (o n : Option ℕ) → is_some o ≡ not (waits_in st) → is_some (earlier_of o n) ≡ not (waits_in (stage_given st n))
unfolding stage_given
begun_stage kind.waiting None None e = refl
begun_stage kind.waiting None (Some k) e = refl
begun_stage kind.waiting (Some d) n e = absurd (cc)
begun_stage kind.runs None n e = absurd (cc)
begun_stage kind.runs (Some d) None e = refl
begun_stage kind.runs (Some d) (Some k) e = refl
begun_stage (kind.ended v) None n e = absurd (cc)
begun_stage (kind.ended v) (Some d) None e = refl
begun_stage (kind.ended v) (Some d) (Some k) e = refl

ended_stage : (st : Stage) (n : Option ℕ) → ended_in (stage_given st n) ≡ ended_in st
unfolding stage_given
ended_stage st None = refl
ended_stage kind.waiting (Some k) = refl
ended_stage kind.runs (Some k) = refl
ended_stage (kind.ended v) (Some k) = refl

runs_stage : (st : Stage) (n : Option ℕ) → runs_in (stage_given st n) ≡ true → (runs_in st ≡ true) ⊎ ((k : ℕ) × (n ≡ Some k))
unfolding stage_given
runs_stage st None e = inl e
runs_stage st (Some k) e = inr (k, refl)

value_stage : (st : Stage) (n : Option ℕ) → value_in (stage_given st n) ≡ value_in st
unfolding stage_given
value_stage st None = refl
value_stage kind.waiting (Some k) = refl
value_stage kind.runs (Some k) = refl
value_stage (kind.ended v) (Some k) = refl

pub given_content : (m : Meaning) (f : ℕ) (n cut : Option ℕ) (s s' : Slotted) → HasContent m f s → GivesSlot n cut s s' → HasContent m f s'
given_content m f n cut s s' h g =
    let same = (given_same n cut s s' g).outputs in
    record {
      size = ap length same ∙ h.size;
      outputs = subst (HasOutputs m f) (sym same) h.outputs;
      value = λ v e. h.value v (sym (ap value_in (stage_is n cut s s' s.stage refl g) ∙ value_stage s.stage n) ∙ e);
    }

pub given_begun : (n cut o : Option ℕ) (s s' : Slotted) → is_some o ≡ not (is_waiting s) → GivesSlot n cut s s' → is_some (earlier_of o n) ≡ not (is_waiting s')
given_begun n cut o s s' e g = begun_stage s.stage o n e ∙ sym (ap (λ st. not (waits_in st)) (stage_is n cut s s' s.stage refl g))

pub given_ended : (n cut : Option ℕ) (s s' : Slotted) → GivesSlot n cut s s' → is_ended s' ≡ is_ended s
given_ended n cut s s' g = ap ended_in (stage_is n cut s s' s.stage refl g) ∙ ended_stage s.stage n

pub given_runs : (n cut : Option ℕ) (s s' : Slotted) → GivesSlot n cut s s' → is_running s' ≡ true → (is_running s ≡ true) ⊎ ((k : ℕ) × (n ≡ Some k))
given_runs n cut s s' g e = runs_stage s.stage n (sym (ap runs_in (stage_is n cut s s' s.stage refl g)) ∙ e)

-- ---- nothing is due
pub given_calm : (n cut : Option ℕ) (s s' : Slotted) → Unbegun s → (IsDue (scan_of s) → ⊥) → GivesSlot n cut s s' → IsDue (scan_of s') → ⊥
given_calm None cut s s' un calm g due = calm (subst (λ (x : Slotted). IsDue (scan_of x)) g.1 due)
given_calm (Some k) cut s s' un calm g due = go s.stage refl g
  where
    go : (st : Stage) → s.stage ≡ st → GivesIn st s k cut s' → ⊥
    go kind.waiting e g = (let u = un (ap waits_in e) in due.0 (ap (λ (z : Running). z.asked) (g.1.begun u.0 u.1 u.2 u.3)))
    go kind.runs e g = g.calm calm due
    go (kind.ended v) e g = calm (subst (λ (x : Slotted). IsDue (scan_of x)) g.1 due)

-- ---- there is room for the asks
some_most : (o : Option ℕ) → cond {A = ℕ} (is_some o) 1 0 ≤ 1
some_most None = omega arith
some_most (Some n) = omega arith

ask_room : (rule : Rule) (degree : ℕ) (cut : Option ℕ) (s s' : Running) (N k : ℕ) → Makes rule 64 s (given_moves degree cut) s' → N + cond (is_some s.asked) 1 0 + 0 ≤ s.scan.room + k → N + cond (is_some s'.asked) 1 0 + 0 ≤ s'.scan.room + (k + 1)
ask_room rule degree None s s' N k made h =
    let m = some_most s'.asked in
    let r = ap (λ (z : Running). z.scan.room) made.1 in
    omega arith
ask_room rule degree (Some c) s s' N k made h =
    let a = ap (λ (z : Running). cond {A = ℕ} (is_some z.asked) 1 0) made.1 in
    let r = ap (λ (z : Running). z.scan.room) made.1 in
    omega arith

pub given_asks : (n cut : Option ℕ) (s s' : Slotted) (N k k' : ℕ) → Unbegun s → k ≤ k' → (is_running s ≡ true → k + 1 ≤ k') → HasAsks N k s → GivesSlot n cut s s' → HasAsks N k' s'
given_asks None cut s s' N k k' un le more h g = subst (λ (x : Slotted). HasAsks N k' x) (sym g.1) (omega arith)
given_asks (Some d) cut s s' N k k' un le more h g = go s.stage refl g
  where
    go : (st : Stage) → s.stage ≡ st → GivesIn st s d cut s' → HasAsks N k' s'
    go kind.waiting e g =
        let u = un (ap waits_in e) in
        let new = g.1.begun u.0 u.1 u.2 u.3 in
        let a = ap (λ (z : Running). cond {A = ℕ} (is_some z.asked) 1 0) new in
        let r = ap (λ (z : Running). z.scan.room) new in
        let r0 = ap (λ (z : Running). z.scan.room) u.3 in
        let a0 = ap (λ (z : Running). cond {A = ℕ} (is_some z.asked) 1 0) u.3 in
        let w0 = ap (λ x. cond {A = ℕ} (waits_in x) 1 0) e in
        let w = ap (λ (x : Slotted). cond {A = ℕ} (is_waiting x) 1 0) g.1.rest in
        omega arith
    go kind.runs e g =
        let m = more (ap runs_in e) in
        let w0 = ap (λ x. cond {A = ℕ} (waits_in x) 1 0) e in
        let w = ap (λ (x : Slotted). cond {A = ℕ} (is_waiting x) 1 0) g.rest in
        let room = ask_room (rule_by s.by_entries) d cut (scan_of s) (scan_of s') N k g.moves (omega arith) in
        omega arith
    go (kind.ended v) e g = subst (λ (x : Slotted). HasAsks N k' x) (sym g.1) (omega arith)

-- ---- it needs no more events
fresh_outs : (rule : Bool) (positions from to : ℕ) (s s' : Running) (room room' : ℕ) → s ≡ fresh (rule_by rule) positions from room → s' ≡ fresh (rule_by rule) positions to room' → outs_below 64 s'.scan.marks ≡ outs_below 64 s.scan.marks
fresh_outs rule positions from to s s' room room' a b =
    let start = replicate positions (Left 0) in
    let idle : IsIdle start = λ r lt. idle_fresh r 0 positions in
    ap (λ (z : Running). outs_below 64 z.scan.marks) b ∙ outs_divide (rule_by rule) (is_rule rule) to start idle ∙ sym (outs_divide (rule_by rule) (is_rule rule) from start idle) ∙ sym (ap (λ (z : Running). outs_below 64 z.scan.marks) a)

ask_need : (b : Bool) (degree : ℕ) (cut : Option ℕ) (s s' : Running) → Makes (rule_by b) 64 s (given_moves degree cut) s' → (outs_below 64 s'.scan.marks ≡ outs_below 64 s.scan.marks) × (holders s' ≡ holders s) × (s'.collecting ≡ s.collecting)
ask_need b degree None s s' made = (ap (λ (z : Running). outs_below 64 z.scan.marks) made.1, ap holders made.1, ap (λ (z : Running). z.collecting) made.1)
ask_need b degree (Some c) s s' made = (
  ap (λ (z : Running). outs_below 64 z.scan.marks) made.1 ∙ outs_divide (rule_by b) (is_rule b) degree s.scan.marks made.0.1.0.1,
  ap holders made.1,
  ap (λ (z : Running). z.collecting) made.1,
)

pub given_need : (n cut : Option ℕ) (s s' : Slotted) → Unbegun s → GivesSlot n cut s s' → need s' ≤ need s
given_need None cut s s' un g = let e = ap need g.1 in omega arith
given_need (Some d) cut s s' un g = go s.stage refl g
  where
    go : (st : Stage) → s.stage ≡ st → GivesIn st s d cut s' → need s' ≤ need s
    go kind.waiting e g =
        let u = un (ap waits_in e) in
        let new = g.1.begun u.0 u.1 u.2 u.3 in
        let outs = fresh_outs s.by_entries u.0 u.1 d (scan_of s) (scan_of s') u.2 (u.2 - 1) u.3 new in
        let h : holders (scan_of s') ≡ holders (scan_of s) = ap holders new ∙ sym (ap holders u.3) in
        let c : cond {A = ℕ} (scan_of s').collecting 1 0 ≡ cond (scan_of s).collecting 1 0 = ap (λ (z : Running). cond {A = ℕ} z.collecting 1 0) new ∙ sym (ap (λ (z : Running). cond {A = ℕ} z.collecting 1 0) u.3) in
        omega arith
    go kind.runs e g =
        let same = ask_need s.by_entries d cut (scan_of s) (scan_of s') g.moves in
        let o = same.0 in
        let h = same.1 in
        let c = ap (λ b. cond {A = ℕ} b 1 0) same.2 in
        omega arith
    go (kind.ended v) e g = let e = ap need g.1 in omega arith

-- ---- as the history says it
pub unbegun_of : (run : Run) (f : ℕ) (o : Option ℕ) (xs : List Move) (s : Slotted) → s.by_entries ≡ (outline run f).by_entries → is_some o ≡ not (is_waiting s) → BoardIs run f o xs (scan_of s) → Unbegun s
unbegun_of run f None xs s same e b w = ((outline run f).positions, b.0, b.1, b.2 ∙ ap (λ k. fresh (rule_by k) (outline run f).positions b.0 b.1) (sym same))
unbegun_of run f (Some d) xs s same e b w = absurd (let x = e ∙ ap not w in cc)

pub to_given : (run : Run) (f : ℕ) (o n : Option ℕ) (fin : Bool) (xs : List Move) (s s' : Slotted) → s.by_entries ≡ (outline run f).by_entries → is_some o ≡ not (is_waiting s) → fin ≡ is_ended s → BoardIs run f o xs (scan_of s) → GivesSlot n None s s'
    → GivenTo run f o fin n (scan_of s) (scan_of s')
to_given run f None None fin xs s s' same b e is g = ap scan_of g.1
to_given run f None (Some k) fin xs s s' same b e is g = go s.stage refl g
  where
    go : (st : Stage) → s.stage ≡ st → GivesIn st s k None s' → GivenTo run f None fin (Some k) (scan_of s) (scan_of s')
    go kind.waiting w g =
        let by = ap (λ r. fresh (rule_by r) (outline run f).positions is.0 is.1) (sym same) in
        (is.1 - 1, g.1.begun (outline run f).positions is.0 is.1 (is.2 ∙ by) ∙ ap (λ r. fresh (rule_by r) (outline run f).positions k (is.1 - 1)) same)
    go kind.runs w g = absurd (let x = b ∙ ap (λ st. not (waits_in st)) w in cc)
    go (kind.ended v) w g = absurd (let x = b ∙ ap (λ st. not (waits_in st)) w in cc)
to_given run f (Some d) None true xs s s' same b e is g = ap scan_of g.1
to_given run f (Some d) None false xs s s' same b e is g = ap scan_of g.1
to_given run f (Some d) (Some k) true xs s s' same b e is g = go s.stage refl g
  where
    go : (st : Stage) → s.stage ≡ st → GivesIn st s k None s' → scan_of s' ≡ scan_of s
    go kind.waiting w g = absurd (let x = e ∙ ap ended_in w in cc)
    go kind.runs w g = absurd (let x = e ∙ ap ended_in w in cc)
    go (kind.ended v) w g = ap scan_of g.1
to_given run f (Some d) (Some k) false xs s s' same b e is g = go s.stage refl g
  where
    go : (st : Stage) → s.stage ≡ st → GivesIn st s k None s' → Makes (rule_of run f) run.machine.batch (scan_of s) (move.Ask k ∷ []) (scan_of s')
    go kind.waiting w g = absurd (let x = b ∙ ap (λ st. not (waits_in st)) w in cc)
    go kind.runs w g = subst (λ r. Makes (rule_by r) run.machine.batch (scan_of s) (move.Ask k ∷ []) (scan_of s')) same g.moves
    go (kind.ended v) w g = absurd (let x = e ∙ ap ended_in w in cc)

pub to_cut : (run : Run) (f k c : ℕ) (s s' : Slotted) → s.by_entries ≡ (outline run f).by_entries → is_running s ≡ true → GivesOne s k (Some c) s' → Makes (rule_of run f) run.machine.batch (scan_of s) (move.Ask k ∷ move.Divide k c ∷ []) (scan_of s')
to_cut run f k c s s' same e g = go s.stage refl g
  where
    go : (st : Stage) → s.stage ≡ st → GivesIn st s k (Some c) s' → Makes (rule_of run f) run.machine.batch (scan_of s) (move.Ask k ∷ move.Divide k c ∷ []) (scan_of s')
    go kind.waiting w g = absurd (let x = g.0 in cc)
    go kind.runs w g = subst (λ r. Makes (rule_by r) run.machine.batch (scan_of s) (move.Ask k ∷ move.Divide k c ∷ []) (scan_of s')) same g.moves
    go (kind.ended v) w g = absurd (let x = g.0 in cc)

-- what is finished stays as it is
pub ended_stays : (n cut : Option ℕ) (s s' : Slotted) → is_ended s ≡ true → GivesSlot n cut s s' → s' ≡ s
ended_stays None cut s s' e g = g.1
ended_stays (Some k) cut s s' e g = go s.stage refl g
  where
    go : (st : Stage) → s.stage ≡ st → GivesIn st s k cut s' → s' ≡ s
    go kind.waiting w g = absurd (let x = sym (ap ended_in w) ∙ e in cc)
    go kind.runs w g = absurd (let x = sym (ap ended_in w) ∙ e in cc)
    go (kind.ended v) w g = g.1

stage_not_ended : (st : Stage) → runs_in st ≡ true → ended_in st ≡ false
stage_not_ended kind.waiting e = refl
stage_not_ended kind.runs e = refl
stage_not_ended (kind.ended v) e = absurd (cc)

pub running_not_ended : (s : Slotted) → is_running s ≡ true → is_ended s ≡ false
running_not_ended s e = stage_not_ended s.stage e
