-- A run before its first decision.
use Rattle.std.proofs.Common.{◌≡◌, ◌≢◌, ℕ, zero, suc, ◌+◌, ◌-◌, ◌*◌, ◌<◌, ◌≤◌, ◌⊎◌, ◌^◌, not, Bool, true, false, cond, List, [], ◌∷◌, ◌++◌, length, map, take, drop, replicate, reverse, get_or, refl, ap, sym, ◌∙◌, subst, inl, inr, arith, Option, Some, None, IfSome, is_some, slice_get, append_assoc, drop-cons, ltb, count_by}
use Rattle.std.specs.List.{All, AllByRecursion, sum_by}
use Rattle.std.proofs.lemmas.Bool.{cases_lt, true≢false}
use Rattle.std.proofs.lemmas.List.{get_or_past, length-map, length-replicate, length-take, take_more}
use Rattle.std.proofs.lemmas.List.Sums.{sum_by-cons}
use Rattle.rows.specs.declared.plain.Column.{Column}
use Rattle.rows.specs.declared.plain.LayoutPart.{LayoutPart}
use Rattle.rows.specs.declared.plain.Machine.{Machine}
use Rattle.rows.specs.declared.plain.Step.{Step}
use Rattle.plan_tree.specs.Ends.{is_by_entries}
use Rattle.plan_tree.specs.Inputs.{inputs_of, probe_inputs, source_inputs}
use Rattle.plan_tree.specs.Pieces.{Piece, Probing, piece_of, pieces_of}
use Rattle.plan_tree.specs.WellFormed.{AreProbes, AreWellFormed, HasInput, IsPiece, IsSource}
use Rattle.plan_tree.specs.declared.fragment.Fragment.{Fragment}
use Rattle.plan_tree.specs.declared.fragment.Source.{Source}
use Rattle.plan_tree.specs.declared.fragment.Source.TheVariants as source
use Rattle.adjust_protocol.specs.Calls.{fresh}
use Rattle.adjust_protocol.specs.Moves.{IsDue}
use Rattle.page_partition.specs.Scan.{out_of}
use Rattle.page_partition.specs.declared.table.Mark.{Mark}
use Rattle.io_cpu_scheduler.specs.Decisions.{decision}
use Rattle.io_cpu_scheduler.specs.Limits.{IsLoad, IsMachine, IsStep}
use Rattle.io_cpu_scheduler.specs.Sensible.{IsSensible}
use Rattle.io_cpu_scheduler.specs.Steps.{machine_at}
use Rattle.io_cpu_scheduler.specs.declared.load.Decision.{Decision}
use Rattle.history.specs.Boards.{BoardIs, GivenTo, rule_by}
use Rattle.history.specs.Outline.{IsWithin, Outline, no_outline, outline}
use Rattle.history.specs.Projected.{earlier_of, given}
use Rattle.history.specs.Running.{AreOrdered}
use Rattle.history.specs.State.{decision_after}
use Rattle.history.specs.declared.event.Event.{Event}
use Rattle.history.specs.declared.event.Event.TheVariants as event
use Rattle.history.proofs.Follows.{follows_begin}
use Rattle.master.specs.Gives.{AllGiven, AreTwo, CanGive, IsCut, ready_in, running_in, IsDecided, CanDecide}
use Rattle.master.specs.Kind.{Slotted, is_ended, is_running, scan_of}
use Rattle.master.specs.Ledger.{HasAnswerRoom, HasAsks, IsKept, IsSlotOf, Tools, at, need, no_slot, outs_below, scans, unended}
use Rattle.master.specs.Content.{HasContent}
use Rattle.master.proofs.Contents.{none_there}
use Rattle.master.proofs.Finishes.{AreBase, IsGiving, kept_given}
use Rattle.master.proofs.Gave.{Unbegun, to_given}
use Rattle.master.proofs.Given.{unbegun_idle}
use Rattle.master.proofs.Loads.{AreSlots, decided, decision_in_order, loads_fit, takes}
use Rattle.master.proofs.Needs.{is_rule}
use Rattle.master.specs.Meaning.{Meaning, outline_of, run_of}
use Rattle.master.specs.Starts.{start_of, starts, starts_from}

-- ---- a well formed fragment reads earlier ones
get_below : (xs : List Piece) (k : ℕ) (x : Piece) → slice_get xs k ≡ Some x → k < length xs
get_below [] k x e = absurd (cc)
get_below (y ∷ ys) zero x e = omega arith
get_below (y ∷ ys) (suc k) x e = let h = get_below ys k x e in omega arith

below_taken : (pieces : List Piece) (n k : ℕ) (P : Piece → Type 0) → HasInput (take n pieces) k P → k < n
below_taken pieces n k P has = let h = get_below (take n pieces) k has.0 has.1 in let l = length-take n pieces in omega arith

probes_below : (pieces : List Piece) (n : ℕ) (layout last : List LayoutPart) (ps : List Probing) → AreProbes (take n pieces) layout ps last → AllByRecursion (λ k. k < n) (probe_inputs ps)
probes_below pieces n layout last [] are = tt
probes_below pieces n layout last (p ∷ ps) are =
    ((elim are.0.input [ inl a ↦ below_taken pieces n p.input _ a | inr b ↦ below_taken pieces n p.input _ b.2 ]), probes_below pieces n p.layout last ps are.1)

all_append : (P : ℕ → Type 0) (xs ys : List ℕ) → AllByRecursion P xs → AllByRecursion P ys → AllByRecursion P (xs ++ ys)
all_append P [] ys a b = b
all_append P (x ∷ xs) ys a b = (a.0, all_append P xs ys a.1 b)

source_below : (pieces : List Piece) (n : ℕ) (s : Source) (columns : List Column) (positions pages : ℕ) → IsSource (take n pieces) s columns positions pages → AllByRecursion (λ k. k < n) (source_inputs s)
source_below pieces n source.One columns positions pages is = tt
source_below pieces n (source.Heap var file) columns positions pages is = tt
source_below pieces n (source.Index var index heap_file interval) columns positions pages is = tt
source_below pieces n (source.Merge left right keys left_layout right_layout) columns positions pages is =
    (below_taken pieces n left _ is.0.left_input, (below_taken pieces n right _ is.0.right_input, tt))

pub inputs_below : (pieces : List Piece) (n : ℕ) (piece : Piece) → IsPiece (take n pieces) piece → AllByRecursion (λ k. k < n) (inputs_of piece)
inputs_below pieces n piece is =
    all_append (λ k. k < n) (source_inputs piece.pipe.source) (probe_inputs piece.pipe.probes) (source_below pieces n piece.pipe.source piece.pipe.columns piece.positions piece.pages is.source)
    (probes_below pieces n _ piece.layout piece.pipe.probes is.probes)

-- ---- the fragment of a number
found_at : (fs : List Fragment) (q asks k : ℕ) → k < length fs
    → (f : Fragment) × (at (starts_from q asks fs) k ≡ start_of (q + k) asks f) × (get_or (map outline_of fs) k no_outline ≡ outline_of f) × (slice_get (map piece_of fs) k ≡ Some (piece_of f))
found_at [] q asks k lt = absurd (omega arith)
found_at (f ∷ fs) q asks zero lt = let z : q ≡ q + 0 = omega arith in (f, ap (λ n. start_of n asks f) z, refl, refl)
found_at (f ∷ fs) q asks (suc k) lt =
    let r = found_at fs (q + 1) asks k (omega arith) in
    let z : q + 1 + k ≡ q + suc k = omega arith in
    (r.0, r.1 ∙ ap (λ n. start_of n asks r.0) z, r.2, r.3)

pub length_starts : (q asks : ℕ) (fs : List Fragment) → length (starts_from q asks fs) ≡ length fs
length_starts q asks [] = refl
length_starts q asks (f ∷ fs) = let h = length_starts (q + 1) asks fs in omega arith

-- the loop's step
pub starts_more : (slots : List Slotted) (asks k : ℕ) (f : Fragment) (fs : List Fragment) (all : List Slotted) → k < length fs → f ≡ get_or fs k f → slots ++ starts_from k asks (drop k fs) ≡ all → (slots ++ start_of k asks f ∷ []) ++ starts_from (k + 1) asks (drop (k + 1) fs) ≡ all
starts_more slots asks k f fs all lt is e = append_assoc slots (start_of k asks f ∷ []) (starts_from (k + 1) asks (drop (k + 1) fs)) ∙ ap (λ xs. slots ++ xs) (sym (opened k fs lt is)) ∙ e
  where
    opened : (j : ℕ) (gs : List Fragment) → j < length gs → f ≡ get_or gs j f → starts_from k asks (drop j gs) ≡ start_of k asks f ∷ starts_from (k + 1) asks (drop (j + 1) gs)
    opened j gs l i = ap (starts_from k asks) (drop-cons gs j f l ∙ ap (λ x. x ∷ drop (suc j) gs) (sym i)) ∙ (let z : suc j ≡ j + 1 = omega arith in ap (λ n. start_of k asks f ∷ starts_from (k + 1) asks (drop n gs)) z)

-- ---- a list that is filled as it is read
got_below : (xs : List ℕ) (k x : ℕ) → slice_get xs k ≡ Some x → k < length xs
got_below [] k x e = absurd (cc)
got_below (y ∷ ys) zero x e = omega arith
got_below (y ∷ ys) (suc k) x e = let h = got_below ys k x e in omega arith

got_or : (xs : List ℕ) (k x : ℕ) → slice_get xs k ≡ Some x → get_or xs k x ≡ x
got_or [] k x e = absurd (cc)
got_or (y ∷ ys) zero x e = cc
got_or (y ∷ ys) (suc k) x e = got_or ys k x e

pub take_got : (xs : List ℕ) (k x : ℕ) → slice_get xs k ≡ Some x → take (k + 1) xs ≡ take k xs ++ x ∷ []
take_got xs k x e = take_more xs k x (got_below xs k x e) ∙ ap (λ y. take k xs ++ y ∷ []) (got_or xs k x e)

pub none_got : (xs : List ℕ) (k : ℕ) → slice_get xs k ≡ None → length xs ≤ k
none_got [] k e = omega arith
none_got (y ∷ ys) zero e = absurd (cc)
none_got (y ∷ ys) (suc k) e = let h = none_got ys k e in omega arith

-- ---- before the first decision
pub start_ordered : (m : Meaning) → AreWellFormed (pieces_of m.fragments) → AreOrdered (run_of m)
start_ordered m formed f lt =
    let r = found_at m.fragments 0 (length m.fragments) f (omega (arith, length-map m.fragments outline_of)) in
    let piece = formed.each f (piece_of r.0) r.3 in
    let out : outline (run_of m) f ≡ outline_of r.0 = r.2 in (
      subst (λ (o : Outline). AllByRecursion (λ g. g < f) o.inputs) (sym out) (inputs_below (pieces_of m.fragments) f (piece_of r.0) piece),
      subst (λ (o : Outline). IsLoad (record { fragment = f; pages = o.pages; time = o.time })) (sym out) (record { pages = piece.timed.few_pages; some_time = piece.timed.some_time; time = piece.timed.short }),
    )

-- what holds of each fragment at the start
start_each : (P : ℕ → Slotted → Type 0) (m : Meaning) → ((f : ℕ) (F : Fragment) → f < length m.fragments → outline (run_of m) f ≡ outline_of F → P f (start_of f (length m.fragments) F)) → (f : ℕ) → f < length (starts m.fragments) → P f (at (starts m.fragments) f)
start_each P m each f lt =
    let l : f < length m.fragments = omega (arith, length_starts 0 (length m.fragments) m.fragments) in
    let r = found_at m.fragments 0 (length m.fragments) f l in
    let z : 0 + f ≡ f = omega arith in
    subst (P f) (sym (r.1 ∙ ap (λ n. start_of n (length m.fragments) r.0) z)) (each f r.0 l r.2)

pub start_are : (m : Meaning) → AreSlots (run_of m) [] (starts m.fragments)
start_are m = record {
  size = length_starts 0 (length m.fragments) m.fragments ∙ sym (length-map m.fragments outline_of);
  each = start_each (λ f s. IsSlotOf (run_of m) [] f s) m (λ f F lt out. record {
    kind = ap (λ (o : Outline). o.by_entries) (sym out);
    inputs = ap (λ (o : Outline). o.inputs) (sym out);
    load = ap (λ (o : Outline). record { fragment = f; pages = o.pages; time = o.time }) (sym out);
    has_begun = refl;
    has_ended = refl;
  });
}

still_none : (m : Meaning) (f : ℕ) → f < length (starts m.fragments) → is_running (at (starts m.fragments) f) ≡ false
still_none m = start_each (λ f s. is_running s ≡ false) m (λ f F lt out. refl)

no_running : (xs : List Slotted) → ((k : ℕ) → k < length xs → is_running (at xs k) ≡ false) → running_in xs ≡ []
no_running [] none = refl
no_running (x ∷ xs) none = let e : is_running x ≡ false = none 0 (omega arith) in simp e (no_running xs (λ k lt. none (suc k) (omega arith)))

pub start_one : (m : Meaning) → length (running_in (starts m.fragments)) ≤ 1
start_one m = subst (λ ls. length ls ≤ 1) (sym (no_running (starts m.fragments) (still_none m))) (omega arith)

pub start_can : (m : Meaning) (f : ℕ) → f < length (starts m.fragments) → is_ended (at (starts m.fragments) f) ≡ false → CanGive (at (starts m.fragments) f)
start_can m f lt e = start_each (λ q s. CanGive s) m (λ q F l out. record { going = refl; room = omega arith; unbegun = λ w. (F.positions, 1, length m.fragments + 1, refl) }) f lt

pub start_two : (m : Meaning) (mach : Machine) (d : Decision) → IsSensible mach (running_in (starts m.fragments)) (ready_in (starts m.fragments)) d → AreTwo (starts m.fragments) d
start_two m mach d sensible =
    let order = decision_in_order (run_of m) [] (starts m.fragments) mach d (start_are m) sensible in
    record {
      apart = λ p q a b e. let lt = order p q a b in absurd (omega arith);
      one = λ p q a b rp rq. absurd (runs_nowhere p.fragment rp);
    }
  where
    runs_nowhere : (f : ℕ) → is_running (at (starts m.fragments) f) ≡ true → ⊥
    runs_nowhere f e = elim (cases_lt f (length (starts m.fragments))) [
      | inl lt ↦ true≢false (sym e ∙ still_none m f lt)
      | inr ge ↦ true≢false (sym e ∙ ap is_running (get_or_past (starts m.fragments) f no_slot ge))
    ]

-- ---- nothing needs room
idle_outs : (k : ℕ) (ms : List Mark) → ((r : ℕ) → r < k → out_of ms r ≡ []) → outs_below k ms ≡ 0
unfolding outs_below
idle_outs zero ms none = refl
idle_outs (suc k) ms none =
    let e = ap (λ (xs : List ℕ). cond {A = ℕ} (ltb 0 (length xs)) 1 0) (none k (omega arith)) in
    let rest = idle_outs k ms (λ r lt. none r (omega arith)) in
    omega arith

start_need : (number asks : ℕ) (F : Fragment) → need (start_of number asks F) ≤ 0
start_need number asks F =
    let rule = rule_by (is_by_entries F.pipe.source) in
    let idle = unbegun_idle rule (is_rule (is_by_entries F.pipe.source)) (fresh rule F.positions 1 (asks + 1)) F.positions 1 (asks + 1) refl in
    let outs = idle_outs 64 (fresh rule F.positions 1 (asks + 1)).scan.marks idle in
    let held : count_by (λ (b : Bool). b) (replicate 64 false) ≡ 0 = refl in
    omega arith

sum_none : (w : Slotted → ℕ) (xs : List Slotted) → ((k : ℕ) → k < length xs → w (at xs k) ≤ 0) → sum_by w xs ≤ 0
sum_none w [] each = omega arith
sum_none w (x ∷ xs) each =
    let a : w x ≤ 0 = each 0 (omega arith) in
    let rest = sum_none w xs (λ k lt. each (suc k) (omega arith)) in
    let c = sum_by-cons w x xs in
    omega arith

none_ended : (xs : List Slotted) → ((k : ℕ) → k < length xs → is_ended (at xs k) ≡ false) → unended xs ≡ length xs
none_ended [] each = refl
none_ended (x ∷ xs) each =
    let first : is_ended x ≡ false = each 0 (omega arith) in
    let one = ap (λ b. cond {A = ℕ} b 0 1) first in
    let rest = none_ended xs (λ k lt. each (suc k) (omega arith)) in
    let c = sum_by-cons (λ (s : Slotted). cond {A = ℕ} (is_ended s) 0 1) x xs in
    omega arith

-- ---- the first decision
no_cut : (m : Meaning) (d : Decision) (divide : Option Event) → IsCut (starts m.fragments) d divide → divide ≡ None
no_cut m d None cut = refl
no_cut m d (Some e) cut = absurd (true≢false (sym cut.6 ∙ still_none m cut.0 cut.4))

pub start_decides : (m : Meaning) (mach : Machine) → AreWellFormed (pieces_of m.fragments) → IsMachine mach → CanDecide mach (starts m.fragments)
start_decides m mach formed machine = record {
  one = start_one m;
  loads = loads_fit (run_of m) [] (starts m.fragments) (start_are m) (start_ordered m formed);
  limits = machine;
  takes = λ d sensible. (
    takes (run_of m) [] (starts m.fragments) mach d.first (start_are m) machine (start_can m) sensible.first,
    takes (run_of m) [] (starts m.fragments) mach d.second (start_are m) machine (start_can m) sensible.second,
    start_two m mach d sensible,
  );
}

pub begin_given : (m : Meaning) (slots' : List Slotted) (d : Decision) (divide : Option Event) → AllGiven (starts m.fragments) d divide slots' → AllGiven (starts m.fragments) d None slots'
begin_given m slots' d divide given' = subst (λ o. AllGiven (starts m.fragments) d o slots') (no_cut m d divide given'.cut) given'

pub begin_decides : (m : Meaning) (mach : Machine) (d : Decision) → AreWellFormed (pieces_of m.fragments) → mach ≡ machine_at m.machine m.steps 0 → d ≡ decision mach (running_in (starts m.fragments)) (ready_in (starts m.fragments)) → d ≡ decision_after (run_of m) []
begin_decides m mach d formed machine is = decided (run_of m) [] (starts m.fragments) mach d (start_are m) (start_ordered m formed) machine is

pub kept_begin : (m : Meaning) (later : List Event) (slots' : List Slotted) (t : Tools) (mach : Machine) (d : Decision) (divide : Option Event) → IsWithin (run_of m) → AreWellFormed (pieces_of m.fragments) → mach ≡ machine_at m.machine m.steps 0
    → IsDecided mach (starts m.fragments) d → AllGiven (starts m.fragments) d divide slots' → later ≡ event.Begin d ∷ [] → t.decision ≡ d → t.finishes ≡ 0 → t.needed ≡ 0 → t.machine ≡ m.machine → t.steps ≡ m.steps → HasAnswerRoom m t
    → length m.fragments ≤ t.running → length m.fragments ≤ t.ready → IsKept m later slots' t
kept_begin m later slots' t mach d divide within formed machine is given₀ items decision' count needed tm ts answers running ready =
    let size = length_starts 0 (length m.fragments) m.fragments in
    let ordered = start_ordered m formed in
    let given' = begin_given m slots' d divide given₀ in
    let decides = begin_decides m mach d formed machine is.value in
    let base : AreBase m (λ q. None) (λ q. false) 0 (starts m.fragments) t = record {
      within = within;
      ordered = ordered;
      small = (let few = formed.few in let l = length-map m.fragments piece_of in omega arith);
      size = (start_are m).size;
      each = λ f lt. let of = (start_are m).each f lt in record { kind = of.kind; inputs = of.inputs; load = of.load; has_begun = of.has_begun; has_ended = of.has_ended };
      content = start_each (HasContent m) m (λ f F lt out. record { size = length-replicate F.positions None ∙ ap (λ (o : Outline). o.positions) (sym out); outputs = λ p rows e. absurd (none_there F.positions p rows e); value = λ v e. absurd (cc) });
      unbegun = start_each (λ f s. Unbegun s) m (λ f F lt out w. (F.positions, 1, length m.fragments + 1, refl));
      calm = start_each (λ f s. IsDue (scan_of s) → ⊥) m (λ f F lt out due. due.0 refl);
      fed = λ f lt e. absurd (true≢false (sym e ∙ still_none m f lt));
      asks = subst (λ n. (f : ℕ) → f < length (starts m.fragments) → HasAsks n 0 (at (starts m.fragments) f)) (sym size) (start_each (λ f s. HasAsks (length m.fragments) 0 s) m (λ f F lt out. omega arith));
      fewer = omega arith;
      more = λ f lt e. absurd (true≢false (sym e ∙ still_none m f lt));
      counted = (let none = sum_none need (starts m.fragments) (start_each (λ f s. need s ≤ 0) m (λ f F lt out. start_need f (length m.fragments) F)) in omega arith);
      kept = omega arith;
      unended = (let all = none_ended (starts m.fragments) (start_each (λ f s. is_ended s ≡ false) m (λ f F lt out. refl)) in omega arith);
      lists = (omega arith, omega arith);
      machine = tm;
      steps = ts;
      answers = answers;
    } in
    let giving : IsGiving m (λ q. None) (λ q. false) later (event.Begin d ∷ []) t = record {
      is = ap reverse items;
      some = λ e. absurd (cc);
      begun_as = λ f. ap (λ x. earlier_of None (given x f)) (sym decision');
      finished_as = λ f. refl;
      finishes_as = count;
    } in
    let boards : (f : ℕ) → f < length (run_of m).fragments → f < length (starts m.fragments) = λ f lt. let e = (start_are m).size in omega arith in
    let fresh_all : (f : ℕ) → f < length (run_of m).fragments → BoardIs (run_of m) f None [] (scans (starts m.fragments) f) = λ f lt.
    start_each (λ q s. BoardIs (run_of m) q None [] (scan_of s)) m (λ q F l out. (1, length m.fragments + 1, ap (λ (o : Outline). fresh (rule_by o.by_entries) o.positions 1 (length m.fragments + 1)) (sym out))) f (boards f lt) in
    let gives : (f : ℕ) → f < length (run_of m).fragments → GivenTo (run_of m) f None false (given d f) (scans (starts m.fragments) f) (scans slots' f) = λ f lt.
    let of = (start_are m).each f (boards f lt) in
    to_given (run_of m) f None (given d f) false [] (at (starts m.fragments) f) (at slots' f) of.kind of.has_begun of.has_ended (fresh_all f lt) (given'.each f (boards f lt)) in
    kept_given m (λ q. None) (λ q. false) 0 later (event.Begin d ∷ []) [] (starts m.fragments) slots' t mach None
    base giving (start_are m) (subst (λ x. IsDecided mach (starts m.fragments) x) (sym decision') is) (subst (λ x. AllGiven (starts m.fragments) x None slots') (sym decision') given')
    (follows_begin (run_of m) (scans (starts m.fragments)) (scans slots') d within decides fresh_all gives)

pub none_of : (o : Option ℕ) → ((x : ℕ) → o ≡ Some x → ⊥) → o ≡ None
none_of None h = refl
none_of (Some x) h = absurd (h x refl)

pub only_begin : (log later : List Event) (d : Decision) → log ≡ [] → later ≡ log ++ event.Begin d ∷ [] → later ≡ event.Begin d ∷ []
only_begin log later d none e = e ∙ ap (λ xs. xs ++ event.Begin d ∷ []) none

pub all_steps : (xs : List Step) → AllByRecursion IsStep xs → All IsStep xs
all_steps [] all k d lt = absurd (omega arith)
all_steps (x ∷ xs) all zero d lt = all.0
all_steps (x ∷ xs) all (suc k) d lt = all_steps xs all.1 k d (omega arith)
