-- One more set in the table of the chosen trees.
use Rattle.std.proofs.Common.{◌≡◌, ◌∙◌, sym, refl, ap, arith, ℕ, ◌+◌, ◌^◌, ◌-◌, ◌<◌, ◌≤◌, map, List, [], ◌∷◌, ◌++◌, Some, length, length-append, subst, inl, inr}
use Rattle.std.specs.List.{slice_get}
use Rattle.std.proofs.lemmas.Option.{slice_get_within, get_or_from_slice_get, slice_get-get_or}
use Rattle.std.proofs.lemmas.List.{length-map, get_or_append_left, get_or_push, map-append, length_push}
use Rattle.std.proofs.lemmas.Bool.{cases_lt}
use Rattle.seq_optimizer.specs.declared.table.Entry.{Entry}
use Rattle.seq_optimizer.specs.declared.table.Choice.TheVariants as choice
use Rattle.seq_optimizer.specs.Tables.{Apart, BestBelow, IsBestScan, IsChosenOutline, IsLeastOutline, IsOutline, Outline, Says, Settled, SettledBelow, World, cost_at, join_of, leaf, mask_of, node, outline_cost, split_cost, split_price}
use Rattle.seq_optimizer.proofs.Least.{chosen_least, has_variable}

get_kept : {X : Type 0} (xs ys : List X) (i : ℕ) (x : X) → slice_get xs i ≡ Some x → slice_get (xs ++ ys) i ≡ Some x
get_kept xs ys i x e =
    let within = slice_get_within xs i x e in
    let longer : i < length (xs ++ ys) = rw (length-append xs ys) (omega arith) in
    slice_get-get_or (xs ++ ys) i x longer ∙ ap (λ (y : _). Some y) (get_or_append_left xs ys x i within ∙ get_or_from_slice_get xs i x x e)

get_last : {X : Type 0} (xs : List X) (y : X) (i : ℕ) → length xs ≡ i → slice_get (xs ++ y ∷ []) i ≡ Some y
get_last xs y i e =
    let longer : i < length (xs ++ y ∷ []) = rw (length_push xs y) (omega arith) in
    slice_get-get_or (xs ++ y ∷ []) i y longer ∙ ap (λ (z : _). Some z) (get_or_push xs y y i e)

cost_kept : (table : List Entry) (e : Entry) (k : ℕ) → k < length table → cost_at (table ++ e ∷ []) k ≡ cost_at table k
cost_kept table e k lt =
    let short : k < length (map (λ (x : Entry). x.cost) table) = rw (length-map {A = Entry} {B = ℕ} table (λ (x : Entry). x.cost)) lt in
    rw (map-append (λ (x : Entry). x.cost) table (e ∷ [])) (get_or_append_left (map (λ (x : Entry). x.cost) table) (e.cost ∷ []) 0 k short)

cost_last : (table : List Entry) (e : Entry) (k : ℕ) → length table ≡ k → cost_at (table ++ e ∷ []) k ≡ e.cost
cost_last table e k lt =
    let short : length (map (λ (x : Entry). x.cost) table) ≡ k = length-map {A = Entry} {B = ℕ} table (λ (x : Entry). x.cost) ∙ lt in
    rw (map-append (λ (x : Entry). x.cost) table (e ∷ [])) (get_or_push (map (λ (x : Entry). x.cost) table) e.cost 0 k short)

says_kept : (table : List Entry) (e : Entry) (m : ℕ) (t : Outline) → Says table m t → Says (table ++ e ∷ []) m t
unfolding Says
says_kept table e m (leaf v how) h = (h.0, get_kept table (e ∷ []) m h.0 h.1, h.2)
says_kept table e m (node a b) h = (h.0, get_kept table (e ∷ []) m h.0 h.1, h.2, h.3, h.4, says_kept table e (mask_of a) a h.5, says_kept table e (m - mask_of a) b h.6)

settled_kept : (w : World) (table : List Entry) (e : Entry) (k : ℕ) → k < length table → Settled w table k → Settled w (table ++ e ∷ []) k
settled_kept w table e k lt s = record {
  outline = s.outline;
  says = says_kept table e k s.outline s.says;
  is_outline = s.is_outline;
  set = s.set;
  chosen = s.chosen;
  costs = cost_kept table e k lt ∙ s.costs;
}

-- the sets so far, and one more
pub below_one_more : (w : World) (table : List Entry) (e : Entry) (m : ℕ) → length table ≡ m → SettledBelow w table m → Settled w (table ++ e ∷ []) m → SettledBelow w (table ++ e ∷ []) (m + 1)
below_one_more w table e m len before last k p lt = elim (cases_lt k m) [
  | inl below ↦ settled_kept w table e k (omega arith) (before k p below)
  | inr at ↦ let same : m ≡ k = omega arith in subst (λ (x : ℕ). Settled w (table ++ e ∷ []) x) same last
]

-- a set of one variable
pub settled_scan : (w : World) (table : List Entry) (e : Entry) (v m : ℕ) → length table ≡ m → m ≡ 2 ^ v → v < length w.stats → IsBestScan w v e → Settled w (table ++ e ∷ []) m
unfolding Says IsOutline mask_of IsChosenOutline outline_cost
settled_scan w table e v m len set var best = record {
  outline = leaf v best.0;
  says = (e, get_last table e m len, best.1);
  is_outline = (var, best.2);
  set = sym set;
  chosen = best.3;
  costs = cost_last table e m len ∙ best.4;
}

-- the join of the chosen trees of two sets costs no more than any join of trees of these sets
least_join : (w : World) (a b c d x y : ℕ) → a ≤ c → b ≤ d → join_of w a b x y ≤ join_of w c d x y
least_join w a b c d x y p q = omega arith

-- the costs of the sides, where they are known
same_join : (w : World) (a b c d x y : ℕ) → a ≡ c → b ≡ d → join_of w a b x y ≡ join_of w c d x y
same_join w a b c d x y p q = rw (p, q) refl

sides_apart : (w : World) (c d : Outline) (y : ℕ) → IsOutline w (node c d) → mask_of d ≡ y → Apart (mask_of c) y
unfolding IsOutline
sides_apart w c d y tree e = rw (← e) tree.0

-- the join of two chosen trees, of sets x and y, where it costs no more than any split of their set
module _ (w : World) (table : List Entry) (e : Entry) (m : ℕ) (before : SettledBelow w table m) where
  -- a join costs at least the split by its build set
  under : (c d : Outline) → IsOutline w (node c d) → (x y : ℕ) → mask_of c ≡ x → mask_of d ≡ y → x + y ≡ m → split_cost w table x y ≤ outline_cost w (node c d)
  unfolding IsOutline mask_of IsLeastOutline outline_cost
  under c d tree x y atx aty sum =
      let px = has_variable c in
      let py = has_variable d in
      let one = before x (omega arith) (omega arith) in
      let other = before y (omega arith) (omega arith) in
      let left : cost_at table x ≤ outline_cost w c = rw one.costs (chosen_least w one.outline one.is_outline one.chosen c tree.1 (atx ∙ sym one.set)) in
      let right : cost_at table y ≤ outline_cost w d = rw other.costs (chosen_least w other.outline other.is_outline other.chosen d tree.2 (aty ∙ sym other.set)) in
      rw (atx, aty) (least_join w _ _ _ _ x y left right)

  module _ (b : ℕ) (least : (x : ℕ) → 0 < x → x < m → Apart x (m - x) → (e.cost ≤ split_cost w table x (m - x)) × (split_cost w table x (m - x) ≡ e.cost → b ≤ x))
      (several : (v : ℕ) → 2 ^ v ≡ m → ⊥) where
    -- each join of the set is split as the table was
    beats : (c d : Outline) → IsOutline w (node c d) → mask_of c + mask_of d ≡ m → (e.cost ≤ outline_cost w (node c d)) × (outline_cost w (node c d) ≡ e.cost → b ≤ mask_of c)
    beats c d tree sum =
        let px = has_variable c in
        let py = has_variable d in
        let rest : mask_of d ≡ m - mask_of c = omega arith in
        let apart : Apart (mask_of c) (m - mask_of c) = sides_apart w c d (m - mask_of c) tree rest in
        let here = least (mask_of c) px (omega arith) apart in
        let more : split_cost w table (mask_of c) (m - mask_of c) ≤ outline_cost w (node c d) = under c d tree (mask_of c) (m - mask_of c) refl rest (omega arith) in
        (omega arith, λ same. here.1 (omega arith))

    least_case : (u : Outline) → IsOutline w u → mask_of u ≡ m → e.cost ≤ outline_cost w u
    unfolding mask_of
    least_case (leaf v how) tree same = absurd (several v same)
    least_case (node c d) tree same = (beats c d tree same).0

    settled_sides : (y : ℕ) → length table ≡ m → 0 < b → b < m → b + y ≡ m → y ≡ m - b → Apart b y → e.choice ≡ choice.Join b → e.cost ≡ split_cost w table b y
        → Settled w table b → Settled w table y → Settled w (table ++ e ∷ []) m
    unfolding Says IsOutline mask_of IsChosenOutline IsLeastOutline outline_cost
    settled_sides y len some part sum rest apart how costs one other =
        let cost_is : e.cost ≡ outline_cost w (node one.outline other.outline) = costs ∙ same_join w _ _ _ _ b y one.costs other.costs ∙ rw (one.set, other.set) refl in
        let set_is : mask_of (node one.outline other.outline) ≡ m = rw (one.set, other.set) sum in
        record {
          outline = node one.outline other.outline;
          says = (e, get_last table e m len, how ∙ ap choice.Join (sym one.set), rw one.set part, rw one.set some, rw one.set (says_kept table e b one.outline one.says), rw (one.set, ← rest) (says_kept table e y other.outline other.says));
          is_outline = (rw (one.set, other.set) apart, one.is_outline, other.is_outline);
          set = set_is;
          chosen = (
            λ u tree same. rw (← cost_is) (least_case u tree (same ∙ set_is)),
            λ c d tree same equal. rw one.set ((beats c d tree (same ∙ set_is)).1 (equal ∙ sym cost_is)),
            one.chosen,
            other.chosen,
          );
          costs = cost_last table e m len ∙ cost_is;
        }

-- a larger set
pub settled_join : (w : World) (table : List Entry) (e : Entry) (m : ℕ) → length table ≡ m → SettledBelow w table m → BestBelow (split_price w table m) m m e
    → ((v : ℕ) → 2 ^ v ≡ m → ⊥) → Settled w (table ++ e ∷ []) m
settled_join w table e m len before best several =
    settled_sides w table e m before best.0 best.6 several (m - best.0) len best.2 best.3 (omega arith) refl best.4 best.1 best.5 (before best.0 best.2 best.3) (before (m - best.0) (omega arith) (omega arith))
