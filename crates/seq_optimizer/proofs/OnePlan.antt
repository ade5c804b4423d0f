-- The chosen tree is one.
use Rattle.std.proofs.Common.{◌≡◌, ◌∙◌, sym, refl, ap, subst, arith, ℕ, zero, suc, ◌+◌, ◌<◌, ◌≤◌, Bool, true, false, ◌==◌, List}
use Rattle.std.specs.Prelude.{IfSome, Option}
use Rattle.std.proofs.lemmas.Bool.Decides.{nat_tests}
use Rattle.std.proofs.lemmas.Nat.Bits.{same_from_bits}
use Rattle.lists.specs.Arranged.{one_if}
use Rattle.rel_meaning.specs.Expression.{Expression, Question}
use Rattle.rows.specs.declared.plain.Interval.{Interval}
use Rattle.rows.specs.declared.plain.KeyPair.{KeyPair}
use Rattle.plan_tree.specs.declared.tree.Method.{Method}
use Rattle.plan_tree.specs.declared.tree.Way.{Way}
use Rattle.plan_tree.specs.declared.tree.Way.TheVariants as way
use Rattle.plan_tree.specs.Conjuncts.{conjuncts}
use Rattle.plan_tree.specs.Keys.{keys_of}
use Rattle.plan_tree.specs.Trees.{HasMethods, IsPlaced, IsTreeOf, Shape, has, is_variable, join, join_tests, method_at, one, scan, scan_tests, scans}
use Rattle.seq_optimizer.specs.declared.stats.VarStats.{VarStats}
use Rattle.seq_optimizer.specs.Best.{IsBestTree}
use Rattle.seq_optimizer.specs.Costs.{CanRead, FitsStats, HasFirstSide, IsChosen, IsChosenWay, IsLeast, cost, number_of, scan_cost}
use Rattle.seq_optimizer.specs.Estimates.{stats_at}
use Rattle.seq_optimizer.specs.Sets.{in_set}
use Rattle.seq_optimizer.proofs.Least.{same_interval}
use Rattle.seq_optimizer.proofs.Numbers.{has_number, has_scans, left_once, number_bits, right_once}
use Rattle.seq_optimizer.proofs.NoVariables.{side_scans}
use Rattle.seq_optimizer.proofs.Scanned.{if_one, scans_itself}
use Rattle.seq_optimizer.proofs.Sets.{same_sets}

one_back : (b : Bool) → (one_if b == 1) ≡ b
one_back true = refl
one_back false = refl

bit_back : (n : ℕ) → n ≤ 1 → one_if (n == 1) ≡ n
bit_back zero h = refl
bit_back (suc zero) h = refl
bit_back (suc (suc n)) h = absurd (omega arith)

most_one : (b : Bool) → one_if b ≤ 1
most_one true = omega arith
most_one false = omega arith

same_variable : (v w : ℕ) → 0 < one_if (v == w) → v ≡ w
same_variable v w h = let same : (v == w) ≡ true = if_one (v == w) h in grind (arith, nat_tests)

-- a chosen tree of a set of variables
pub record IsPick (cs : List Expression) (stats : List VarStats) (m : Method) (root : Bool) (set : ℕ → Bool) (t : Shape) : Type 0 where
  pub tree : IsTreeOf cs m root set t
  pub fits : FitsStats stats t
  pub chosen : IsChosen cs stats m root t

-- what stands at the nodes of a tree
module _ (cs : List Expression) where
  scan_placed : (root : Bool) (v : ℕ) (how : Way) (tests : List Expression) → IsPlaced cs root (scan v how tests) → tests ≡ scan_tests root (λ u. v == u) cs
  scan_placed true v how tests h = h
  scan_placed false v how tests h = h

  join_placed : (root : Bool) (k : Method) (a b : Shape) (keys : List KeyPair) (tests : List Expression) → IsPlaced cs root (join k a b keys tests) →
      IsPlaced cs false a × IsPlaced cs false b × (keys ≡ keys_of (has a) (has b) cs) × (tests ≡ join_tests root (has a) (has b) cs)
  join_placed true k a b keys tests h = h
  join_placed false k a b keys tests h = h

module _ (cs : List Expression) (stats : List VarStats) (m : Method) where
  most : (root : Bool) (set : ℕ → Bool) (t : Shape) → IsTreeOf cs m root set t → (v : ℕ) → scans t v ≤ 1
  most root set t tree v = let here = tree.once v in let low = most_one (set v) in omega (arith, here, low)

  own_set : (root : Bool) (set : ℕ → Bool) (t : Shape) → IsTreeOf cs m root set t → has t ≡ set
  own_set root set t tree = same_sets (has t) set (λ v. has_scans t (most root set t tree) v ∙ ap (λ (n : ℕ). n == 1) (tree.once v) ∙ one_back (set v))

  side_tree : (t : Shape) → ((v : ℕ) → scans t v ≤ 1) → IsPlaced cs false t → HasMethods m t → IsTreeOf cs m false (has t) t
  side_tree t low placed methods = record {
    once = λ v. sym (ap one_if (has_scans t low v) ∙ bit_back (scans t v) (low v));
    placed = placed;
    methods = methods;
  }

  one_way : (v : ℕ) (how other : Way) → CanRead stats v how → CanRead stats v other → IsChosenWay stats v how → IsChosenWay stats v other → how ≡ other
  one_way v way.Heap way.Heap can could h k = refl
  one_way v way.Heap (way.Index j) can could h k =
      absurd (let low = subst (λ (o : Option Interval). IfSome o (λ i. scan_cost stats v way.Heap ≤ scan_cost stats v (way.Index i))) could h in omega (arith, low, k))
  one_way v (way.Index i) way.Heap can could h k =
      absurd (let low = subst (λ (o : Option Interval). IfSome o (λ j. scan_cost stats v way.Heap ≤ scan_cost stats v (way.Index j))) can k in omega (arith, low, h))
  one_way v (way.Index i) (way.Index j) can could h k = ap (λ (x : Interval). way.Index x) (same_interval (stats_at stats v).interval i j can could)

  -- a tree that scans nothing
  none_same : (root : Bool) (set : ℕ → Bool) (tests : List Expression) (u : Shape) → IsTreeOf cs m root set (one tests) → IsTreeOf cs m root set u → one tests ≡ u
  none_same false set tests u p q = absurd p.placed
  none_same true set tests (one others) p q = ap one (p.placed ∙ sym q.placed)
  none_same true set tests (scan w how others) p q = absurd (let none = p.once w in let here = q.once w in let itself = scans_itself w in omega (arith, none, here, itself))
  none_same true set tests (join k c d keys others) p q = absurd (
      let left = side_scans cs c q.placed.0 in
      let some : 0 < scans c left.0 = left.1 in
      let none = p.once left.0 in
      let here = q.once left.0 in
      omega (arith, none, here, some))

  -- a join scans more than one variable
  scan_no_join : (root : Bool) (set : ℕ → Bool) (v : ℕ) (how : Way) (tests : List Expression) (k : Method) (c d : Shape) (keys : List KeyPair) (others : List Expression) →
      IsTreeOf cs m root set (scan v how tests) → IsTreeOf cs m root set (join k c d keys others) → ⊥
  scan_no_join root set v how tests k c d keys others p q =
      let parts = join_placed cs root k c d keys others q.placed in
      let left = side_scans cs c parts.0 in
      let right = side_scans cs d parts.1 in
      let some : 0 < scans c left.0 = left.1 in
      let more : 0 < scans d right.0 = right.1 in
      let at_left = p.once left.0 in
      let of_left = q.once left.0 in
      let at_right = p.once right.0 in
      let of_right = q.once right.0 in
      let is_left : left.0 ≡ v = same_variable left.0 v (omega (arith, at_left, of_left, some)) in
      let is_right : right.0 ≡ v = same_variable right.0 v (omega (arith, at_right, of_right, more)) in
      let low : 0 < scans c v = subst (λ (x : ℕ). 0 < scans c x) is_left some in
      let high : 0 < scans d v = subst (λ (x : ℕ). 0 < scans d x) is_right more in
      let two = most root set (join k c d keys others) q v in
      omega (arith, low, high, two)

  scan_same : (root : Bool) (set : ℕ → Bool) (v : ℕ) (how : Way) (tests : List Expression) (u : Shape) → IsPick cs stats m root set (scan v how tests) → IsPick cs stats m root set u → scan v how tests ≡ u
  unfolding IsChosen
  scan_same root set v how tests (one others) p q = sym (none_same root set others (scan v how tests) q.tree p.tree)
  scan_same root set v how tests (scan w other others) p q =
      let here = p.tree.once v in
      let there = q.tree.once v in
      let itself = scans_itself v in
      let same : v ≡ w = same_variable v w (omega (arith, here, there, itself)) in
      let can : CanRead stats v other = subst (λ (x : ℕ). CanRead stats x other) (sym same) q.fits in
      let choice : IsChosenWay stats v other = subst (λ (x : ℕ). IsChosenWay stats x other) (sym same) q.chosen in
      let ways = one_way v how other p.fits can p.chosen choice in
      let tested : tests ≡ others = scan_placed cs root v how tests p.tree.placed ∙ ap (λ (x : ℕ). scan_tests root (λ y. x == y) cs) same ∙ sym (scan_placed cs root w other others q.tree.placed) in
      λ i. scan (same i) (ways i) (tested i)
  scan_same root set v how tests (join k c d keys others) p q = absurd (scan_no_join root set v how tests k c d keys others p.tree q.tree)

-- the sides of two joins are over the same variables, and are chosen
pub record AreSides (cs : List Expression) (stats : List VarStats) (m : Method) (a b c d : Shape) : Type 0 where
  pub first_set : has a ≡ has c
  pub second_set : has b ≡ has d
  pub first : IsPick cs stats m false (has a) a
  pub other_first : IsPick cs stats m false (has a) c
  pub second : IsPick cs stats m false (has b) b
  pub other_second : IsPick cs stats m false (has b) d

module _ (cs : List Expression) (stats : List VarStats) (m : Method) where
  no_more : (root : Bool) (set : ℕ → Bool) (t u : Shape) → IsLeast cs stats m root t → IsTreeOf cs m root set t → IsTreeOf cs m root set u → FitsStats stats u → cost cs stats t ≤ cost cs stats u
  unfolding IsLeast
  no_more root set t u least p q fits = least u (subst (λ (f : ℕ → Bool). IsTreeOf cs m root f u) (sym (own_set cs stats m root set t p)) q) fits

  first_low : (root : Bool) (set : ℕ → Bool) (t : Shape) (number : ℕ) (k : Method) (c d : Shape) (keys : List KeyPair) (tests : List Expression) → HasFirstSide cs stats m root t number → IsTreeOf cs m root set t →
      IsTreeOf cs m root set (join k c d keys tests) → FitsStats stats (join k c d keys tests) → cost cs stats (join k c d keys tests) ≡ cost cs stats t → number ≤ number_of c
  unfolding HasFirstSide
  first_low root set t number k c d keys tests first p q fits same = first k c d keys tests (subst (λ (f : ℕ → Bool). IsTreeOf cs m root f (join k c d keys tests)) (sym (own_set cs stats m root set t p)) q) fits same

  same_number : (root : Bool) (set : ℕ → Bool) (t u : Shape) → IsTreeOf cs m root set t → IsTreeOf cs m root set u → number_of t ≡ number_of u
  same_number root set t u p q = same_from_bits (number_of t) (number_of u) (λ v. number_bits t (most cs stats m root set t p) v ∙ p.once v ∙ sym (q.once v) ∙ sym (number_bits u (most cs stats m root set u q) v))

  side_pick : (t u : Shape) → has t ≡ has u → ((v : ℕ) → scans u v ≤ 1) → IsPlaced cs false u → HasMethods m u → FitsStats stats u → IsChosen cs stats m false u → IsPick cs stats m false (has t) u
  side_pick t u same low placed methods fits chosen =
      subst (λ (f : ℕ → Bool). IsPick cs stats m false f u) (sym same) (record { tree = side_tree cs stats m u low placed methods; fits = fits; chosen = chosen })

  module _ (root : Bool) (set : ℕ → Bool) (k : Method) (a b : Shape) (keys : List KeyPair) (tests : List Expression) (l : Method) (c d : Shape) (others : List KeyPair) (rest : List Expression)
      (p : IsPick cs stats m root set (join k a b keys tests)) (q : IsPick cs stats m root set (join l c d others rest)) where
    join_price : cost cs stats (join k a b keys tests) ≡ cost cs stats (join l c d others rest)
    unfolding IsChosen
    join_price =
        let low = no_more root set (join k a b keys tests) (join l c d others rest) p.chosen.0 p.tree q.tree q.fits in
        let high = no_more root set (join l c d others rest) (join k a b keys tests) q.chosen.0 q.tree p.tree p.fits in
        omega (arith, low, high)

    first_number : number_of a ≡ number_of c
    unfolding IsChosen
    first_number =
        let low : number_of a ≤ number_of c = first_low root set (join k a b keys tests) (number_of a) l c d others rest p.chosen.1 p.tree q.tree q.fits (sym join_price) in
        let high : number_of c ≤ number_of a = first_low root set (join l c d others rest) (number_of c) k a b keys tests q.chosen.1 q.tree p.tree p.fits join_price in
        omega arith

    second_number : number_of b ≡ number_of d
    second_number =
        let all : number_of a + number_of b ≡ number_of c + number_of d = same_number root set (join k a b keys tests) (join l c d others rest) p.tree q.tree in
        let first = first_number in
        omega arith

    left_most : (v : ℕ) → scans a v ≤ 1
    left_most v = left_once (scans a v) (scans b v) (most cs stats m root set (join k a b keys tests) p.tree v)

    right_most : (v : ℕ) → scans b v ≤ 1
    right_most v = right_once (scans a v) (scans b v) (most cs stats m root set (join k a b keys tests) p.tree v)

    other_left_most : (v : ℕ) → scans c v ≤ 1
    other_left_most v = left_once (scans c v) (scans d v) (most cs stats m root set (join l c d others rest) q.tree v)

    other_right_most : (v : ℕ) → scans d v ≤ 1
    other_right_most v = right_once (scans c v) (scans d v) (most cs stats m root set (join l c d others rest) q.tree v)

    left_sets : has a ≡ has c
    left_sets = has_number a left_most ∙ ap (λ (n : ℕ). in_set n) first_number ∙ sym (has_number c other_left_most)

    right_sets : has b ≡ has d
    right_sets = has_number b right_most ∙ ap (λ (n : ℕ). in_set n) second_number ∙ sym (has_number d other_right_most)

    join_sides : AreSides cs stats m a b c d
    unfolding IsChosen
    join_sides =
        let mine = join_placed cs root k a b keys tests p.tree.placed in
        let theirs = join_placed cs root l c d others rest q.tree.placed in
        record {
          first_set = left_sets;
          second_set = right_sets;
          first = side_pick a a refl left_most mine.0 p.tree.methods.0 p.fits.0 p.chosen.2;
          other_first = side_pick a c left_sets other_left_most theirs.0 q.tree.methods.0 q.fits.0 q.chosen.2;
          second = side_pick b b refl right_most mine.1 p.tree.methods.1 p.fits.1 p.chosen.3;
          other_second = side_pick b d right_sets other_right_most theirs.1 q.tree.methods.1 q.fits.1 q.chosen.3;
        }

    join_same : a ≡ c → b ≡ d → join k a b keys tests ≡ join l c d others rest
    join_same left right =
        let mine = join_placed cs root k a b keys tests p.tree.placed in
        let theirs = join_placed cs root l c d others rest q.tree.placed in
        let same_keys : keys ≡ others = mine.2 ∙ (λ i. keys_of (left_sets i) (right_sets i) cs) ∙ sym theirs.2 in
        let same_tests : tests ≡ rest = mine.3 ∙ (λ i. join_tests root (left_sets i) (right_sets i) cs) ∙ sym theirs.3 in
        let same_method : k ≡ l = p.tree.methods.2 ∙ ap (λ (ks : List KeyPair). method_at m ks) same_keys ∙ sym q.tree.methods.2 in
        λ i. join (same_method i) (left i) (right i) (same_keys i) (same_tests i)

  -- two chosen trees of the same variables are one
  one_pick : (root : Bool) (set : ℕ → Bool) (t u : Shape) → IsPick cs stats m root set t → IsPick cs stats m root set u → t ≡ u
  one_pick root set (one tests) u p q = none_same cs stats m root set tests u p.tree q.tree
  one_pick root set (scan v how tests) u p q = scan_same cs stats m root set v how tests u p q
  one_pick root set (join k a b keys tests) (one others) p q = sym (none_same cs stats m root set others (join k a b keys tests) q.tree p.tree)
  one_pick root set (join k a b keys tests) (scan v how others) p q = sym (scan_same cs stats m root set v how others (join k a b keys tests) q p)
  one_pick root set (join k a b keys tests) (join l c d others rest) p q =
      let sides = join_sides root set k a b keys tests l c d others rest p q in
      join_same root set k a b keys tests l c d others rest p q (one_pick false (has a) a c sides.first sides.other_first) (one_pick false (has b) b d sides.second sides.other_second)

module _ (q : Question) (stats : List VarStats) (m : Method) (t u : Shape) (price other : ℕ) (p : IsBestTree q stats m t price) (r : IsBestTree q stats m u other) where
  pub one_tree : t ≡ u
  one_tree = one_pick (conjuncts q.test) stats m true (is_variable q) t u (record { tree = p.tree; fits = p.fits; chosen = p.chosen }) (record { tree = r.tree; fits = r.fits; chosen = r.chosen })

  pub one_price : price ≡ other
  one_price = p.costs ∙ ap (λ (x : Shape). cost (conjuncts q.test) stats x) one_tree ∙ sym r.costs
