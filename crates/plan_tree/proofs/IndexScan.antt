-- The entries outside an interval fail one of its bounds.
use Rattle.std.proofs.Common.{◌≡◌, ℕ, ◌+◌, ◌-◌, ◌≤◌, suc, zero, min, max, Bool, true, false, cond, List, [], ◌∷◌, length, map, take, drop, refl, sym, ap, ◌∙◌, arith, inl, inr}
use Rattle.std.proofs.lemmas.Bool.{cases_lt}
use Rattle.std.proofs.lemmas.List.{drop-drop}
use Rattle.std.specs.declared.cmp.Ordering.{Ordering}
use Rattle.std.specs.declared.cmp.Ordering.TheVariants.{Less, Equal, Greater}
use Rattle.std.specs.Ordering.{is_eq, is_lt, is_le, is_gt, is_ge, ordering_reverse}
use Rattle.std.proofs.lemmas.Cmp.{upto}
use Rattle.rows.specs.Values.{value_cmp}
use Rattle.rows.proofs.Orders.{value_total}
use Rattle.lists.specs.Arranged.{Ascends}
use Rattle.std.specs.List.{filter, AllByRecursion}
use Rattle.std.specs.Prelude.{⊤}
use Rattle.std.proofs.lemmas.List.{take-append-drop, drop_all}
use Rattle.rows.specs.declared.value.Value.{Value}
use Rattle.rows.specs.declared.plain.Bound.{Bound}
use Rattle.rows.specs.declared.plain.BoundOp.{BoundOp}
use Rattle.rows.specs.declared.plain.BoundOp.TheVariants as bound
use Rattle.plan_tree.specs.Intervals.{compare_op, interval_end, lower_end, upper_end, lower_at, upper_at}
use Rattle.rel_meaning.specs.Eval.{holds}
use Rattle.plan_tree.proofs.Elements.{all_more}
use Rattle.plan_tree.proofs.Sums.{total, only, Same, total_append, total_filter}

-- once the test fails it fails for all that follow
abbrev pub Down : {X : Type 0} → (X → Bool) → List X → Type 0
Down d [] = ⊤
Down d (x ∷ xs) = (d x ≡ false → AllByRecursion (λ y. d y ≡ false) xs) × Down d xs

abbrev count : {X : Type 0} → (X → Bool) → List X → ℕ
count d xs = length (filter d xs)

none_counted : {X : Type 0} (d : X → Bool) (xs : List X) → AllByRecursion (λ y. d y ≡ false) xs → count d xs ≡ 0
none_counted d [] all = refl
none_counted d (x ∷ xs) all = ap (λ b. length (cond b (x ∷ filter d xs) (filter d xs))) all.0 ∙ none_counted d xs all.1

front_passes : {X : Type 0} (d : X → Bool) (xs : List X) → Down d xs → AllByRecursion (λ x. d x ≡ true) (take (count d xs) xs)
front_passes d [] down = tt
front_passes d (x ∷ xs) down = by (front_passes d xs down.1) (d x) refl where
  by : AllByRecursion (λ x. d x ≡ true) (take (count d xs) xs) → (b : Bool) → d x ≡ b → AllByRecursion (λ x. d x ≡ true) (take (length (cond b (x ∷ filter d xs) (filter d xs))) (x ∷ xs))
  by rest true e = (e, rest)
  by rest false e = rw (none_counted d xs (down.0 e)) tt

back_fails : {X : Type 0} (d : X → Bool) (xs : List X) → Down d xs → AllByRecursion (λ x. d x ≡ false) (drop (count d xs) xs)
back_fails d [] down = tt
back_fails d (x ∷ xs) down = by (back_fails d xs down.1) (d x) refl where
  by : AllByRecursion (λ x. d x ≡ false) (drop (count d xs) xs) → (b : Bool) → d x ≡ b → AllByRecursion (λ x. d x ≡ false) (drop (length (cond b (x ∷ filter d xs) (filter d xs))) (x ∷ xs))
  by rest true e = rest
  by rest false e = rw (none_counted d xs (down.0 e)) (e, down.0 e)

all_less : {X : Type 0} (P : X → Type 0) (xs : List X) (i j : ℕ) → i ≤ j → AllByRecursion P (drop i xs) → AllByRecursion P (drop j xs)
all_less P xs zero zero h all = all
all_less P xs (suc i) zero h all = absurd (omega arith)
all_less P [] zero (suc j) h all = tt
all_less P (x ∷ xs) zero (suc j) h all = all_less P xs zero j (omega arith) all.1
all_less P [] (suc i) (suc j) h all = tt
all_less P (x ∷ xs) (suc i) (suc j) h all = all_less P xs i j (omega arith) all

either_take : {X : Type 0} (P : X → Type 0) (xs : List X) (i j : ℕ) → AllByRecursion P (take i xs) → AllByRecursion P (take j xs) → AllByRecursion P (take (max i j) xs)
either_take P xs i j a b = elim (cases_lt i j) [
  | inl h ↦ (let e : max i j ≡ j = omega arith in rw e b)
  | inr h ↦ (let e : max i j ≡ i = omega arith in rw e a)
]

either_drop : {X : Type 0} (P : X → Type 0) (xs : List X) (i j : ℕ) → AllByRecursion P (drop i xs) → AllByRecursion P (drop j xs) → AllByRecursion P (drop (min i j) xs)
either_drop P xs i j a b = elim (cases_lt i j) [
  | inl h ↦ (let e : min i j ≡ i = omega arith in rw e a)
  | inr h ↦ (let e : min i j ≡ j = omega arith in rw e b)
]

nothing_kept : {X : Type 0} (p : X → Bool) (f : X → ℕ) (xs : List X) → AllByRecursion (λ x. p x ≡ false) xs → total (λ x. only (p x) (f x)) xs ≡ 0
nothing_kept p f [] all = refl
nothing_kept p f (x ∷ xs) all = let k = nothing_kept p f xs all.1 in ap (λ b. only b (f x) + total (λ y. only (p y) (f y)) xs) all.0 ∙ (omega (arith, k))

-- the part from one place up to another
abbrev pub part : {X : Type 0} → ℕ → ℕ → List X → List X
part from upto xs = take (upto - from) (drop from xs)

part_keeps : {X : Type 0} (p : X → Bool) (xs : List X) (from upto : ℕ) → from ≤ upto → AllByRecursion (λ x. p x ≡ false) (take from xs) → AllByRecursion (λ x. p x ≡ false) (drop upto xs) →
    Same (filter p (part from upto xs)) (filter p xs)
part_keeps p xs from upto h front back f =
    let k : from + (upto - from) ≡ upto = omega arith in
    let split : total (λ x. only (p x) (f x)) xs ≡ total (λ x. only (p x) (f x)) (take from xs) + (total (λ x. only (p x) (f x)) (part from upto xs) + total (λ x. only (p x) (f x)) (drop upto xs)) =
    sym (ap (total (λ x. only (p x) (f x))) (take-append-drop from xs)) ∙ total_append (λ x. only (p x) (f x)) (take from xs) (drop from xs)
    ∙ ap (λ n. total (λ x. only (p x) (f x)) (take from xs) + n)
    (sym (ap (total (λ x. only (p x) (f x))) (take-append-drop (upto - from) (drop from xs))) ∙ total_append (λ x. only (p x) (f x)) (part from upto xs) (drop (upto - from) (drop from xs))
    ∙ ap (λ ys. total (λ x. only (p x) (f x)) (part from upto xs) + total (λ x. only (p x) (f x)) ys) (drop-drop (upto - from) from xs ∙ ap (λ n. drop n xs) k)) in
    let a = nothing_kept p f (take from xs) front in
    let b = nothing_kept p f (drop upto xs) back in
    total_filter f p (part from upto xs) ∙ omega (arith, split, a, b) ∙ sym (total_filter f p xs)

-- entries in ascending order of key: those below a value come first

turned_lt : (r s : Ordering) → s ≡ ordering_reverse r → is_lt r ≡ false → is_gt s ≡ false
turned_lt Less s e h = cc
turned_lt Equal s e h = ap is_gt e
turned_lt Greater s e h = ap is_gt e

back_lt : (r s : Ordering) → s ≡ ordering_reverse r → is_gt s ≡ false → is_lt r ≡ false
back_lt Less s e h = sym (ap is_gt e) ∙ h
back_lt Equal s e h = refl
back_lt Greater s e h = refl

above_le : (r : Ordering) → is_le r ≡ false → is_gt r ≡ true
above_le Less h = cc
above_le Equal h = cc
above_le Greater h = refl

le_above : (r : Ordering) → is_gt r ≡ true → is_le r ≡ false
le_above Less h = cc
le_above Equal h = cc
le_above Greater h = refl

eq_not_lt : (r : Ordering) → is_eq r ≡ true → is_lt r ≡ false
eq_not_lt Less h = cc
eq_not_lt Equal h = refl
eq_not_lt Greater h = refl

eq_le : (r : Ordering) → is_eq r ≡ true → is_le r ≡ true
eq_le Less h = refl
eq_le Equal h = refl
eq_le Greater h = cc

ge_not_lt : (r : Ordering) → is_ge r ≡ true → is_lt r ≡ false
ge_not_lt Less h = cc
ge_not_lt Equal h = refl
ge_not_lt Greater h = refl

module _ {K : Type 0} (key : K → Value) where
  abbrev pub key_order : K → K → Ordering
  key_order a b = value_cmp (key a) (key b)

  down_lt : (c : Value) (xs : List K) → Ascends key_order xs → Down (λ e. is_lt (value_cmp (key e) c)) xs
  down_lt c [] up = tt
  down_lt c (x ∷ xs) up = (
    (λ h. all_more (λ y. is_gt (value_cmp (key x) (key y)) ≡ false) (λ y. is_lt (value_cmp (key y) c) ≡ false) xs
        (λ y k. back_lt (value_cmp (key y) c) (value_cmp c (key y)) (value_total.antisymm c (key y))
        (upto value_total c (key x) (key y) (turned_lt (value_cmp (key x) c) (value_cmp c (key x)) (value_total.antisymm c (key x)) h) k)) up.0),
    down_lt c xs up.1,
  )

  down_le : (c : Value) (xs : List K) → Ascends key_order xs → Down (λ e. is_le (value_cmp (key e) c)) xs
  down_le c [] up = tt
  down_le c (x ∷ xs) up = (
    (λ h. all_more (λ y. is_gt (value_cmp (key x) (key y)) ≡ false) (λ y. is_le (value_cmp (key y) c) ≡ false) xs
        (λ y k. over x y h k) up.0),
    down_le c xs up.1,
  ) where
    over : (x y : K) → is_le (value_cmp (key x) c) ≡ false → is_gt (value_cmp (key x) (key y)) ≡ false → is_le (value_cmp (key y) c) ≡ false
    over x y h k = by (is_gt (value_cmp (key y) c)) refl where
      by : (b : Bool) → is_gt (value_cmp (key y) c) ≡ b → is_le (value_cmp (key y) c) ≡ false
      by true e = le_above (value_cmp (key y) c) e
      by false e = let l = upto value_total (key x) (key y) c k e in let m = above_le (value_cmp (key x) c) h in cc

  count_map : (d : Value → Bool) (xs : List K) → count d (map key xs) ≡ count (λ e. d (key e)) xs
  count_map d [] = refl
  count_map d (x ∷ xs) = elim (d (key x)) as (λ b. length (cond b (key x ∷ filter d (map key xs)) (filter d (map key xs))) ≡ length (cond b (x ∷ filter (λ e. d (key e)) xs) (filter (λ e. d (key e)) xs))) [
    | true ↦ ap suc (count_map d xs)
    | false ↦ count_map d xs
  ]

  length_keys : (xs : List K) → length (map key xs) ≡ length xs
  length_keys [] = refl
  length_keys (x ∷ xs) = ap suc (length_keys xs)

  module _ (p : K → Bool) (xs : List K) (up : Ascends key_order xs) where
    abbrev Fails : List K → Type 0
    Fails es = AllByRecursion (λ e. p e ≡ false) es

    fails : (e : K) (b : Bool) → p e ≡ b → (p e ≡ true → ⊥) → p e ≡ false
    fails e true h n = absurd (n h)
    fails e false h n = h

    fails_front : (d : Value → Bool) → Down (λ e. d (key e)) xs → ((e : K) → p e ≡ true → d (key e) ≡ false) → Fails (take (count d (map key xs)) xs)
    fails_front d down h = rw (count_map d xs)
        (all_more (λ e. d (key e) ≡ true) (λ e. p e ≡ false) _ (λ e k. fails e (p e) refl (λ m. let n = h e m in cc)) (front_passes (λ e. d (key e)) xs down))

    fails_back : (d : Value → Bool) → Down (λ e. d (key e)) xs → ((e : K) → p e ≡ true → d (key e) ≡ true) → Fails (drop (count d (map key xs)) xs)
    fails_back d down h = rw (count_map d xs)
        (all_more (λ e. d (key e) ≡ false) (λ e. p e ≡ false) _ (λ e k. fails e (p e) refl (λ m. let n = h e m in cc)) (back_fails (λ e. d (key e)) xs down))

    none_left : Fails (drop (length (map key xs)) xs)
    none_left = rw (length_keys xs, drop_all (length xs) xs (omega arith)) tt

    -- what passes p meets the bound
    abbrev pub Meets : Bound → Type 0
    Meets b = (e : K) → p e ≡ true → holds (compare_op b.op) (value_cmp (key e) b.value) ≡ true

    below : (o : BoundOp) (c : Value) → ((e : K) → p e ≡ true → holds (compare_op o) (value_cmp (key e) c) ≡ true) → Fails (take (lower_at o c (map key xs)) xs)
    below bound.Equal c m = fails_front (λ v. is_lt (value_cmp v c)) (down_lt c xs up) (λ e h. eq_not_lt (value_cmp (key e) c) (m e h))
    below bound.AtLeast c m = fails_front (λ v. is_lt (value_cmp v c)) (down_lt c xs up) (λ e h. ge_not_lt (value_cmp (key e) c) (m e h))
    below bound.More c m = fails_front (λ v. is_le (value_cmp v c)) (down_le c xs up) (λ e h. le_above (value_cmp (key e) c) (m e h))
    below bound.Less c m = tt
    below bound.AtMost c m = tt

    above : (o : BoundOp) (c : Value) → ((e : K) → p e ≡ true → holds (compare_op o) (value_cmp (key e) c) ≡ true) → Fails (drop (upper_at o c (map key xs)) xs)
    above bound.Equal c m = fails_back (λ v. is_le (value_cmp v c)) (down_le c xs up) (λ e h. eq_le (value_cmp (key e) c) (m e h))
    above bound.AtMost c m = fails_back (λ v. is_le (value_cmp v c)) (down_le c xs up) m
    above bound.Less c m = fails_back (λ v. is_lt (value_cmp v c)) (down_lt c xs up) m
    above bound.More c m = none_left
    above bound.AtLeast c m = none_left

    lower_fails : (bs : List Bound) → AllByRecursion Meets bs → Fails (take (lower_end bs (map key xs)) xs)
    lower_fails [] all = tt
    lower_fails (b ∷ bs) all = either_take (λ e. p e ≡ false) xs (lower_at b.op b.value (map key xs)) (lower_end bs (map key xs)) (below b.op b.value all.0) (lower_fails bs all.1)

    upper_fails : (bs : List Bound) → AllByRecursion Meets bs → Fails (drop (upper_end bs (map key xs)) xs)
    upper_fails [] all = none_left
    upper_fails (b ∷ bs) all = either_drop (λ e. p e ≡ false) xs (upper_at b.op b.value (map key xs)) (upper_end bs (map key xs)) (above b.op b.value all.0) (upper_fails bs all.1)

    -- the entries of the interval are all that pass
    pub interval_keeps : (bs : List Bound) → AllByRecursion Meets bs → Same (filter p (part (lower_end bs (map key xs)) (interval_end bs (map key xs)) xs)) (filter p xs)
    interval_keeps bs all =
        let l = lower_end bs (map key xs) in
        let u = upper_end bs (map key xs) in
        part_keeps p xs l (max l u) (omega arith) (lower_fails bs all) (all_less (λ e. p e ≡ false) xs u (max l u) (omega arith) (upper_fails bs all))
