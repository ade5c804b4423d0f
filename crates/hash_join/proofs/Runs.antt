-- In a list in the order of its keys, those that equal a key stand side by side.
use Rattle.std.proofs.Common.{◌≡◌, ℕ, zero, suc, ◌+◌, ◌≤◌, Bool, true, false, cond, List, [], ◌∷◌, ltb, refl, sym, ap, ◌∙◌, subst, arith, length, filter, take, drop, get_or}
use Rattle.std.specs.List.{AllWithin}
use Rattle.std.specs.List.Sorted.{IsNonDecreasingBy, IsPartitionedBy, IsPartitionPoint}
use Rattle.std.specs.declared.cmp.Ordering.{Ordering}
use Rattle.std.specs.declared.cmp.Ordering.TheVariants.{Less, Equal, Greater}
use Rattle.std.specs.Ordering.{is_lt, is_le, is_eq, ordering_index}
use Rattle.std.proofs.lemmas.List.{get_or-drop, length-drop}
use Rattle.std.proofs.lemmas.List.Sorted.{IsPartitionedBy-ltb}

-- the elements that pass, where they are the first ones
pub filter_front : {X : Type 0} (p : X → Bool) (xs : List X) (i : ℕ) → AllWithin (λ x. p x ≡ true) xs 0 i → AllWithin (λ x. p x ≡ false) xs i (length xs) → i ≤ length xs → filter p xs ≡ take i xs
filter_front p [] zero front back h = refl
filter_front p [] (suc i) front back h = refl
filter_front p (x ∷ xs) zero front back h =
    ap (λ b. cond b (x ∷ filter p xs) (filter p xs)) (back 0 x (omega arith) (omega arith))
    ∙ filter_front p xs zero (λ k d low high. absurd (omega (arith, high))) (λ k d low high. back (suc k) d (omega arith) (omega (arith, high))) (omega arith)
filter_front p (x ∷ xs) (suc i) front back h =
    ap (λ b. cond b (x ∷ filter p xs) (filter p xs)) (front 0 x (omega arith) (omega arith))
    ∙ ap (λ rest. x ∷ rest) (filter_front p xs i (λ k d low high. front (suc k) d (omega arith) (omega (arith, high))) (λ k d low high. back (suc k) d (omega (arith, low)) (omega (arith, high))) (omega (arith, h)))

-- the first ones do not count where they fail
pub filter_behind : {X : Type 0} (p : X → Bool) (xs : List X) (i : ℕ) → i ≤ length xs → AllWithin (λ x. p x ≡ false) xs 0 i → filter p xs ≡ filter p (drop i xs)
filter_behind p [] zero h front = refl
filter_behind p [] (suc i) h front = refl
filter_behind p (x ∷ xs) zero h front = refl
filter_behind p (x ∷ xs) (suc i) h front =
    ap (λ b. cond b (x ∷ filter p xs) (filter p xs)) (front 0 x (omega arith) (omega arith))
    ∙ filter_behind p xs i (omega (arith, h)) (λ k d low high. front (suc k) d (omega arith) (omega (arith, high)))

not_equal_below : (o : Ordering) → is_lt o ≡ true → is_eq o ≡ false
not_equal_below Less h = refl
not_equal_below Equal h = cc
not_equal_below Greater h = cc

equal_between : (o : Ordering) → is_lt o ≡ false → is_le o ≡ true → is_eq o ≡ true
equal_between Less h k = cc
equal_between Equal h k = refl
equal_between Greater h k = cc

not_equal_above : (o : Ordering) → is_le o ≡ false → is_eq o ≡ false
not_equal_above Less h = cc
not_equal_above Equal h = cc
not_equal_above Greater h = refl

below_is : (o : Ordering) → ltb (ordering_index o) 1 ≡ is_lt o
below_is Less = refl
below_is Equal = refl
below_is Greater = refl

upto_is : (o : Ordering) → ltb (ordering_index o) 2 ≡ is_le o
upto_is Less = refl
upto_is Equal = refl
upto_is Greater = refl

module _ {X : Type 0} (order : X → Ordering) where
  pub below_parted : (xs : List X) → IsNonDecreasingBy (λ x. ordering_index (order x)) xs → IsPartitionedBy (λ x. is_lt (order x)) xs
  below_parted xs up = subst (λ p. IsPartitionedBy p xs) (λ i x. below_is (order x) i) (IsPartitionedBy-ltb (λ x. ordering_index (order x)) xs 1 up)

  pub upto_parted : (xs : List X) → IsNonDecreasingBy (λ x. ordering_index (order x)) xs → IsPartitionedBy (λ x. is_le (order x)) xs
  upto_parted xs up = subst (λ p. IsPartitionedBy p xs) (λ i x. upto_is (order x) i) (IsPartitionedBy-ltb (λ x. ordering_index (order x)) xs 2 up)

  -- the run of equal ones begins behind those below, and ends before those above
  equal_run : (xs : List X) (start count : ℕ) → start ≤ length xs → count ≤ length (drop start xs)
      → IsPartitionPoint (λ x. is_lt (order x) ≡ true) (λ x. is_lt (order x) ≡ false) xs start
      → IsPartitionPoint (λ x. is_le (order x) ≡ true) (λ x. is_le (order x) ≡ false) (drop start xs) count
      → length (drop start xs) + start ≡ length xs
      → take count (drop start xs) ≡ filter (λ x. is_eq (order x)) xs
  equal_run xs start count h k low high size =
      let not_below : AllWithin (λ x. is_lt (order x) ≡ false) (drop start xs) 0 count = λ i d zero' within. subst (λ x. is_lt (order x) ≡ false) (sym (get_or-drop start xs i d)) (low.1 (start + i) d (omega arith) (omega (arith, within, k, size))) in
      sym (filter_behind (λ x. is_eq (order x)) xs start h (λ i d a b. not_equal_below (order (get_or xs i d)) (low.0 i d a b))
      ∙ filter_front (λ x. is_eq (order x)) (drop start xs) count (λ i d a b. equal_between (order (get_or (drop start xs) i d)) (not_below i d a b) (high.0 i d a b)) (λ i d a b. not_equal_above (order (get_or (drop start xs) i d)) (high.1 i d a b)) k)

  -- the same, where what is left behind those below is a slice
  pub equal_slice : (xs rest : List X) (start count : ℕ) → rest ≡ drop start xs → start ≤ length xs → count ≤ length rest
      → IsPartitionPoint (λ x. is_lt (order x) ≡ true) (λ x. is_lt (order x) ≡ false) xs start
      → IsPartitionPoint (λ x. is_le (order x) ≡ true) (λ x. is_le (order x) ≡ false) rest count
      → take count rest ≡ filter (λ x. is_eq (order x)) xs
  equal_slice xs rest start count e h k low high =
      ap (take count) e ∙ equal_run xs start count h (subst (λ ys. count ≤ length ys) e k) low (subst (λ ys. IsPartitionPoint (λ x. is_le (order x) ≡ true) (λ x. is_le (order x) ≡ false) ys count) e high) (omega (arith, length-drop start xs, h))
