-- The number of a tree's set, by its bits.
use Rattle.std.proofs.Common.{◌≡◌, ◌∙◌, sym, refl, ap, arith, ℕ, zero, suc, ◌+◌, ◌/◌, ◌^◌, ◌<◌, ◌≤◌, min, Bool, true, false, ◌==◌, ◌||◌}
use Rattle.std.specs.Int.{bit_at}
use Rattle.std.specs.Int.Bits.{bit_and}
use Rattle.std.proofs.lemmas.Bool.Decides.{nat_tests}
use Rattle.std.proofs.lemmas.Nat.Bits.{bit_at-lt, bit_at-pow_other, bit_at-pow_same, bit_at-suc, bit_at-zero, bit_at_and, bit_at_lowest, same_from_bits}
use Rattle.lists.specs.Arranged.{one_if}
use Rattle.plan_tree.specs.Trees.{Shape, has, join, one, scan, scans}
use Rattle.seq_optimizer.specs.Costs.{number_of}
use Rattle.seq_optimizer.specs.Sets.{in_set}
use Rattle.seq_optimizer.specs.Tables.{Apart}
use Rattle.seq_optimizer.proofs.Sets.{same_sets}

-- a sum of numbers that have no bit in common
pub sum_bits : (i a b : ℕ) → ((j : ℕ) → bit_at a j + bit_at b j ≤ 1) → bit_at (a + b) i ≡ bit_at a i + bit_at b i
sum_bits zero a b h = let k = h 0 in omega (arith, k, bit_at_lowest a, bit_at_lowest b, bit_at_lowest (a + b))
sum_bits (suc i) a b h =
    let k = h 0 in
    let e : (a + b) / 2 ≡ a / 2 + b / 2 = omega (arith, k, bit_at_lowest a, bit_at_lowest b) in
    bit_at-suc (a + b) i ∙ ap (λ (n : ℕ). bit_at n i) e
    ∙ sum_bits i (a / 2) (b / 2) (λ j. let l = h (suc j) in omega (arith, l, bit_at-suc a j, bit_at-suc b j))
    ∙ (λ n. sym (bit_at-suc a i) n + sym (bit_at-suc b i) n)

one_most : (a b : ℕ) → a < 2 → b < 2 → min a b ≡ 0 → a + b ≤ 1
one_most a b h k l = omega arith

-- sets that are apart have no bit in common
pub apart_bits : (a b : ℕ) → Apart a b → (j : ℕ) → bit_at a j + bit_at b j ≤ 1
apart_bits a b apart j = one_most (bit_at a j) (bit_at b j) (bit_at-lt a j) (bit_at-lt b j) (sym (bit_at_and a b j) ∙ ap (λ (n : ℕ). bit_at n j) apart ∙ bit_at-zero j)

least_zero : (a b : ℕ) → a + b ≤ 1 → min a b ≡ 0
least_zero a b h = omega arith

pub bits_apart : (a b : ℕ) → ((j : ℕ) → bit_at a j + bit_at b j ≤ 1) → Apart a b
bits_apart a b h = same_from_bits (bit_and a b) 0 (λ j. bit_at_and a b j ∙ least_zero (bit_at a j) (bit_at b j) (h j) ∙ sym (bit_at-zero j))

pub power_bit : (w v : ℕ) → bit_at (2 ^ w) v ≡ one_if (v == w)
power_bit w v = by (v == w) refl where
  by : (b : Bool) → (v == w) ≡ b → bit_at (2 ^ w) v ≡ one_if (v == w)
  by true e = let same : v ≡ w = grind (arith, nat_tests) in ap (bit_at (2 ^ w)) same ∙ bit_at-pow_same w ∙ ap one_if (sym e)
  by false e = let other : v ≡ w → ⊥ = grind (arith, nat_tests) in bit_at-pow_other w v other ∙ ap one_if (sym e)

-- the sides of a join scan no variable twice
pub left_once : (x y : ℕ) → y + x ≤ 1 → x ≤ 1
left_once x y h = omega arith

pub right_once : (x y : ℕ) → y + x ≤ 1 → y ≤ 1
right_once x y h = omega arith

-- where no variable is scanned twice, the bits of the number are the scans
pub number_bits : (t : Shape) → ((v : ℕ) → scans t v ≤ 1) → (v : ℕ) → bit_at (number_of t) v ≡ scans t v
number_bits (one tests) h v = bit_at-zero v
number_bits (scan w how tests) h v = power_bit w v
number_bits (join k a b keys tests) h v =
    let left = number_bits a (λ j. left_once (scans a j) (scans b j) (h j)) in
    let right = number_bits b (λ j. right_once (scans a j) (scans b j) (h j)) in
    sum_bits v (number_of a) (number_of b) (λ j. let l = left j in let r = right j in let most = h j in omega (arith, l, r, most))
    ∙ (let l = left v in let r = right v in omega (arith, l, r))

pub sides_apart : (k : Shape) (l : Shape) → ((v : ℕ) → scans l v + scans k v ≤ 1) → Apart (number_of k) (number_of l)
sides_apart a b h = bits_apart (number_of a) (number_of b) (λ j.
    let left = number_bits a (λ i. left_once (scans a i) (scans b i) (h i)) j in
    let right = number_bits b (λ i. right_once (scans a i) (scans b i) (h i)) j in
    let most = h j in
    omega (arith, left, right, most))

either_one : (x y : ℕ) → y + x ≤ 1 → ((x == 1) || (y == 1)) ≡ (y + x == 1)
either_one zero zero h = refl
either_one zero (suc zero) h = refl
either_one (suc zero) zero h = refl
either_one (suc x) (suc y) h = absurd (omega arith)
either_one (suc (suc x)) y h = absurd (omega arith)
either_one x (suc (suc y)) h = absurd (omega arith)

one_at : (w v : ℕ) → (w == v) ≡ (one_if (v == w) == 1)
one_at w v = by (v == w) refl where
  by : (b : Bool) → (v == w) ≡ b → (w == v) ≡ (one_if (v == w) == 1)
  by true e = let same : (w == v) ≡ true = grind (arith, nat_tests) in rw (same, e) refl
  by false e = let other : (w == v) ≡ false = grind (arith, nat_tests) in rw (other, e) refl

pub has_scans : (t : Shape) → ((v : ℕ) → scans t v ≤ 1) → (v : ℕ) → has t v ≡ (scans t v == 1)
has_scans (one tests) h v = refl
has_scans (scan w how tests) h v = one_at w v
has_scans (join k a b keys tests) h v =
    let left = has_scans a (λ j. left_once (scans a j) (scans b j) (h j)) v in
    let right = has_scans b (λ j. right_once (scans a j) (scans b j) (h j)) v in
    rw (left, right) (either_one (scans a v) (scans b v) (h v))

-- the variables of a tree are those of its number
pub has_number : (t : Shape) → ((v : ℕ) → scans t v ≤ 1) → has t ≡ in_set (number_of t)
has_number t h = same_sets (has t) (in_set (number_of t)) (λ v. has_scans t h v ∙ ap (λ (n : ℕ). n == 1) (sym (number_bits t h v)))
