-- Sets of variables by their numbers.
use Rattle.std.proofs.Common.{◌≡◌, ◌∙◌, refl, ap, arith, ℕ, zero, suc, ◌+◌, ◌-◌, ◌*◌, ◌/◌, ◌^◌, ◌<◌, ◌≤◌, Bool, true, false, ◌==◌, nat_lt, ◌||◌, max, add-one, inl, inr}
use Rattle.std.specs.Int.{bit_at}
use Rattle.std.specs.Int.Bits.{and_shifted, and_step, bit_and, bit_or}
use Rattle.std.proofs.lemmas.Bool.{cases_lt}
use Rattle.std.proofs.lemmas.Nat.{and_comm, pow_below, pow_pos}
use Rattle.std.proofs.Math.Nat.{pow-suc}
use Rattle.std.proofs.lemmas.Bool.Decides.{nat_tests}
use Rattle.std.proofs.lemmas.Nat.Bits.{bit_at-lt, bit_at_ones, bit_at_ones_above, bit_at-pow_same, bit_at-pow_other, bit_at_or}
use Rattle.seq_optimizer.specs.Sets.{in_set}

-- sets that agree at each variable are one set
pub same_sets : (f g : ℕ → Bool) → ((v : ℕ) → f v ≡ g v) → f ≡ g
same_sets f g h = λ i v. h v i

one_bit : (w v : ℕ) → in_set (2 ^ w) v ≡ (w == v)
one_bit w v = by (v == w) refl where
  by : (b : Bool) → (v == w) ≡ b → in_set (2 ^ w) v ≡ (w == v)
  by true e =
      let same : v ≡ w = grind (arith, nat_tests) in
      let set : bit_at (2 ^ w) v ≡ 1 = ap (bit_at (2 ^ w)) same ∙ bit_at-pow_same w in
      rw set (grind (arith, nat_tests))
  by false e =
      let other : v ≡ w → ⊥ = grind (arith, nat_tests) in
      let clear : bit_at (2 ^ w) v ≡ 0 = bit_at-pow_other w v other in
      rw clear (grind (arith, nat_tests))

-- the set of one variable
pub one_set : (w : ℕ) → in_set (2 ^ w) ≡ (λ v. w == v)
one_set w = same_sets (in_set (2 ^ w)) (λ v. w == v) (one_bit w)

or_bits : (x y : ℕ) → x < 2 → y < 2 → (max x y == 1) ≡ ((x == 1) || (y == 1))
or_bits zero zero p q = refl
or_bits zero (suc zero) p q = refl
or_bits (suc zero) zero p q = refl
or_bits (suc zero) (suc zero) p q = refl
or_bits (suc (suc x)) y p q = absurd (omega arith)
or_bits x (suc (suc y)) p q = absurd (omega arith)

-- the variables of either set
pub either_set : (a b : ℕ) → in_set (bit_or a b) ≡ (λ v. in_set a v || in_set b v)
either_set a b = same_sets (in_set (bit_or a b)) (λ v. in_set a v || in_set b v) (λ v. ap (λ (n : ℕ). n == 1) (bit_at_or a b v) ∙ or_bits (bit_at a v) (bit_at b v) (bit_at-lt a v) (bit_at-lt b v))

first_bit : (n v : ℕ) → in_set (2 ^ n - 1) v ≡ nat_lt v n
first_bit n v = by (nat_lt v n) refl where
  by : (b : Bool) → nat_lt v n ≡ b → in_set (2 ^ n - 1) v ≡ nat_lt v n
  by true e = let one : bit_at (2 ^ n - 1) v ≡ 1 = bit_at_ones n v (grind (arith, nat_tests)) in rw (one, e) refl
  by false e = let none : bit_at (2 ^ n - 1) v ≡ 0 = bit_at_ones_above n v (grind (arith, nat_tests)) in rw (none, e) refl

-- the first n variables
pub first_set : (n : ℕ) → in_set (2 ^ n - 1) ≡ (λ v. nat_lt v n)
first_set n = same_sets (in_set (2 ^ n - 1)) (λ v. nat_lt v n) (first_bit n)

double : (k : ℕ) → 2 ^ suc k ≡ 2 ^ k * 2
double k = pow-suc 2 k

-- a set of one variable has no two parts
pub one_part : (v x y : ℕ) → 0 < x → 0 < y → bit_and x y ≡ 0 → x + y ≡ 2 ^ v → ⊥
one_part zero x y p q apart sum = omega arith
one_part (suc k) x y p q apart sum =
    let step = and_step x y in
    let twice = double k in
    one_part k (x / 2) (y / 2) (omega arith) (omega arith) (omega arith) (omega arith)

-- different variables count different numbers
pub same_variable : (v u : ℕ) → 2 ^ v ≡ 2 ^ u → v ≡ u
same_variable v u e = elim (cases_lt v u) [
  | inl lt ↦ let h = pow_below v u lt in absurd (omega arith)
  | inr ge ↦ elim (cases_lt u v) [
    | inl gt ↦ let h = pow_below u v gt in absurd (omega arith)
    | inr le ↦ omega arith
  ]
]

-- a number between a power and the next is no power
pub no_variable : (v u low : ℕ) → 0 < low → low < 2 ^ u → 2 ^ v ≡ 2 ^ u + low → ⊥
no_variable v u low p q e = elim (cases_lt u v) [
  | inl gt ↦ elim (cases_lt (suc u) v) [
    | inl more ↦ let h = pow_below (suc u) v more in let twice = double u in omega arith
    | inr le ↦ let same : v ≡ suc u = omega arith in let twice = double u in let at : 2 ^ v ≡ 2 ^ suc u = ap (λ (k : ℕ). 2 ^ k) same in omega arith
  ]
  | inr le ↦ elim (cases_lt v u) [
    | inl lt ↦ let h = pow_below v u lt in omega arith
    | inr ge ↦ let same : v ≡ u = omega arith in let at : 2 ^ v ≡ 2 ^ u = ap (λ (k : ℕ). 2 ^ k) same in omega arith
  ]
]

-- a variable and the sets of those before it are apart
pub first_apart : (v low m : ℕ) → low < 2 ^ v → m ≡ 2 ^ v + low → bit_and low (m - low) ≡ 0
first_apart v low m lt e =
    let rest : m - low ≡ 1 * 2 ^ v = omega arith in
    rw rest (and_comm low (1 * 2 ^ v) ∙ and_shifted 1 v low lt)

-- the sets with a variable as their last lie below the next power
pub last_below : (v n : ℕ) → v < n → 2 ^ v + 2 ^ v ≤ 2 ^ n
last_below v n lt =
    let twice = double v in
    elim (cases_lt (suc v) n) [
      | inl more ↦ let h = pow_below (suc v) n more in omega arith
      | inr le ↦ let same : n ≡ suc v = omega arith in let at : 2 ^ n ≡ 2 ^ suc v = ap (λ (k : ℕ). 2 ^ k) same in omega arith
    ]

pub next_power : (v : ℕ) → 2 ^ (v + 1) ≡ 2 ^ v + 2 ^ v
next_power v = let twice = double v in rw (add-one v) (omega arith)

pub some_set : (v : ℕ) → 0 < 2 ^ v
some_set v = pow_pos v

pub two_sets : (v : ℕ) → 0 < v → 2 ≤ 2 ^ v
two_sets zero p = absurd (omega arith)
two_sets (suc k) p = let twice = double k in let some = pow_pos k in omega arith
