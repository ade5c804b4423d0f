-- A cap in the midst of a product.
use Rattle.std.proofs.Common.{◌≡◌, refl, arith, ℕ, zero, suc, ◌*◌, ◌<◌, ◌≤◌, min, mul-suc, mul-zero, inl, inr}
use Rattle.std.proofs.lemmas.Bool.{cases_lt}
use Rattle.std.proofs.Math.Nat.{mul-le-mul_right}

-- a factor of at least one makes no number smaller
grows : (a f : ℕ) → 0 < f → a ≤ a * f
grows a zero p = absurd (omega arith)
grows a (suc f) p = rw (mul-suc a f) (omega arith)

more : (a b f : ℕ) → a ≤ b → a * f ≤ b * f
more a b f h = mul-le-mul_right f h

pub cap_times : (c a f : ℕ) → min (min a c * f) c ≡ min (a * f) c
cap_times c a zero = rw (mul-zero, mul-zero) refl
cap_times c a (suc f) = elim (cases_lt a c) [
  | inl low ↦ let same : min a c ≡ a = omega arith in rw same refl
  | inr high ↦
      let same : min a c ≡ c = omega arith in
      let one = grows c (suc f) (omega arith) in
      let two = more c a (suc f) high in
      rw same (omega arith)
]

-- a product that stops at a cap above the cap is the same below it
pub cap_twice : (m c n : ℕ) → c ≤ m → min (min n m) c ≡ min n c
cap_twice m c n h = omega arith
