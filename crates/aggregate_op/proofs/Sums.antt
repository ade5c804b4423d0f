-- The parts of sums: how often a sum holds 2^62, and what is left.
use Rattle.std.proofs.Common.{◌≡◌, ◌<◌, ◌≤◌, ℕ, ◌+◌, ◌-◌, ◌*◌, ◌/◌, ◌%◌, ℤ, pos, negsuc, ◌+ℤ◌, ◌-ℤ◌, Bool, true, false, cond, List, [], ◌∷◌, ◌++◌, refl, sym, ap, ◌∙◌, arith, length}
use Rattle.std.specs.Prelude.{int_lt}
use Rattle.std.specs.List.{AllByRecursion}
use Rattle.std.specs.Int.{w64, saturate_signed}
use Rattle.std.proofs.lemmas.Int.{ints}
use Rattle.std.proofs.Math.Nat.{div-add-mod, mod-lt}
use Rattle.std.proofs.Math.IntN.{+ℤ_assoc}
use borrow.Author.Differences.{up, down, same_in, lt-true, lt-false}
use Rattle.rows.specs.declared.value.Value.{Value}
use Rattle.rows.specs.declared.value.Value.TheVariants.{Null, Number, Word, Truth}
use Rattle.aggregate_op.specs.Partials.{sum_of, integer_in, high_part, low_part}
use Rattle.aggregate_op.specs.Joined.{carried}
use Rattle.aggregate_op.specs.Stored.{IsStored}

abbrev pub unit : ℕ
unit = 4_611_686_018_427_387_904

-- z is `high` times the unit and `low`
pub record IsSplit (z high : ℤ) (low : ℕ) : Type 0 where
  pub whole : up z + unit * down high ≡ down z + unit * up high + low
  pub below : low < unit

module _ (a k r : ℕ) (e : a ≡ unit * k + r) (h : r < unit) where
  under : a % unit < unit
  under = mod-lt a {m = unit} (omega arith)

  pub quotient_is : a / unit ≡ k
  quotient_is = omega (arith, e, h, div-add-mod a unit, under)

  pub rest_is : a % unit ≡ r
  rest_is = omega (arith, e, h, div-add-mod a unit, under)

high_is : (z high : ℤ) (low : ℕ) → IsSplit z high low → high_part z ≡ high
high_is (pos a) (pos k) r s = ap pos (quotient_is a k r (omega (arith, s.whole)) s.below)
high_is (pos a) (negsuc k) r s = absurd (omega (arith, s.whole, s.below))
high_is (negsuc a) (pos k) r s = absurd (omega (arith, s.whole, s.below))
high_is (negsuc a) (negsuc k) r s = ap negsuc (quotient_is a k (unit - 1 - r) (omega (arith, s.whole, s.below)) (omega (arith, s.below)))

low_is : (z high : ℤ) (low : ℕ) → IsSplit z high low → low_part z ≡ pos low
low_is (pos a) (pos k) r s = ap pos (rest_is a k r (omega (arith, s.whole)) s.below)
low_is (pos a) (negsuc k) r s = absurd (omega (arith, s.whole, s.below))
low_is (negsuc a) (pos k) r s = absurd (omega (arith, s.whole, s.below))
low_is (negsuc a) (negsuc k) r s =
    let e : a % unit ≡ unit - 1 - r = rest_is a k (unit - 1 - r) (omega (arith, s.whole, s.below)) (omega (arith, s.below)) in
    ap (λ n. pos (unit - 1 - n)) e ∙ ap pos (omega (arith, s.below))

-- what is left of a sum, as a number
abbrev pub rest_of : ℤ → ℕ
rest_of (pos a) = a % unit
rest_of (negsuc a) = unit - 1 - a % unit

pub low_is_rest : (z : ℤ) → low_part z ≡ pos (rest_of z)
low_is_rest (pos a) = refl
low_is_rest (negsuc a) = refl

pub split_of : (z : ℤ) → IsSplit z (high_part z) (rest_of z)
split_of (pos a) =
    let under : a % unit < unit = mod-lt a {m = unit} (omega arith) in
    record { whole = omega (arith, div-add-mod a unit); below = under }
split_of (negsuc a) =
    let under : a % unit < unit = mod-lt a {m = unit} (omega arith) in
    record { whole = omega (arith, div-add-mod a unit, under); below = omega (arith, under) }

split_together : (y z h k : ℤ) (l m : ℕ) → IsSplit y h l → IsSplit z k m → l + m < unit → IsSplit (y +ℤ z) (h +ℤ k) (l + m)
split_together y z h k l m s t below = record { whole = omega (arith, ints, s.whole, t.whole); below = below }

split_carried : (y z h k : ℤ) (l m : ℕ) → IsSplit y h l → IsSplit z k m → unit ≤ l + m → IsSplit (y +ℤ z) ((h +ℤ k) +ℤ pos 1) (l + m - unit)
split_carried y z h k l m s t over = record { whole = omega (arith, ints, s.whole, t.whole, over); below = omega (arith, s.below, t.below, over) }

-- ---- how large sums grow

abbrev pub IsUpto : ℕ → ℤ → Type 0
IsUpto n z = (up z ≤ n * 9_223_372_036_854_775_808) × (down z ≤ n * 9_223_372_036_854_775_808)

pub integer_upto : (v : Value) → IsStored v → IsUpto 1 (integer_in v)
integer_upto Null s = (omega arith, omega arith)
integer_upto (Number (pos n)) s = (omega (arith, ints, s.sfits), omega arith)
integer_upto (Number (negsuc n)) s = (omega arith, omega (arith, ints, s.sfits))
integer_upto (Word w) s = (omega arith, omega arith)
integer_upto (Truth t) s = (omega arith, omega arith)

pub bounded : (z : ℤ) (a b : ℕ) → up z + b ≡ down z + a → (up z ≤ a) × (down z ≤ b)
bounded (pos n) a b e = (omega (arith, e), omega arith)
bounded (negsuc n) a b e = (omega arith, omega (arith, e))

added_up : (y z : ℤ) → (up (y +ℤ z) ≤ up y + up z) × (down (y +ℤ z) ≤ down y + down z)
added_up y z = bounded (y +ℤ z) (up y + up z) (down y + down z) (omega (arith, ints))

pub sum_upto : (values : List Value) → AllByRecursion IsStored values → IsUpto (length values) (sum_of values)
sum_upto [] all = (omega arith, omega arith)
sum_upto (v ∷ vs) all =
    let one = integer_upto v all.0 in
    let rest = sum_upto vs all.1 in
    let both = added_up (integer_in v) (sum_of vs) in
    (omega (arith, one.0, rest.0, both.0), omega (arith, one.1, rest.1, both.1))

pub sum-append : (xs ys : List Value) → sum_of (xs ++ ys) ≡ sum_of xs +ℤ sum_of ys
sum-append [] ys = omega (arith, ints)
sum-append (x ∷ xs) ys = ap (λ z. integer_in x +ℤ z) (sum-append xs ys) ∙ sym (+ℤ_assoc (integer_in x) (sum_of xs) (sum_of ys))

-- ---- sums of parts stay within 64 bits

-- how often a sum of fewer than 2^48 numbers may hold the unit
abbrev IsFew : ℤ → Type 0
IsFew z = (up z ≤ 600_000_000_000_000) × (down z ≤ 600_000_000_000_000)

high_few : (n : ℕ) (z high : ℤ) (low : ℕ) → IsUpto n z → n < 281_474_976_710_656 → IsSplit z high low → IsFew high
high_few n z (pos k) low u h s = (omega (arith, u.0, u.1, h, s.whole, s.below), omega arith)
high_few n z (negsuc k) low u h s = (omega arith, omega (arith, u.0, u.1, h, s.whole, s.below))

pub kept : (z : ℤ) → up z < 9_223_372_036_854_775_808 → down z ≤ 9_223_372_036_854_775_808 → saturate_signed w64 z ≡ z
kept (pos n) h k = ap pos (omega (arith, h))
kept (negsuc n) h k = ap negsuc (omega (arith, k))

few_kept : (h k : ℤ) → IsFew h → IsFew k → saturate_signed w64 (h +ℤ k) ≡ h +ℤ k
few_kept h k a b = let both = added_up h k in kept (h +ℤ k) (omega (arith, both.0, a.0, b.0)) (omega (arith, both.1, a.1, b.1))

-- what is carried over of two sums of few numbers is what their sum has
pub carried_is : (m n : ℕ) (y z : ℤ) → IsUpto m y → IsUpto n z → m < 281_474_976_710_656 → n < 281_474_976_710_656
    → carried (saturate_signed w64 (high_part y +ℤ high_part z)) (saturate_signed w64 (low_part y +ℤ low_part z))
    ≡ Number (high_part (y +ℤ z)) ∷ Number (low_part (y +ℤ z)) ∷ []
carried_is m n y z u v small1 small2 =
    ap (λ high. carried high (saturate_signed w64 (low_part y +ℤ low_part z))) (few_kept (high_part y) (high_part z) few1 few2)
    ∙ ap (carried (high_part y +ℤ high_part z)) lows
    ∙ by (int_lt (pos (rest_of y + rest_of z)) (pos unit)) refl
  where
    few1 : IsFew (high_part y)
    few1 = high_few m y (high_part y) (rest_of y) u small1 (split_of y)

    few2 : IsFew (high_part z)
    few2 = high_few n z (high_part z) (rest_of z) v small2 (split_of z)

    lows : saturate_signed w64 (low_part y +ℤ low_part z) ≡ pos (rest_of y + rest_of z)
    lows =
        ap (λ w. saturate_signed w64 (w +ℤ low_part z)) (low_is_rest y)
        ∙ ap (λ w. saturate_signed w64 (pos (rest_of y) +ℤ w)) (low_is_rest z)
        ∙ kept (pos (rest_of y + rest_of z)) (omega (arith, (split_of y).below, (split_of z).below)) (omega arith)

    by : (b : Bool) → int_lt (pos (rest_of y + rest_of z)) (pos unit) ≡ b
        → carried (high_part y +ℤ high_part z) (pos (rest_of y + rest_of z)) ≡ Number (high_part (y +ℤ z)) ∷ Number (low_part (y +ℤ z)) ∷ []
    by true e =
        let split : IsSplit (y +ℤ z) (high_part y +ℤ high_part z) (rest_of y + rest_of z) = split_together y z (high_part y) (high_part z) (rest_of y) (rest_of z) (split_of y) (split_of z) (let l = lt-true (pos (rest_of y + rest_of z)) (pos unit) e in omega (arith, l)) in
        ap (λ t. cond t (Number (high_part y +ℤ high_part z) ∷ Number (pos (rest_of y + rest_of z)) ∷ []) (Number (saturate_signed w64 ((high_part y +ℤ high_part z) +ℤ pos 1)) ∷ Number (pos (rest_of y + rest_of z) -ℤ pos unit) ∷ [])) e
        ∙ ap (λ high. Number high ∷ Number (pos (rest_of y + rest_of z)) ∷ []) (sym (high_is (y +ℤ z) (high_part y +ℤ high_part z) (rest_of y + rest_of z) split))
        ∙ ap (λ low. Number (high_part (y +ℤ z)) ∷ Number low ∷ []) (sym (low_is (y +ℤ z) (high_part y +ℤ high_part z) (rest_of y + rest_of z) split))
    by false e =
        let over : unit ≤ rest_of y + rest_of z = (let l = lt-false (pos (rest_of y + rest_of z)) (pos unit) e in omega (arith, l)) in
        let split : IsSplit (y +ℤ z) ((high_part y +ℤ high_part z) +ℤ pos 1) (rest_of y + rest_of z - unit) = split_carried y z (high_part y) (high_part z) (rest_of y) (rest_of z) (split_of y) (split_of z) over in
        let both = added_up (high_part y) (high_part z) in
        let more = added_up (high_part y +ℤ high_part z) (pos 1) in
        ap (λ t. cond t (Number (high_part y +ℤ high_part z) ∷ Number (pos (rest_of y + rest_of z)) ∷ []) (Number (saturate_signed w64 ((high_part y +ℤ high_part z) +ℤ pos 1)) ∷ Number (pos (rest_of y + rest_of z) -ℤ pos unit) ∷ [])) e
        ∙ ap (λ high. Number high ∷ Number (pos (rest_of y + rest_of z) -ℤ pos unit) ∷ []) (kept ((high_part y +ℤ high_part z) +ℤ pos 1) (omega (arith, both.0, more.0, few1.0, few2.0)) (omega (arith, both.1, more.1, few1.1, few2.1)))
        ∙ ap (λ low. Number ((high_part y +ℤ high_part z) +ℤ pos 1) ∷ Number low ∷ []) (same_in (pos (rest_of y + rest_of z) -ℤ pos unit) (pos (rest_of y + rest_of z - unit)) (omega (arith, ints, over)))
        ∙ ap (λ high. Number high ∷ Number (pos (rest_of y + rest_of z - unit)) ∷ []) (sym (high_is (y +ℤ z) ((high_part y +ℤ high_part z) +ℤ pos 1) (rest_of y + rest_of z - unit) split))
        ∙ ap (λ low. Number (high_part (y +ℤ z)) ∷ Number low ∷ []) (sym (low_is (y +ℤ z) ((high_part y +ℤ high_part z) +ℤ pos 1) (rest_of y + rest_of z - unit) split))
