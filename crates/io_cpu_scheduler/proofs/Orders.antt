-- Cross products and fragment numbers order the loads of a class.
use Rattle.std.proofs.Common.{◌≡◌, sym, ap, arith, ℕ, ◌*◌, ◌≤◌, ◌==◌, ◌&&◌, ◌||◌, true, false, nat_lt}
use Rattle.std.proofs.Math.Nat.{le_of_mul-le-mul_left, le_of_mul-le-mul_right, mul-le-mul_right}
use Rattle.std.proofs.lemmas.Bool.Decides.{nat_tests}
use Rattle.io_cpu_scheduler.specs.declared.load.Load.{Load}
use Rattle.io_cpu_scheduler.specs.declared.load.Class.{Class}
use Rattle.io_cpu_scheduler.specs.declared.load.Class.TheVariants as class
use Rattle.io_cpu_scheduler.specs.Limits.{IsLoad}
use Rattle.io_cpu_scheduler.specs.Loads.{beats, is_lower}
use Rattle.io_cpu_scheduler.proofs.Unbeaten.{IsOrder}

-- p / t of one is at most that of the next
cross : (p t q u r v : ℕ) → 1 ≤ u → p * u ≤ q * t → q * v ≤ r * u → p * v ≤ r * t
cross p t q u r v some one two =
    let a : p * u * v ≤ q * t * v = mul-le-mul_right v one in
    let b : q * v * t ≤ r * u * t = mul-le-mul_right t two in
    le_of_mul-le-mul_left {k = u} (let c : u * (p * v) ≤ u * (r * t) = omega arith in c) (omega arith)

-- where the ends tie, all tie
cross_tie : (p t q u r v : ℕ) → 1 ≤ t → 1 ≤ v → p * u ≤ q * t → q * v ≤ r * u → p * v ≡ r * t → (p * u ≡ q * t) × (q * v ≡ r * u)
cross_tie p t q u r v some_t some_v one two tie =
    let a : p * u * v ≤ q * t * v = mul-le-mul_right v one in
    let b : q * v * t ≤ r * u * t = mul-le-mul_right t two in
    let c : p * v * u ≡ r * t * u = ap (λ (n : ℕ). n * u) tie in
    let d : q * t ≤ p * u = le_of_mul-le-mul_right {k = v} (let e : q * t * v ≤ p * u * v = omega arith in e) (omega arith) in
    let f : r * u ≤ q * v = le_of_mul-le-mul_right {k = t} (let e : r * u * t ≤ q * v * t = omega arith in e) (omega arith) in
    (omega arith, omega arith)

-- the test of a tie and of the numbers
loses : (P Q f g : ℕ) → (nat_lt Q P || ((P == Q) && nat_lt f g)) ≡ false → (P ≤ Q) × (P ≡ Q → g ≤ f)
loses P Q f g h = (grind (arith, nat_tests), λ e. grind (arith, nat_tests))

fails : (P Q f g : ℕ) → P ≤ Q → (P ≡ Q → g ≤ f) → (nat_lt Q P || ((P == Q) && nat_lt f g)) ≡ false
fails P Q f g h e = grind (arith, nat_tests)

loses_low : (P Q f g : ℕ) → (nat_lt P Q || ((P == Q) && nat_lt f g)) ≡ false → (Q ≤ P) × (P ≡ Q → g ≤ f)
loses_low P Q f g h = (grind (arith, nat_tests), λ e. grind (arith, nat_tests))

fails_low : (P Q f g : ℕ) → Q ≤ P → (P ≡ Q → g ≤ f) → (nat_lt P Q || ((P == Q) && nat_lt f g)) ≡ false
fails_low P Q f g h e = grind (arith, nat_tests)

one_way_at : (c : Class) (a b : Load) → beats c a b ≡ true → beats c b a ≡ false
one_way_at class.Io a b h = grind (arith, nat_tests)
one_way_at class.Cpu a b h = grind (arith, nat_tests)

chain_at : (c : Class) (x y z : Load) → IsLoad x → IsLoad y → IsLoad z → beats c x y ≡ false → beats c y z ≡ false → beats c x z ≡ false
chain_at class.Io x y z fit_x fit_y fit_z one two =
    let a = loses (x.pages * y.time) (y.pages * x.time) x.fragment y.fragment one in
    let b = loses (y.pages * z.time) (z.pages * y.time) y.fragment z.fragment two in
    fails (x.pages * z.time) (z.pages * x.time) x.fragment z.fragment (cross x.pages x.time y.pages y.time z.pages z.time fit_y.some_time a.0 b.0) (λ tie.
    let ties = cross_tie x.pages x.time y.pages y.time z.pages z.time fit_x.some_time fit_z.some_time a.0 b.0 tie in
    let up = a.1 ties.0 in
    let on = b.1 ties.1 in
    omega arith)
chain_at class.Cpu x y z fit_x fit_y fit_z one two =
    let a = loses_low (x.pages * y.time) (y.pages * x.time) x.fragment y.fragment one in
    let b = loses_low (y.pages * z.time) (z.pages * y.time) y.fragment z.fragment two in
    fails_low (x.pages * z.time) (z.pages * x.time) x.fragment z.fragment (cross z.pages z.time y.pages y.time x.pages x.time fit_y.some_time b.0 a.0) (λ tie.
    let ties = cross_tie z.pages z.time y.pages y.time x.pages x.time fit_z.some_time fit_x.some_time b.0 a.0 (sym tie) in
    let up = a.1 (sym ties.1) in
    let on = b.1 (sym ties.0) in
    omega arith)

pub class_order : (c : Class) → IsOrder (beats c) IsLoad
class_order c = record { one_way = one_way_at c; chain = chain_at c }

lower_one_way : (a b : Load) → is_lower a b ≡ true → is_lower b a ≡ false
lower_one_way a b h = grind (arith, nat_tests)

lower_chain : (a b c : Load) → is_lower a b ≡ false → is_lower b c ≡ false → is_lower a c ≡ false
lower_chain a b c one two = grind (arith, nat_tests)

pub number_order : IsOrder is_lower IsLoad
number_order = record { one_way = lower_one_way; chain = λ a b c _ _ _. lower_chain a b c }
