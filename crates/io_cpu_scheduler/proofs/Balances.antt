-- The balance as a function is the balance.
use Rattle.std.proofs.Common.{◌≡◌, ◌∙◌, sym, refl, ap, subst, arith, ℕ, zero, suc, ◌+◌, ◌-◌, ◌<◌, ◌≤◌, Bool, true, false, Some, get_or, nat_le, unwrap_or}
use Rattle.std.specs.List.{find, range_with_len}
use Rattle.std.proofs.lemmas.Bool.Decides.{nat_tests}
use Rattle.std.proofs.lemmas.List.FromFn.{length-range_with_len, get_or-range_with_len}
use Rattle.std.proofs.lemmas.List.Sums.{AllPass-from_list_all, list_all-from_AllPass}
use mathlib.Core.Logic.{dite}
use native.Mathlib.Decide.{ℕ_discrete}
use Rattle.rows.specs.declared.plain.Machine.{Machine}
use Rattle.io_cpu_scheduler.specs.declared.load.Load.{Load}
use Rattle.io_cpu_scheduler.specs.Degrees.{IsBalance, balance_of, gap, is_least_gap, shared_degrees}

-- a test that can't give true gives false
pub not_true : (b : Bool) → (b ≡ true → ⊥) → b ≡ false
not_true true h = absurd (h refl)
not_true false h = refl

-- the first number of a range that passes
first_in : (p : ℕ → Bool) (n a b : ℕ) → a ≤ b → b < a + n → p b ≡ true → ((x : ℕ) → a ≤ x → x < b → p x ≡ false) → find p (range_with_len a n) ≡ Some b
first_in p zero a b low high hit miss = absurd (omega arith)
first_in p (suc n) a b low high hit miss = dite (ℕ_discrete a b)
    (λ same. let passes : p a ≡ true = subst (λ k. p k ≡ true) (sym same) hit in rw (passes) (ap (λ k. Some k) same))
    (λ other. rw (miss a (omega arith) (omega arith)) (first_in p n (a + 1) b (omega arith) (omega arith) hit (λ x more less. miss x (omega arith) less)))

at_most : (x y : ℕ) → x ≤ y → nat_le x y ≡ true
at_most x y h = grind (arith, nat_tests)

is_at_most : (x y : ℕ) → nat_le x y ≡ true → x ≤ y
is_at_most x y h = grind (arith, nat_tests)

least_passes : (m : Machine) (i j : Load) (b : ℕ) → IsBalance m i j b → is_least_gap m i j b ≡ true
least_passes m i j b h = list_all-from_AllPass (λ y. nat_le (gap m i j b) (gap m i j y)) (shared_degrees m) (λ k d less.
    let in_range : k < m.backends - 1 = subst (λ n. k < n) (length-range_with_len 1 (m.backends - 1)) less in
    subst (λ y. nat_le (gap m i j b) (gap m i j y) ≡ true) (sym (get_or-range_with_len 1 (m.backends - 1) k d in_range)) (at_most _ _ (h.least (1 + k) (omega arith) (omega arith))))

smaller_fails : (m : Machine) (i j : Load) (b x : ℕ) → IsBalance m i j b → 1 ≤ x → x < b → is_least_gap m i j x ≡ false
smaller_fails m i j b x h some less = not_true _ (λ passes.
    let some_b = h.some in
    let part = h.part in
    let in_range : b - 1 < m.backends - 1 = omega arith in
    let at_b = AllPass-from_list_all (λ y. nat_le (gap m i j x) (gap m i j y)) (shared_degrees m) passes (b - 1) 0 (subst (λ n. b - 1 < n) (sym (length-range_with_len 1 (m.backends - 1))) in_range) in
    let is_b : get_or (shared_degrees m) (b - 1) 0 ≡ b = get_or-range_with_len 1 (m.backends - 1) (b - 1) 0 in_range ∙ (let e : 1 + (b - 1) ≡ b = omega arith in e) in
    let below : gap m i j x ≤ gap m i j b = is_at_most _ _ (subst (λ y. nat_le (gap m i j x) (gap m i j y) ≡ true) is_b at_b) in
    let above : gap m i j b ≤ gap m i j x = h.least x some (omega arith) in
    let no_less : b ≤ x = h.first x some (omega arith) (omega arith) in
    omega arith)

pub balance_is : (m : Machine) (i j : Load) (b : ℕ) → IsBalance m i j b → b ≡ balance_of m i j
unfolding balance_of
balance_is m i j b h =
    let some_b = h.some in
    let part = h.part in
    let found : find (is_least_gap m i j) (shared_degrees m) ≡ Some b = first_in (is_least_gap m i j) (m.backends - 1) 1 b some_b (omega arith) (least_passes m i j b h) (λ x some less. smaller_fails m i j b x h some less) in
    sym (ap (λ o. unwrap_or o 1) found)
