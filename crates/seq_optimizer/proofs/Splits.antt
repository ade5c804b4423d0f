-- The best split so far, after a further one.
use Rattle.std.proofs.Common.{◌≡◌, refl, sym, arith, ℕ, ◌+◌, ◌-◌, ◌<◌, ◌≤◌, nat_le, Bool, true, false, Option, Some, None, subst, inl, inr}
use Rattle.std.specs.Prelude.{if◌then◌else◌}
use Rattle.std.proofs.lemmas.Bool.{cases_lt}
use Rattle.std.proofs.lemmas.Bool.Decides.{nat_tests}
use Rattle.seq_optimizer.specs.declared.table.Entry.{Entry}
use Rattle.seq_optimizer.specs.declared.table.Choice.TheVariants as choice
use Rattle.seq_optimizer.specs.Tables.{Apart, BestBelow, IsBest, NoneBelow, better_of}

module _ (price : ℕ → ℕ) (m k : ℕ) where
  none_more : NoneBelow m k → (Apart k (m - k) → ⊥) → NoneBelow m (k + 1)
  none_more h never x p lt apart = elim (cases_lt x k) [
    | inl below ↦ h x p below apart
    | inr at ↦ let same : x ≡ k = omega arith in never (subst (λ (y : ℕ). Apart y (m - y)) same apart)
  ]

  best_more : (e : Entry) → BestBelow price m k e → (Apart k (m - k) → (e.cost ≤ price k)) → BestBelow price m (k + 1) e
  best_more e h never =
      let within : h.0 < k = h.3 in (
        h.0,
        h.1,
        h.2,
        omega arith,
        h.4,
        h.5,
        λ x p lt apart. elim (cases_lt x k) [
          | inl below ↦ h.6 x p below apart
          | inr at ↦ let same : k ≡ x = omega arith in subst (λ (y : ℕ). (e.cost ≤ price y) × (price y ≡ e.cost → h.0 ≤ y)) same (never (subst (λ (y : ℕ). Apart y (m - y)) (sym same) apart), λ equal. omega arith)
        ],
      )

  -- a number that is no split
  pub skipped : (o : Option Entry) → (Apart k (m - k) → ⊥) → IsBest price m k o → IsBest price m (k + 1) o
  skipped None never h = none_more h never
  skipped (Some e) never h = best_more e h (λ apart. absurd (never apart))

  first_best : 0 < k → Apart k (m - k) → NoneBelow m k → (c : ℕ) → c ≡ price k → BestBelow price m (k + 1) (record { cost = c; choice = choice.Join k })
  first_best some apart h c is = (
    k,
    refl,
    some,
    omega arith,
    apart,
    is,
    λ x p lt apart-x. elim (cases_lt x k) [
      | inl below ↦ absurd (h x p below apart-x)
      | inr at ↦ let same : k ≡ x = omega arith in subst (λ (y : ℕ). (c ≤ price y) × (price y ≡ c → k ≤ y)) same (omega arith, λ equal. omega arith)
    ],
  )

  lower_best : 0 < k → Apart k (m - k) → (e : Entry) → BestBelow price m k e → (c : ℕ) → c ≡ price k → c < e.cost → BestBelow price m (k + 1) (record { cost = c; choice = choice.Join k })
  lower_best some apart e h c is less = (
    k,
    refl,
    some,
    omega arith,
    apart,
    is,
    λ x p lt apart-x. elim (cases_lt x k) [
      | inl below ↦ let more : e.cost ≤ price x = (h.6 x p below apart-x).0 in (omega arith, λ equal. omega arith)
      | inr at ↦ let same : k ≡ x = omega arith in subst (λ (y : ℕ). (c ≤ price y) × (price y ≡ c → k ≤ y)) same (omega arith, λ equal. omega arith)
    ],
  )

  -- a split of this cost
  pub taken : (o : Option Entry) → 0 < k → Apart k (m - k) → (c : ℕ) → c ≡ price k → IsBest price m k o → IsBest price m (k + 1) (better_of o c k)
  taken None some apart c is h = first_best some apart h c is
  taken (Some e) some apart c is h = by (nat_le e.cost c) refl where
    by : (b : Bool) → nat_le e.cost c ≡ b → IsBest price m (k + 1) (if b then Some e else Some (record { cost = c; choice = choice.Join k }))
    by true at = let low : e.cost ≤ c = grind (arith, nat_tests) in best_more e h (λ a. omega arith)
    by false at = let less : c < e.cost = grind (arith, nat_tests) in lower_best some apart e h c is less
