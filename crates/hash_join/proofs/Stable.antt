-- A stable sort keeps the order of those with one key.
use Rattle.std.proofs.Common.{◌≡◌, Bool, true, not, ◌&&◌, cond, List, [], ◌∷◌, refl, sym, ap, ◌∙◌, subst, arith, length, filter}
use Rattle.std.specs.List.{All}
use Rattle.std.specs.List.Sorted.{IsPermutation, IsStableBy, ties}
use Rattle.std.specs.Cmp.{IsTotalOrder}
use Rattle.std.specs.declared.cmp.Ordering.{Ordering}
use Rattle.std.specs.declared.cmp.Ordering.TheVariants.{Less, Equal, Greater}
use Rattle.std.specs.Ordering.{is_lt, is_eq, ordering_reverse}
use Rattle.std.proofs.lemmas.List.Elements.{filter_agree, filter_passes, All-head}
use Rattle.std.proofs.lemmas.List.Sums.{length-filter}
use Rattle.std.proofs.lemmas.List.Sorted.{sum_by-IsPermutation}
use Rattle.std.proofs.lemmas.Map.Lookups.{CmpEqualImpliesEq}

equal_if : (o : Ordering) → is_eq o ≡ true → o ≡ Equal
equal_if Less h = cc
equal_if Equal h = refl
equal_if Greater h = cc

tied : (o : Ordering) → is_eq o ≡ (not (is_lt (ordering_reverse o)) && not (is_lt o))
tied Less = refl
tied Equal = refl
tied Greater = refl

empty_if : {X : Type 0} (xs : List X) → length xs ≡ 0 → xs ≡ []
empty_if [] h = refl
empty_if (x ∷ xs) h = absurd (omega (arith, h))

module _ {X K : Type 0} {cmp : K → K → Ordering} (total : IsTotalOrder cmp) (exact : CmpEqualImpliesEq cmp) (key : X → K) where
  abbrev below : X → X → Bool
  below a b = is_lt (cmp (key a) (key b))

  equals_tie : (k : K) (x y : X) → key x ≡ k → is_eq (cmp (key y) k) ≡ ties below x y
  equals_tie k x y e =
      ap (λ m. is_eq (cmp (key y) m)) (sym e)
      ∙ tied (cmp (key y) (key x))
      ∙ ap (λ o. not (is_lt o) && not (is_lt (cmp (key y) (key x)))) (sym (total.antisymm (key x) (key y)))

  abbrev has_it : K → X → Bool
  has_it k x = is_eq (cmp (key x) k)

  pub stable_keys : (k : K) (xs ys : List X) → IsPermutation xs ys → IsStableBy below xs ys → filter (λ x. is_eq (cmp (key x) k)) ys ≡ filter (λ x. is_eq (cmp (key x) k)) xs
  stable_keys k xs ys same stable = by (filter (has_it k) ys) refl where
    by : (kept : List X) → filter (has_it k) ys ≡ kept → filter (has_it k) ys ≡ filter (has_it k) xs
    by [] e =
        let counts : length (filter (has_it k) xs) ≡ 0 = length-filter (has_it k) xs ∙ sym (sum_by-IsPermutation (λ x. cond (has_it k x) 1 0) xs ys same) ∙ sym (length-filter (has_it k) ys) ∙ ap length e in
        e ∙ sym (empty_if (filter (has_it k) xs) counts)
    by (x ∷ rest) e =
        let passes : has_it k x ≡ true = All-head (λ y. has_it k y ≡ true) x rest (subst (All (λ y. has_it k y ≡ true)) e (filter_passes (has_it k) ys)) in
        let has : key x ≡ k = exact (key x) k (equal_if (cmp (key x) k) passes) in
        filter_agree (has_it k) (ties below x) (λ y. equals_tie k x y has) ys ∙ stable x ∙ sym (filter_agree (has_it k) (ties below x) (λ y. equals_tie k x y has) xs)
