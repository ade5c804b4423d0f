-- Where the keys of right rows do not fall, one place parts those below a left row's key.
use Rattle.std.proofs.Common.{◌≡◌, ℕ, ◌+◌, ◌<◌, ◌≤◌, true, false, List, refl, sym, ap, ◌∙◌, arith, length, get_or}
use Rattle.std.specs.List.{AllWithin}
use Rattle.std.specs.List.Sorted.{IsNonDecreasingBy}
use Rattle.std.specs.declared.cmp.Ordering.{Ordering}
use Rattle.std.specs.declared.cmp.Ordering.TheVariants.{Less, Equal, Greater}
use Rattle.std.specs.Ordering.{is_lt, is_eq, ordering_index}
use Rattle.std.proofs.lemmas.List.{get_or_default}

not_above : (o p : Ordering) → ordering_index o ≤ ordering_index p → is_lt p ≡ true → is_lt o ≡ true
not_above Less p le h = refl
not_above Equal Less le h = absurd (omega (arith, le))
not_above Equal Equal le h = cc
not_above Equal Greater le h = cc
not_above Greater Less le h = absurd (omega (arith, le))
not_above Greater Equal le h = cc
not_above Greater Greater le h = cc

not_below : (o p : Ordering) → ordering_index o ≤ ordering_index p → is_lt o ≡ false → is_lt p
    ≡ false
not_below Less p le h = cc
not_below Equal Less le h = absurd (omega (arith, le))
not_below Equal Equal le h = refl
not_below Equal Greater le h = refl
not_below Greater Less le h = absurd (omega (arith, le))
not_below Greater Equal le h = refl
not_below Greater Greater le h = refl

unequal : (o p : Ordering) → ordering_index o ≤ ordering_index p → is_lt o ≡ false → is_eq o ≡ false
    → is_eq p ≡ false
unequal Less p le h k = cc
unequal Equal p le h k = cc
unequal Greater Less le h k = refl
unequal Greater Equal le h k = absurd (omega (arith, le))
unequal Greater Greater le h k = refl

module _ {X : Type 0} (order : X → Ordering) (xs : List X)
    (up : IsNonDecreasingBy (λ x. ordering_index (order x)) xs) where
  pub below_upto : (i : ℕ) (e : X) → i < length xs → is_lt (order (get_or xs i e)) ≡ true
      → AllWithin (λ x. is_lt (order x) ≡ true) xs 0 (i + 1)
  below_upto i e within h k d low high =
      let same : get_or xs i e ≡ get_or xs i d = get_or_default xs i e d within in
      not_above (order (get_or xs k d)) (order (get_or xs i d))
      (up k i d (omega (arith, high)) within) (sym (ap (λ x. is_lt (order x)) same) ∙ h)

  pub rest_from : (i : ℕ) (e : X) → i < length xs → is_lt (order (get_or xs i e)) ≡ false
      → AllWithin (λ x. is_lt (order x) ≡ false) xs i (length xs)
  rest_from i e within h k d low high =
      let same : get_or xs i e ≡ get_or xs i d = get_or_default xs i e d within in
      not_below (order (get_or xs i d)) (order (get_or xs k d)) (up i k d low high)
      (sym (ap (λ x. is_lt (order x)) same) ∙ h)

  pub unequal_from : (i : ℕ) (e : X) → i < length xs → is_lt (order (get_or xs i e)) ≡ false
      → is_eq (order (get_or xs i e)) ≡ false
      → AllWithin (λ x. is_eq (order x) ≡ false) xs i (length xs)
  unequal_from i e within h unlike k d low high =
      let same : get_or xs i e ≡ get_or xs i d = get_or_default xs i e d within in
      unequal (order (get_or xs i d)) (order (get_or xs k d)) (up i k d low high)
      (sym (ap (λ x. is_lt (order x)) same) ∙ h) (sym (ap (λ x. is_eq (order x)) same) ∙ unlike)
