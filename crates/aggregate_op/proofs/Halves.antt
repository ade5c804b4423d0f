-- The partial of rows from that of each half.
use Rattle.std.proofs.Common.{◌≡◌, ◌<◌, ℕ, zero, suc, List, [], ◌∷◌, ◌++◌, sym, ap, ◌∙◌, subst, arith, length, map, take, drop, append-nil}
use Rattle.std.specs.List.{AllZip, take-map, drop-map}
use Rattle.std.proofs.lemmas.List.{take-append-drop}
use Rattle.std.proofs.lemmas.List.Concat.{flat_map-append}
use Rattle.rows.specs.declared.value.Value.{Value}
use Rattle.aggregate_op.specs.declared.fold.Fold.{Fold}
use Rattle.aggregate_op.specs.Partials.{partial, IsFoldRow}
use Rattle.aggregate_op.specs.Joined.{merged}
use Rattle.aggregate_op.specs.Stored.{IsStoredRow, IsPartialOf, ArePartialsOf, all_rows}
use Rattle.aggregate_op.proofs.MergedRows.{all_append, partials_merged}

pub of_none : (fold : Fold) (found : List (List Value)) → found ≡ [] → IsPartialOf fold [] found
of_none fold found e = record { may = record { fit = tt; stored = tt }; is = e }

-- ---- two lists of rows

pub of_both : (fold : Fold) (a b left right found : List (List Value)) → IsPartialOf fold a left → IsPartialOf fold b right → found ≡ merged fold left right → IsPartialOf fold (a ++ b) found
of_both fold a b left right found p q e = record {
  may = record {
    fit = all_append (IsFoldRow fold) a b p.may.fit q.may.fit;
    stored = all_append (IsStoredRow fold) a b p.may.stored q.may.stored;
  };
  is = e ∙ ap (λ l. merged fold l right) p.is ∙ ap (merged fold (partial fold a)) q.is ∙ partials_merged fold a b p.may q.may;
}

-- ---- several lists of rows

pub front_mapped : {X Y : Type 0} (f : X → Y) (n : ℕ) (xs front : List X) → front ≡ take n xs → take n (map f xs) ≡ map f front
front_mapped f n xs front e = take-map f n xs ∙ ap (map f) (sym e)

pub back_mapped : {X Y : Type 0} (f : X → Y) (n : ℕ) (xs back : List X) → back ≡ drop n xs → drop n (map f xs) ≡ map f back
back_mapped f n xs back e = drop-map f n xs ∙ ap (map f) (sym e)

zip_take : {A B : Type 0} (R : A → B → Type 0) (n : ℕ) (xs : List A) (ys : List B) → AllZip R xs ys → AllZip R (take n xs) (take n ys)
zip_take R zero xs ys all = tt
zip_take R (suc n) [] [] all = tt
zip_take R (suc n) [] (y ∷ ys) all = absurd all
zip_take R (suc n) (x ∷ xs) [] all = absurd all
zip_take R (suc n) (x ∷ xs) (y ∷ ys) all = (all.0, zip_take R n xs ys all.1)

zip_drop : {A B : Type 0} (R : A → B → Type 0) (n : ℕ) (xs : List A) (ys : List B) → AllZip R xs ys → AllZip R (drop n xs) (drop n ys)
zip_drop R zero xs ys all = all
zip_drop R (suc n) [] [] all = tt
zip_drop R (suc n) [] (y ∷ ys) all = absurd all
zip_drop R (suc n) (x ∷ xs) [] all = absurd all
zip_drop R (suc n) (x ∷ xs) (y ∷ ys) all = zip_drop R n xs ys all.1

-- one list at most
pub few_lists : {X : Type 0} (fold : Fold) (f : X → List (List Value)) (parts : List X) (found : List (List Value)) → length parts < 2 → found ≡ all_rows (map f parts)
    → (lists : List (List (List Value))) → ArePartialsOf fold lists (map f parts) → IsPartialOf fold (all_rows lists) found
few_lists fold f [] found h e [] all = of_none fold found e
few_lists fold f [] found h e (l ∷ ls) all = absurd all
few_lists fold f (p ∷ []) found h e [] all = absurd all
few_lists fold f (p ∷ []) found h e (l ∷ []) all =
    subst (λ rows. IsPartialOf fold rows found) (sym (append-nil l)) (subst (IsPartialOf fold l) (sym (e ∙ append-nil (f p))) all.0)
few_lists fold f (p ∷ []) found h e (l ∷ m ∷ ls) all = absurd all.1
few_lists fold f (p ∷ q ∷ ps) found h e lists all = absurd (omega (arith, h))

module _ (fold : Fold) (n : ℕ) (lists parts : List (List (List Value))) (all : ArePartialsOf fold lists parts) where
  pub front_lists : ArePartialsOf fold (take n lists) (take n parts)
  front_lists = zip_take (IsPartialOf fold) n lists parts all

  pub back_lists : ArePartialsOf fold (drop n lists) (drop n parts)
  back_lists = zip_drop (IsPartialOf fold) n lists parts all

  pub of_both_lists : (left right found : List (List Value)) → IsPartialOf fold (all_rows (take n lists)) left → IsPartialOf fold (all_rows (drop n lists)) right → found ≡ merged fold left right → IsPartialOf fold (all_rows lists) found
  of_both_lists left right found p q e =
      subst (λ rows. IsPartialOf fold rows found) (sym (flat_map-append (λ rows. rows) (take n lists) (drop n lists)) ∙ ap all_rows (take-append-drop n lists))
      (of_both fold (all_rows (take n lists)) (all_rows (drop n lists)) left right found p q e)

-- the parts of each half, merged
pub merged_halves : {X : Type 0} (fold : Fold) (n : ℕ) (f : X → List (List Value)) (parts front back : List X) (left right found : List (List Value)) → front ≡ take n parts → back ≡ drop n parts
    → ((lists : List (List (List Value))) → ArePartialsOf fold lists (map f front) → IsPartialOf fold (all_rows lists) left)
    → ((lists : List (List (List Value))) → ArePartialsOf fold lists (map f back) → IsPartialOf fold (all_rows lists) right)
    → found ≡ merged fold left right
    → (lists : List (List (List Value))) → ArePartialsOf fold lists (map f parts) → IsPartialOf fold (all_rows lists) found
merged_halves fold n f parts front back left right found e g p q m lists all =
    of_both_lists fold n lists (map f parts) all left right found
    (p (take n lists) (subst (ArePartialsOf fold (take n lists)) (front_mapped f n parts front e) (front_lists fold n lists (map f parts) all)))
    (q (drop n lists) (subst (ArePartialsOf fold (drop n lists)) (back_mapped f n parts back g) (back_lists fold n lists (map f parts) all)))
    m
