-- The next row of two lists that are merged, where the lists stand with their first row last.
use Rattle.std.proofs.Common.{◌≡◌, List, [], ◌∷◌, refl, sym, ap, ◌∙◌, arith, length, reverse}
use Rattle.std.specs.List.{IsLastAndRest}
use Rattle.std.proofs.lemmas.List.{reverse-append}
use Rattle.std.specs.declared.cmp.Ordering.{Ordering}
use Rattle.std.specs.declared.cmp.Ordering.TheVariants.{Less, Equal, Greater}
use Rattle.std.specs.Ordering.{match_ordering}
use Rattle.std.specs.Cmp.Lexicographic.{slice_cmp}
use Rattle.rows.specs.declared.value.Value.{Value}
use Rattle.rows.specs.Values.{value_cmp}
use Rattle.aggregate_op.specs.declared.fold.Fold.{Fold}
use Rattle.aggregate_op.specs.Partials.{group_of}
use Rattle.aggregate_op.specs.Joined.{joined, merged}
use Rattle.aggregate_op.specs.Sides.{TakesLeft, TakesRight, TakesBoth}
use Rattle.aggregate_op.proofs.MergedRows.{merged_nil}

pub turned : {X : Type 0} (xs : List X) (x : X) (rest : List X) → IsLastAndRest xs x rest → reverse xs ≡ x ∷ reverse rest
turned xs x rest last = ap reverse last.0 ∙ reverse-append rest (x ∷ [])

pub nothing : {X : Type 0} (xs : List X) → length xs ≡ 0 → reverse xs ≡ []
nothing [] h = refl
nothing (x ∷ xs) h = absurd (omega (arith, h))

module _ (fold : Fold) (left right : List (List Value)) where
  pub only_left : (x : List Value) (rest : List (List Value)) → IsLastAndRest left x rest → length right ≡ 0 → TakesLeft fold (reverse left) (reverse right)
  only_left x rest last none = record {
    first = x;
    rest = reverse rest;
    begins = turned left x rest last;
    takes =
        ap (merged fold (reverse left)) (nothing right none)
        ∙ merged_nil fold (reverse left)
        ∙ turned left x rest last
        ∙ ap (λ l. x ∷ l) (sym (ap (merged fold (reverse rest)) (nothing right none) ∙ merged_nil fold (reverse rest)));
  }

  pub only_right : (y : List Value) (others : List (List Value)) → length left ≡ 0 → IsLastAndRest right y others → TakesRight fold (reverse left) (reverse right)
  only_right y others none last = record {
    first = y;
    rest = reverse others;
    begins = turned right y others last;
    takes =
        ap (λ l. merged fold l (reverse right)) (nothing left none)
        ∙ turned right y others last
        ∙ ap (λ l. y ∷ l) (sym (ap (λ l. merged fold l (reverse others)) (nothing left none)));
  }

  module _ (x : List Value) (rest : List (List Value)) (y : List Value) (others : List (List Value)) (last : IsLastAndRest left x rest) (last_too : IsLastAndRest right y others) where
    steps : (o : Ordering) → slice_cmp value_cmp (group_of fold x) (group_of fold y) ≡ o → merged fold (reverse left) (reverse right)
        ≡ match_ordering o (x ∷ merged fold (reverse rest) (y ∷ reverse others)) (joined fold x y ∷ merged fold (reverse rest) (reverse others)) (y ∷ merged fold (x ∷ reverse rest) (reverse others))
    steps o e =
        ap (λ l. merged fold l (reverse right)) (turned left x rest last)
        ∙ ap (merged fold (x ∷ reverse rest)) (turned right y others last_too)
        ∙ ap (λ o. match_ordering o (x ∷ merged fold (reverse rest) (y ∷ reverse others)) (joined fold x y ∷ merged fold (reverse rest) (reverse others)) (y ∷ merged fold (x ∷ reverse rest) (reverse others))) e

    pub left_before : slice_cmp value_cmp (group_of fold x) (group_of fold y) ≡ Less → TakesLeft fold (reverse left) (reverse right)
    left_before e = record {
      first = x;
      rest = reverse rest;
      begins = turned left x rest last;
      takes = steps Less e ∙ ap (λ l. x ∷ merged fold (reverse rest) l) (sym (turned right y others last_too));
    }

    pub right_before : slice_cmp value_cmp (group_of fold x) (group_of fold y) ≡ Greater → TakesRight fold (reverse left) (reverse right)
    right_before e = record {
      first = y;
      rest = reverse others;
      begins = turned right y others last_too;
      takes = steps Greater e ∙ ap (λ l. y ∷ merged fold l (reverse others)) (sym (turned left x rest last));
    }

    pub both_first : slice_cmp value_cmp (group_of fold x) (group_of fold y) ≡ Equal → TakesBoth fold (reverse left) (reverse right)
    both_first e = record {
      first = x;
      rest = reverse rest;
      other = y;
      others = reverse others;
      begins = turned left x rest last;
      begins_too = turned right y others last_too;
      takes = steps Equal e;
    }
