-- The values of fragments whose answers are folded.
use Rattle.std.proofs.Common.{◌≡◌, ℕ, zero, suc, ◌+◌, Bool, false, List, [], ◌∷◌, ◌++◌, map, length, Option, Some, None, refl, sym, ap, ◌∙◌, subst, append_assoc, slice_get}
use Rattle.std.specs.List.{AllByRecursion, flat_map, range_with_len}
use Rattle.std.proofs.lemmas.List.{append-nil, length-append}
use Rattle.lists.proofs.Arranging.{occurrences-sort}
use Rattle.rows.specs.declared.value.Value.{Value}
use Rattle.rows.specs.declared.order.SortKey.{SortKey}
use Rattle.rows.specs.declared.plain.LayoutPart.{LayoutPart}
use Rattle.rows.specs.Values.{arranged, row_cmp}
use Rattle.rows.proofs.Orders.{row_total}
use Rattle.aggregate_op.specs.declared.fold.Fold.{Fold}
use Rattle.aggregate_op.specs.declared.fold.FoldPlan.{FoldPlan}
use Rattle.aggregate_op.specs.Partials.{partial}
use Rattle.aggregate_op.proofs.SameRows.{same_partial}
use Rattle.plan_tree.specs.Fragments.{Stored, all_rows, ended, piped, projected, value_at, value_of, values_after, values_of}
use Rattle.plan_tree.specs.Inputs.{input_values, inputs_of, with_numbered_inputs}
use Rattle.plan_tree.specs.Pieces.{Ending, Piece, building, answering, folding, sorting}
use Rattle.plan_tree.proofs.InputValues.{value_same}
use Rattle.plan_tree.proofs.Typing.{get_left}
use Rattle.fragments.specs.Folds.{AreUnfolded, MayBeFolded, MayEndFolded, IsUnfolded, fold_at, folded, folded_end, folded_value, folded_values, value_folded}

-- a partial doesn't rest on the order of the rows
of_arranged : (fold : Fold) (rows : List (List Value)) → partial fold rows ≡ partial fold (arranged false [] rows)
of_arranged fold rows = same_partial fold rows (arranged false [] rows) (λ z. sym (occurrences-sort (row_total []) z rows))

-- all rows of a fragment, whose end is folded
end_value : (layout : List LayoutPart) (o : Option Fold) (e : Ending) → MayEndFolded layout o e → (at : ℕ → List (List Value)) (numbers : List ℕ) →
    ended (folded_end o e) (flat_map (λ p. projected (folded_end o e) layout (at p)) numbers) ≡ value_folded o e (ended e (flat_map (λ p. projected e layout (at p)) numbers))
end_value layout None e fits at numbers = refl
end_value layout (Some fold) (building keys) fits at numbers = refl
end_value layout (Some fold) (answering targets unique keys) fits at numbers =
    let rows = flat_map (λ p. projected (answering targets unique keys) layout (at p)) numbers in
    of_arranged fold rows ∙ (λ i. partial fold (arranged (sym fits.1 i) (sym fits.2 i) rows))
end_value layout (Some fold) (folding targets other) fits at numbers = refl
end_value layout (Some fold) (sorting keys) fits at numbers = refl

-- ---- what is read

kept_value : (o : Option Fold) (e : Ending) (value : List (List Value)) → folded_end o e ≡ e → value_folded o e value ≡ value
kept_value None e value h = refl
kept_value (Some fold) (building keys) value h = refl
kept_value (Some fold) (answering targets unique keys) value h = cc
kept_value (Some fold) (folding targets other) value h = refl
kept_value (Some fold) (sorting keys) value h = refl

module _ (folds : List (Option FoldPlan)) where
  read_kept : (pieces : List Piece) (values : List (List (List Value))) (n : ℕ) → length pieces ≡ length values →
      ((read : Piece) → slice_get pieces n ≡ Some read → IsUnfolded folds read) → value_at (folded_values folds pieces values) n ≡ value_at values n
  read_kept [] [] n same stays = refl
  read_kept [] (v ∷ vs) n same stays = cc
  read_kept (p ∷ ps) [] n same stays = cc
  read_kept (p ∷ ps) (v ∷ vs) zero same stays = kept_value (fold_at folds p.statement) p.end v (stays p refl)
  read_kept (p ∷ ps) (v ∷ vs) (suc n) same stays = read_kept ps vs n (let less : length ps ≡ length vs = cc in less) stays

  inputs_kept : (pieces : List Piece) (values : List (List (List Value))) (numbers : List ℕ) → length pieces ≡ length values → AreUnfolded folds pieces numbers →
      map (value_at (folded_values folds pieces values)) numbers ≡ map (value_at values) numbers
  inputs_kept pieces values [] same stays = refl
  inputs_kept pieces values (n ∷ ns) same stays =
      let first = read_kept pieces values n same stays.0 in
      let rest = inputs_kept pieces values ns same stays.1 in
      λ i. first i ∷ rest i

  -- ---- the values

  more_values : (pieces : List Piece) (values : List (List (List Value))) (p : Piece) (v : List (List Value)) → length pieces ≡ length values →
      folded_values folds (pieces ++ p ∷ []) (values ++ v ∷ []) ≡ folded_values folds pieces values ++ folded_value folds p v ∷ []
  more_values [] [] p v same = refl
  more_values [] (w ∷ ws) p v same = cc
  more_values (q ∷ qs) [] p v same = cc
  more_values (q ∷ qs) (w ∷ ws) p v same = ap (λ (vs : List (List (List Value))). folded_value folds q w ∷ vs) (more_values qs ws p v (let less : length qs ≡ length ws = cc in less))

  module _ (stored : Stored) where
    one_value : (before : List Piece) (values : List (List (List Value))) (p : Piece) → length before ≡ length values →
        AreUnfolded folds before (inputs_of p) → MayEndFolded p.layout (fold_at folds p.statement) p.end →
        value_of stored (folded_values folds before values) (folded folds p) ≡ folded_value folds p (value_of stored values p)
    one_value before values p same stays fits =
        end_value p.layout (fold_at folds p.statement) p.end fits (piped stored (folded_values folds before values) p.pipe) (range_with_len 0 p.positions)
        ∙ ap (folded_value folds p)
        (sym (value_same stored (folded_values folds before values) p)
        ∙ ap (λ (inputs : List (List (List Value))). value_of stored inputs (with_numbered_inputs p)) (inputs_kept before values (inputs_of p) same stays)
        ∙ value_same stored values p)

    longer : (before : List Piece) (values : List (List (List Value))) (p : Piece) (v : List (List Value)) → length before ≡ length values → length (before ++ p ∷ []) ≡ length (values ++ v ∷ [])
    longer [] [] p v same = refl
    longer [] (w ∷ ws) p v same = cc
    longer (q ∷ qs) [] p v same = cc
    longer (q ∷ qs) (w ∷ ws) p v same = ap suc (longer qs ws p v (let less : length qs ≡ length ws = cc in less))

    earlier : (before more : List Piece) (numbers : List ℕ) → AreUnfolded folds (before ++ more) numbers → AreUnfolded folds before numbers
    earlier before more [] h = tt
    earlier before more (n ∷ ns) h = (λ read at. h.0 read (left before n read at), earlier before more ns h.1) where
      left : (xs : List Piece) (k : ℕ) (x : Piece) → slice_get xs k ≡ Some x → slice_get (xs ++ more) k ≡ Some x
      left [] k x at = cc
      left (y ∷ ys) zero x at = at
      left (y ∷ ys) (suc k) x at = left ys k x at

    all_values : (before : List Piece) (values : List (List (List Value))) (pieces : List Piece) → length before ≡ length values →
        AllByRecursion (λ (p : Piece). MayEndFolded p.layout (fold_at folds p.statement) p.end) pieces → AllByRecursion (λ (p : Piece). AreUnfolded folds (before ++ pieces) (inputs_of p)) pieces →
        values_after stored (folded_values folds before values) (map (folded folds) pieces) ≡ folded_values folds (before ++ pieces) (values_after stored values pieces)
    all_values before values [] same fits stays = ap (λ (ps : List Piece). folded_values folds ps values) (sym (append-nil before))
    all_values before values (p ∷ ps) same fits stays =
        let v = value_of stored values p in
        let own = one_value before values p same (earlier before (p ∷ ps) (inputs_of p) stays.0) fits.0 in
        let step = ap (λ (w : List (List Value)). folded_values folds before values ++ w ∷ []) own ∙ sym (more_values before values p v same) in
        let joined = append_assoc before (p ∷ []) ps in
        ap (λ (vs : List (List (List Value))). values_after stored vs (map (folded folds) ps)) step
        ∙ all_values (before ++ p ∷ []) (values ++ v ∷ []) ps (longer before values p v same) fits.1
        (subst (λ (all : List Piece). AllByRecursion (λ (q : Piece). AreUnfolded folds all (inputs_of q)) ps) (sym joined) stays.1)
        ∙ ap (λ (all : List Piece). folded_values folds all (values_after stored (values ++ v ∷ []) ps)) joined

    -- the values of the fragments, by those of the same fragments without folds
    pub values_folded : (pieces : List Piece) → MayBeFolded folds pieces → values_of stored (map (folded folds) pieces) ≡ folded_values folds pieces (values_of stored pieces)
    values_folded pieces fit = all_values [] [] pieces refl fit.each fit.unread

pub values_by_folds : (folds : List (Option FoldPlan)) (pieces more : List Piece) → more ≡ map (folded folds) pieces → MayBeFolded folds pieces → (stored : Stored) → values_of stored more ≡ folded_values folds pieces (values_of stored pieces)
values_by_folds folds pieces more e fit stored = ap (values_of stored) e ∙ values_folded folds stored pieces fit
