-- The values of the fragments of a list.
use Rattle.std.proofs.Common.{◌≡◌, ℕ, ◌+◌, ◌<◌, suc, zero, List, [], ◌∷◌, ◌++◌, length, take, Option, Some, None, refl, sym, ap, ◌∙◌, subst, arith, append_assoc, slice_get}
use Rattle.std.proofs.lemmas.List.{append-nil}
use Rattle.rows.specs.declared.value.Value.{Value}
use Rattle.plan_tree.specs.Pieces.{Piece}
use Rattle.plan_tree.specs.Fragments.{Stored, value_at, value_of, values_after, values_of}
use Rattle.plan_tree.specs.ShapeLaws.{HaveShapes, HoldsBytes}
use Rattle.plan_tree.specs.WellFormed.{AreWellFormed, HasShape, IsPiece}
use Rattle.plan_tree.proofs.InputOuts.{length_more}
use Rattle.plan_tree.proofs.Shapes.{value_shape}

-- one more value leaves the others
more_kept : (values : List (List (List Value))) (value : List (List Value)) (n : ℕ) → n < length values → value_at (values ++ value ∷ []) n ≡ value_at values n
more_kept [] value n h = absurd (omega arith)
more_kept (v ∷ vs) value zero h = refl
more_kept (v ∷ vs) value (suc n) h = more_kept vs value n (omega arith)

more_last : (values : List (List (List Value))) (value : List (List Value)) → value_at (values ++ value ∷ []) (length values) ≡ value
more_last [] value = refl
more_last (v ∷ vs) value = more_last vs value

module _ (stored : Stored) where
  after_kept : (values : List (List (List Value))) (pieces : List Piece) (n : ℕ) → n < length values → value_at (values_after stored values pieces) n ≡ value_at values n
  after_kept values [] n h = refl
  after_kept values (p ∷ ps) n h =
      let value = value_of stored values p in
      let longer = length_more values value in
      after_kept (values ++ value ∷ []) ps n (omega arith) ∙ more_kept values value n h

  after_append : (values : List (List (List Value))) (first more : List Piece) → values_after stored values (first ++ more) ≡ values_after stored (values_after stored values first) more
  after_append values [] more = refl
  after_append values (p ∷ ps) more = after_append (values ++ value_of stored values p ∷ []) ps more

  after_length : (values : List (List (List Value))) (pieces : List Piece) → length (values_after stored values pieces) ≡ length values + length pieces
  after_length values [] = omega arith
  after_length values (p ∷ ps) =
      let value = value_of stored values p in
      let longer = length_more values value in
      let rest = after_length (values ++ value ∷ []) ps in
      omega arith

  -- later fragments change no earlier value
  pub later_keep : (pieces more : List Piece) (n : ℕ) → n < length pieces → value_at (values_of stored (pieces ++ more)) n ≡ value_at (values_of stored pieces) n
  later_keep pieces more n h =
      let long = after_length [] pieces in
      ap (λ (vs : List (List (List Value))). value_at vs n) (after_append [] pieces more) ∙ after_kept (values_of stored pieces) more n (let less : n < length (values_of stored pieces) = omega arith in less)

  own_after : (values : List (List (List Value))) (pieces : List Piece) (n : ℕ) (piece : Piece) → slice_get pieces n ≡ Some piece →
      value_at (values_after stored values pieces) (length values + n) ≡ value_of stored (values_after stored values (take n pieces)) piece
  own_after values [] n piece h = cc
  own_after values (p ∷ ps) zero piece h =
      let same : p ≡ piece = cc in
      let value = value_of stored values p in
      let longer = length_more values value in
      let here : length values + 0 ≡ length values = omega arith in
      ap (λ (k : ℕ). value_at (values_after stored (values ++ value ∷ []) ps) k) here
      ∙ after_kept (values ++ value ∷ []) ps (length values) (omega arith)
      ∙ more_last values value
      ∙ ap (λ (x : Piece). value_of stored values x) same
  own_after values (p ∷ ps) (suc n) piece h =
      let value = value_of stored values p in
      let longer = length_more values value in
      let there : length values + suc n ≡ length (values ++ value ∷ []) + n = omega arith in
      ap (λ (k : ℕ). value_at (values_after stored (values ++ value ∷ []) ps) k) there ∙ own_after (values ++ value ∷ []) ps n piece h

  -- the value of a fragment rests on those of the earlier ones
  pub own_value : (pieces : List Piece) (n : ℕ) (piece : Piece) → slice_get pieces n ≡ Some piece → value_at (values_of stored pieces) n ≡ value_of stored (values_of stored (take n pieces)) piece
  own_value pieces n piece h = (let none : 0 + n ≡ n = omega arith in ap (λ (k : ℕ). value_at (values_of stored pieces) k) (sym none) ∙ own_after [] pieces n piece h)

-- what holds of each fragment with its value holds with one more
pushed : (P : Piece → List (List Value) → Type 0) (before : List Piece) (values : List (List (List Value))) → length before ≡ length values →
    ((n : ℕ) (q : Piece) → slice_get before n ≡ Some q → P q (value_at values n)) → (x : Piece) (v : List (List Value)) → P x v →
    (n : ℕ) (q : Piece) → slice_get (before ++ x ∷ []) n ≡ Some q → P q (value_at (values ++ v ∷ []) n)
pushed P [] [] same each x v holds zero q h = (let is : x ≡ q = cc in subst (λ (y : Piece). P y v) is holds)
pushed P [] [] same each x v holds (suc n) q h = cc
pushed P [] (w ∷ ws) same each x v holds n q h = absurd (omega arith)
pushed P (b ∷ bs) [] same each x v holds n q h = absurd (omega arith)
pushed P (b ∷ bs) (w ∷ ws) same each x v holds zero q h = each 0 q h
pushed P (b ∷ bs) (w ∷ ws) same each x v holds (suc n) q h = pushed P bs ws (omega arith) (λ k r e. each (suc k) r e) x v holds n q h

module _ (stored : Stored) (bytes : HoldsBytes stored) where
  shapes_after : (before pieces : List Piece) (values : List (List (List Value))) → length before ≡ length values → HaveShapes before values →
      ((number : ℕ) (piece : Piece) → slice_get pieces number ≡ Some piece → IsPiece (before ++ take number pieces) piece) → HaveShapes (before ++ pieces) (values_after stored values pieces)
  shapes_after before [] values same shapes each = subst (λ (all : List Piece). HaveShapes all values) (sym (append-nil before)) shapes
  shapes_after before (p ∷ ps) values same shapes each =
      let is : IsPiece before p = subst (λ (all : List Piece). IsPiece all p) (append-nil before) (each 0 p refl) in
      let value = value_of stored values p in
      let long = length_more before p in
      let longer = length_more values value in
      let next : HaveShapes (before ++ p ∷ []) (values ++ value ∷ []) = pushed (λ (q : Piece) (rows : List (List Value)). HasShape q.layout q.end rows) before values same shapes p value (value_shape before values shapes stored bytes p is) in
      subst (λ (all : List Piece). HaveShapes all (values_after stored (values ++ value ∷ []) ps)) (append_assoc before (p ∷ []) ps)
      (shapes_after (before ++ p ∷ []) ps (values ++ value ∷ []) (omega arith) next
      (λ number piece h. subst (λ (all : List Piece). IsPiece all piece) (sym (append_assoc before (p ∷ []) (take number ps))) (each (suc number) piece h)))

  pub whole_shapes : (pieces : List Piece) → AreWellFormed pieces → HaveShapes pieces (values_of stored pieces)
  whole_shapes pieces formed = shapes_after [] pieces [] refl (λ number piece h. absurd (let no : ◌≡◌ {A = Option Piece} None (Some piece) = h in cc)) formed.each
