-- A fragment's value is its end's value of what its positions give.
use Rattle.std.proofs.Common.{◌≡◌, ℕ, false, List, [], ◌∷◌, ◌++◌, map, refl, sym, ap}
use Rattle.std.specs.List.{flat_map, range_with_len}
use Rattle.std.proofs.lemmas.List.{append-nil}
use Rattle.rows.specs.declared.value.Value.{Value}
use Rattle.rows.specs.declared.plain.LayoutPart.{LayoutPart}
use Rattle.rows.specs.Values.{arranged}
use Rattle.hash_join.specs.Table.{rows_of}
use Rattle.aggregate_op.specs.Partials.{partial}
use Rattle.plan_tree.specs.Pieces.{Ending, building, answering, folding, sorting, Piece}
use Rattle.plan_tree.specs.Fragments.{Stored, ended, given, position_rows}
use Rattle.plan_tree.specs.EndValues.{IsEndValue, kept_by, kept_value, one_list, all_outs}
use Rattle.plan_tree.specs.Fragments.{value_of}

-- the rows of lists, each made of a number
listed : (f : ℕ → List (List Value)) (ns : List ℕ) → rows_of (map f ns) ≡ flat_map f ns
listed f [] = refl
listed f (n ∷ ns) = ap (λ (rows : List (List Value)). f n ++ rows) (listed f ns)

map_twice : (g : List (List Value) → List (List Value)) (f : ℕ → List (List Value)) (ns : List ℕ) → map (λ n. g (f n)) ns ≡ map g (map f ns)
map_twice g f [] = refl
map_twice g f (n ∷ ns) = ap (λ (rest : List (List (List Value))). g (f n) ∷ rest) (map_twice g f ns)

module _ (layout : List LayoutPart) (f : ℕ → List (List Value)) (ns : List ℕ) where
  kept_is : (end : Ending) → IsEndValue end layout (map (λ n. given end (f n)) ns) (kept_by end layout (map (λ n. given end (f n)) ns) (ended end (flat_map f ns)))
  kept_is (building keys) = refl
  kept_is (answering targets unique keys) = ap (λ (rows : List (List Value)). one_list (arranged unique keys rows)) (sym (listed f ns))
  kept_is (folding targets fold) = (map f ns, map_twice (partial fold) f ns, ap (λ (rows : List (List Value)). one_list (partial fold rows)) (sym (listed f ns)))
  kept_is (sorting keys) = ap (λ (rows : List (List Value)). one_list (arranged false keys rows)) (sym (listed f ns))

  kept_rows : (end : Ending) → rows_of (kept_by end layout (map (λ n. given end (f n)) ns) (ended end (flat_map f ns))).lists ≡ ended end (flat_map f ns)
  kept_rows (building keys) = listed f ns
  kept_rows (answering targets unique keys) = append-nil _
  kept_rows (folding targets fold) = append-nil _
  kept_rows (sorting keys) = append-nil _

module _ (stored : Stored) (values : List (List (List Value))) (piece : Piece) where
  pub value_is : IsEndValue piece.end piece.layout (all_outs stored values piece) (kept_value stored values piece)
  value_is = kept_is piece.layout (position_rows stored values piece) (range_with_len 0 piece.positions) piece.end

  pub value_rows : rows_of (kept_value stored values piece).lists ≡ value_of stored values piece
  value_rows = kept_rows piece.layout (position_rows stored values piece) (range_with_len 0 piece.positions) piece.end
