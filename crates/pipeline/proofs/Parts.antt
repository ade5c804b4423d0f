-- What is kept of the positions' rows.
use Rattle.std.proofs.Common.{◌≡◌, ℕ, false, List, [], ◌∷◌, map, ap, sym, refl, ◌∙◌, subst}
use Rattle.std.specs.List.{AllZip, flat_map, range_with_len}
use Rattle.std.proofs.lemmas.List.Folds.{flat_map-map}
use Rattle.rows.specs.declared.value.Value.{Value}
use Rattle.rows.specs.declared.order.SortKey.{SortKey}
use Rattle.rows.specs.declared.plain.LayoutPart.{LayoutPart}
use Rattle.rows.specs.Values.{arranged}
use Rattle.rel_meaning.specs.Expression.{Output}
use Rattle.hash_join.specs.Table.{Table, places_of, rows_of}
use Rattle.aggregate_op.specs.declared.fold.Fold.{Fold}
use Rattle.aggregate_op.specs.Partials.{partial}
use Rattle.aggregate_op.specs.Stored.{ArePartialsOf, IsPartialOf}
use Rattle.plan_tree.specs.EndValues.{IsEndValue, all_outs, kept_by, kept_value, one_list}
use Rattle.plan_tree.specs.Fragments.{Stored, ended, given, position_rows, value_at}
use Rattle.plan_tree.specs.Pieces.{Ending, Piece, answering, building, folding, sorting}
use Rattle.plan_tree.specs.Inputs.{input_values, inputs_of}
use Rattle.pipeline.specs.Ends.{ArePartsOf, IsPartOf}
use Rattle.pipeline.specs.KeptValues.{HasRows, rows_by_position}

-- a part is what the end gives of the rows
pub part_given : (end : Ending) (rows found : List (List Value)) → IsPartOf end rows found → found ≡ given end rows
part_given (building keys) rows found part = part
part_given (answering targets unique keys) rows found part = part
part_given (folding targets fold) rows found part = part.is
part_given (sorting keys) rows found part = part

parts_same : (R : List (List Value) → List (List Value) → Type 0) (f : List (List Value) → List (List Value)) → ((rows found : List (List Value)) → R rows found → found ≡ f rows) →
    (lists parts : List (List (List Value))) → AllZip R lists parts → parts ≡ map f lists
parts_same R f is [] [] all = refl
parts_same R f is [] (p ∷ ps) all = absurd all
parts_same R f is (l ∷ ls) [] all = absurd all
parts_same R f is (l ∷ ls) (p ∷ ps) all = λ i. is l p all.0 i ∷ parts_same R f is ls ps all.1 i

same_parts : (lists parts : List (List (List Value))) → AllZip (λ rows found. found ≡ rows) lists parts → lists ≡ parts
same_parts [] [] all = refl
same_parts [] (p ∷ ps) all = absurd all
same_parts (l ∷ ls) [] all = absurd all
same_parts (l ∷ ls) (p ∷ ps) all = λ i. sym all.0 i ∷ same_parts ls ps all.1 i

-- the rows of the parts are those of the lists
pub rows_same : (lists parts : List (List (List Value))) → AllZip (λ rows found. found ≡ rows) lists parts → rows_of parts ≡ rows_of lists
rows_same lists parts all = ap rows_of (sym (same_parts lists parts all))

-- what is kept of all rows is an end's value of the parts
pub kept_value_is : (end : Ending) (layout : List LayoutPart) (lists parts : List (List (List Value))) (table : Table) → ArePartsOf end lists parts → table ≡ kept_by end layout parts (ended end (rows_of lists)) → IsEndValue end layout parts table
kept_value_is (building keys) layout lists parts table all is = is
kept_value_is (answering targets unique keys) layout lists parts table all is = is ∙ ap (λ rows. one_list (arranged unique keys rows)) (sym (rows_same lists parts all))
kept_value_is (folding targets fold) layout lists parts table all is = (lists, parts_same (IsPartialOf fold) (partial fold) (λ rows found h. h.is) lists parts all, is)
kept_value_is (sorting keys) layout lists parts table all is = is ∙ ap (λ rows. one_list (arranged false keys rows)) (sym (rows_same lists parts all))

-- the same by the end, of a table that an end's call made
pub kept_of_sorted : (end : Ending) (keys : List SortKey) (layout : List LayoutPart) (parts : List (List (List Value))) (table : Table) → end ≡ sorting keys → table ≡ one_list (arranged false keys (rows_of parts)) →
    (lists : List (List (List Value))) → ArePartsOf end lists parts → table ≡ kept_by end layout parts (ended end (rows_of lists))
kept_of_sorted end keys layout parts table is made lists = rw is (λ all. made ∙ ap (λ rows. one_list (arranged false keys rows)) (rows_same lists parts all))

pub kept_of_folded : (end : Ending) (targets : List Output) (fold : Fold) (layout : List LayoutPart) (parts : List (List (List Value))) (table : Table) → end ≡ folding targets fold →
    ((lists : List (List (List Value))) → ArePartialsOf fold lists parts → table ≡ one_list (partial fold (rows_of lists))) →
    (lists : List (List (List Value))) → ArePartsOf end lists parts → table ≡ kept_by end layout parts (ended end (rows_of lists))
kept_of_folded end targets fold layout parts table is made lists = rw is (λ all. made lists all)

map_twice : (g : List (List Value) → List (List Value)) (f : ℕ → List (List Value)) (ns : List ℕ) → map g (map f ns) ≡ map (λ n. g (f n)) ns
map_twice g f [] = refl
map_twice g f (n ∷ ns) = ap (λ (rest : List (List (List Value))). g (f n) ∷ rest) (map_twice g f ns)

module _ (stored : Stored) (values : List (List (List Value))) (piece : Piece) where
  outs_are : (parts : List (List (List Value))) → ArePartsOf piece.end (rows_by_position stored values piece) parts → parts ≡ all_outs stored values piece
  outs_are parts all =
      parts_same (IsPartOf piece.end) (given piece.end) (part_given piece.end) (rows_by_position stored values piece) parts all
      ∙ map_twice (given piece.end) (position_rows stored values piece) (range_with_len 0 piece.positions)

  -- what is kept of the rows of all positions is the fragment's value
  pub value_kept : (parts : List (List (List Value))) (table : Table) → ArePartsOf piece.end (rows_by_position stored values piece) parts →
      table ≡ kept_by piece.end piece.layout parts (ended piece.end (rows_of (rows_by_position stored values piece))) → table ≡ kept_value stored values piece
  value_kept parts table all is =
      is ∙ (λ i. kept_by piece.end piece.layout (outs_are parts all i) (ended piece.end (flat_map-map (λ rows. rows) (position_rows stored values piece) (range_with_len 0 piece.positions) i)))

-- tables with the rows of fragments' values
rows_are : (values : List (List (List Value))) (numbers : List ℕ) (tables : List Table) → AllZip (HasRows values) numbers tables → map (value_at values) numbers ≡ map (λ (t : Table). rows_of t.lists) tables
rows_are values [] [] all = refl
rows_are values [] (t ∷ ts) all = absurd all
rows_are values (n ∷ ns) [] all = absurd all
rows_are values (n ∷ ns) (t ∷ ts) all = λ i. all.0 i ∷ rows_are values ns ts all.1 i

pub inputs_are : (values : List (List (List Value))) (piece : Piece) (tables : List Table) → AllZip (HasRows values) (inputs_of piece) tables → input_values values piece ≡ map (λ (t : Table). rows_of t.lists) tables
inputs_are values piece tables all = rows_are values (inputs_of piece) tables all
