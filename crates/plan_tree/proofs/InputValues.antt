-- The value of a fragment of a well-formed list, through the values of all fragments of the list.
use Rattle.std.proofs.Common.{◌≡◌, ℕ, ◌<◌, List, [], ◌∷◌, ◌++◌, length, map, take, drop, Some, refl, sym, ap, ◌∙◌, inl, inr, slice_get}
use Rattle.std.specs.Prelude.{◌⊎◌}
use Rattle.std.specs.List.{flat_map, range_with_len}
use Rattle.std.proofs.lemmas.List.{take-append-drop}
use Rattle.std.proofs.lemmas.Option.{slice_get_within}
use Rattle.rows.specs.declared.value.Value.{Value}
use Rattle.rows.specs.declared.plain.Column.{Column}
use Rattle.rows.specs.declared.plain.LayoutPart.{LayoutPart}
use Rattle.plan_tree.specs.declared.fragment.Source.{Source}
use Rattle.plan_tree.specs.declared.fragment.Source.TheVariants as source
use Rattle.plan_tree.specs.Pieces.{Probing, Piece}
use Rattle.plan_tree.specs.Fragments.{Stored, ended, projected, value_at, value_of, values_of}
use Rattle.plan_tree.specs.Inputs.{input_values, probe_inputs, source_inputs, with_numbered_inputs}
use Rattle.plan_tree.specs.WellFormed.{AreProbes, AreWellFormed, IsPiece, IsSource, ReadsAnswer, ReadsBuilt}
use Rattle.plan_tree.proofs.InputOuts.{piped_same}
use Rattle.plan_tree.proofs.ValueLists.{later_keep, own_value}

-- a fragment's value rests on those of its inputs
pub value_same : (stored : Stored) (values : List (List (List Value))) (piece : Piece) → value_of stored (input_values values piece) (with_numbered_inputs piece) ≡ value_of stored values piece
value_same stored values piece =
    let pipe = piece.pipe in
    ap (λ (rows : ℕ → List (List Value)). ended piece.end (flat_map (λ p. projected piece.end piece.layout (rows p)) (range_with_len 0 piece.positions)))
    (λ i p. piped_same values stored p pipe.source pipe.columns pipe.tests pipe.probes i)

module _ (before : List Piece) (values others : List (List (List Value))) (agree : (k : ℕ) → k < length before → value_at values k ≡ value_at others k) where
  input_agrees : (n : ℕ) (piece : Piece) → slice_get before n ≡ Some piece → value_at values n ≡ value_at others n
  input_agrees n piece h = agree n (slice_get_within before n piece h)

  probe_agrees : (layout : List LayoutPart) (p : Probing) → ReadsBuilt before layout p ⊎ ReadsAnswer before layout p → value_at values p.input ≡ value_at others p.input
  probe_agrees layout p (inl b) = input_agrees p.input b.0 b.1
  probe_agrees layout p (inr a) = (let r = a.2 in input_agrees p.input r.0 r.1)

  probes_agree : (layout : List LayoutPart) (ps : List Probing) (last : List LayoutPart) → AreProbes before layout ps last → map (value_at values) (probe_inputs ps) ≡ map (value_at others) (probe_inputs ps)
  probes_agree layout [] last h = refl
  probes_agree layout (p ∷ ps) last h =
      let first = probe_agrees layout p h.0.input in
      let rest = probes_agree p.layout ps last h.1 in
      λ i. first i ∷ rest i

  source_agrees : (from : Source) (columns : List Column) (positions pages : ℕ) (rest : List ℕ) → IsSource before from columns positions pages → map (value_at values) rest ≡ map (value_at others) rest →
      map (value_at values) (source_inputs from ++ rest) ≡ map (value_at others) (source_inputs from ++ rest)
  source_agrees source.One columns positions pages rest s e = e
  source_agrees (source.Heap var file) columns positions pages rest s e = e
  source_agrees (source.Index var index heap_file interval) columns positions pages rest s e = e
  source_agrees (source.Merge left right keys left_layout right_layout) columns positions pages rest s e =
      let l = s.0.left_input in
      let r = s.0.right_input in
      let first = input_agrees left l.0 l.1 in
      let second = input_agrees right r.0 r.1 in
      λ i. first i ∷ second i ∷ e i

  inputs_agree : (piece : Piece) → IsPiece before piece → input_values values piece ≡ input_values others piece
  inputs_agree piece is = source_agrees piece.pipe.source piece.pipe.columns piece.positions piece.pages (probe_inputs piece.pipe.probes) is.source (probes_agree _ piece.pipe.probes piece.layout is.probes)

  same_value : (stored : Stored) (piece : Piece) → IsPiece before piece → value_of stored values piece ≡ value_of stored others piece
  same_value stored piece is =
      sym (value_same stored values piece)
      ∙ ap (λ (inputs : List (List (List Value))). value_of stored inputs (with_numbered_inputs piece)) (inputs_agree piece is)
      ∙ value_same stored others piece

pub whole_value : (stored : Stored) (pieces : List Piece) → AreWellFormed pieces → (n : ℕ) (piece : Piece) → slice_get pieces n ≡ Some piece → value_at (values_of stored pieces) n ≡ value_of stored (values_of stored pieces) piece
whole_value stored pieces formed n piece h =
    let agree = λ (k : ℕ) (less : k < length (take n pieces)).
    sym (later_keep stored (take n pieces) (drop n pieces) k less) ∙ ap (λ (ps : List Piece). value_at (values_of stored ps) k) (take-append-drop n pieces) in
    own_value stored pieces n piece h ∙ same_value (take n pieces) (values_of stored (take n pieces)) (values_of stored pieces) agree stored piece (formed.each n piece h)
