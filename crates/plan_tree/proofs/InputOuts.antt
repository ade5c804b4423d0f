-- What a position gives through the inputs of its fragment is what it gives through all earlier fragments.
use Rattle.std.proofs.Common.{◌≡◌, ℕ, ◌+◌, List, [], ◌∷◌, ◌++◌, length, map, refl, sym, ap, ◌∙◌, arith, append_assoc}
use Rattle.rows.specs.declared.value.Value.{Value}
use Rattle.rows.specs.declared.plain.Column.{Column}
use Rattle.rows.specs.declared.plain.LayoutPart.{LayoutPart}
use Rattle.rel_meaning.specs.Expression.{Expression}
use Rattle.plan_tree.specs.declared.fragment.Source.{Source}
use Rattle.plan_tree.specs.declared.fragment.Source.TheVariants as source
use Rattle.plan_tree.specs.Rows.{kept, probed}
use Rattle.plan_tree.specs.Pieces.{Probing, Piece}
use Rattle.plan_tree.specs.Fragments.{Stored, added, given, out, piped, projected, through, value_at}
use Rattle.plan_tree.specs.Inputs.{input_values, numbered_from, numbered_pipe, out_from, probe_inputs, source_inputs}

pub length_more : {X : Type 0} (xs : List X) (x : X) → length (xs ++ x ∷ []) ≡ length xs + 1
length_more [] x = refl
length_more (y ∷ ys) x = (let rest = length_more ys x in omega arith)

module _ (values : List (List (List Value))) where
  -- the input that stands behind others
  behind : (front : List ℕ) (input : ℕ) (rest : List ℕ) → value_at (map (value_at values) (front ++ input ∷ rest)) (length front) ≡ value_at values input
  behind [] input rest = refl
  behind (f ∷ front) input rest = behind front input rest

  through_same : (front : List ℕ) (ps : List Probing) (layout : List LayoutPart) (rows : List (List Value)) →
      through (map (value_at values) (front ++ probe_inputs ps)) layout (numbered_from (length front) ps) rows ≡ through values layout ps rows
  through_same front [] layout rows = refl
  through_same front (p ∷ ps) layout rows =
      let inputs = map (value_at values) (front ++ p.input ∷ probe_inputs ps) in
      let after = λ (built : List (List Value)). kept p.layout p.tests (probed p.layout (added layout p.layout) layout p.keys built rows) in
      let longer : front ++ p.input ∷ probe_inputs ps ≡ (front ++ p.input ∷ []) ++ probe_inputs ps = sym (append_assoc front (p.input ∷ []) (probe_inputs ps)) in
      ap (λ built. through inputs p.layout (numbered_from (length front + 1) ps) (after built)) (behind front p.input (probe_inputs ps))
      ∙ ap (λ (all : List ℕ). through (map (value_at values) all) p.layout (numbered_from (length front + 1) ps) (after (value_at values p.input))) longer
      ∙ ap (λ (n : ℕ). through (map (value_at values) ((front ++ p.input ∷ []) ++ probe_inputs ps)) p.layout (numbered_from n ps) (after (value_at values p.input))) (sym (length_more front p.input))
      ∙ through_same (front ++ p.input ∷ []) ps p.layout (after (value_at values p.input))

  module _ (stored : Stored) (position : ℕ) where
    pub piped_same : (from : Source) (columns : List Column) (tests : List Expression) (probes : List Probing) →
        piped stored (map (value_at values) (source_inputs from ++ probe_inputs probes)) (numbered_pipe (record { source = from; columns = columns; tests = tests; probes = probes })) position
        ≡ piped stored values (record { source = from; columns = columns; tests = tests; probes = probes }) position
    piped_same source.One columns tests probes = through_same [] probes _ _
    piped_same (source.Heap var file) columns tests probes = through_same [] probes _ _
    piped_same (source.Index var index heap_file interval) columns tests probes = through_same [] probes _ _
    piped_same (source.Merge left right keys left_layout right_layout) columns tests probes = through_same (left ∷ right ∷ []) probes _ _

    pub out_same : (piece : Piece) → out_from stored (input_values values piece) piece position ≡ out stored values piece position
    out_same piece = ap (λ (rows : List (List Value)). given piece.end (projected piece.end piece.layout rows)) (piped_same piece.pipe.source piece.pipe.columns piece.pipe.tests piece.pipe.probes)
