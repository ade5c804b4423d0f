-- The inputs of a fragment, and what its positions give through them alone.
use Rattle.std.specs.Prelude.{ℕ, ◌+◌, List, [], ◌∷◌, ◌++◌, map, length}
use Rattle.rows.specs.declared.value.Value.{Value}
use Rattle.plan_tree.specs.declared.fragment.Source.{Source}
use Rattle.plan_tree.specs.declared.fragment.Source.TheVariants as source
use Rattle.plan_tree.specs.Pieces.{Probing, Piping, Piece}
use Rattle.plan_tree.specs.Fragments.{Stored, out, value_at}

-- the two sides of a merge; other sources read no fragment
abbrev pub source_inputs : Source → List ℕ
source_inputs source.One = []
source_inputs (source.Heap var file) = []
source_inputs (source.Index var index heap_file interval) = []
source_inputs (source.Merge left right keys left_layout right_layout) = left ∷ right ∷ []

abbrev pub probe_inputs : List Probing → List ℕ
probe_inputs probes = map (λ p. p.input) probes

-- the numbers of the fragments that a fragment reads: those of its source, and then those of its
-- probes, in order
abbrev pub inputs_of : Piece → List ℕ
inputs_of piece = source_inputs piece.pipe.source ++ probe_inputs piece.pipe.probes

-- the values of the inputs, in order, where the earlier fragments have these values
abbrev pub input_values : List (List (List Value)) → Piece → List (List (List Value))
input_values values piece = map (value_at values) (inputs_of piece)

-- probes whose inputs have the numbers from n on
abbrev pub numbered_from : ℕ → List Probing → List Probing
numbered_from n [] = []
numbered_from n (p ∷ ps) = record p { input = n } ∷ numbered_from (n + 1) ps

abbrev pub numbered_source : Source → Source
numbered_source source.One = source.One
numbered_source (source.Heap var file) = source.Heap var file
numbered_source (source.Index var index heap_file interval) =
    source.Index var index heap_file interval
numbered_source (source.Merge left right keys left_layout right_layout) =
    source.Merge 0 1 keys left_layout right_layout

abbrev pub numbered_pipe : Piping → Piping
numbered_pipe pipe = record {
  source = numbered_source pipe.source;
  columns = pipe.columns;
  tests = pipe.tests;
  probes = numbered_from (length (source_inputs pipe.source)) pipe.probes;
}

-- a fragment whose inputs are numbered from 0 on in their order
abbrev pub with_numbered_inputs : Piece → Piece
with_numbered_inputs piece = record piece { pipe = numbered_pipe piece.pipe }

-- what a position of a fragment gives, where its inputs, in order, have these values
abbrev pub out_from : Stored → List (List (List Value)) → Piece → ℕ → List (List Value)
out_from stored inputs piece p = out stored inputs (with_numbered_inputs piece) p
