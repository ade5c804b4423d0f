-- Fragments for tests. Each variable ranges over one relation of a text and two integers that may be null.
use Rattle.std.specs.Prelude.{◌≡◌, ℕ, pos, ◌+◌, true, false, List, [], ◌∷◌, map, take, Some, ⊤}
use Rattle.heap_page.specs.declared.errors.FetchErr.{FetchErr}
use Rattle.heap_page.specs.declared.errors.FetchErr.TheVariants.{DriveFault, BadPage, NoMemory}
use Rattle.heap_page.specs.declared.head.FileKind.{FileKind}
use Rattle.heap_page.specs.Pages.{head_fault}
use Rattle.rows.specs.declared.field.ColType.TheVariants as col
use Rattle.rows.specs.declared.plain.Column.{Column}
use Rattle.rows.specs.declared.plain.ColumnRef.{ColumnRef}
use Rattle.rows.specs.declared.plain.KeyIndex.{KeyIndex}
use Rattle.rows.specs.declared.plain.LayoutPart.{LayoutPart}
use Rattle.rel_meaning.specs.declared.expr.CompareOp.TheVariants as op
use Rattle.rel_meaning.specs.Expression.{Expression, Output, column, compare, number}
use Rattle.rel_meaning.specs.Meaning.{layout_column}
use Rattle.aggregate_op.specs.declared.fold.Fold.{Fold}
use Rattle.aggregate_op.specs.declared.fold.FoldOp.TheVariants.{Count}
use Rattle.aggregate_op.specs.declared.fold.FoldPlace.TheVariants.{Group, Op}
use Rattle.plan_tree.specs.declared.fragment.Source.{Source}
use Rattle.plan_tree.specs.declared.fragment.Source.TheVariants as source
use Rattle.plan_tree.specs.Pieces.{Ending, Piece, Probing, answering, building, folding}
use Rattle.hash_join.specs.Table.{Table}
use Rattle.heap_page.specs.declared.head.FileKind.TheVariants as kind
use Rattle.heap_page.specs.declared.map.PageFile.{PageFile}
use Rattle.rows.specs.declared.value.Value.{Value}
use Rattle.std.specs.List.{AllByRecursion}
use Rattle.plan_tree.specs.WellFormed.{HasShape}
use Rattle.pipeline.specs.Ends.{ArePartsOf}
use Rattle.pipeline.specs.KeptValues.{IsShapedValue}
use Rattle.pipeline.specs.Positions.{AreInputs, HasFiles, IsFormed}

abbrev pub sample_name : Column
sample_name = record { name = []; col_type = col.Text; nullable = false }

abbrev pub sample_mark : Column
sample_mark = record { name = []; col_type = col.Int4; nullable = true }

abbrev pub sample_columns : List Column
sample_columns = sample_name ∷ sample_mark ∷ sample_mark ∷ []

abbrev pub sample_part : ℕ → LayoutPart
sample_part var = record { var = var; columns = map layout_column sample_columns }

-- a fragment with as many positions as pages
abbrev pub sample_piece : Source → List Expression → List Probing → Ending → List LayoutPart → ℕ → Piece
sample_piece from tests probes end layout positions = record {
  statement = 0;
  pipe = record { source = from; columns = sample_columns; tests = tests; probes = probes };
  end = end;
  layout = layout;
  positions = positions;
  pages = positions;
  time = 1;
}

-- the first integer of a variable
abbrev pub sample_mark_of : ℕ → ColumnRef
sample_mark_of var = record { var = var; col = 1 }

-- the rows of a variable, found by their first integer
abbrev pub sample_build : ℕ → Piece
sample_build var = sample_piece (source.Heap var 0) [] [] (building (sample_mark_of var ∷ [])) (sample_part var ∷ []) 2

abbrev pub IsSampleTable : ℕ → Table → Type 0
IsSampleTable var table = IsShapedValue (sample_build var) table

-- the rows of the next variable, with the same first integer
abbrev pub sample_link : List ℕ → ℕ → Probing
sample_link vars input = record {
  input = input;
  keys = record { build = sample_mark_of (input + 1); probe = sample_mark_of input } ∷ [];
  tests = [];
  layout = map sample_part (take (input + 2) vars);
}

-- the name of a variable's row
abbrev pub sample_output : ℕ → Output
sample_output var = record { name = []; expr = column var 0 }

-- the rows of variable 0 with those of the variables behind it, each of which is built by the fragment of an input
abbrev pub sample_chain : List ℕ → List ℕ → Piece
sample_chain vars inputs =
    sample_piece (source.Heap 0 0) [] (map (sample_link vars) inputs) (answering (map sample_output vars) false []) (map sample_part vars) 2

-- why a page of a list is not given: its head breaks this rule, or there is no memory
abbrev pub IsUnsound : FileKind → ℕ → ℕ → FetchErr → Type 0
IsUnsound kind file page (DriveFault d) = ⊥
IsUnsound kind file page (BadPage bad) =
    (bad.file ≡ file) × (bad.page ≡ page) × ((bytes : List ℕ) × (head_fault kind file page bytes ≡ Some bad.rule))
IsUnsound kind file page NoMemory = ⊤

-- the names of the rows of a source whose first integer is 1
abbrev pub sample_scan : Source → ℕ → Piece
sample_scan from positions =
    sample_piece from (compare op.Equal (column 0 1) (number (pos 1)) ∷ []) [] (answering (sample_output 0 ∷ []) false []) (sample_part 0 ∷ []) positions

-- how many rows have each second integer
abbrev pub sample_fold : Fold
sample_fold = record { groups = 1; ops = Count ∷ []; places = Group 0 ∷ Op 0 ∷ [] }

abbrev pub sample_counts : Piece
sample_counts =
    sample_piece (source.Heap 0 0) [] [] (folding (record { name = []; expr = column 0 2 } ∷ sample_output 0 ∷ []) sample_fold) (sample_part 0 ∷ []) 2

-- what some positions of a fragment gave
pub record AreCollected (piece : Piece) (parts : List (List (List Value))) : Type 0 where
  pub shapes : AllByRecursion (HasShape piece.layout piece.end) parts
  pub lists : List (List (List Value))
  pub are : ArePartsOf piece.end lists parts

-- a heap file of two pages, and an index file with so many
abbrev pub sample_files : ℕ → List PageFile
sample_files pages = record { kind = kind.Heap; pages = 2 } ∷ record { kind = kind.Index; pages = pages } ∷ []

-- its positions can be run over these files, with these inputs
pub record IsReady (piece : Piece) (index_pages : ℕ) (tables : List Table) : Type 0 where
  pub formed : IsFormed piece
  pub inputs : AreInputs piece.pipe tables
  pub files : HasFiles (sample_files index_pages) piece.positions piece.pipe.source

-- an index over six texts of 2,000 bytes, in two leaves under a root
abbrev pub sample_index : KeyIndex
sample_index = record { file = 1; key_type = col.Text; entries = 6; pages = 3; height = 2; heap_pages = 2 }

abbrev pub sample_entries : Source
sample_entries = source.Index 0 sample_index 0 (record { from = 0; upto = 6 })
