-- What the kept outputs and values hold.
use Rattle.std.specs.Prelude.{ℕ, ◌≡◌, List, length, slice_get, slice_index_or, Option, Some}
use Rattle.std.specs.List.{AllByRecursion}
use Rattle.rows.specs.declared.value.Value.{Value}
use Rattle.hash_join.specs.Table.{Table}
use Rattle.plan_tree.specs.EndValues.{IsEndValue, kept_value}
use Rattle.plan_tree.specs.Fragments.{Stored, out, values_of}
use Rattle.plan_tree.specs.Pieces.{Piece, pieces_of}
use Rattle.plan_tree.specs.WellFormed.{HasShape}
use Rattle.history.specs.Outline.{outline}
use Rattle.master.specs.Kind.{Slotted, value_in}
use Rattle.master.specs.Meaning.{Meaning, run_of}

-- this is the fragment of a number
abbrev pub IsPieceAt : Meaning → ℕ → Piece → Type 0
IsPieceAt m f piece = slice_get (pieces_of m.fragments) f ≡ Some piece

-- rows of the shape of a fragment and, where the files are told, what its position gives over them
pub record IsOut (m : Meaning) (f p : ℕ) (rows : List (List Value)) : Type 0 where
  pub shape : (piece : Piece) → IsPieceAt m f piece → HasShape piece.layout piece.end rows
  pub told : (piece : Piece) (stored : Stored) → IsPieceAt m f piece → m.image ≡ Some stored → rows ≡ out stored (values_of stored (pieces_of m.fragments)) piece p

-- a fragment's value of some parts of its shape and, where the files are told, its value over them
pub record IsValue (m : Meaning) (f : ℕ) (v : Table) : Type 0 where
  pub shape : (piece : Piece) → IsPieceAt m f piece → (parts : List (List (List Value))) × AllByRecursion (HasShape piece.layout piece.end) parts × IsEndValue piece.end piece.layout parts v
  pub told : (piece : Piece) (stored : Stored) → IsPieceAt m f piece → m.image ≡ Some stored → v ≡ kept_value stored (values_of stored (pieces_of m.fragments)) piece

-- outputs of the first of these positions
abbrev pub AreOuts : Meaning → ℕ → List ℕ → List (List (List Value)) → Type 0
AreOuts m f ps outputs = (k : ℕ) (rows : List (List Value)) → slice_get outputs k ≡ Some rows → IsOut m f (slice_index_or ps k 0) rows

-- the outputs of all positions, in order
pub record AreParts (m : Meaning) (f : ℕ) (parts : List (List (List Value))) : Type 0 where
  pub size : length parts ≡ (outline (run_of m) f).positions
  pub outs : (p : ℕ) (rows : List (List Value)) → slice_get parts p ≡ Some rows → IsOut m f p rows

-- what is kept of a fragment
abbrev pub HasOutputs : Meaning → ℕ → List (Option (List (List Value))) → Type 0
HasOutputs m f outputs = (p : ℕ) (rows : List (List Value)) → slice_get outputs p ≡ Some (Some rows) → IsOut m f p rows

pub record HasContent (m : Meaning) (f : ℕ) (s : Slotted) : Type 0 where
  pub size : length s.board.outputs ≡ (outline (run_of m) f).positions
  pub outputs : HasOutputs m f s.board.outputs
  pub value : (v : Table) → value_in s.stage ≡ Some v → IsValue m f v
