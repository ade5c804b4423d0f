-- What the rows of a position become behind its source.
use Rattle.std.specs.Prelude.{◌≡◌, List}
use Rattle.std.specs.List.{AllZip}
use Rattle.rows.specs.declared.value.Value.{Value}
use Rattle.rows.specs.declared.plain.LayoutPart.{LayoutPart}
use Rattle.hash_join.specs.Table.{Table}
use Rattle.aggregate_op.specs.Stored.{IsPartialOf}
use Rattle.plan_tree.specs.Fragments.{projected, through}
use Rattle.plan_tree.specs.Pieces.{Ending, Piece, answering, building, folding, sorting}
use Rattle.plan_tree.specs.WellFormed.{IsEnd}
use Rattle.pipeline.specs.Probes.{CanProbeAll, last_layout}

-- what is kept of the rows of a position: they themselves or, where the end folds groups, the
-- partial of rows that may be folded
abbrev pub IsPartOf : Ending → List (List Value) → List (List Value) → Type 0
IsPartOf (building keys) rows found = found ≡ rows
IsPartOf (answering targets unique keys) rows found = found ≡ rows
IsPartOf (folding targets fold) rows found = IsPartialOf fold rows found
IsPartOf (sorting keys) rows found = found ≡ rows

-- the same of several positions, in order
abbrev pub ArePartsOf : Ending → List (List (List Value)) → List (List (List Value)) → Type 0
ArePartsOf end lists parts = AllZip (IsPartOf end) lists parts

-- rows of a layout after the probes, as the end takes them, where earlier fragments have these values
abbrev pub led_to_end : List (List (List Value)) → Piece → List LayoutPart → List (List Value) → List (List Value)
led_to_end values piece layout rows = projected piece.end piece.layout (through values layout piece.pipe.probes rows)

-- rows of a layout can be led through the probes to the end
pub record CanFinish (layout : List LayoutPart) (piece : Piece) (tables : List Table) : Type 0 where
  pub probes : CanProbeAll layout piece.pipe.probes tables
  pub last : last_layout layout piece.pipe.probes ≡ piece.layout
  pub end : IsEnd piece.layout piece.end
