-- Fragments without where their expressions lie in memory.
use Rattle.std.specs.Prelude.{ℕ, Bool, List, map}
use Rattle.rows.specs.declared.order.SortKey.{SortKey}
use Rattle.rows.specs.declared.plain.Column.{Column}
use Rattle.rows.specs.declared.plain.ColumnRef.{ColumnRef}
use Rattle.rows.specs.declared.plain.KeyPair.{KeyPair}
use Rattle.rows.specs.declared.plain.LayoutPart.{LayoutPart}
use Rattle.rel_meaning.specs.Expression.{Expression, expression_of, Output, output_of}
use Rattle.aggregate_op.specs.declared.fold.Fold.{Fold}
use Rattle.plan_tree.specs.declared.fragment.Source.{Source}
use Rattle.plan_tree.specs.declared.fragment.Probe.{Probe}
use Rattle.plan_tree.specs.declared.fragment.Pipe.{Pipe}
use Rattle.plan_tree.specs.declared.fragment.End.{End}
use Rattle.plan_tree.specs.declared.fragment.End.TheVariants as end
use Rattle.plan_tree.specs.declared.fragment.Fragment.{Fragment}

pub record Probing : Type 0 where
  pub input : ℕ
  pub keys : List KeyPair
  pub tests : List Expression
  pub layout : List LayoutPart

pub record Piping : Type 0 where
  pub source : Source
  pub columns : List Column
  pub tests : List Expression
  pub probes : List Probing

pub data Ending : Type 0 where
  building : List ColumnRef → Ending
  answering : List Output → Bool → List SortKey → Ending
  folding : List Output → Fold → Ending
  sorting : List SortKey → Ending

pub record Piece : Type 0 where
  pub statement : ℕ
  pub pipe : Piping
  pub end : Ending
  pub layout : List LayoutPart
  pub positions : ℕ
  pub pages : ℕ
  pub time : ℕ

abbrev pub probing_of : Probe → Probing
probing_of p = record { input = p.input; keys = p.keys; tests = map expression_of p.tests; layout = p.layout }

abbrev pub piping_of : Pipe → Piping
piping_of p = record { source = p.source; columns = p.columns; tests = map expression_of p.tests; probes = map probing_of p.probes }

abbrev pub ending_of : End → Ending
ending_of (end.Build keys) = building keys
ending_of (end.Answer targets unique keys) = answering (map output_of targets) unique keys
ending_of (end.Fold targets fold) = folding (map output_of targets) fold
ending_of (end.Sort keys) = sorting keys

abbrev pub piece_of : Fragment → Piece
piece_of f = record {
  statement = f.statement;
  pipe = piping_of f.pipe;
  end = ending_of f.end;
  layout = f.layout;
  positions = f.positions;
  pages = f.pages;
  time = f.time;
}

abbrev pub pieces_of : List Fragment → List Piece
pieces_of fragments = map piece_of fragments
