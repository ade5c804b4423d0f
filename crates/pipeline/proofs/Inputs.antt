-- The probes of a well formed fragment can be made with inputs that fit them.
use Rattle.std.proofs.Common.{List, [], ◌∷◌}
use Rattle.rows.specs.declared.plain.LayoutPart.{LayoutPart}
use Rattle.plan_tree.specs.Pieces.{Piece, Probing}
use Rattle.plan_tree.specs.WellFormed.{AreProbes}
use Rattle.hash_join.specs.Table.{Table}
use Rattle.pipeline.specs.Probes.{CanProbeAll, FitProbes}

pub can_all : (before : List Piece) (layout : List LayoutPart) (ps : List Probing) (last : List LayoutPart) (ts : List Table) → AreProbes before layout ps last → FitProbes layout ps ts → CanProbeAll layout ps ts
can_all before layout [] last ts probes inputs = tt
can_all before layout (p ∷ ps) last [] probes inputs = elim inputs [ ]
can_all before layout (p ∷ ps) last (t ∷ ts) probes inputs = (
  record { layouts = probes.0.layouts; ordered = probes.0.ordered; tests = probes.0.tests; pairs = probes.0.keys; fits = inputs.0 },
  can_all before p.layout ps last ts probes.1 inputs.1,
)
