use Rattle.std.proofs.Common.{◌≡◌}
use Rattle.plan_tree.specs.Pieces.{piece_of}
use Rattle.pipeline.specs.SamplePieces.{AreCollected}
use Rattle.pipeline.proofs.tests.all_parts.Given as goal

abbrev pub invariant-loop-position : goal.invariant-loop-position
invariant-loop-position l = (l.pages.index_pages ≡ l.initial.pages.index_pages) × AreCollected (piece_of l.fragment) l.parts
