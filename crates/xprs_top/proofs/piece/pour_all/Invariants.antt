use Rattle.std.proofs.Common.{◌≡◌, ◌≤◌, take}
use Rattle.std.specs.List.{flat_map}
use Rattle.xp_outside.specs.Outside.{appended}
use Rattle.xprs_top.specs.Faults.{piece_bytes}
use Rattle.xprs_top.proofs.piece.pour_all.Given as goal

-- the pieces so far are written
abbrev pub invariant-loop-piece : goal.invariant-loop-piece
invariant-loop-piece g l = record {
  written : g.E.Sink.written l.sink ≡ appended (g.E.Sink.written l.fn.sink) (flat_map piece_bytes (take l.piece-index l.pieces));
  count : g.E.Sink.faults l.fn.sink ≤ g.E.Sink.faults l.sink;
}
