use Rattle.std.proofs.Common.{◌≡◌, ◌++◌, drop}
use Rattle.std.specs.List.{flat_map}
use Rattle.plan_tree.specs.Pieces.{probing_of}
use Rattle.hash_join.specs.Table.{rows_of}
use Rattle.pipeline.specs.Probes.{joined}
use Rattle.pipeline.proofs.probe.join_rows.Given as goal

abbrev pub invariant-loop-row : goal.invariant-loop-row
invariant-loop-row l =
    l.out.items ++ flat_map (joined l.before (probing_of l.probe) (rows_of l.built.lists)) (drop l.row-index l.rows) ≡ flat_map (joined l.before (probing_of l.probe) (rows_of l.built.lists)) l.rows
