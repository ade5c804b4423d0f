use Rattle.std.proofs.Common.{◌≡◌, ◌++◌, drop}
use Rattle.plan_tree.specs.Pieces.{probing_of}
use Rattle.pipeline.proofs.Joined.{made}
use Rattle.pipeline.proofs.probe.put_matches.Given as goal

abbrev pub invariant-loop-at : goal.invariant-loop-at
invariant-loop-at l =
    l.out.items ++ made l.before (probing_of l.probe) l.built.lists l.row (drop l.at-index l.at-items) ≡ l.fn.out.items ++ made l.before (probing_of l.probe) l.built.lists l.row l.at-items
