use Rattle.std.proofs.Common.{◌≡◌, ◌++◌, drop, map}
use Rattle.plan_tree.specs.Explained.{explained}
use Rattle.plan_tree.specs.Pieces.{pieces_of}
use Rattle.plan_tree.specs.Views.{planned_of}
use Rattle.plan_tree.proofs.explain.push_plans.Given as goal

-- the lines so far and those to come are all lines
abbrev pub invariant-loop-statement : goal.invariant-loop-statement
invariant-loop-statement l =
    l.out.items ++ explained l.machine (pieces_of l.fragments) l.statement (map planned_of (drop l.statement l.plans)) ≡ l.initial.out.items ++ explained l.machine (pieces_of l.fragments) 0 (map planned_of l.plans)
