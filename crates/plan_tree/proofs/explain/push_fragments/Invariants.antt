use Rattle.std.proofs.Common.{◌≡◌, ◌++◌, drop}
use Rattle.plan_tree.specs.Explained.{fragment_lines}
use Rattle.plan_tree.specs.Pieces.{pieces_of}
use Rattle.plan_tree.proofs.explain.push_fragments.Given as goal

-- the lines so far and those to come are all lines
abbrev pub invariant-loop-number : goal.invariant-loop-number
invariant-loop-number l =
    l.out.items ++ fragment_lines l.machine l.statement l.number (pieces_of (drop l.number l.fragments)) ≡ l.initial.out.items ++ fragment_lines l.machine l.statement 0 (pieces_of l.fragments)
