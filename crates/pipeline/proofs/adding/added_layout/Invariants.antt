use Rattle.std.proofs.Common.{◌≡◌, ◌++◌, drop}
use Rattle.plan_tree.specs.Fragments.{added}
use Rattle.pipeline.proofs.adding.added_layout.Given as goal

abbrev pub invariant-loop-part : goal.invariant-loop-part
invariant-loop-part l = l.parts.items ++ added l.before (drop l.part-index l.after) ≡ added l.before l.after
