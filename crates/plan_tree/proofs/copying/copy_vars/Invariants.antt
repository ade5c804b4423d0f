use Rattle.std.proofs.Common.{◌≡◌, take}
use Rattle.plan_tree.proofs.copying.copy_vars.Given as goal

abbrev pub invariant-loop-var : goal.invariant-loop-var
invariant-loop-var l = l.copies.items ≡ take l.var-index l.var-items
