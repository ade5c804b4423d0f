use Rattle.std.proofs.Common.{◌≡◌, []}
use Rattle.std.specs.List.{AllByRecursion}
use Rattle.master.proofs.tests.outputs.Given as goal

abbrev pub invariant-loop : goal.invariant-loop
invariant-loop g l = AllByRecursion (λ rows. rows ≡ []) l.list
