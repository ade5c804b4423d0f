use Rattle.std.proofs.Common.{◌≡◌, Some, map, take}
use Rattle.master.specs.Kind.{value_in}
use Rattle.master.specs.Ledger.{at}
use Rattle.master.proofs.next.values_of.Given as goal

abbrev pub invariant-loop-fragment : goal.invariant-loop-fragment
invariant-loop-fragment l = map Some (map (λ x. x.value) l.values.items) ≡ map (λ i. value_in (at l.slots i).stage) (take l.fragment-index l.fragments)
