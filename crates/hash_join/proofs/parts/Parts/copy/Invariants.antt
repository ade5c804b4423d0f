use Rattle.std.proofs.Common.{◌≡◌, map, take}
use Rattle.hash_join.proofs.parts.Parts.copy.Given as goal

abbrev pub invariant-loop-item : goal.invariant-loop-item
invariant-loop-item l = map (λ x. x.value) l.items.items ≡ map (λ x. x.value) (take l.item-index l.item-items)
