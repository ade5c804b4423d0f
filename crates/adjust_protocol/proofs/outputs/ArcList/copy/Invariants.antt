use Rattle.std.proofs.Common.{◌≡◌, map, take}
use Rattle.adjust_protocol.proofs.outputs.ArcList.copy.Given as goal

abbrev pub invariant-loop-item : goal.invariant-loop-item
invariant-loop-item g l = map (λ x. x.value) l.items.items ≡ map (λ x. x.value) (take l.item-index l.item-items)
