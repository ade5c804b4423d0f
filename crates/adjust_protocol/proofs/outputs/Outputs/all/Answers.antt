use Rattle.std.proofs.Common.{◌∙◌, sym}
use Rattle.adjust_protocol.specs.OutputsLaws.{present_none, present_pushed}
use Rattle.adjust_protocol.proofs.outputs.Outputs.all.Goals as goal

pub loop-slot-preserved-in_default : goal.loop-slot-preserved-in_default
loop-slot-preserved-in_default g c = c.loop-slot.invariant ∙ sym (present_none _ c.deref-slot-items.result.now c.loop-slot.slot-index c.slot-item.result c.loop-slot-test.true (sym c.slot-item.is ∙ c.in_default.is))

pub loop-slot-preserved : goal.loop-slot-preserved
loop-slot-preserved g c = present_pushed _ c.loop-slot.items.items c.push.new.self.items c.in_ok-clone.field-0 c.in-Some.output c.deref-slot-items.result.now c.loop-slot.slot-index c.slot-item.result c.in_ok-push.ensures.items c.in_ok-clone.ensures.cases c.loop-slot-test.true (sym c.slot-item.is ∙ c.in-Some.is) c.loop-slot.invariant
