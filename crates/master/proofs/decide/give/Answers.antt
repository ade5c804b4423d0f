use Rattle.std.proofs.Common.{◌≡◌, sym, ap, ◌∙◌, subst, Some, None, Option}
use Rattle.history.specs.declared.event.Event.{Event}
use Rattle.master.specs.Gives.{AllGiven}
use Rattle.master.proofs.Given.{can_second, either, gives_all}
use Rattle.master.proofs.decide.give.Goals as goal

pub give_part-second-requires : goal.give_part-second-requires
give_part-second-requires c =
    can_second c.args.slots.now c.give_part-first.new.slots c.args.decision.now c.give_part-first.result c.requires.two c.give_part-first.ensures.gives c.give_part-first.ensures.size c.requires.second

pub returns-in-Some : goal.returns-in-Some
returns-in-Some c =
    subst (λ (o : Option Event). AllGiven c.args.slots.now c.args.decision.now (either o c.give_part-second.result) c.give_part-second.new.slots) c.in-Some.is
    (gives_all c.args.slots.now c.give_part-first.new.slots c.give_part-second.new.slots c.args.decision.now c.give_part-first.result c.give_part-second.result c.requires.first c.requires.second c.requires.two
    c.give_part-first.ensures.gives c.give_part-first.ensures.size c.give_part-second.ensures.gives c.give_part-second.ensures.size)

pub returns-in-None : goal.returns-in-None
returns-in-None c =
    subst (λ (o : Option Event). AllGiven c.args.slots.now c.args.decision.now (either o c.give_part-second.result) c.give_part-second.new.slots) c.in-None.is
    (gives_all c.args.slots.now c.give_part-first.new.slots c.give_part-second.new.slots c.args.decision.now c.give_part-first.result c.give_part-second.result c.requires.first c.requires.second c.requires.two
    c.give_part-first.ensures.gives c.give_part-first.ensures.size c.give_part-second.ensures.gives c.give_part-second.ensures.size)
