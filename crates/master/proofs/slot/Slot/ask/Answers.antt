use Rattle.std.proofs.Common.{◌≡◌, subst, sym, Option}
use Rattle.master.specs.Boards.{cut_in}
use Rattle.master.specs.Gives.{Asks}
use Rattle.master.specs.Kind.{Slotted, slotted}
use Rattle.master.proofs.Given.{asks_of, slotted_rest}
use Rattle.master.proofs.slot.Slot.ask.Goals as goal

pub returns : goal.returns
returns c =
    let i = c.self.inside in
    let told = c.ask_board.ensures in
    let old = slotted i.board i.inputs.items i.load i.phase in
    let new = slotted c.ask_board.new.board i.inputs.items i.load i.phase in
    subst (λ (s : Slotted). Asks s c.args.degree c.cut_in.result new) c.self.view_is
    (subst (λ k. Asks old c.args.degree k new) (sym c.cut_in.ensures) (asks_of old new c.args.degree c.ask_board.result told.moves told.answers (slotted_rest i.board c.ask_board.new.board i.inputs.items i.load i.phase told.kind told.outputs)))
