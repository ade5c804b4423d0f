use Rattle.std.proofs.Common.{◌≡◌, ap, sym, ◌∙◌}
use Rattle.adjust_protocol.specs.Answers.{SettleAnswer}
use Rattle.master.specs.Kind.{Slotted, board_in, scan_of}
use Rattle.master.specs.declared.slot.AnyBoard.{AnyBoard}
use Rattle.master.specs.declared.slot.Slot.TheInside.{Inside}
use Rattle.master.proofs.Carry.{carry}
use Rattle.master.proofs.slot.Slot.settle.Goals as goal
use Rattle.master.proofs.slot.Slot.settle.Goals.{in-Pages, in-Entries}

pub returns-clause-answer : goal.returns-clause-answer
returns-clause-answer c = elim c.match-self.branch [
  | in-Pages w ↦
      carry SettleAnswer w.in-Pages.board.running w.settle.new.self.running (scan_of c.args.self.now) (board_in c.match-self.self-inside.board).running w.settle.result c.match-self.result
      (ap (λ (b : AnyBoard). (board_in b).running) (sym w.in-Pages.is) ∙ ap scan_of c.self.view_is)
      (ap (λ (i : Inside). (board_in i.board).running) (sym w.self-inside-is)) (sym w.result-is) w.settle.ensures.answer
  | in-Entries w ↦
      carry SettleAnswer w.in-Entries.board.running w.settle-in-Entries.new.self.running (scan_of c.args.self.now) (board_in c.match-self.self-inside.board).running w.settle-in-Entries.result c.match-self.result
      (ap (λ (b : AnyBoard). (board_in b).running) (sym w.in-Entries.is) ∙ ap scan_of c.self.view_is)
      (ap (λ (i : Inside). (board_in i.board).running) (sym w.self-inside-is)) (sym w.result-is) w.settle-in-Entries.ensures.answer
]
