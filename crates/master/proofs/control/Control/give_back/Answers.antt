use Rattle.master.proofs.Releases.{gave_settle}
use Rattle.master.proofs.control.Control.give_back.Goals as goal

pub returns-clause-out : goal.returns-clause-out
returns-clause-out g c =
    (gave_settle c.args.fragment c.args.role c.args.self.now c.settle.new.self c.new.result c.settle.result c.requires.fragment c.new.ensures c.settle.ensures.events c.settle.ensures.slots c.settle.ensures.moves).1

pub returns-clause-gives_up : goal.returns-clause-gives_up
returns-clause-gives_up g c =
    (gave_settle c.args.fragment c.args.role c.args.self.now c.settle.new.self c.new.result c.settle.result c.requires.fragment c.new.ensures c.settle.ensures.events c.settle.ensures.slots c.settle.ensures.moves).0
