use Rattle.std.proofs.Common.{subst}
use Rattle.page_partition.specs.Counts.{IsMadeUp}
use Rattle.adjust_protocol.specs.Moves.{Running}
use Rattle.adjust_protocol.specs.Filled.{running_of}
use Rattle.adjust_protocol.proofs.board.Board.left.Goals as goal

pub returns-clause-made_up : goal.returns-clause-made_up
returns-clause-made_up g c = subst (λ (z : Running). IsMadeUp z.scan.marks) (running_of c.self.inside.turns c.self.inside.outputs _ c.self.view_is) c.left.ensures.made_up
