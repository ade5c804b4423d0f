use Rattle.std.proofs.Common.{subst}
use Rattle.page_partition.specs.Counts.{IsMadeUp}
use Rattle.adjust_protocol.specs.Moves.{Running}
use Rattle.adjust_protocol.proofs.turns.Turns.left.Goals as goal

pub returns-clause-made_up : goal.returns-clause-made_up
returns-clause-made_up g c = subst (λ (z : Running). IsMadeUp z.scan.marks) c.self.view_is c.left.ensures.made_up
