use Rattle.std.proofs.Common.{sym, subst}
use Rattle.adjust_protocol.specs.Moves.{Running}
use Rattle.page_partition.specs.Scan.{IsIdle}
use Rattle.adjust_protocol.proofs.turns.Turns.begin.Goals as goal

pub divide-requires-clause-idle : goal.divide-requires-clause-idle
divide-requires-clause-idle g c = subst (λ (z : Running). IsIdle z.scan.marks) (sym c.self.view_is) c.requires.idle
