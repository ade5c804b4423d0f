use Rattle.range_partition.proofs.tests.divide.Goals as goal

pub divide-requires-clause-idle : goal.divide-requires-clause-idle
divide-requires-clause-idle g c = c.is_idle.ensures.0 c.if-not-is_idle.false
