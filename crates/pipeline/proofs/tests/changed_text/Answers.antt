use Rattle.std.proofs.Common.{lit<}
use Rattle.pipeline.proofs.tests.changed_text.Goals as goal

pub position_text-found-requires-clause-ready : goal.position_text-found-requires-clause-ready
position_text-found-requires-clause-ready c = c.requires.ready _

pub position_text-found-requires-clause-position : goal.position_text-found-requires-clause-position
position_text-found-requires-clause-position c = rw c.requires.positions (lit< tt)
