use Rattle.catalog_load.proofs.Pops.{plain_behind, pops}
use Rattle.catalog_load.proofs.records.next_record.Goals as goal

pub returns-clause-plain : goal.returns-clause-plain
returns-clause-plain c = plain_behind _ _ _ c.requires c.in-Ok.found (c.in-Ok.ensures.reads c.requires.trim c.requires.ready) (c.in-Ok.ensures.ready c.requires.trim)

pub returns-clause-pops : goal.returns-clause-pops
returns-clause-pops c = pops _ _ _ c.requires c.in-Ok.found (c.in-Ok.ensures.reads c.requires.trim c.requires.ready)
