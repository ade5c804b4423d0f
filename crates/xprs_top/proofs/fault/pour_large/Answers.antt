use Rattle.xprs_top.proofs.fault.pour_large.Goals as goal

pub returns-clause-whole : goal.returns-clause-whole
returns-clause-whole g c = rw (← c.into.ensures) c.pour_all.ensures.whole

pub returns-clause-front : goal.returns-clause-front
returns-clause-front g c = rw (← c.into.ensures) c.pour_all.ensures.front
