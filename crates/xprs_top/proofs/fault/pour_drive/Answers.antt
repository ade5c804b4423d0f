use Rattle.xprs_top.proofs.fault.pour_drive.Goals as goal

pub returns-clause-whole : goal.returns-clause-whole
returns-clause-whole g c = rw (c.in-Some.is, ← c.into.ensures) c.pour_all.ensures.whole

pub returns-clause-front : goal.returns-clause-front
returns-clause-front g c = rw (c.in-Some.is, ← c.into.ensures) c.pour_all.ensures.front
