use Rattle.xprs_top.proofs.fault.pour_bad.Goals as goal

pub returns-clause-whole : goal.returns-clause-whole
returns-clause-whole g c = rw (← c.into.ensures, ← c.into-2.ensures, ← c.into-3.ensures) c.pour_all.ensures.whole
