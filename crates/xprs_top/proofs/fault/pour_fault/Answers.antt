use Rattle.xprs_top.proofs.fault.pour_fault.Goals as goal

pub returns-in-DriveFull-clause-whole : goal.returns-in-DriveFull-clause-whole
returns-in-DriveFull-clause-whole g c = rw c.in-DriveFull.is c.pour_full.ensures.whole

pub returns-in-NotBuilt-clause-whole : goal.returns-in-NotBuilt-clause-whole
returns-in-NotBuilt-clause-whole g c = rw (c.in-NotBuilt.is, ← c.unbuilt_name.ensures) c.pour_name.ensures.whole
