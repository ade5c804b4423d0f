use Rattle.xprs_top.proofs.making.on_drives.Goals as goal

pub returns-in-Answers-clause-made : goal.returns-in-Answers-clause-made
returns-in-Answers-clause-made g c = rw c.in-Answers.is c.answered.ensures.made

pub returns-in-Plans-clause-made : goal.returns-in-Plans-clause-made
returns-in-Plans-clause-made g c = rw c.in-Plans.is c.explained.ensures.made
