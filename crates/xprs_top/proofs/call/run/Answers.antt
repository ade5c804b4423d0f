use Rattle.xprs_top.proofs.call.run.Goals as goal

pub returns-in-Ok-clause-cause : goal.returns-in-Ok-clause-cause
returns-in-Ok-clause-cause g c = rw c.in-Ok.ensures.asked c.run_over.ensures.cause
