use Rattle.xprs_top.proofs.Refusals.{refused, completed}
use Rattle.xprs_top.proofs.call.answer_alone.Goals as goal

pub returns-clause-refuses : goal.returns-clause-refuses
returns-clause-refuses g c = refused g.K.Drive.Drive _ _ c.run-outcome.result.drives.items c.run-outcome.result.status c.run-outcome.ensures.cause

pub returns-clause-complete : goal.returns-clause-complete
returns-clause-complete g c = completed g.K.Drive.Drive _ _ c.run-outcome.result.drives.items c.run-outcome.result.status c.run-outcome.ensures.cause
