use Rattle.xprs_top.specs.Inputs.{job_of}
use Rattle.xprs_top.specs.Requests.{request_of}
use Rattle.xprs_top.specs.Runs.{seen}
use Rattle.std.proofs.Common.{Ok}
use Rattle.xprs_top.proofs.Caused.{caused_made}
use Rattle.xprs_top.proofs.call.run_over.Goals as goal

pub returns-in-Ok-clause-cause : goal.returns-in-Ok-clause-cause
returns-in-Ok-clause-cause g c =
    let o = seen g.S.Shelf g.K.Rack g.W.Sink c.args.shelf.now c.read_task.new.shelf c.args.rack.now c.make.new.rack c.args.out.now c.poured.new.out in
    caused_made g.K.Drive.Drive o (Ok (request_of c.args.operands.now)) (job_of c.in-Ok.task) c.poured.result.drives.items c.in-Ok.ensures.told c.make.result.text c.poured.result.status
    (rw c.poured.ensures.drives c.make.ensures.made) c.poured.ensures.status
