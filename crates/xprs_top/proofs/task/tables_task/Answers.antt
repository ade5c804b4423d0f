use Rattle.std.proofs.Common.{Ok, refl}
use Rattle.xprs_top.specs.Inputs.{job_of, read_of}
use Rattle.xprs_top.specs.Readings.{over, tables_of}
use Rattle.xprs_top.specs.declared.task.Task.TheVariants.{Over}
use Rattle.xprs_top.proofs.Told.{bound_told}
use Rattle.xprs_top.proofs.task.tables_task.Goals as goal

pub returns-clause-told : goal.returns-clause-told
returns-clause-told g c =
    bound_told (λ files. tables_of files c.args.checked.catalog) (λ db. Ok (over c.args.goal c.args.machine (read_of c.args.checked) db)) c.in_ok-db.db job_of (g.S.Shelf.files c.args.shelf.now) (g.S.Shelf.faults c.args.shelf.now) (g.S.Shelf.faults c.read_tables.new.shelf)
    (Ok (Over c.args.goal c.args.machine c.args.checked c.in_ok-db.db)) c.in_ok-db.ensures.told refl
