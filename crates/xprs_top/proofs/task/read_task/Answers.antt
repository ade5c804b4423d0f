use Rattle.std.proofs.Common.{Ok}
use Rattle.postquel.specs.Print.{script_text}
use Rattle.xprs_top.specs.Inputs.{job_of, read_of}
use Rattle.xprs_top.specs.Readings.{IsChecked, Just, job_by, write}
use Rattle.xprs_top.specs.Requests.{request_of}
use Rattle.xprs_top.proofs.Told.{then_told, found_in}
use Rattle.xprs_top.proofs.task.read_task.Goals as goal

pub returns-in-Make-clause-told : goal.returns-in-Make-clause-told
returns-in-Make-clause-told g c =
    then_told (λ files. IsChecked files (request_of c.args.operands.now)) (λ checked files. Just (job_by files c.args.operands.now.aim checked)) (read_of c.in_ok-checked.checked) job_of
    (g.S.Shelf.files c.args.shelf.now) (g.S.Shelf.files c.read_checked.new.shelf) c.in_ok-checked.ensures.files (g.S.Shelf.faults c.args.shelf.now) (g.S.Shelf.faults c.read_checked.new.shelf) (g.S.Shelf.faults c.tables_task.new.shelf)
    c.in_ok-checked.ensures.count c.tables_task.result c.in_ok-checked.ensures.told (rw c.in-Make.is c.tables_task.ensures.told)

pub returns-in-Print-clause-told : goal.returns-in-Print-clause-told
returns-in-Print-clause-told g c =
    rw c.in-Print.is
    (found_in (λ files. IsChecked files (request_of c.args.operands.now)) (λ checked. Just (Ok (write (script_text checked.program)))) (read_of c.in_ok-checked.checked) job_of
    (g.S.Shelf.files c.args.shelf.now) (g.S.Shelf.faults c.args.shelf.now) (g.S.Shelf.faults c.read_checked.new.shelf) c.print_task.result c.in_ok-checked.ensures.told c.print_task.ensures.value)
