use Rattle.xprs_top.specs.declared.goal.Goal.TheVariants.{Answers}
use Rattle.xprs_top.specs.Inputs.{read_of}
use Rattle.xprs_top.proofs.Devices.{answers_made, lay_made, read_made}
use Rattle.xprs_top.proofs.Stored.{are_tables, columns_agree}
use Rattle.heap_page.proofs.Drives.{quiet_trans}
use Rattle.xprs_top.specs.Counts.{NoOtherFailed, named_drive}
use Rattle.xprs_top.proofs.Counts.{fresh_stay, named_answers, named_by, named_fetch, named_store}
use Rattle.xprs_top.proofs.answering.laid_answers.Goals as goal
use Rattle.std.proofs.Common.{ap, subst, sym, ◌∙◌, None}

pub returns-in-Err-clause-made : goal.returns-in-Err-clause-made
returns-in-Err-clause-made g c = λ before now.
    rw c.from.ensures
    (lay_made g.D.Drive (read_of c.args.checked.now) c.args.db c.args.machine.now before now Answers c.args.drives.now c.lay_database.new.drives c.in-Err.error c.requires.count c.requires.fresh c.in-Err.ensures.kept c.in-Err.ensures.err)

pub returns-in-Err-read_database-clause-made : goal.returns-in-Err-read_database-clause-made
returns-in-Err-read_database-clause-made g c = λ before now.
    let may = c.requires.answerable.stored in
    rw c.from-in-Err-read_database.ensures
    (read_made g.D.Drive (read_of c.args.checked.now) c.args.db c.args.machine.now before now c.args.drives.now c.lay_database.new.drives c.read_database.new.drives c.in-Ok.laid c.requires.count c.requires.fresh c.in-Ok.ensures.kept
    c.in-Ok.ensures.laid c.in-Err-read_database.ensures.read may c.block_laws.ensures.accepted c.block_laws.ensures.again c.in-Err-read_database.error c.in-Err-read_database.ensures.err)

pub answered_text-requires-clause-over : goal.answered_text-requires-clause-over
answered_text-requires-clause-over g c = record { serve = c.requires.answerable.serve; columns = c.in-Ok-read_database.ensures.columns }

pub answered_text-requires-clause-tables : goal.answered_text-requires-clause-tables
answered_text-requires-clause-tables g c =
    (are_tables c.args.checked.now.catalog c.in-Ok-read_database.db c.in-Ok-read_database.ensures.columns c.in-Ok-read_database.ensures.typed).tables

pub returns-clause-made : goal.returns-clause-made
returns-clause-made g c = λ before now.
    let may = c.requires.answerable.stored in
    answers_made g.D.Drive (read_of c.args.checked.now) c.args.db c.args.machine.now before now c.args.drives.now c.lay_database.new.drives c.read_database.new.drives c.in-Ok.laid c.requires.count c.requires.fresh c.in-Ok.ensures.kept
    c.in-Ok.ensures.laid c.in-Ok-read_database.ensures.read c.in-Ok-read_database.db c.answered_text.result
    (λ tell. c.in-Ok-read_database.ensures.again c.args.db (columns_agree c.args.checked.now.catalog c.args.db may.count may.each) tell)
    c.answered_text.ensures

pub returns-in-Err-clause-quiet : goal.returns-in-Err-clause-quiet
returns-in-Err-clause-quiet g c =
    named_by g.D.Drive c.from.result _ c.lay_database.new.drives (ap named_drive c.from.ensures ∙ named_store c.in-Err.error)
    (fresh_stay g.D.Drive _ c.args.drives.now c.lay_database.new.drives c.in-Err.ensures.kept.len c.requires.fresh c.in-Err.ensures.quiet)

pub returns-in-Err-read_database-clause-quiet : goal.returns-in-Err-read_database-clause-quiet
returns-in-Err-read_database-clause-quiet g c =
    named_by g.D.Drive c.from-in-Err-read_database.result _ c.read_database.new.drives (ap named_drive c.from-in-Err-read_database.ensures ∙ named_fetch c.in-Err-read_database.error)
    (fresh_stay g.D.Drive _ c.args.drives.now c.read_database.new.drives (c.in-Err-read_database.ensures.read.len ∙ c.in-Ok.ensures.kept.len) c.requires.fresh
    (quiet_trans g.D.Drive _ c.args.drives.now c.lay_database.new.drives c.read_database.new.drives c.in-Ok.ensures.kept.len c.in-Ok.ensures.quiet c.in-Err-read_database.ensures.quiet))

pub returns-clause-quiet : goal.returns-clause-quiet
returns-clause-quiet g c =
    subst (λ fault. NoOtherFailed g.D.Drive fault c.read_database.new.drives) (sym (named_answers (read_of c.args.checked.now) c.in-Ok-read_database.db c.answered_text.result c.answered_text.ensures))
    (fresh_stay g.D.Drive None c.args.drives.now c.read_database.new.drives (c.in-Ok-read_database.ensures.read.len ∙ c.in-Ok.ensures.kept.len) c.requires.fresh
    (quiet_trans g.D.Drive None c.args.drives.now c.lay_database.new.drives c.read_database.new.drives c.in-Ok.ensures.kept.len c.in-Ok.ensures.quiet c.in-Ok-read_database.ensures.quiet))
