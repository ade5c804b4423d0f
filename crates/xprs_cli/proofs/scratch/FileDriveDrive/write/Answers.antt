use Rattle.xprs_cli.proofs.PageBytes.{writes_page, keeps_others}
use Rattle.xprs_cli.proofs.scratch.FileDriveDrive.write.Goals as goal

pub returns-then-put-clause-written : goal.returns-then-put-clause-written
returns-then-put-clause-written g c = writes_page c.args.page c.args.from.now c.requires.in_drive c.requires.whole (g.F.PageFile.bytes c.args.self.now.file) (g.F.PageFile.bytes c.put.new.file) (c.put.ensures.put c.if-put.true)

pub returns-then-put-clause-others : goal.returns-then-put-clause-others
returns-then-put-clause-others g c = keeps_others (g.F.PageFile.bytes c.args.self.now.file) (g.F.PageFile.bytes c.put.new.file) c.args.page (rw c.requires.whole at c.put.ensures.others)

pub returns-clause-others : goal.returns-clause-others
returns-clause-others g c = keeps_others (g.F.PageFile.bytes c.args.self.now.file) (g.F.PageFile.bytes c.put.new.file) c.args.page (rw c.requires.whole at c.put.ensures.others)
