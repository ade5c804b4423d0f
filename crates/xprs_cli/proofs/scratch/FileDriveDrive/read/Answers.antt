use Rattle.std.proofs.Common.{◌∙◌}
use Rattle.xprs_cli.proofs.PageBytes.{reads_page}
use Rattle.xprs_cli.proofs.scratch.FileDriveDrive.read.Goals as goal

pub returns-then-fill-clause-got : goal.returns-then-fill-clause-got
returns-then-fill-clause-got g c = reads_page c.args.page c.fill.new.into c.requires.in_drive (c.fill.auto.into ∙ c.requires.whole) (g.F.PageFile.bytes c.args.self.now.file) (c.fill.ensures.got c.if-fill.true)
