use Rattle.key_index.proofs.Rules.{fetch_causes}
use Rattle.key_index.proofs.descent.fetch_page.Goals as goal

pub returns-clause-err : goal.returns-clause-err
returns-clause-err g c =
    fetch_causes (g.P.PageSource.files (g.P.PageSource.whole c.args.pages.now)) (g.P.PageSource.image (g.P.PageSource.whole c.args.pages.now)) c.args.index.now (g.P.PageSource.drives (g.P.PageSource.whole c.args.pages.now)) (g.P.PageSource.faults c.args.pages.now) (g.P.PageSource.faults c.fetch.new.self) c.args.page c.fetch.result
    c.requires.file c.requires.page c.fetch.ensures.err
