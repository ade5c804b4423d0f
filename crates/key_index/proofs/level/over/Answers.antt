use Rattle.key_index.proofs.Nodes.{over_step}
use Rattle.key_index.proofs.level.over.Goals as goal

pub loop-page-preserved : goal.loop-page-preserved
loop-page-preserved c = over_step c.args.base c.loop-page.page c.args.nodes.now c.args.starts.now c.loop-page.found.items c.push.new.self.items _ _ _ c.loop-page-test.true c.requires.inside c.loop-page.invariant c.in_ok-push.ensures.items
