use Rattle.key_index.proofs.PageBytes.{zero_put}
use Rattle.key_index.proofs.index_page.put_zeros.Goals as goal

pub loop-place-preserved : goal.loop-place-preserved
loop-place-preserved c = zero_put c.args.count c.loop-place._place c.loop-place.out.items c.push.new.self.items _ c.loop-place-test.true c.loop-place.invariant c.in_ok-push.ensures.items
