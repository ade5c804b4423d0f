use Rattle.hash_join.proofs.Places.{place_more}
use Rattle.hash_join.proofs.index.put_places.Goals as goal

pub loop-place-preserved : goal.loop-place-preserved
loop-place-preserved c = place_more c.args.index.now.items _ _ c.args.position c.loop-place.place c.loop-place.invariant c.in_ok-push.ensures.items
