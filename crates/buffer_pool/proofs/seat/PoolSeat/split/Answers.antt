use Rattle.std.proofs.Common.{rules, ◌≡◌, ◌∙◌, length, sym, subst, Some, slice_get}
use Rattle.run_lock.specs.Passes.{IsFree, seen_of}
use Rattle.buffer_pool.specs.Seats.{seen_at}
use Rattle.buffer_pool.proofs.Pairs.{snoc_each}
use Rattle.buffer_pool.proofs.Sharing.{seen_same}
use Rattle.buffer_pool.proofs.seat.PoolSeat.split.Goals as goal

pub loop-place-preserved : goal.loop-place-preserved
loop-place-preserved g c =
    let inv = c.loop-place.invariant in
    let here : length c.loop-place.passes.items ≡ c.loop-place.place = search rules in
    let free = subst (λ n. (lock : _) → slice_get c.args.pool.now.locks.items n ≡ Some lock → IsFree lock c.in_ok-split_at.field-0) (sym here) c.in_ok-split_at.ensures.free in
    let same = subst (λ n. seen_of c.in_ok-split_at.field-0 ≡ seen_at c.args.self.now n) (sym here) (c.in_ok-split_at.ensures.same ∙ inv.seen c.loop-place.place) in
    record {
      seat = c.split_at.ensures.seat;
      seen = λ d. c.split_at.ensures.seen d ∙ inv.seen d;
      len = search rules;
      free = λ d lock pass at found. snoc_each c.loop-place.passes.items c.push.new.self.items c.in_ok-split_at.field-0 (λ n p. (l : _) → slice_get c.args.pool.now.locks.items n ≡ Some l → IsFree l p) c.in_ok-push.ensures.items (λ k p was l is. inv.free k l p is was) free d pass found lock at;
      same = snoc_each c.loop-place.passes.items c.push.new.self.items c.in_ok-split_at.field-0 (λ n p. seen_of p ≡ seen_at c.args.self.now n) c.in_ok-push.ensures.items inv.same same;
    }

pub returns-clause-other_seen : goal.returns-clause-other_seen
returns-clause-other_seen g c =
    let len : length c.loop-place.passes.items ≡ length c.args.self.now.passes.items = search rules in
    seen_same c.loop-place.passes.items c.args.self.now.passes.items len c.loop-place.invariant.same
