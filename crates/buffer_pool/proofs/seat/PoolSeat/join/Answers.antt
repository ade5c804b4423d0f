use Rattle.std.proofs.Common.{rules, ◌≡◌, ◌∙◌, length, ap, slice_get}
use Rattle.run_lock.specs.Passes.{seen_of}
use Rattle.buffer_pool.specs.Seats.{seen_at, seen_in}
use Rattle.buffer_pool.proofs.Pairs.{earlier_at, last_at}
use Rattle.buffer_pool.proofs.Sharing.{joined_more, seen_here}
use Rattle.buffer_pool.proofs.seat.PoolSeat.join.Goals as goal

pub each-preserved : goal.each-preserved
each-preserved g c =
    let inv = c.each.invariant in
    let all = rw c.in-Some.is at c.pop.ensures.items in
    let place : c.len.result ≡ length c.pop.new.self.items = search rules in
    let mine = inv.left (length c.pop.new.self.items) c.in-Some.pass (ap (λ ps. slice_get ps (length c.pop.new.self.items)) all ∙ last_at c.pop.new.self.items c.in-Some.pass) in
    let other : seen_in c.args.other.passes.items c.len.result ≡ seen_of c.in-Some.pass = seen_here c.args.other.passes.items c.len.result c.in-Some.pass (ap (λ n. slice_get c.args.other.passes.items n) place ∙ mine) in
    let more = joined_more (seen_at c.args.self.now) (seen_at c.each.self) (seen_at c.join_at.new.self) (seen_in c.args.other.passes.items) _ c.len.result (seen_of c.in-Some.pass) (search rules) inv.below inv.above c.join_at.ensures.joined c.join_at.ensures.others other in
    record {
      seat = c.join_at.ensures.seat;
      left = λ d pass at. inv.left d pass (ap (λ ps. slice_get ps d) all ∙ earlier_at c.pop.new.self.items c.in-Some.pass d pass at);
      below = λ d lt. more.0 d (search rules);
      above = λ d le. more.1 d (search rules);
    }
