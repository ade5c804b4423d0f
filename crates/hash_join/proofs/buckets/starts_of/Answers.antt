use Rattle.std.proofs.Common.{arith, rules}
use Rattle.hash_join.proofs.Starts.{begun_all, begun_more, begun_none}
use Rattle.hash_join.proofs.buckets.starts_of.Goals as goal

pub loop-number-init : goal.loop-number-init
loop-number-init c = record {
  here = omega arith;
  passed = λ k d low high. absurd (omega (arith, high));
  begun = begun_none c.args.count c.args.hashes.now c.in_ok-starts.starts.items c.in_ok-starts.ensures.items;
}

pub loop-number-preserved : goal.loop-number-preserved
loop-number-preserved c = record {
  here = c.next_start-place.ensures.within;
  passed = λ k d low high. omega (arith, c.next_start-place.ensures.parted.0 k d low high);
  begun = begun_more c.args.count c.args.hashes.now c.loop-number.starts.items _ c.loop-number.number c.next_start-place.result c.in-Ok.start c.loop-number.invariant.begun c.in_ok-push.ensures.items (search rules) c.next_start-place.ensures.within c.next_start-place.ensures.parted;
}

pub returns : goal.returns
returns c = begun_all c.args.count c.args.hashes.now c.loop-number.starts.items c.loop-number.number c.loop-number.invariant.begun (omega arith) c.requires.some c.requires.few
