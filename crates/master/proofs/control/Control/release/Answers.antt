use Rattle.std.proofs.Common.{arith}
use Rattle.master.proofs.Releases.{all_gave_then, released_more}
use Rattle.master.proofs.control.Control.release.Goals as goal

pub release_fragment-requires : goal.release_fragment-requires
release_fragment-requires g c = omega (arith, c.fragment_count-fragment-end.ensures, c.loop-fragment-test, c.loop-fragment.invariant.gives_up.size)

pub loop-fragment-preserved : goal.loop-fragment-preserved
loop-fragment-preserved g c = record {
  gives_up = all_gave_then c.loop-fragment.fragment c.args.self.now c.loop-fragment.self c.release_fragment.new.self c.loop-fragment.invariant.gives_up c.release_fragment.ensures.gives_up;
  released = released_more c.loop-fragment.fragment c.loop-fragment.self c.release_fragment.new.self c.release_fragment.ensures.gives_up c.loop-fragment.invariant.released c.release_fragment.ensures.released;
}
