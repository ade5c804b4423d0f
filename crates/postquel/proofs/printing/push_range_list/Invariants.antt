use Rattle.std.proofs.Common.{◌≡◌, drop, []}
use Rattle.postquel.specs.Onto.{joined_onto}
use Rattle.postquel.specs.Print.{range_text}
use Rattle.postquel.proofs.printing.push_range_list.Given as goal

abbrev pub invariant-loop-range : goal.invariant-loop-range
invariant-loop-range l = joined_onto range_text l.between l.out.items (drop l.range-index l.ranges) ≡ joined_onto range_text [] l.fn.out.items l.ranges
