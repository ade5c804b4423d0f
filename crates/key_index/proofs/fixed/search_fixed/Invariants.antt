use Rattle.std.proofs.Common.{◌-◌, drop}
use Rattle.key_index.specs.Aims.{passes}
use Rattle.key_index.proofs.Placed.{Narrowed}
use Rattle.key_index.proofs.fixed.search_fixed.Given as goal

abbrev pub invariant-loop-low : goal.invariant-loop-low
invariant-loop-low l = Narrowed l.level l.start l.len (passes l.aim) (drop 20 l.bytes) l.low l.high

abbrev pub decreases-loop-low : goal.decreases-loop-low
decreases-loop-low l = l.high - l.low
