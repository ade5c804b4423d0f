use Rattle.std.proofs.Common.{◌≡◌, ◌-◌, length, take, vec_len}
use Rattle.plan_tree.specs.Inputs.{inputs_of}
use Rattle.plan_tree.specs.Pieces.{piece_of}
use Rattle.master.proofs.start.inputs_of.Given as goal

abbrev pub invariant-loop-input : goal.invariant-loop-input
invariant-loop-input l = l.inputs.items ≡ take (vec_len l.inputs) (inputs_of (piece_of l.fragment))

abbrev pub decreases-loop-input : goal.decreases-loop-input
decreases-loop-input l = length (inputs_of (piece_of l.fragment)) - vec_len l.inputs
