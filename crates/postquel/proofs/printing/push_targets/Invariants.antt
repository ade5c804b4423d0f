use Rattle.std.proofs.Common.{◌≡◌, drop, map, []}
use Rattle.postquel.specs.Onto.{joined_onto}
use Rattle.postquel.specs.Print.{wish_text}
use Rattle.postquel_tokens.specs.Forms.{wish_of}
use Rattle.postquel.proofs.printing.push_targets.Given as goal

abbrev pub invariant-loop-target : goal.invariant-loop-target
invariant-loop-target l = joined_onto wish_text l.between l.out.items (map wish_of (drop l.target-index l.targets)) ≡ joined_onto wish_text [] l.fn.out.items (map wish_of l.targets)
