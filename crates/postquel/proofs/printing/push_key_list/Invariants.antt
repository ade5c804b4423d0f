use Rattle.std.proofs.Common.{◌≡◌, drop, []}
use Rattle.postquel.specs.Onto.{joined_onto}
use Rattle.postquel.specs.Print.{key_text}
use Rattle.postquel.proofs.printing.push_key_list.Given as goal

abbrev pub invariant-loop-key : goal.invariant-loop-key
invariant-loop-key l = joined_onto key_text l.between l.out.items (drop l.key-index l.keys) ≡ joined_onto key_text [] l.fn.out.items l.keys
