use Rattle.std.proofs.Common.{◌≡◌, drop}
use Rattle.postquel.specs.Onto.{escaped_onto}
use Rattle.postquel.proofs.expression_text.push_escaped.Given as goal

abbrev pub invariant-loop-b : goal.invariant-loop-b
invariant-loop-b l = escaped_onto l.out.items (drop l.b-index l.text) ≡ escaped_onto l.fn.out.items l.text
