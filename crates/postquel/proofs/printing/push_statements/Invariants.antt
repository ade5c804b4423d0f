use Rattle.std.proofs.Common.{◌≡◌, drop, map}
use Rattle.postquel.specs.Onto.{sentences_onto}
use Rattle.postquel_tokens.specs.Forms.{sentence_of}
use Rattle.postquel.proofs.printing.push_statements.Given as goal

abbrev pub invariant-loop-statement : goal.invariant-loop-statement
invariant-loop-statement l = sentences_onto l.out.items (map sentence_of (drop l.statement-index l.statements)) ≡ sentences_onto l.fn.out.items (map sentence_of l.statements)
