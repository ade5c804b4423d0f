use Rattle.std.proofs.Common.{rules, ◌≡◌, to_z, pos, w64}
use Rattle.postquel_tokens.specs.Lex.{is_in}
use Rattle.postquel_tokens.specs.declared.piece.Run.TheVariants as run
use Rattle.postquel_tokens.proofs.Bodies.{prefix_all, number_big, number_fine}
use Rattle.postquel_tokens.proofs.piece.number.Goals as goal

pub capped-n-requires : goal.capped-n-requires
capped-n-requires c = rw c.run_len-len.ensures.value (prefix_all (is_in run.Digit) c.args.z.now)

pub returns-then-n-ge-TOO_BIG-clause-value : goal.returns-then-n-ge-TOO_BIG-clause-value
returns-then-n-ge-TOO_BIG-clause-value c = number_big c.args.z.now c.run_len-len.result c.capped-n.result c.run_len-len.ensures.value c.capped-n.ensures c.if-n-ge-TOO_BIG.true

pub returns-clause-value : goal.returns-clause-value
returns-clause-value c = let e : to_z w64 c.capped-n.result ≡ pos c.capped-n.result = search rules in rw e (number_fine c.args.z.now c.run_len-len.result c.capped-n.result c.run_len-len.ensures.value c.capped-n.ensures c.if-n-ge-TOO_BIG.false)
