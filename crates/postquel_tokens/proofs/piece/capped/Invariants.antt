use Rattle.std.proofs.Common.{◌≡◌, ◌≤◌, ◌^◌, take}
use Rattle.postquel_tokens.specs.Lex.{capped}
use Rattle.postquel_tokens.proofs.piece.capped.Given as goal

abbrev pub invariant-loop-b : goal.invariant-loop-b
invariant-loop-b l = record { value : l.n ≡ capped (take l.b-index l.digits); small : l.n ≤ 2 ^ 63 }
