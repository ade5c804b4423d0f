use Rattle.std.proofs.Common.{◌≡◌, ◌+◌, ◌-◌, ◌≤◌, length, drop}
use Rattle.postquel_tokens.specs.Lex.{body}
use Rattle.postquel_tokens.proofs.Bodies.{behind_text}
use Rattle.postquel_tokens.proofs.piece.body.Given as goal

abbrev pub invariant-loop-at : goal.invariant-loop-at
invariant-loop-at l = record { same : behind_text l.text.items (body (l.at + 1) (drop l.at l.z)) ≡ body 1 l.z; place : l.at ≤ length l.z }

abbrev pub decreases-loop-at : goal.decreases-loop-at
decreases-loop-at l = length l.z - l.at
