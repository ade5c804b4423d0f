use Rattle.std.proofs.Common.{◌≡◌, drop}
use Rattle.std.specs.List.{list_any}
use Rattle.postquel_tokens.specs.Forms.{sentence_of}
use Rattle.name_check.specs.Sentences.{is_kept}
use Rattle.name_check.proofs.parts.has_into.Given as goal

-- what is left decides
abbrev pub invariant-loop-place : goal.invariant-loop-place
invariant-loop-place l = list_any (λ s. is_kept (sentence_of s)) (drop l.place l.script.statements) ≡ list_any (λ s. is_kept (sentence_of s)) l.script.statements
