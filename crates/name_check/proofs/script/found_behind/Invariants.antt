use Rattle.std.proofs.Common.{◌≡◌, drop, map, []}
use Rattle.postquel_tokens.specs.Forms.{sentence_of}
use Rattle.name_check.specs.Steps.{script_checked, view_of}
use Rattle.name_check.proofs.script.found_behind.Given as goal

-- what is left to do gives what the whole gives
abbrev pub invariant-loop-place : goal.invariant-loop-place
invariant-loop-place l =
    script_checked l.headings.items (map view_of l.all.items)
    (map sentence_of (drop l.place l.script.statements)) ≡
    script_checked l.initial.headings.items [] (map sentence_of l.script.statements)
