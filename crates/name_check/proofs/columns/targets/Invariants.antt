use Rattle.std.proofs.Common.{◌≡◌, map, drop, []}
use Rattle.postquel_tokens.specs.Forms.{wish_of}
use Rattle.name_check.specs.Steps.{chosen_of, no_columns, wishes_checked}
use Rattle.name_check.proofs.columns.targets.Given as goal

-- what is left to do gives what the whole gives
abbrev pub invariant-loop-target : goal.invariant-loop-target
invariant-loop-target l =
    wishes_checked l.headings l.limited l.vars.items (chosen_of l.out) (map wish_of (drop l.target-index l.targets)) ≡
    wishes_checked l.headings l.limited l.initial.vars.items no_columns (map wish_of l.targets)
