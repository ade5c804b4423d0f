use Rattle.std.proofs.Common.{rules, ◌∙◌}
use Rattle.command_words.proofs.Taken.{refused, taken}
use Rattle.command_words.proofs.command.matches.Goals as goal

pub returns-in-Ok : goal.returns-in-Ok
returns-in-Ok c =
    taken _ _ c.in-Ok.matches c.requires.simple c.requires.free c.in-Ok.ensures.kinds c.in-Ok.ensures.matches

pub returns-in_default : goal.returns-in_default
returns-in_default c =
    refused _ _ c.in-Err.error c.requires.free c.in-Err.ensures.kinds
    (λ e. c.in_default.not-OutOfMemory (c.kind.ensures ∙ e))
