use Rattle.std.proofs.Common.{ap, codes, refl, ◌∙◌}
use Rattle.std.proofs.lemmas.Result.{IfOk-weaker}
use Rattle.clap.specs.Simple.{with_rule}
use Rattle.command_words.specs.Commands.{generation_app, operand, with_machine}
use Rattle.command_words.proofs.command.generation_command.Goals as goal

pub returns : goal.returns
unfolding generation_app
returns c =
    let s0 = c.in_ok-command.ensures ∙ ap (λ a. with_rule a (operand (codes "number"))) c.plain_command.ensures in
    let s1 = c.in_ok-command-2.ensures ∙ ap (λ a. with_rule a (operand (codes "rows"))) s0 in
    IfOk-weaker c.with_machine.result _ _ (λ r h. h ∙ ap with_machine s1) c.with_machine.ensures
