use Rattle.std.proofs.Common.{ap, codes, refl, ◌∙◌}
use Rattle.std.proofs.lemmas.Result.{IfOk-weaker}
use Rattle.clap.specs.Simple.{with_rule}
use Rattle.command_words.specs.Commands.{file_app, operand}
use Rattle.command_words.proofs.command.file_command.Goals as goal

pub returns : goal.returns
unfolding file_app
returns c =
    let s0 = c.in_ok-command.ensures ∙ ap (λ a. with_rule a (operand (codes "catalog"))) c.plain_command.ensures in
    IfOk-weaker c.with_operand-2.result _ _ (λ r h. h ∙ ap (λ a. with_rule a (operand (codes "script"))) s0) c.with_operand-2.ensures
