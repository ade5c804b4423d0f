use Rattle.std.proofs.Common.{ap, codes, refl, ◌∙◌}
use Rattle.std.proofs.lemmas.Result.{IfOk-weaker}
use Rattle.clap.specs.Simple.{with_rule}
use Rattle.command_words.specs.Commands.{option, plans_app}
use Rattle.command_words.proofs.command.plans_command.Goals as goal

pub returns : goal.returns
unfolding plans_app
returns c =
    let s0 = c.in_ok-command.ensures ∙ ap (λ a. with_rule a (option (codes "backends"))) c.in_ok-file_command.ensures in
    let s1 = c.in_ok-command-2.ensures ∙ ap (λ a. with_rule a (option (codes "drives"))) s0 in
    IfOk-weaker c.with_option-3.result _ _ (λ r h. h ∙ ap (λ a. with_rule a (option (codes "join"))) s1) c.with_option-3.ensures
