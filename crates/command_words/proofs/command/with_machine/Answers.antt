use Rattle.std.proofs.Common.{ap, codes, refl, ◌∙◌}
use Rattle.std.proofs.lemmas.Result.{IfOk-weaker}
use Rattle.clap.specs.Simple.{with_rule}
use Rattle.command_words.specs.Commands.{option, with_machine}
use Rattle.command_words.proofs.command.with_machine.Goals as goal

pub returns : goal.returns
returns c =
    let s0 = c.in_ok-command.ensures ∙ ap (λ a. with_rule a (option (codes "backends"))) refl in
    let s1 = c.in_ok-command-2.ensures ∙ ap (λ a. with_rule a (option (codes "drives"))) s0 in
    let s2 = c.in_ok-command-3.ensures ∙ ap (λ a. with_rule a (option (codes "frames"))) s1 in
    IfOk-weaker c.with_option-4.result _ _ (λ r h. h ∙ ap (λ a. with_rule a (option (codes "batch"))) s2) c.with_option-4.ensures
