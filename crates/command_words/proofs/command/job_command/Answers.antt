use Rattle.std.proofs.Common.{ap, codes, refl, ◌∙◌}
use Rattle.std.proofs.lemmas.Result.{IfOk-weaker}
use Rattle.clap.specs.Simple.{with_rule}
use Rattle.command_words.specs.Commands.{flag, job_app, option, with_machine}
use Rattle.command_words.proofs.command.job_command.Goals as goal

pub returns : goal.returns
unfolding job_app
returns c =
    let s0 = c.in_ok-command.ensures ∙ ap with_machine c.in_ok-file_command.ensures in
    let s1 = c.in_ok-command-2.ensures ∙ ap (λ a. with_rule a (option (codes "join"))) s0 in
    IfOk-weaker c.with_flag.result _ _ (λ r h. h ∙ ap (λ a. with_rule a (flag (codes "trace"))) s1) c.with_flag.ensures
