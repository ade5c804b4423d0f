use Rattle.std.proofs.Common.{rules, ap, ◌≡◌, ◌∙◌}
use Rattle.std.proofs.lemmas.Result.{IfOk-weaker}
use Rattle.clap.specs.Walk.{rule_of}
use Rattle.clap.specs.Simple.{app_of, with_rule}
use Rattle.command_words.specs.Commands.{operand}
use Rattle.command_words.proofs.command.with_operand.Goals as goal

pub returns : goal.returns
returns c =
    let is : rule_of c.required-operand.result ≡ operand c.args.id.now = search rules in
    IfOk-weaker c.arg.result _ _ (λ r h. h.shape (search rules) ∙ ap (with_rule (app_of c.args.command)) is) c.arg.ensures
