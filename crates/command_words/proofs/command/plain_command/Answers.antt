use Rattle.std.proofs.Common.{ap, true, ◌∙◌}
use Rattle.clap.specs.Simple.{App, app_of_fields, on_top}
use Rattle.command_words.specs.Commands.{plain_app}
use Rattle.command_words.proofs.command.plain_command.Goals as goal

abbrev without_help : App → App
without_help = on_top (λ s. record s { disable_help_flag = true })

pub returns : goal.returns
unfolding plain_app
returns c = ap app_of_fields c.disable_help_flag.ensures ∙ ap without_help c.new.ensures.app
