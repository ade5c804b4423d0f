-- The commands that read the words, by clap's rules.
use Rattle.std.specs.Prelude.{◌≡◌, ◌≢◌, ℕ, true, List, [], Option, Some, None, codes}
use Rattle.clap.specs.Walk.{Rule, rows_of}
use Rattle.clap.specs.Simple.{App, matches_of, new_app, new_rule, on_top, with_rule}
use Rattle.clap.specs.Matches.{found_of}
use Rattle.clap.specs.declared.parser.matches.ArgMatches.{ArgMatches}
use Rattle.clap.specs.Faults.{fault_of}
use Rattle.clap.specs.declared.builder.action.ArgAction.TheVariants.{Set, SetTrue}

abbrev pub Text : Type 0
Text = List ℕ

-- a word that has to be there
abbrev pub operand : Text → Rule
operand id = record (new_rule id) { required = true }

-- `--id value` or `--id=value`
abbrev pub option : Text → Rule
option id = record (new_rule id) { long = Some id; action = Some Set }

-- `--id`
abbrev pub flag : Text → Rule
flag id = record (new_rule id) { long = Some id; action = Some SetTrue }

-- without `--help`; the first word is passed over
unfoldable pub plain_app : App
plain_app = on_top (λ s. record s { disable_help_flag = true }) (new_app (codes "xprs"))

abbrev pub with_machine : App → App
with_machine a =
    with_rule (with_rule (with_rule (with_rule a
    (option (codes "backends"))) (option (codes "drives"))) (option (codes "frames")))
    (option (codes "batch"))

-- `check`
unfoldable pub file_app : App
file_app = with_rule (with_rule plain_app (operand (codes "catalog"))) (operand (codes "script"))

-- `run` and `alone`
unfoldable pub job_app : App
job_app =
    with_rule (with_rule (with_machine file_app) (option (codes "join"))) (flag (codes "trace"))

-- `explain`
unfoldable pub plans_app : App
plans_app =
    with_rule (with_rule (with_rule file_app
    (option (codes "backends"))) (option (codes "drives"))) (option (codes "join"))

-- `gen`
unfoldable pub generation_app : App
generation_app =
    with_machine
    (with_rule (with_rule plain_app (operand (codes "number"))) (operand (codes "rows")))

-- what a command finds in the words, or none where it doesn't take them
unfoldable pub HasMatches : App → List Text → Option ArgMatches → Type 0
HasMatches a words None = fault_of a words ≢ []
HasMatches a words (Some m) = (fault_of a words ≡ []) × (rows_of (found_of m) ≡ matches_of a words)
