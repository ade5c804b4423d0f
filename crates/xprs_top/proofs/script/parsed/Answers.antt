use Rattle.name_check.proofs.Numbers.{parsed_fits}
use Rattle.xprs_top.proofs.Few.{parsed_few}
use Rattle.xprs_top.proofs.script.parsed.Goals as goal

pub returns-clause-numbers : goal.returns-clause-numbers
returns-clause-numbers c = parsed_fits c.in_ok-tokens.tokens c.parse.result (record { text = c.args.bytes.now; gives = c.in_ok-tokens.ensures }) c.parse.ensures

pub returns-clause-few : goal.returns-clause-few
returns-clause-few c = parsed_few c.in_ok-tokens.tokens c.parse.result c.parse.ensures
