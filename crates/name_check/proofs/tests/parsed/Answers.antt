use Rattle.name_check.proofs.Numbers.{parsed_fits}
use Rattle.name_check.proofs.tests.parsed.Goals as goal

pub returns : goal.returns
returns c = parsed_fits c.args.tokens.now c.parse.result c.requires c.parse.ensures
