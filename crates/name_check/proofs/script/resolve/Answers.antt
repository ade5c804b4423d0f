use Rattle.std.proofs.Common.{map}
use Rattle.postquel_tokens.specs.Forms.{sentence_of}
use Rattle.name_check.proofs.Answered.{if_answerable}
use Rattle.name_check.proofs.script.resolve.Goals as goal

pub returns-clause-answerable : goal.returns-clause-answerable
returns-clause-answerable c = if_answerable c.args.catalog.now (map sentence_of c.args.script.now.statements) c.queries.result c.queries.ensures.value c.queries.ensures.may_be_asked
