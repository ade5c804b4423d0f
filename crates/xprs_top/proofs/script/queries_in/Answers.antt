use Rattle.std.proofs.Common.{map}
use Rattle.postquel.specs.Program.{program_of}
use Rattle.name_check.specs.Sentences.{heading_of}
use Rattle.rel_meaning.specs.Expression.{question_of}
use Rattle.xprs_top.proofs.Asked.{found_questions}
use Rattle.xprs_top.proofs.script.queries_in.Goals as goal

pub returns-in-Ok-clause-same : goal.returns-in-Ok-clause-same
returns-in-Ok-clause-same c =
    found_questions (map heading_of c.args.catalog.now) (program_of c.args.script.now).sentences (map question_of c.in-Ok.queries) c.in-Ok.ensures.value
