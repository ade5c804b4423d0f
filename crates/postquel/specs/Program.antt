-- A script: the steps of its machine line, and its statements.
use Rattle.std.specs.Prelude.{List, map}
use Rattle.postquel_tokens.specs.declared.form.StepForm.{StepForm}
use Rattle.postquel_tokens.specs.declared.form.Statement.{Statement}
use Rattle.postquel_tokens.specs.Forms.{Sentence, sentence_of}

-- as it lies in memory
pub record Parts : Type 0 where
  pub steps : List StepForm
  pub statements : List Statement

pub record Program : Type 0 where
  pub steps : List StepForm
  pub sentences : List Sentence

abbrev pub program_of : Parts → Program
program_of p = record { steps = p.steps; sentences = map sentence_of p.statements }
