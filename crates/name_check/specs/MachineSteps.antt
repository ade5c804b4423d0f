-- A machine line's checks, step by step.
use Rattle.std.specs.Prelude.{ℕ, ℤ, nat_abs, List, [], ◌∷◌, ◌++◌, Option, Some, None, Result, Ok, if◌then◌else◌}
use Rattle.postquel_tokens.specs.declared.form.StepForm.{StepForm}
use Rattle.postquel_tokens.specs.declared.fault.TextErr.{TextErr}
use Rattle.rows.specs.declared.plain.Step.{Step}
use Rattle.name_check.specs.Sentences.{or_fault}
use Rattle.name_check.specs.Machine.{is_within, step_fault, step_of}
use Rattle.name_check.specs.Steps.{bind}

abbrev pub within : ℤ → ℕ → ℕ → Option ℕ
within n low high = if is_within low high n then Some (nat_abs n) else None

abbrev pub steps : List Step → ℕ → List StepForm → Result (List Step) TextErr
steps found last [] = Ok found
steps found last (s ∷ ss) = bind (or_fault (step_of s) (step_fault last s)) (λ x. steps (found ++ x ∷ []) x.after ss)
