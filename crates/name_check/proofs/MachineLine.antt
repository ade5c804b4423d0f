-- The steps of a machine line one by one, and all at once.
use Rattle.std.proofs.Common.{◌≡◌, ℕ, nat_abs, List, [], ◌∷◌, ◌++◌, map, Option, Some, None, refl, sym, ap, ◌∙◌, append_assoc, append-nil}
use Rattle.std.specs.Option.{option_or}
use Rattle.postquel_tokens.specs.declared.form.StepForm.{StepForm}
use Rattle.postquel_tokens.specs.declared.fault.TextErr.{TextErr}
use Rattle.rows.specs.declared.plain.Step.{Step}
use Rattle.name_check.specs.Sentences.{or_fault}
use Rattle.name_check.specs.Machine.{step_fault, steps_fault, step_of, machine_steps}
use Rattle.name_check.specs.MachineSteps.{steps}
use Rattle.name_check.specs.Steps.{bind}

steps_from : (found : List Step) (last : ℕ) (ss : List StepForm) → steps found last ss ≡ or_fault (found ++ map step_of ss) (steps_fault last ss)
steps_from found last [] = ap (λ xs. or_fault xs None) (sym (append-nil found))
steps_from found last (s ∷ ss) = by (step_fault last s) (steps_from (found ++ step_of s ∷ []) (nat_abs s.after) ss) where
  by : (o : Option TextErr) → steps (found ++ step_of s ∷ []) (nat_abs s.after) ss ≡ or_fault ((found ++ step_of s ∷ []) ++ map step_of ss) (steps_fault (nat_abs s.after) ss) →
      bind (or_fault (step_of s) o) (λ x. steps (found ++ x ∷ []) x.after ss) ≡ or_fault (found ++ map step_of (s ∷ ss)) (option_or o (steps_fault (nat_abs s.after) ss))
  by None rest = rest ∙ ap (λ xs. or_fault xs (steps_fault (nat_abs s.after) ss)) (append_assoc found (step_of s ∷ []) (map step_of ss))
  by (Some f) rest = refl

pub steps_are : (ss : List StepForm) → steps [] 0 ss ≡ machine_steps ss
steps_are ss = steps_from [] 0 ss
