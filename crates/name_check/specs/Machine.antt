-- The steps of a machine line, and its first fault.
use Rattle.std.specs.Prelude.{ℕ, ◌+◌, ℤ, pos, negsuc, nat_abs, Bool, false, nat_le, ◌&&◌, List, [], ◌∷◌, map, Option, Some, None, Result, if◌then◌else◌}
use Rattle.std.specs.Option.{option_or}
use Rattle.postquel_tokens.specs.declared.fault.Spot.{Spot}
use Rattle.postquel_tokens.specs.declared.form.StepForm.{StepForm}
use Rattle.postquel_tokens.specs.declared.fault.What.{What}
use Rattle.postquel_tokens.specs.declared.fault.What.TheVariants as what
use Rattle.postquel_tokens.specs.declared.fault.TextErr.{TextErr}
use Rattle.rows.specs.declared.plain.Step.{Step}
use Rattle.name_check.specs.Types.{at}
use Rattle.name_check.specs.Sentences.{or_fault}

abbrev pub is_within : ℕ → ℕ → ℤ → Bool
is_within low high (pos n) = nat_le low n && nat_le n high
is_within low high (negsuc n) = false

abbrev pub unless : Bool → Spot → What → Option TextErr
unless fine spot what = if fine then None else Some (at spot what)

-- a step behind one with this second number: the first number's fault, and then the second's
abbrev pub step_fault : ℕ → StepForm → Option TextErr
step_fault last s = option_or (unless (is_within 1 64 s.backends) s.backends_spot what.BadDegree) (unless (is_within (last + 1) 1000 s.after) s.after_spot what.BadStep)

-- the first fault of steps behind a second number
abbrev pub steps_fault : ℕ → List StepForm → Option TextErr
steps_fault last [] = None
steps_fault last (s ∷ ss) = option_or (step_fault last s) (steps_fault (nat_abs s.after) ss)

abbrev pub step_of : StepForm → Step
step_of s = record { after = nat_abs s.after; backends = nat_abs s.backends }

-- the steps, or the first fault; before the first step the second number is 0
abbrev pub machine_steps : List StepForm → Result (List Step) TextErr
machine_steps ss = or_fault (map step_of ss) (steps_fault 0 ss)
