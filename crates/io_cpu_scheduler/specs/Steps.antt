-- The machine after some finishes.
use Rattle.std.specs.Prelude.{ℕ, List, Option, Some, None, nat_le}
use Rattle.std.specs.List.{filter, last_or}
use Rattle.rows.specs.declared.plain.Machine.{Machine}
use Rattle.rows.specs.declared.plain.Step.{Step}

-- the last step whose `after` is at most the number of finishes
abbrev pub step_at : List Step → ℕ → Option Step
step_at steps finishes = last_or None (filter (λ step. nat_le step.after finishes) steps)

abbrev pub with_step : Machine → Option Step → Machine
with_step m None = m
with_step m (Some step) = record m { backends = step.backends }

-- the machine with the backends of that step, where there is one
abbrev pub machine_at : Machine → List Step → ℕ → Machine
machine_at m steps finishes = with_step m (step_at steps finishes)
