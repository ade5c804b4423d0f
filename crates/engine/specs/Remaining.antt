-- What is left to be done in a run.
use Rattle.std.specs.Prelude.{ℕ, ◌+◌, ◌-◌, List, length, reverse, if◌then◌else◌}
use Rattle.page_partition.specs.Counts.{sum_below}
use Rattle.history.specs.declared.event.Event.{Event}
use Rattle.history.specs.Outline.{Run, outline}
use Rattle.history.specs.Projected.{deposited, is_finished}
use Rattle.master.specs.Ledger.{Ledger}
use Rattle.master.specs.Meaning.{Meaning, run_of}

-- of a fragment: its positions that aren't deposited, and its finish
abbrev pub lacking : Run → List Event → ℕ → ℕ
lacking run h f = ((outline run f).positions - length (deposited h f)) + (if is_finished h f then 0 else 1)

-- of all fragments
abbrev pub remaining : Run → List Event → ℕ
remaining run h = sum_below (length run.fragments) (lacking run h)

-- of a control
abbrev pub left_to_do : Meaning → Ledger → ℕ
left_to_do m c = remaining (run_of m) (reverse c.log)
