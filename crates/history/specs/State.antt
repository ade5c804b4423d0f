-- The state of each fragment of a run after a history, and what is to run.
use Rattle.std.specs.Prelude.{ℕ, ◌+◌, ◌<◌, Bool, true, false, List, [], ◌∷◌, ◌≡◌, ◌&&◌, not, length, map, filter, Option, unwrap_or, is_some}
use Rattle.std.specs.List.{list_all}
use Rattle.rows.specs.declared.plain.Machine.{Machine}
use Rattle.io_cpu_scheduler.specs.declared.load.Load.{Load}
use Rattle.io_cpu_scheduler.specs.declared.load.Decision.{Decision}
use Rattle.io_cpu_scheduler.specs.Decisions.{decision}
use Rattle.io_cpu_scheduler.specs.Steps.{machine_at}
use Rattle.page_partition.specs.Counts.{numbers_from}
use Rattle.page_partition.specs.Owners.{Divided}
use Rattle.page_partition.specs.PageOwner.{page_owns, page_cut_after}
use Rattle.range_partition.specs.EntryOwner.{entry_owns, entry_cut_after}
use Rattle.adjust_protocol.specs.History.{Setting, held_in, out_in, left_in, is_free_in, holders_in, pending_in, wanted_in, is_full_in, is_collecting_in, IsDueIn}
use Rattle.history.specs.declared.event.Event.{Event}
use Rattle.history.specs.declared.event.Event.TheVariants as event
use Rattle.history.specs.Outline.{Run, outline}
use Rattle.history.specs.Projected.{begun, is_finished, runs, moves_of, divides}

-- pages are owned by number modulo the degree, entries by even shares
abbrev pub owns_by : Bool → ℕ → ℕ → List Divided → ℕ → ℕ → Bool
owns_by false = page_owns
owns_by true = entry_owns

abbrev pub cut_by : Bool → ℕ → List ℕ → ℕ
cut_by false = page_cut_after
cut_by true = entry_cut_after

-- the scan of a fragment that began with this degree. Every claim takes the machine's batch, or what is left
abbrev pub setting_from : Run → ℕ → Option ℕ → Setting
setting_from run f degree = record {
  positions = (outline run f).positions;
  degree = unwrap_or degree 1;
  least = run.machine.batch;
  most = run.machine.batch;
  owns = owns_by (outline run f).by_entries;
  cut = cut_by (outline run f).by_entries;
}

abbrev pub setting : Run → List Event → ℕ → Setting
setting run h f = setting_from run f (begun h f)

-- whether a role owns a position of a fragment under the division in force
abbrev pub owns : Run → List Event → ℕ → ℕ → ℕ → Bool
owns run h f role p = owns_by (outline run f).by_entries (outline run f).positions (unwrap_or (begun h f) 1) (divides h f) role p

abbrev pub is_full : Run → List Event → ℕ → Bool
is_full run h f = is_full_in (setting run h f) (moves_of h f)

abbrev pub is_collecting : List Event → ℕ → Bool
is_collecting h f = is_collecting_in (moves_of h f)

abbrev pub held : List Event → ℕ → ℕ → Bool
held h f role = held_in (moves_of h f) role

abbrev pub out : List Event → ℕ → ℕ → List ℕ
out h f role = out_in (moves_of h f) role

abbrev pub left : Run → List Event → ℕ → ℕ → List ℕ
left run h f role = left_in (setting run h f) (moves_of h f) role

abbrev pub pending : Run → List Event → ℕ → Option ℕ
pending run h f = pending_in (setting run h f) (moves_of h f)

abbrev pub wanted : Run → List Event → ℕ → ℕ
wanted run h f = wanted_in (setting run h f) (moves_of h f)

-- a degree is pending and no batch is out
abbrev pub IsDue : Run → List Event → ℕ → Type 0
IsDue run h f = IsDueIn (setting run h f) (moves_of h f)

-- a running fragment whose scan is done, and that nobody collects
abbrev pub IsOpen : Run → List Event → ℕ → Type 0
IsOpen run h f = (runs h f ≡ true) × (is_full run h f ≡ true) × (is_collecting h f ≡ false)

-- a running fragment with a free role and fewer held ones than it wants
abbrev pub MaySeat : Run → List Event → ℕ → Type 0
MaySeat run h f =
    (runs h f ≡ true)
    × ((role : ℕ) × (role < 64) × (is_free_in (setting run h f) (moves_of h f) role ≡ true))
    × (holders_in (moves_of h f) < wanted_in (setting run h f) (moves_of h f))

-- a fragment is ready where it hasn't begun and all its inputs are finished
abbrev pub is_ready : Run → List Event → ℕ → Bool
is_ready run h f = not (is_some (begun h f)) && list_all (λ g. is_finished h g) (outline run f).inputs

abbrev pub load_of : Run → ℕ → Load
load_of run f = record { fragment = f; pages = (outline run f).pages; time = (outline run f).time }

abbrev pub running_loads : Run → List Event → List Load
running_loads run h = map (λ f. load_of run f) (filter (λ f. runs h f) (numbers_from 0 (length run.fragments)))

abbrev pub ready_loads : Run → List Event → List Load
ready_loads run h = map (λ f. load_of run f) (filter (λ f. is_ready run h f) (numbers_from 0 (length run.fragments)))

abbrev pub finishes : List Event → ℕ
finishes [] = 0
finishes (event.Finish g d ∷ h) = finishes h + 1
finishes (e ∷ h) = finishes h

abbrev pub machine_after : Run → List Event → Machine
machine_after run h = machine_at run.machine run.steps (finishes h)

-- the decision after a history
abbrev pub decision_after : Run → List Event → Decision
decision_after run h = decision (machine_after run h) (running_loads run h) (ready_loads run h)
