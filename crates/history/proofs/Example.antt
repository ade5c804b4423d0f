-- A whole run of two fragments on two backends. The first is bound by its drive and the second by the processors, so they
-- run side by side; once the first is finished the second is given both backends, and is divided when its batch is back.
use Rattle.std.proofs.Common.{◌≡◌, ℕ, true, false, List, [], ◌∷◌, reverse, refl, Option, Some, None}
use Rattle.page_partition.specs.Counts.{sum_below}
use Rattle.io_cpu_scheduler.specs.declared.load.Part.{Part}
use Rattle.io_cpu_scheduler.specs.Decisions.{decision, nothing}
use Rattle.io_cpu_scheduler.specs.Degrees.{gap, balance_of}
use Rattle.io_cpu_scheduler.specs.Loads.{extreme, lowest}
use Rattle.adjust_protocol.specs.History.{is_out_below}
use Rattle.history.specs.declared.event.Event.{Event}
use Rattle.history.specs.declared.event.Event.TheVariants.{Begin, Seat, Claim, Settle, Divide, Leave, Collect, Finish, Uncollect}
use Rattle.history.specs.Outline.{Run}
use Rattle.history.specs.Projected.{deposited}
use Rattle.history.specs.Allowed.{IsLegal}
use Rattle.history.specs.Checker.{is_legal}
use Rattle.history.proofs.CheckerSound.{checked}

abbrev pub worked_run : Run
worked_run = record {
  fragments = (record { positions = 1; by_entries = false; inputs = []; pages = 1; time = 10 }) ∷ (record { positions = 4; by_entries = false; inputs = []; pages = 4; time = 1000 }) ∷ [];
  machine = record { backends = 2; drives = 1; batch = 2 };
  steps = [];
}

abbrev pub part : ℕ → ℕ → Option Part
part f n = Some (record { fragment = f; degree = n })

abbrev events : List Event
events =
    Begin (record { first = part 0 1; second = part 1 1 })
    ∷ Seat 0 0 0
    ∷ Seat 1 1 0
    ∷ Claim 0 0 (0 ∷ [])
    ∷ Claim 1 0 (0 ∷ 1 ∷ [])
    ∷ Settle 0 0 1
    ∷ Collect 0 0
    ∷ Finish 0 (record { first = part 1 2; second = None })
    ∷ Settle 1 0 1
    ∷ Divide 1 2 1
    ∷ Leave 0 0
    ∷ Seat 0 1 1
    ∷ Claim 1 1 (1 ∷ 3 ∷ [])
    ∷ Claim 1 0 (2 ∷ [])
    ∷ Settle 1 1 2
    ∷ Settle 1 0 1
    ∷ Leave 1 0
    ∷ Leave 1 1
    ∷ Collect 1 1
    ∷ Finish 1 nothing
    ∷ []

is_accepted : is_legal worked_run (reverse events) ≡ true
unfolding is_out_below sum_below decision gap balance_of extreme lowest
is_accepted = refl

pub is_legal_run : IsLegal worked_run (reverse events)
is_legal_run = checked worked_run (reverse events) is_accepted

deposits : (deposited (reverse events) 0 ≡ 0 ∷ []) × (deposited (reverse events) 1 ≡ 0 ∷ 1 ∷ 3 ∷ 2 ∷ [])
deposits = (refl, refl)

-- One backend, and four from the first finish on. The second fragment reads entries, and the answer of the first. A batch is
-- given back whole, a collect is undone, and roles are left after the last finish.
abbrev pub run_2 : Run
run_2 = record {
  fragments = (record { positions = 1; by_entries = false; inputs = []; pages = 1; time = 10 }) ∷ (record { positions = 3; by_entries = true; inputs = 0 ∷ []; pages = 1; time = 1000 }) ∷ [];
  machine = record { backends = 1; drives = 1; batch = 2 };
  steps = (record { after = 1; backends = 4 }) ∷ [];
}

abbrev events_2 : List Event
events_2 =
    Begin (record { first = part 0 1; second = None })
    ∷ Seat 0 0 0
    ∷ Claim 0 0 (0 ∷ [])
    ∷ Settle 0 0 0
    ∷ Leave 0 0
    ∷ Seat 1 0 0
    ∷ Claim 0 0 (0 ∷ [])
    ∷ Settle 0 0 1
    ∷ Collect 1 0
    ∷ Uncollect 0
    ∷ Collect 0 0
    ∷ Finish 0 (record { first = part 1 4; second = None })
    ∷ Leave 0 0
    ∷ Seat 0 1 1
    ∷ Claim 1 1 (0 ∷ [])
    ∷ Settle 1 1 1
    ∷ Leave 1 1
    ∷ Seat 0 1 2
    ∷ Claim 1 2 (1 ∷ [])
    ∷ Settle 1 2 1
    ∷ Seat 1 1 3
    ∷ Claim 1 3 (2 ∷ [])
    ∷ Settle 1 3 1
    ∷ Collect 0 1
    ∷ Finish 1 nothing
    ∷ Leave 1 2
    ∷ Leave 1 3
    ∷ []

is_accepted_2 : is_legal run_2 (reverse events_2) ≡ true
unfolding is_out_below sum_below decision gap balance_of extreme lowest
is_accepted_2 = refl
