-- Histories that wrong bodies would leave, each refused at its last event. They begin as the run of the example does.
use Rattle.std.proofs.Common.{◌≡◌, false, List, [], ◌∷◌, ◌++◌, reverse, refl, None}
use Rattle.page_partition.specs.Counts.{sum_below}
use Rattle.io_cpu_scheduler.specs.Decisions.{decision, nothing}
use Rattle.io_cpu_scheduler.specs.Degrees.{gap, balance_of}
use Rattle.io_cpu_scheduler.specs.Loads.{extreme, lowest}
use Rattle.adjust_protocol.specs.History.{is_out_below}
use Rattle.history.specs.declared.event.Event.{Event}
use Rattle.history.specs.declared.event.Event.TheVariants.{Begin, Seat, Claim, Settle, Divide, Leave, Collect, Finish}
use Rattle.history.specs.Allowed.{IsLegal}
use Rattle.history.specs.Checker.{is_legal}
use Rattle.history.proofs.CheckerComplete.{refused}
use Rattle.history.proofs.Example.{worked_run, part}

abbrev until_collect : List Event
until_collect =
    Begin (record { first = part 0 1; second = part 1 1 }) ∷ Seat 0 0 0 ∷ Seat 1 1 0 ∷ Claim 0 0 (0 ∷ []) ∷ Claim 1 0 (0 ∷ 1 ∷ []) ∷ Settle 0 0 1 ∷ Collect 0 0 ∷ []

abbrev asked : List Event
asked = until_collect ++ Finish 0 (record { first = part 1 2; second = None }) ∷ []

-- a finish whose decision doesn't count it, or that asks nobody
asks_nobody : is_legal worked_run (reverse (until_collect ++ Finish 0 nothing ∷ [])) ≡ false
unfolding is_out_below sum_below decision gap balance_of extreme lowest
asks_nobody = refl

-- a divide with a batch out
divides_early : is_legal worked_run (reverse (asked ++ Divide 1 2 0 ∷ [])) ≡ false
unfolding is_out_below sum_below decision gap balance_of extreme lowest
divides_early = refl

-- a due fragment isn't divided
divides_late : is_legal worked_run (reverse (asked ++ Settle 1 0 1 ∷ Seat 0 1 1 ∷ [])) ≡ false
unfolding is_out_below sum_below decision gap balance_of extreme lowest
divides_late = refl

-- the cut takes the least reported page
least_cut : is_legal worked_run (reverse (asked ++ Settle 1 0 1 ∷ Divide 1 2 0 ∷ [])) ≡ false
unfolding is_out_below sum_below decision gap balance_of extreme lowest
least_cut = refl

abbrev divided : List Event
divided = asked ++ Settle 1 0 1 ∷ Divide 1 2 1 ∷ Leave 0 0 ∷ Seat 0 1 1 ∷ []

-- the next page of one shared counter: page 1 is role 1's
shared_counter : is_legal worked_run (reverse (divided ++ Claim 1 0 (1 ∷ []) ∷ [])) ≡ false
unfolding is_out_below sum_below decision gap balance_of extreme lowest
shared_counter = refl

-- what is given back comes first again: role 1 may claim 1 and 3, and not 3 alone
not_the_first : is_legal worked_run (reverse (divided ++ Claim 1 1 (3 ∷ []) ∷ [])) ≡ false
unfolding is_out_below sum_below decision gap balance_of extreme lowest
not_the_first = refl

-- more is settled than was claimed
settles_more : is_legal worked_run (reverse (divided ++ Claim 1 1 (1 ∷ 3 ∷ []) ∷ Settle 1 1 3 ∷ [])) ≡ false
unfolding is_out_below sum_below decision gap balance_of extreme lowest
settles_more = refl

-- so it isn't legal
pub not_legal : IsLegal worked_run (reverse (asked ++ Settle 1 0 1 ∷ Divide 1 2 0 ∷ [])) → ⊥
not_legal = refused worked_run (reverse (asked ++ Settle 1 0 1 ∷ Divide 1 2 0 ∷ [])) least_cut
