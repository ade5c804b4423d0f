-- Worked examples: what histories of two fragments say of the first. Each is written in order, and turned round. The second
-- fragment is there only to finish, and so to give the first a degree.
use Rattle.std.proofs.Common.{◌≡◌, ℕ, Bool, true, false, List, [], ◌∷◌, ◌++◌, reverse, refl, Some, None}
use Rattle.page_partition.specs.Counts.{numbers_from}
use Rattle.io_cpu_scheduler.specs.declared.load.Decision.{Decision}
use Rattle.adjust_protocol.specs.History.{pending_in, is_out_below, wanted_in}
use Rattle.history.specs.declared.event.Event.{Event}
use Rattle.history.specs.declared.event.Event.TheVariants.{Begin, Seat, Claim, Settle, Divide, Finish}
use Rattle.history.specs.Outline.{Run}
use Rattle.history.specs.Projected.{deposited, moves_of}
use Rattle.history.specs.State.{setting, left, out, is_full}
use Rattle.page_partition.specs.PageOwner.{page_cut_after, page_pairs}
use Rattle.range_partition.specs.EntryOwner.{entry_cut_after}
use Rattle.history.specs.Projected.{divides}

abbrev worked_run : Bool → ℕ → Run
worked_run by_entries positions = record {
  fragments = (record { positions = positions; by_entries = by_entries; inputs = []; pages = 1; time = 1 }) ∷ (record { positions = 0; by_entries = false; inputs = []; pages = 1; time = 1 }) ∷ [];
  machine = record { backends = 4; drives = 4; batch = 8 };
  steps = [];
}

abbrev one : ℕ → ℕ → Decision
one f n = record { first = Some (record { fragment = f; degree = n }); second = None }

-- the first fragment begins with so many, then this happens, then it is given a degree
abbrev after : ℕ → List Event → List Event → List Event
after n events later = reverse (Begin (record { first = Some (record { fragment = 0; degree = n }); second = Some (record { fragment = 1; degree = 1 }) }) ∷ events ++ later)

-- pages, from two roles to three: the cut is behind the greatest page that is deposited
abbrev by_pages_to_three : List Event
by_pages_to_three = after 2 (Claim 0 0 (0 ∷ 2 ∷ 4 ∷ []) ∷ Settle 0 0 3 ∷ Claim 0 1 (1 ∷ 3 ∷ 5 ∷ 7 ∷ []) ∷ Settle 0 1 4 ∷ []) (Finish 1 (one 0 3) ∷ Divide 0 3 8 ∷ [])

by_pages_to_three_pending : pending_in (setting (worked_run false 20) (after 2 [] (Finish 1 (one 0 3) ∷ [])) 0) (moves_of (after 2 [] (Finish 1 (one 0 3) ∷ [])) 0) ≡ Some 3
by_pages_to_three_pending = refl

by_pages_to_three_cut : page_cut_after 20 (deposited by_pages_to_three 0) ≡ 8
by_pages_to_three_cut = refl

by_pages_to_three_left : (left (worked_run false 20) by_pages_to_three 0 0 ≡ 6 ∷ 9 ∷ 12 ∷ 15 ∷ 18 ∷ []) × (left (worked_run false 20) by_pages_to_three 0 1 ≡ 10 ∷ 13 ∷ 16 ∷ 19 ∷ []) × (left (worked_run false 20) by_pages_to_three 0 2 ≡ 8 ∷ 11 ∷ 14 ∷ 17 ∷ [])
unfolding is_out_below
by_pages_to_three_left = (refl, refl, refl)

-- a divide before any deposit
abbrev before_any_deposit : List Event
before_any_deposit = after 2 [] (Finish 1 (one 0 3) ∷ Divide 0 3 0 ∷ [])

before_any_deposit_is : (page_cut_after 5 (deposited before_any_deposit 0) ≡ 0) × (page_pairs 2 (divides before_any_deposit 0) ≡ (0, 3) ∷ []) × (wanted_in (setting (worked_run false 5) before_any_deposit 0) (moves_of before_any_deposit 0) ≡ 3)
before_any_deposit_is = (refl, refl, refl)

-- a second finish that gives 3 changes nothing
before_any_deposit_again : pending_in (setting (worked_run false 5) (Finish 1 (one 0 3) ∷ before_any_deposit) 0) (moves_of (Finish 1 (one 0 3) ∷ before_any_deposit) 0) ≡ None
before_any_deposit_again = refl

-- from five roles to one: retiring roles keep their pages below the cut
abbrev to_one_role : List Event
to_one_role = after 5 (Claim 0 0 (0 ∷ 5 ∷ 10 ∷ []) ∷ Settle 0 0 3 ∷ []) (Finish 1 (one 0 1) ∷ Divide 0 1 11 ∷ [])

to_one_role_is : (page_cut_after 12 (deposited to_one_role 0) ≡ 11) × (left (worked_run false 12) to_one_role 0 0 ≡ 11 ∷ []) × (left (worked_run false 12) to_one_role 0 1 ≡ 1 ∷ 6 ∷ []) × (left (worked_run false 12) to_one_role 0 2 ≡ 2 ∷ 7 ∷ [])
    × (left (worked_run false 12) to_one_role 0 3 ≡ 3 ∷ 8 ∷ []) × (left (worked_run false 12) to_one_role 0 4 ≡ 4 ∷ 9 ∷ [])
unfolding is_out_below
to_one_role_is = (refl, refl, refl, refl, refl, refl)

-- entries, from two roles to three: equal shares of what is not deposited
abbrev by_entries_to_three : List Event
by_entries_to_three = after 2 (Claim 0 0 (0 ∷ 1 ∷ []) ∷ Settle 0 0 2 ∷ Claim 0 1 (5 ∷ []) ∷ Settle 0 1 1 ∷ []) (Finish 1 (one 0 3) ∷ Divide 0 3 7 ∷ [])

by_entries_to_three_is : (entry_cut_after 10 (deposited by_entries_to_three 0) ≡ 7) × (left (worked_run true 10) by_entries_to_three 0 0 ≡ 2 ∷ 3 ∷ []) × (left (worked_run true 10) by_entries_to_three 0 1 ≡ 4 ∷ 6 ∷ []) × (left (worked_run true 10) by_entries_to_three 0 2 ≡ 7 ∷ 8 ∷ 9 ∷ [])
unfolding is_out_below
by_entries_to_three_is = (refl, refl, refl, refl)

-- the degree is pending until the batch is back
abbrev while_a_batch_is_out : List Event
while_a_batch_is_out = after 1 (Seat 0 0 0 ∷ Claim 0 0 (numbers_from 0 8) ∷ Finish 1 (one 0 2) ∷ []) []

while_a_batch_is_out_is : (left (worked_run false 20) (after 1 (Seat 0 0 0 ∷ []) []) 0 0 ≡ numbers_from 0 20) × (pending_in (setting (worked_run false 20) while_a_batch_is_out 0) (moves_of while_a_batch_is_out 0) ≡ Some 2) × (out while_a_batch_is_out 0 0 ≡ numbers_from 0 8)
    × (page_cut_after 20 (deposited (Settle 0 0 3 ∷ while_a_batch_is_out) 0) ≡ 3)
    × (left (worked_run false 20) (Divide 0 2 3 ∷ Settle 0 0 3 ∷ while_a_batch_is_out) 0 0 ≡ 4 ∷ 6 ∷ 8 ∷ 10 ∷ 12 ∷ 14 ∷ 16 ∷ 18 ∷ [])
    × (left (worked_run false 20) (Divide 0 2 3 ∷ Settle 0 0 3 ∷ while_a_batch_is_out) 0 1 ≡ 3 ∷ 5 ∷ 7 ∷ 9 ∷ 11 ∷ 13 ∷ 15 ∷ 17 ∷ 19 ∷ [])
unfolding is_out_below
while_a_batch_is_out_is = (refl, refl, refl, refl, refl, refl)

-- nothing is left for role 1
abbrev to_fewer_roles : List Event
to_fewer_roles = after 2 (Seat 0 0 0 ∷ Seat 1 0 1 ∷ Claim 0 0 (0 ∷ []) ∷ Finish 1 (one 0 1) ∷ []) []

to_fewer_roles_is : (pending_in (setting (worked_run false 4) to_fewer_roles 0) (moves_of to_fewer_roles 0) ≡ Some 1) × (page_cut_after 4 (deposited (Settle 0 0 1 ∷ to_fewer_roles) 0) ≡ 1)
    × (left (worked_run false 4) (Divide 0 1 1 ∷ Settle 0 0 1 ∷ to_fewer_roles) 0 1 ≡ []) × (is_full (worked_run false 4) (Divide 0 1 1 ∷ Settle 0 0 1 ∷ to_fewer_roles) 0 ≡ false)
unfolding is_out_below
to_fewer_roles_is = (refl, refl, refl, refl)

-- a scan without positions is full when it begins, and a degree that it is given doesn't become pending
without_positions_is : (is_full (worked_run false 0) (after 1 [] []) 0 ≡ true) × (left (worked_run false 0) (after 1 [] []) 0 0 ≡ []) × (pending_in (setting (worked_run false 0) (after 1 [] (Finish 1 (one 0 2) ∷ [])) 0) (moves_of (after 1 [] (Finish 1 (one 0 2) ∷ [])) 0) ≡ None)
unfolding is_out_below
without_positions_is = (refl, refl, refl)

-- entries: what a batch gives back is shared anew
abbrev batch_given_back : List Event
batch_given_back = after 1 (Seat 0 0 0 ∷ Claim 0 0 (numbers_from 0 8) ∷ Finish 1 (one 0 3) ∷ Settle 0 0 2 ∷ []) []

batch_given_back_is : (entry_cut_after 10 (deposited batch_given_back 0) ≡ 8) × (left (worked_run true 10) (Divide 0 3 8 ∷ batch_given_back) 0 0 ≡ 2 ∷ 3 ∷ []) × (left (worked_run true 10) (Divide 0 3 8 ∷ batch_given_back) 0 1 ≡ 4 ∷ 5 ∷ 6 ∷ []) × (left (worked_run true 10) (Divide 0 3 8 ∷ batch_given_back) 0 2 ≡ 7 ∷ 8 ∷ 9 ∷ [])
unfolding is_out_below
batch_given_back_is = (refl, refl, refl, refl)

-- what becomes full has no pending degree any more
abbrev batch_that_fills : List Event
batch_that_fills = after 1 (Seat 0 0 0 ∷ Claim 0 0 (numbers_from 0 3) ∷ Finish 1 (one 0 2) ∷ []) []

batch_that_fills_is : (pending_in (setting (worked_run false 3) batch_that_fills 0) (moves_of batch_that_fills 0) ≡ Some 2) × (pending_in (setting (worked_run false 3) (Settle 0 0 3 ∷ batch_that_fills) 0) (moves_of (Settle 0 0 3 ∷ batch_that_fills) 0) ≡ None) × (is_full (worked_run false 3) (Settle 0 0 3 ∷ batch_that_fills) 0 ≡ true)
batch_that_fills_is = (refl, refl, refl)
