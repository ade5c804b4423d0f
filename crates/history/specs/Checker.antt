-- A test of histories: it answers true for legal ones alone.
use Rattle.std.specs.Prelude.{ℕ, Bool, true, false, List, [], ◌∷◌, ◌==◌, ◌&&◌, ◌||◌, not, nat_lt, nat_le, length, take, Option, Some, None, is_some}
use Rattle.std.proofs.Common.{zero, suc}
use Rattle.io_cpu_scheduler.specs.declared.load.Part.{Part}
use Rattle.io_cpu_scheduler.specs.declared.load.Decision.{Decision}
use Rattle.io_cpu_scheduler.specs.Decisions.{nothing}
use Rattle.adjust_protocol.specs.History.{Setting, out_in, held_in, left_in, pending_in, is_free_in, holders_in, wanted_in, deposited}
use Rattle.adjust_protocol.specs.Moves.{Move}
use Rattle.history.specs.declared.event.Event.{Event}
use Rattle.history.specs.declared.event.Event.TheVariants as event
use Rattle.history.specs.Outline.{Run}
use Rattle.history.specs.Projected.{runs, moves_of}
use Rattle.history.specs.State.{setting, is_full, is_collecting, decision_after}

abbrev pub all_below : ℕ → (ℕ → Bool) → Bool
all_below zero t = true
all_below (suc n) t = all_below n t && t n

abbrev pub some_below : ℕ → (ℕ → Bool) → Bool
some_below zero t = false
some_below (suc n) t = some_below n t || t n

abbrev pub is_empty : List ℕ → Bool
is_empty [] = true
is_empty (x ∷ xs) = false

abbrev pub same_list : List ℕ → List ℕ → Bool
same_list [] [] = true
same_list [] (y ∷ ys) = false
same_list (x ∷ xs) [] = false
same_list (x ∷ xs) (y ∷ ys) = (x == y) && same_list xs ys

abbrev pub is_number : Option ℕ → ℕ → Bool
is_number None n = false
is_number (Some m) n = m == n

abbrev pub same_part : Option Part → Option Part → Bool
same_part None None = true
same_part None (Some q) = false
same_part (Some p) None = false
same_part (Some p) (Some q) = (p.fragment == q.fragment) && (p.degree == q.degree)

abbrev pub same_decision : Decision → Decision → Bool
same_decision d e = same_part d.first e.first && same_part d.second e.second

abbrev pub is_idle : List Move → Bool
is_idle xs = all_below 64 (λ r. is_empty (out_in xs r))

abbrev pub is_due : Run → List Event → ℕ → Bool
is_due run h f = is_some (pending_in (setting run h f) (moves_of h f)) && is_idle (moves_of h f)

abbrev pub none_due : Run → List Event → Bool
none_due run h = all_below (length run.fragments) (λ g. not (is_due run h g))

abbrev pub others_calm : Run → List Event → ℕ → Bool
others_calm run h f = all_below (length run.fragments) (λ g. (g == f) || not (is_due run h g))

abbrev pub is_open : Run → List Event → ℕ → Bool
is_open run h f = (runs h f && is_full run h f) && not (is_collecting h f)

abbrev pub none_open : Run → List Event → Bool
none_open run h = all_below (length run.fragments) (λ g. not (is_open run h g))

abbrev pub is_free : Run → List Event → ℕ → ℕ → Bool
is_free run h f role = is_free_in (setting run h f) (moves_of h f) role

abbrev pub may_seat : Run → List Event → ℕ → Bool
may_seat run h f = (runs h f && some_below 64 (is_free run h f)) && nat_lt (holders_in (moves_of h f)) (wanted_in (setting run h f) (moves_of h f))

abbrev pub is_lowest : Run → (ℕ → Bool) → ℕ → Bool
is_lowest run t f = (nat_lt f (length run.fragments) && t f) && all_below f (λ g. not (t g))

abbrev pub may_claim : Setting → List Move → ℕ → List ℕ → Bool
may_claim S xs role ps =
    (((nat_lt role 64 && held_in xs role) && (is_empty (out_in xs role) && not (is_some (pending_in S xs)))) && nat_lt 0 (length (left_in S xs role))) && same_list ps (take S.most (left_in S xs role))

abbrev pub may_settle : List Move → ℕ → ℕ → Bool
may_settle xs role count = (nat_lt role 64 && nat_lt 0 (length (out_in xs role))) && nat_le count (length (out_in xs role))

abbrev pub may_divide : Setting → List Move → ℕ → ℕ → Bool
may_divide S xs degree cut = (is_number (pending_in S xs) degree && is_idle xs) && (cut == S.cut S.positions (deposited xs))

abbrev pub may_leave : List Move → ℕ → Bool
may_leave xs role = (nat_lt role 64 && held_in xs role) && is_empty (out_in xs role)

abbrev pub is_start : List Event → Bool
is_start [] = true
is_start (e ∷ h) = false

abbrev pub is_one : Run → ℕ → Bool
is_one run f = nat_lt f (length run.fragments)

abbrev pub permits : Run → List Event → Event → Bool
permits run h (event.Begin d) = is_start h && same_decision d (decision_after run [])
permits run h (event.Seat backend f role) = ((none_due run h && none_open run h) && is_lowest run (may_seat run h) f) && ((nat_lt role 64 && is_free run h f role) && all_below role (λ q. not (is_free run h f q)))
permits run h (event.Claim f role ps) = (none_due run h && is_one run f) && may_claim (setting run h f) (moves_of h f) role ps
permits run h (event.Settle f role count) = (none_due run h && is_one run f) && may_settle (moves_of h f) role count
permits run h (event.Divide f degree cut) = (others_calm run h f && is_one run f) && may_divide (setting run h f) (moves_of h f) degree cut
permits run h (event.Leave f role) = (others_calm run h f && is_one run f) && may_leave (moves_of h f) role
permits run h (event.Collect backend f) = none_due run h && is_lowest run (is_open run h) f
permits run h (event.Uncollect f) = (none_due run h && is_one run f) && is_collecting h f
permits run h (event.Finish f d) = (none_due run h && is_one run f) && (is_collecting h f && same_decision d (decision_after run (event.Finish f nothing ∷ h)))

abbrev pub is_legal : Run → List Event → Bool
is_legal run [] = true
is_legal run (e ∷ h) = permits run h e && is_legal run h
