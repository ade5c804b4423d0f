-- A history lists the events of one scan, the latest first. All that stands here is computed from that list and from what
-- the scan is told at its start: which positions are deposited, which batches are out, who owns and holds what, which degree
-- is in force or pending, and where an event is allowed.
use Rattle.std.specs.Prelude.{ℕ, ◌<◌, ◌≤◌, Bool, true, false, List, [], ◌∷◌, ◌++◌, ◌==◌, if◌then◌else◌, ◌≡◌, ◌≢◌, ◌||◌, ◌&&◌, not, length, take, filter, nat_lt, Option, Some, None, unwrap_or}
use Rattle.std.proofs.Common.{zero, suc}
use Rattle.page_partition.specs.Counts.{count_of, has, numbers_from, sum_below, MakeUp}
use Rattle.page_partition.specs.Owners.{Divided}
use Rattle.adjust_protocol.specs.Free.{is_below}
use Rattle.adjust_protocol.specs.Moves.{Move, Seat, Claim, Settle, Divide, Leave, Collect, Uncollect, Ask}

-- what a scan is told at its start: how many positions it has, the degree, the least and the most that a claim may ask
-- for, and how it is divided
pub record Setting : Type 0 where
  pub positions : ℕ
  pub degree : ℕ
  pub least : ℕ
  pub most : ℕ
  pub owns : ℕ → ℕ → List Divided → ℕ → ℕ → Bool
  pub cut : ℕ → List ℕ → ℕ

-- the places of a role's last claim
abbrev pub last_claim : List Move → ℕ → List ℕ
last_claim [] role = []
last_claim (Claim r ps ∷ h) role = if r == role then ps else last_claim h role
last_claim (e ∷ h) role = last_claim h role

-- what is deposited, settle by settle: the beginning of what the role had claimed last, as long as the settle's count
abbrev pub deposited : List Move → List ℕ
deposited [] = []
deposited (Settle role count ∷ h) = deposited h ++ take count (last_claim h role)
deposited (e ∷ h) = deposited h

-- each position of the scan stands in the list once, and no other number does
abbrev pub Once : List ℕ → ℕ → Type 0
Once xs positions = (p : ℕ) → count_of p xs ≡ (if nat_lt p positions then 1 else 0)

-- the batch that a role has out: what it claimed last, if it hasn't settled since
abbrev pub out_in : List Move → ℕ → List ℕ
out_in [] role = []
out_in (Claim r ps ∷ h) role = if r == role then ps else out_in h role
out_in (Settle r count ∷ h) role = if r == role then [] else out_in h role
out_in (e ∷ h) role = out_in h role

-- whether a role is held: it was seated, and hasn't left since
abbrev pub held_in : List Move → ℕ → Bool
held_in [] role = false
held_in (Seat r ∷ h) role = if r == role then true else held_in h role
held_in (Leave r ∷ h) role = if r == role then false else held_in h role
held_in (e ∷ h) role = held_in h role

abbrev pub holders_in : List Move → ℕ
holders_in h = sum_below 64 (λ role. if held_in h role then 1 else 0)

-- the divides, each with what was deposited before it, the latest first
abbrev pub divides_in : List Move → List Divided
divides_in [] = []
divides_in (Divide degree cut ∷ h) = record { degree = degree; deposited = deposited h } ∷ divides_in h
divides_in (e ∷ h) = divides_in h

abbrev pub owns_in : Setting → List Move → ℕ → ℕ → Bool
owns_in S h role p = S.owns S.positions S.degree (divides_in h) role p

-- the degree in force: the last divide's, or the start's where there was none
abbrev pub degree_in : Setting → List Move → ℕ
degree_in S [] = S.degree
degree_in S (Divide degree cut ∷ h) = degree
degree_in S (e ∷ h) = degree_in S h

-- a scan is full where as many positions are deposited as there are
abbrev pub is_full_in : Setting → List Move → Bool
is_full_in S h = length (deposited h) == S.positions

-- the pending degree: what was asked for last, if the scan wasn't full then and that wasn't wanted already. It is gone once
-- the scan is divided or full. What is wanted is the pending degree, or the degree in force without one
abbrev pub pending_in : Setting → List Move → Option ℕ
pending_in S [] = None
pending_in S (Ask degree ∷ h) = if is_full_in S h || (degree == unwrap_or (pending_in S h) (degree_in S h)) then pending_in S h else Some degree
pending_in S (Divide degree cut ∷ h) = None
pending_in S (Settle r count ∷ h) = if is_full_in S (Settle r count ∷ h) then None else pending_in S h
pending_in S (e ∷ h) = pending_in S h

abbrev pub wanted_in : Setting → List Move → ℕ
wanted_in S h = unwrap_or (pending_in S h) (degree_in S h)

-- whether the scan is being collected: it was collected, and that wasn't undone since
abbrev pub is_collecting_in : List Move → Bool
is_collecting_in [] = false
is_collecting_in (Collect ∷ h) = true
is_collecting_in (Uncollect ∷ h) = false
is_collecting_in (e ∷ h) = is_collecting_in h

-- whether a position is out with one of the first n roles
unfoldable pub is_out_below : ℕ → List Move → ℕ → Bool
is_out_below zero h p = false
is_out_below (suc n) h p = is_out_below n h p || has p (out_in h n)

-- what is left for a role, in ascending order: what it owns, without what is deposited and what is out
abbrev pub left_in : Setting → List Move → ℕ → List ℕ
left_in S h role = filter (λ p. (owns_in S h role p && not (has p (deposited h))) && not (is_out_below 64 h p)) (numbers_from 0 S.positions)

-- whether a role can be seated: nobody holds it, and it has something left or a pending degree wants it
abbrev pub is_free_in : Setting → List Move → ℕ → Bool
is_free_in S h role = not (held_in h role) && (nat_lt 0 (length (left_in S h role)) || is_below (pending_in S h) role)

abbrev pub IsIdleIn : List Move → Type 0
IsIdleIn h = (role : ℕ) → role < 64 → out_in h role ≡ []

-- a scan is due to be divided once a degree is pending and every batch is back
abbrev pub IsDueIn : Setting → List Move → Type 0
IsDueIn S h = (pending_in S h ≢ None) × IsIdleIn h

-- a claim takes the first that are left, as many as it may ask for, or all of them where there are fewer
pub record MayClaimIn (S : Setting) (h : List Move) (role : ℕ) (ps : List ℕ) : Type 0 where
  pub below : role < 64
  pub held : held_in h role ≡ true
  pub idle : out_in h role ≡ []
  pub calm : pending_in S h ≡ None
  pub some : 0 < length (left_in S h role)
  pub first : (size : ℕ) × (S.least ≤ size) × (size ≤ S.most) × (ps ≡ take size (left_in S h role))

-- where an event is allowed after a history. When a scan is due, a divide and a leave alone are: a claim needs that no degree
-- is pending, and a settle that a batch is out
abbrev pub Allowed : Setting → List Move → Move → Type 0
Allowed S h (Seat role) = (IsDueIn S h → ⊥) × (role < 64) × (is_free_in S h role ≡ true) × ((q : ℕ) → q < role → is_free_in S h q ≡ false) × (holders_in h < wanted_in S h)
Allowed S h (Claim role ps) = MayClaimIn S h role ps
Allowed S h (Settle role count) = (role < 64) × (0 < length (out_in h role)) × (count ≤ length (out_in h role))
Allowed S h (Divide degree cut) = (pending_in S h ≡ Some degree) × IsIdleIn h × (cut ≡ S.cut S.positions (deposited h))
Allowed S h (Leave role) = (role < 64) × (held_in h role ≡ true) × (out_in h role ≡ [])
Allowed S h Collect = (IsDueIn S h → ⊥) × (is_full_in S h ≡ true) × (is_collecting_in h ≡ false)
Allowed S h Uncollect = (IsDueIn S h → ⊥) × (is_collecting_in h ≡ true)
Allowed S h (Ask degree) = (IsDueIn S h → ⊥) × (1 ≤ degree) × (degree ≤ 64)

-- each event is allowed after the events before it
abbrev pub IsLegal : Setting → List Move → Type 0
IsLegal S [] = Unit {0}
IsLegal S (e ∷ h) = Allowed S h e × IsLegal S h

-- what is deposited, out and left makes up the scan without a repeat
abbrev pub IsMadeUpIn : Setting → List Move → Type 0
IsMadeUpIn S h = MakeUp S.positions (deposited h) (out_in h) (left_in S h)
