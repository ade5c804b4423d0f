use Rattle.std.specs.Prelude.{ℕ, ◌+◌, ◌-◌, ◌*◌, ◌/◌, Bool, not, List, [], ◌∷◌, length, take, drop, filter}
use Rattle.page_partition.specs.Counts.{has, numbers_from}
use Rattle.page_partition.specs.Owners.{Divided}

-- the positions of a scan that aren't among those deposited, ascending
abbrev pub undeposited_after : ℕ → List ℕ → List ℕ
undeposited_after positions deposited = filter (λ p. not (has p deposited)) (numbers_from 0 positions)

-- the cut of a divide by entries: how many positions aren't deposited
abbrev pub entry_cut_after : ℕ → List ℕ → ℕ
entry_cut_after positions deposited = length (undeposited_after positions deposited)

-- the items of a list from place a up to, not including, place b
abbrev pub slice : List ℕ → ℕ → ℕ → List ℕ
slice u a b = take (b - a) (drop a u)

-- the share of role j when the positions u are dealt out among n roles: it begins at place j * r / n, where r is their
-- number, and ends before place (j + 1) * r / n
abbrev pub share_of : List ℕ → ℕ → ℕ → List ℕ
share_of u n j = slice u (j * length u / n) ((j + 1) * length u / n)

-- whether a role owns an entry, of a scan that began with a degree, after these divides, the latest first: it stands in
-- the role's share of the entries that weren't deposited at the latest divide, or at the start
abbrev pub entry_owns : ℕ → ℕ → List Divided → ℕ → ℕ → Bool
entry_owns positions degree [] role p = has p (share_of (undeposited_after positions []) degree role)
entry_owns positions degree (d ∷ earlier) role p = has p (share_of (undeposited_after positions d.deposited) d.degree role)
