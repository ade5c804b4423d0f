use Rattle.std.specs.Prelude.{ℕ, ◌%◌, Bool, List, [], ◌∷◌, ◌++◌, ◌==◌, nat_lt, nat_le, if◌then◌else◌}
use Rattle.page_partition.specs.Stride.{past}
use Rattle.page_partition.specs.Owners.{Divided}

-- the cut of a divide by pages: one past the greatest deposited page, or 0
abbrev pub page_cut_after : ℕ → List ℕ → ℕ
page_cut_after positions deposited = past deposited

-- the pairs whose start is below the cut
abbrev pub starts_below : ℕ → List (ℕ × ℕ) → List (ℕ × ℕ)
starts_below cut [] = []
starts_below cut (a ∷ pairs) = if nat_lt a.0 cut then a ∷ starts_below cut pairs else starts_below cut pairs

-- the pairs (start, degree) of a scan that began with a degree, after these divides, the latest first: a divide cuts off
-- what starts at its cut or above, and adds a pair of its own at the end
abbrev pub page_pairs : ℕ → List Divided → List (ℕ × ℕ)
page_pairs degree [] = (0, degree) ∷ []
page_pairs degree (d ∷ earlier) = starts_below (past d.deposited) (page_pairs degree earlier) ++ (past d.deposited, d.degree) ∷ []

-- a page's owner: the last pair that starts at the page or before it counts, and the owner is the page's number modulo
-- that pair's degree
abbrev pub owner_from : ℕ → List (ℕ × ℕ) → ℕ → ℕ
owner_from other [] p = other
owner_from other (a ∷ pairs) p = owner_from (if nat_le a.0 p then p % a.1 else other) pairs p

abbrev pub page_owner : List (ℕ × ℕ) → ℕ → ℕ
page_owner pairs p = owner_from 0 pairs p

abbrev pub page_owns : ℕ → ℕ → List Divided → ℕ → ℕ → Bool
page_owns positions degree divides role p = page_owner (page_pairs degree divides) p == role
