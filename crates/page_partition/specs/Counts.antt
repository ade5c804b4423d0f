use Rattle.std.specs.Prelude.{ℕ, ◌+◌, Bool, false, List, [], ◌∷◌, ◌==◌, ◌||◌, ◌≡◌, if◌then◌else◌, nat_lt, length}
use Rattle.std.proofs.Common.{zero, suc}
use Rattle.page_partition.specs.declared.table.Mark.{Mark}
use Rattle.page_partition.specs.Scan.{is_deposited, places, left_of, out_of}

-- how often a number stands in a list
abbrev pub count_of : ℕ → List ℕ → ℕ
count_of p [] = 0
count_of p (q ∷ xs) = (if q == p then 1 else 0) + count_of p xs

-- whether a number stands in a list
abbrev pub has : ℕ → List ℕ → Bool
has p [] = false
has p (q ∷ xs) = q == p || has p xs

-- the numbers from p on, n of them
abbrev pub numbers_from : ℕ → ℕ → List ℕ
numbers_from p zero = []
numbers_from p (suc n) = p ∷ numbers_from (suc p) n

-- the sum of what a function gives at the numbers below n
unfoldable pub sum_below : ℕ → (ℕ → ℕ) → ℕ
sum_below zero f = 0
sum_below (suc n) f = sum_below n f + f n

-- each position below the number of positions stands once among those deposited, those out with some role and those
-- left for some role, and nothing else stands there
abbrev pub MakeUp : ℕ → List ℕ → (ℕ → List ℕ) → (ℕ → List ℕ) → Type 0
MakeUp positions deposited out left =
    (p : ℕ) → count_of p deposited + sum_below 64 (λ r. count_of p (out r)) + sum_below 64 (λ r. count_of p (left r)) ≡ (if nat_lt p positions then 1 else 0)

-- what is deposited, out and left makes up the scan without a repeat
abbrev pub IsMadeUp : List Mark → Type 0
IsMadeUp ms = MakeUp (length ms) (places is_deposited ms) (out_of ms) (left_of ms)
