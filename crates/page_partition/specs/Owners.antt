use Rattle.std.specs.Prelude.{ℕ, ◌≡◌, ◌==◌, List, [], ◌∷◌, Bool}
use Rattle.std.proofs.Common.{suc}
use Rattle.page_partition.specs.declared.table.Mark.{Mark}
use Rattle.page_partition.specs.declared.table.Mark.TheVariants.{Left, Out, Deposited}
use Rattle.page_partition.specs.Scan.{is_deposited, places}
use Rattle.page_partition.specs.Counts.{has}

-- one divide of a scan: the degree that it divides to, and the positions that were deposited before it
pub record Divided : Type 0 where
  pub degree : ℕ
  pub deposited : List ℕ

-- a mark names the owner of its position
abbrev pub IsOwned : (ℕ → ℕ → Bool) → ℕ → Mark → Type 0
IsOwned owns p (Left q) = (role : ℕ) → owns role p ≡ (q == role)
IsOwned owns p (Out q) = (role : ℕ) → owns role p ≡ (q == role)
IsOwned owns p Deposited = Unit {0}

-- each mark of a list that begins at position p names the owner of its position
abbrev pub AllOwned : (ℕ → ℕ → Bool) → ℕ → List Mark → Type 0
AllOwned owns p [] = Unit {0}
AllOwned owns p (m ∷ ms) = IsOwned owns p m × AllOwned owns (suc p) ms

-- these positions are those marked as deposited, in whatever order
abbrev pub AreDeposited : List ℕ → List Mark → Type 0
AreDeposited xs ms = (p : ℕ) → has p xs ≡ has p (places is_deposited ms)
