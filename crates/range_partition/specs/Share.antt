use Rattle.std.specs.Prelude.{ℕ, ◌+◌, ◌*◌, ◌/◌, List, [], ◌∷◌, nat_le, if◌then◌else◌}
use Rattle.std.proofs.Common.{zero, suc}
use Rattle.page_partition.specs.declared.table.Mark.{Mark}
use Rattle.page_partition.specs.declared.table.Mark.TheVariants.{Left}
use Rattle.page_partition.specs.Scan.{is_deposited}

-- how many positions aren't deposited: the cut of a division by entries
abbrev pub undeposited : List Mark → ℕ
undeposited [] = 0
undeposited (m ∷ ms) = (if is_deposited m then 0 else 1) + undeposited ms

-- of r places divided among n roles, the place at which role j's share begins, and that of role j - 1 ends
abbrev pub share_start : ℕ → ℕ → ℕ → ℕ
share_start r n j = j * r / n

-- how many of the first roles have a share that ends at or before place k
abbrev pub ended : ℕ → ℕ → ℕ → ℕ → ℕ
ended zero r n k = 0
ended (suc j) r n k = ended j r n k + (if nat_le (share_start r n (j + 1)) k then 1 else 0)

-- the undeposited positions go to the roles in turn, by shares that are as even as can be
abbrev pub share_from : ℕ → ℕ → ℕ → List Mark → List Mark
share_from k r n [] = []
share_from k r n (m ∷ ms) = if is_deposited m then m ∷ share_from k r n ms else Left (ended n r n k) ∷ share_from (suc k) r n ms

abbrev pub share_marks : ℕ → List Mark → List Mark
share_marks n ms = share_from 0 (undeposited ms) n ms
