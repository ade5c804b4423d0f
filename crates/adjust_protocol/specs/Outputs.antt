use Rattle.std.specs.Prelude.{ℕ, List, [], ◌∷◌, ◌≡◌, Option, Some, None, map, slice_set, is_some}
use Rattle.page_partition.specs.declared.table.Mark.{Mark}
use Rattle.page_partition.specs.Scan.{is_deposited}

-- the values there are, in order of place
abbrev pub present : {T : Type 0} → List (Option T) → List T
present [] = []
present (None ∷ xs) = present xs
present (Some x ∷ xs) = x ∷ present xs

-- each output at its position; places without an output stay
abbrev pub put_outputs : {T : Type 0} → List ℕ → List T → List (Option T) → List (Option T)
put_outputs ps [] slots = slots
put_outputs [] (x ∷ xs) slots = slots
put_outputs (p ∷ ps) (x ∷ xs) slots = put_outputs ps xs (slice_set slots p (Some x))

-- an output is kept exactly of each deposited position
abbrev pub IsFilled : {T : Type 0} → List (Option T) → List Mark → Type 0
IsFilled slots ms = map is_some slots ≡ map is_deposited ms
