-- What a pass carries with its turn.
use Rattle.std.specs.Prelude.{ℕ, List, [], ◌∷◌, Option, Some, None}

-- with the turn it has the slot, from which the value was lifted out
abbrev pub carried : {F : Type 0} → Option ℕ → List (ℕ × Option F)
carried None = []
carried (Some n) = (0, None) ∷ []
