-- Byte strings that stand one behind the other in one buffer.
use Rattle.std.specs.Prelude.{◌≡◌, ℕ, zero, suc, ◌≤◌, List, [], ◌∷◌, slice_range}

-- the strings of a buffer: the first one begins at `from`, each ends at its place in `ends`, and the next one begins there
abbrev pub pieces : List ℕ → ℕ → List ℕ → List (List ℕ)
pieces bytes from [] = []
pieces bytes from (end ∷ ends) = slice_range bytes from end ∷ pieces bytes end ends

-- the ends ascend from `from`, and the last one is the end of so many bytes
abbrev pub Ascend : ℕ → List ℕ → ℕ → Type 0
Ascend from [] len = from ≡ len
Ascend from (end ∷ ends) len = (from ≤ end) × Ascend end ends len

-- where a string begins, of those whose first one begins at `from`
abbrev pub start_of : ℕ → List ℕ → ℕ → ℕ
start_of from [] number = from
start_of from (end ∷ ends) zero = from
start_of from (end ∷ ends) (suc number) = start_of end ends number
