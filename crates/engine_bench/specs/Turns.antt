-- The log of a number of turns.
use Rattle.std.specs.Prelude.{ℕ, List, replicate}

-- one entry a turn
abbrev pub entries : ℕ → List (Unit {0})
entries turns = replicate turns tt
