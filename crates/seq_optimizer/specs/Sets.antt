-- Sets of variables by their numbers: variable v counts 2 ^ v.
use Rattle.std.specs.Prelude.{ℕ, Bool, ◌==◌}
use Rattle.std.specs.Int.{bit_at}

-- whether a variable is in the set with this number
abbrev pub in_set : ℕ → ℕ → Bool
in_set set v = bit_at set v == 1
