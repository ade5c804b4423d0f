-- The numbers that generated tables are made of.
use Rattle.std.specs.Prelude.{ℕ, ◌+◌, ◌*◌, ◌/◌, ◌%◌, ◌^◌, zero, suc}

abbrev pub next_state : ℕ → ℕ
next_state state = (state * 6364136223846793005 + 1442695040888963407) % 2 ^ 64

-- the state after so many draws
abbrev pub state_after : ℕ → ℕ → ℕ
state_after first zero = first
state_after first (suc draws) = next_state (state_after first draws)

-- the number below a bound that a draw gives, by the state that it leaves
abbrev pub drawn : ℕ → ℕ → ℕ
drawn state bound = (state / 2 ^ 33) % bound

-- the number below a bound that a draw behind a state gives; draws are counted from 0
abbrev pub draw : ℕ → ℕ → ℕ → ℕ
draw first number bound = drawn (next_state (state_after first number)) bound
