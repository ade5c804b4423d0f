use Rattle.std.specs.Prelude.{true, false, List, [], ◌∷◌, ◌≡◌, ◌⊎◌, Option, Some, None, map}
use Rattle.adjust_protocol.specs.Moves.{Running, Rule, Makes, Collect, is_full}

-- a board: its running state, and the outputs deposited, by position
pub record Kept (T : Type 0) : Type 0 where
  pub running : Running
  pub outputs : List (Option T)

-- what a collect answers: nothing where a position is undeposited or the board is being collected, else the output of every position in order
abbrev pub CollectAnswer : {T : Type 0} → Rule → Kept T → Kept T → Option (List T) → Type 0
CollectAnswer rule s s' None = (s' ≡ s) × ((is_full s.running.scan.marks ≡ false) ⊎ (s.running.collecting ≡ true))
CollectAnswer rule s s' (Some xs) = (is_full s.running.scan.marks ≡ true) × (s.running.collecting ≡ false) × Makes rule 64 s.running (Collect ∷ []) s'.running × (s'.outputs ≡ s.outputs) × (map Some xs ≡ s.outputs)
