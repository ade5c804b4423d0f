use Rattle.std.specs.Prelude.{ℕ, ◌≤◌, ◌≡◌, Bool, true, false, List, [], ◌∷◌, None, replicate}
use Rattle.page_partition.specs.declared.table.Mark.TheVariants.{Left}
use Rattle.page_partition.specs.Owners.{Divided}
use Rattle.adjust_protocol.specs.Moves.{Rule, Running, Move, Makes, is_full}
use Rattle.adjust_protocol.specs.History.{Setting, deposited, Once, IsLegal, IsMadeUpIn}

-- a board of so many positions that has just begun with a degree, with room for so many divides
abbrev pub fresh : Rule → ℕ → ℕ → ℕ → Running
fresh rule positions degree room = record {
  scan = record { marks = rule.redivided degree (replicate positions (Left 0)); degree = degree; room = room };
  held = replicate 64 false;
  asked = None;
  collecting = false;
}

-- a call stands for some events, in order; a claim is told the most that it may take
pub record Call : Type 0 where
  pub most : ℕ
  pub events : List Move

-- a list of calls takes a board from one state to another, each as its contract says
abbrev pub Ran : Rule → Setting → Running → List Call → Running → Type 0
Ran rule S s [] s' = s' ≡ s
Ran rule S s (c ∷ calls) s' = (mid : Running) × (S.least ≤ c.most) × (c.most ≤ S.most) × Makes rule c.most s c.events mid × Ran rule S mid calls s'

-- the history after further events in order
abbrev pub then_events : List Move → List Move → List Move
then_events h [] = h
then_events h (e ∷ events) = then_events (e ∷ h) events

-- the history after further calls in order
abbrev pub then_calls : List Move → List Call → List Move
then_calls h [] = h
then_calls h (c ∷ calls) = then_calls (then_events h c.events) calls

abbrev pub history_of : List Call → List Move
history_of calls = then_calls [] calls

-- a scan of so many positions that begins with a degree, divided in this way; a board's claims may ask for 1 to 64 positions
abbrev pub setting_of : (ℕ → ℕ → List Divided → ℕ → ℕ → Bool) → (ℕ → List ℕ → ℕ) → ℕ → ℕ → Setting
setting_of owns cut positions degree = record { positions = positions; degree = degree; least = 1; most = 64; owns = owns; cut = cut }

-- what holds of a history and the state that it leads to: it is legal, the scan is made up without a repeat, and where the
-- scan is full each position was deposited once
pub record IsLawful (S : Setting) (h : List Move) (s : Running) : Type 0 where
  pub legal : IsLegal S h
  pub made_up : IsMadeUpIn S h
  pub once : is_full s.scan.marks ≡ true → Once (deposited h) S.positions

-- for every list of calls that leads to this state from a board that has just begun
abbrev pub IsLawfulAlways : Rule → (ℕ → ℕ → List Divided → ℕ → ℕ → Bool) → (ℕ → List ℕ → ℕ) → Running → Type 0
IsLawfulAlways rule owns cut s =
    (positions degree room : ℕ) (calls : List Call) → 1 ≤ degree → degree ≤ 64
    → Ran rule (setting_of owns cut positions degree) (fresh rule positions degree room) calls s
    → IsLawful (setting_of owns cut positions degree) (history_of calls) s
