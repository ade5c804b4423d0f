use Rattle.std.specs.Prelude.{ℕ, ◌<◌, false, true, List, [], ◌∷◌, ◌≡◌, drop, ◌++◌, Option, Some, None, unwrap_or}
use Rattle.page_partition.specs.Scan.{left_of, out_of}
use Rattle.adjust_protocol.specs.Moves.{Running, Move, Rule, Makes, Legal, is_free, is_full, wanted, IsDue}
use Rattle.adjust_protocol.specs.Moves as move
use Rattle.adjust_protocol.specs.declared.answers.Seated.{Seated}
use Rattle.adjust_protocol.specs.declared.answers.Seated.TheVariants.{Role, NoRole}
use Rattle.adjust_protocol.specs.declared.answers.Claimed.{Claimed}
use Rattle.adjust_protocol.specs.declared.answers.Claimed.TheVariants.{Batch, Hold, Leave}
use Rattle.adjust_protocol.specs.declared.answers.Settled.{Settled}
use Rattle.adjust_protocol.specs.declared.answers.Settled.TheVariants.{More, Cut, Finished}
use Rattle.adjust_protocol.specs.declared.answers.Asked.{Asked}
use Rattle.adjust_protocol.specs.declared.answers.Asked.TheVariants as asked

-- the events that an answer stands for
abbrev pub seat_moves : Seated → List Move
seat_moves (Role r) = move.Seat r ∷ []
seat_moves NoRole = []

abbrev pub claim_moves : ℕ → Claimed → List Move
claim_moves role (Batch ps) = move.Claim role ps ∷ []
claim_moves role Hold = []
claim_moves role Leave = []

abbrev pub settle_moves : Option ℕ → ℕ → ℕ → Settled → List Move
settle_moves asked role count More = move.Settle role count ∷ []
settle_moves asked role count (Cut k) = move.Settle role count ∷ move.Divide (unwrap_or asked 0) k ∷ []
settle_moves asked role count Finished = move.Settle role count ∷ []

abbrev pub ask_moves : ℕ → Asked → List Move
ask_moves degree asked.Pending = move.Ask degree ∷ []
ask_moves degree (asked.Cut k) = move.Ask degree ∷ move.Divide degree k ∷ []
ask_moves degree asked.NoChange = move.Ask degree ∷ []
ask_moves degree asked.AlreadyFinished = move.Ask degree ∷ []

-- when each answer comes
abbrev pub SeatAnswer : Running → Seated → Type 0
SeatAnswer s (Role r) = Unit {0}
SeatAnswer s NoRole = (r : ℕ) → r < 64 → is_free s r ≡ false

abbrev pub ClaimAnswer : Running → ℕ → Claimed → Type 0
ClaimAnswer s role (Batch ps) = Unit {0}
ClaimAnswer s role Hold = (n : ℕ) × (s.asked ≡ Some n)
ClaimAnswer s role Leave = (s.asked ≡ None) × (left_of s.scan.marks role ≡ [])

abbrev pub SettleAnswer : Running → Running → Settled → Type 0
SettleAnswer s s' More = (is_full s'.scan.marks ≡ false) × (IsDue s' → ⊥)
SettleAnswer s s' (Cut k) = ((n : ℕ) × (s.asked ≡ Some n)) × (is_full s'.scan.marks ≡ false)
SettleAnswer s s' Finished = is_full s'.scan.marks ≡ true

-- where no divide follows, what a role gives back comes before all that was left for it
abbrev pub SettleFront : Running → Running → ℕ → ℕ → Settled → Type 0
SettleFront s s' role count More = left_of s'.scan.marks role ≡ drop count (out_of s.scan.marks role) ++ left_of s.scan.marks role
SettleFront s s' role count (Cut k) = Unit {0}
SettleFront s s' role count Finished = left_of s'.scan.marks role ≡ drop count (out_of s.scan.marks role) ++ left_of s.scan.marks role

abbrev pub AskAnswer : Running → Running → ℕ → Asked → Type 0
AskAnswer s s' degree asked.Pending =
    (is_full s.scan.marks ≡ false) × (wanted s ≡ degree → ⊥) × (s'.asked ≡ Some degree) × (IsDue s' → ⊥)
AskAnswer s s' degree (asked.Cut k) = (is_full s.scan.marks ≡ false) × (wanted s ≡ degree → ⊥)
AskAnswer s s' degree asked.NoChange = (is_full s.scan.marks ≡ false) × (wanted s ≡ degree)
AskAnswer s s' degree asked.AlreadyFinished = is_full s.scan.marks ≡ true
