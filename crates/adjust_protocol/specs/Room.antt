use Rattle.std.proofs.Common.{ℕ, ◌+◌, ◌≤◌, [], ◌∷◌, ap, arith, Option}
use Rattle.adjust_protocol.specs.Moves.{Rule, Running, Makes, Leave}
use Rattle.adjust_protocol.specs.Answers.{seat_moves, claim_moves, settle_moves, ask_moves}
use Rattle.adjust_protocol.specs.declared.answers.Seated.{Seated}
use Rattle.adjust_protocol.specs.declared.answers.Seated.TheVariants as seated
use Rattle.adjust_protocol.specs.declared.answers.Claimed.{Claimed}
use Rattle.adjust_protocol.specs.declared.answers.Claimed.TheVariants as claimed
use Rattle.adjust_protocol.specs.declared.answers.Settled.{Settled}
use Rattle.adjust_protocol.specs.declared.answers.Settled.TheVariants as settled
use Rattle.adjust_protocol.specs.declared.answers.Asked.{Asked}
use Rattle.adjust_protocol.specs.declared.answers.Asked.TheVariants as asked

-- a call uses the room of one divide at most
abbrev pub KeepsRoom : Running → Running → Type 0
KeepsRoom s s' = s.scan.room ≤ s'.scan.room + 1

pub room_seat : (rule : Rule) (s s' : Running) (r : Seated) → Makes rule 64 s (seat_moves r) s' → KeepsRoom s s'
room_seat rule s s' (seated.Role r) made = let e = ap (λ (z : Running). z.scan.room) made.1 in omega arith
room_seat rule s s' seated.NoRole made = let e = ap (λ (z : Running). z.scan.room) made.1 in omega arith

pub room_claim : (rule : Rule) (most role : ℕ) (s s' : Running) (r : Claimed) → Makes rule most s (claim_moves role r) s' → KeepsRoom s s'
room_claim rule most role s s' (claimed.Batch ps) made = let e = ap (λ (z : Running). z.scan.room) made.1 in omega arith
room_claim rule most role s s' claimed.Hold made = let e = ap (λ (z : Running). z.scan.room) made.1 in omega arith
room_claim rule most role s s' claimed.Leave made = let e = ap (λ (z : Running). z.scan.room) made.1 in omega arith

pub room_settle : (rule : Rule) (asked : Option ℕ) (role count : ℕ) (s s' : Running) (r : Settled) → Makes rule 64 s (settle_moves asked role count r) s' → KeepsRoom s s'
room_settle rule asked role count s s' settled.More made = let e = ap (λ (z : Running). z.scan.room) made.1 in omega arith
room_settle rule asked role count s s' (settled.Cut k) made = let e = ap (λ (z : Running). z.scan.room) made.1 in omega arith
room_settle rule asked role count s s' settled.Finished made = let e = ap (λ (z : Running). z.scan.room) made.1 in omega arith

pub room_ask : (rule : Rule) (degree : ℕ) (s s' : Running) (r : Asked) → Makes rule 64 s (ask_moves degree r) s' → KeepsRoom s s'
room_ask rule degree s s' asked.Pending made = let e = ap (λ (z : Running). z.scan.room) made.1 in omega arith
room_ask rule degree s s' (asked.Cut k) made = let e = ap (λ (z : Running). z.scan.room) made.1 in omega arith
room_ask rule degree s s' asked.NoChange made = let e = ap (λ (z : Running). z.scan.room) made.1 in omega arith
room_ask rule degree s s' asked.AlreadyFinished made = let e = ap (λ (z : Running). z.scan.room) made.1 in omega arith

pub room_leave : (rule : Rule) (role : ℕ) (s s' : Running) → Makes rule 64 s (Leave role ∷ []) s' → KeepsRoom s s'
room_leave rule role s s' made = let e = ap (λ (z : Running). z.scan.room) made.1 in omega arith
