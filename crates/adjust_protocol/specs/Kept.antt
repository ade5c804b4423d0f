use Rattle.std.specs.Prelude.{ℕ, ◌+◌, ◌<◌, ◌≤◌, ◌^◌, ◌≡◌, length, Some}
use Rattle.page_partition.specs.Scan.{is_deposited, places, AllNamed}
use Rattle.adjust_protocol.specs.Moves.{Running, IsDue}
use Rattle.adjust_protocol.specs.Full.{Kept}
use Rattle.adjust_protocol.specs.Outputs.{IsFilled}

-- what is kept within and between the calls of a board
pub record IsSound (s : Running) (missing : ℕ) : Type 0 where
  pub named : AllNamed s.scan.marks
  pub fits : length s.scan.marks < 2 ^ 32
  pub roles : length s.held ≡ 64
  pub counted : missing + length (places is_deposited s.scan.marks) ≡ length s.scan.marks
  pub degrees : (n : ℕ) → s.asked ≡ Some n → (1 ≤ n) × (n ≤ 64) × (0 < s.scan.room)

-- and between two calls a pending degree has a batch out
pub record IsKept (s : Running) (missing : ℕ) : Type 0 where
  pub sound : IsSound s missing
  pub calm : IsDue s → ⊥

-- a degree that a scan may have
abbrev pub IsDegree : ℕ → Type 0
IsDegree n = (1 ≤ n) × (n ≤ 64)

-- what every board shows between two calls: an output stands exactly at each deposited position, a
-- pending degree has a batch out and room for its divide, and every degree is 1 to 64
pub record IsCalm {T : Type 0} (b : Kept T) : Type 0 where
  pub filled : IsFilled b.outputs b.running.scan.marks
  pub calm : IsDue b.running → ⊥
  pub degree : IsDegree b.running.scan.degree
  pub pending : (n : ℕ) → b.running.asked ≡ Some n → IsDegree n × (0 < b.running.scan.room)
  pub roles : length b.running.held ≡ 64
  pub named : AllNamed b.running.scan.marks
