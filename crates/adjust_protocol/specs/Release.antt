use Rattle.std.specs.Prelude.{ℕ, ◌<◌, false, List, [], ◌∷◌, ◌≡◌, None}
use Rattle.page_partition.specs.Scan.{out_of}
use Rattle.adjust_protocol.specs.Moves.{Rule, Running, Move, Seat, Claim, Settle, Divide, Leave, Collect, Uncollect, Ask, Makes, is_held}

-- a release settles with nothing, divides, leaves and undoes a collection
abbrev pub IsRelease : Move → Type 0
IsRelease (Settle role count) = count ≡ 0
IsRelease (Divide degree cut) = Unit {0}
IsRelease (Leave role) = Unit {0}
IsRelease Uncollect = Unit {0}
IsRelease (Seat role) = ⊥
IsRelease (Claim role ps) = ⊥
IsRelease Collect = ⊥
IsRelease (Ask degree) = ⊥

abbrev pub AllRelease : List Move → Type 0
AllRelease [] = Unit {0}
AllRelease (m ∷ ms) = IsRelease m × AllRelease ms

-- s' is reached from s by events of a release
pub record Releases (rule : Rule) (s s' : Running) : Type 0 where
  pub moves : List Move
  pub only : AllRelease moves
  pub made : Makes rule 64 s moves s'

-- nothing is out, held, collecting or pending
pub record IsReleased (s : Running) : Type 0 where
  pub idle : (role : ℕ) → role < 64 → out_of s.scan.marks role ≡ []
  pub unheld : (role : ℕ) → role < 64 → is_held s role ≡ false
  pub uncollected : s.collecting ≡ false
  pub unasked : s.asked ≡ None
