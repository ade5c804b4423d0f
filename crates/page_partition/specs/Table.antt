use Rattle.std.specs.Prelude.{ℕ, ◌<◌, ◌≤◌, ◌^◌, ◌-◌, List, [], ◌≡◌, length, take, drop, slice_index_or}
use Rattle.page_partition.specs.declared.table.Mark.{Mark}
use Rattle.page_partition.specs.declared.table.Role.{Role}
use Rattle.page_partition.specs.Scan.{is_left, left_of, out_of, places_from, AllNamed}

-- what is kept of a role beside the marks
pub record IsRole (ms : List Mark) (role : ℕ) (r : Role) : Type 0 where
  pub next_in : r.next ≤ length ms
  pub none_before : left_of (take r.next ms) role ≡ []
  pub none_out_after : out_of (drop r.next ms) role ≡ []
  pub count : r.left ≡ length (left_of ms role)
  pub out : r.out ≡ out_of ms role

pub record IsTable (ms : List Mark) (roles : List Role) : Type 0 where
  pub fits : length ms < 2 ^ 32
  pub named : AllNamed ms
  pub sizes : length roles ≡ 64
  pub each : (role : ℕ) (d : Role) → role < 64 → IsRole ms role (slice_index_or roles role d)

-- what is kept of a role while the marks from position p on have been counted
pub record IsCounted (ms : List Mark) (p role : ℕ) (r : Role) : Type 0 where
  pub low : p ≤ r.next
  pub next_in : r.next ≤ length ms
  pub none : places_from p (is_left role) (take (r.next - p) (drop p ms)) ≡ []
  pub count : r.left ≡ length (places_from p (is_left role) (drop p ms))
  pub out : r.out ≡ []
