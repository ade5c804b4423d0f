-- The class of a load, its degree alone, and the balance of two loads.
use Rattle.std.specs.Prelude.{◌≡◌, ◌<◌, ◌≤◌, ◌+◌, ◌-◌, ◌*◌, ◌/◌, ℕ, Bool, true, false, List, min, max, if◌then◌else◌, nat_lt, nat_le, unwrap_or}
use Rattle.std.specs.Int.{abs_diff}
use Rattle.std.specs.List.{find, list_all, range_with_len}
use Rattle.rows.specs.declared.plain.Machine.{Machine}
use Rattle.io_cpu_scheduler.specs.declared.load.Load.{Load}
use Rattle.io_cpu_scheduler.specs.declared.load.Class.{Class}
use Rattle.io_cpu_scheduler.specs.declared.load.Class.TheVariants as class

-- `Io` where 16 * D * N > K * T, for N backends, K drives, D pages and the time T
abbrev pub class_at : Machine → Load → Class
class_at m l = if nat_lt (m.drives * l.time) (16 * l.pages * m.backends) then class.Io else class.Cpu

abbrev pub same_class : Class → Class → Bool
same_class class.Io class.Io = true
same_class class.Cpu class.Cpu = true
same_class class.Io class.Cpu = false
same_class class.Cpu class.Io = false

abbrev pub other_class : Class → Class
other_class class.Io = class.Cpu
other_class class.Cpu = class.Io

abbrev pub solo_in : Class → Machine → Load → ℕ
solo_in class.Cpu m l = m.backends
solo_in class.Io m l = max 1 (min m.backends (m.drives * l.time / (16 * l.pages)))

-- N for a `Cpu` load, and for an `Io` load the whole part of K * T / (16 * D), but from 1 to N
abbrev pub solo_of : Machine → Load → ℕ
solo_of m l = solo_in (class_at m l) m l

-- how far the drives are from full use where i has x backends and j the others: |16 * (Di * x * Tj + Dj * (N - x) * Ti) - K * Ti * Tj|
unfoldable pub gap : Machine → Load → Load → ℕ → ℕ
gap m i j x = abs_diff (16 * (i.pages * x * j.time + j.pages * (m.backends - x) * i.time)) (m.drives * i.time * j.time)

-- of the degrees from 1 to N - 1, b has the least gap, and no smaller one has the same
pub record IsBalance (m : Machine) (i j : Load) (b : ℕ) : Type 0 where
  pub some : 1 ≤ b
  pub part : b < m.backends
  pub least : (x : ℕ) → 1 ≤ x → x < m.backends → gap m i j b ≤ gap m i j x
  pub first : (x : ℕ) → 1 ≤ x → x < m.backends → gap m i j x ≡ gap m i j b → b ≤ x

-- 1 to N - 1: the degrees that leave the other load a backend
abbrev pub shared_degrees : Machine → List ℕ
shared_degrees m = range_with_len 1 (m.backends - 1)

-- the gap at x is no greater than at any of these degrees
abbrev pub is_least_gap : Machine → Load → Load → ℕ → Bool
is_least_gap m i j x = list_all (λ y. nat_le (gap m i j x) (gap m i j y)) (shared_degrees m)

-- the balance as a function: the first of these degrees with the least gap
unfoldable pub balance_of : Machine → Load → Load → ℕ
balance_of m i j = unwrap_or (find (is_least_gap m i j) (shared_degrees m)) 1
