-- What holds of every decision.
use Rattle.std.specs.Prelude.{◌≡◌, ◌≢◌, ◌≤◌, ◌+◌, ◌⊎◌, ℕ, List, ◌++◌, Option, Some, None, IfSome}
use Rattle.std.specs.List.{All, Contains}
use Rattle.rows.specs.declared.plain.Machine.{Machine}
use Rattle.io_cpu_scheduler.specs.declared.load.Load.{Load}
use Rattle.io_cpu_scheduler.specs.declared.load.Part.{Part}
use Rattle.io_cpu_scheduler.specs.declared.load.Decision.{Decision}
use Rattle.io_cpu_scheduler.specs.Degrees.{class_at}

-- one of the loads is of this fragment
abbrev pub HasFragment : List Load → ℕ → Type 0
HasFragment loads fragment = (l : Load) × Contains loads l × (l.fragment ≡ fragment)

-- the part is of one of the loads, with 1 to N backends
pub record IsPartOf (m : Machine) (loads : List Load) (p : Part) : Type 0 where
  pub from : HasFragment loads p.fragment
  pub some : 1 ≤ p.degree
  pub most : p.degree ≤ m.backends

-- the parts are of two loads of different classes
pub record AreApart (m : Machine) (loads : List Load) (p q : Part) : Type 0 where
  pub one : Load
  pub other : Load
  pub has_one : Contains loads one
  pub has_other : Contains loads other
  pub classes : class_at m one ≢ class_at m other
  pub first : one.fragment ≡ p.fragment
  pub second : other.fragment ≡ q.fragment

-- the part is of this fragment
abbrev pub IsOf : Option Part → ℕ → Type 0
IsOf None fragment = ⊥
IsOf (Some p) fragment = p.fragment ≡ fragment

-- one of the parts is of this fragment
abbrev pub HasPart : Decision → ℕ → Type 0
HasPart d fragment = IsOf d.first fragment ⊎ IsOf d.second fragment

-- two parts share all backends, stand in the order of their fragments, and the load that runs is one of them
pub record IsPair (m : Machine) (running ready : List Load) (p q : Part) : Type 0 where
  pub whole : p.degree + q.degree ≡ m.backends
  pub order : p.fragment ≤ q.fragment
  pub apart : AreApart m (running ++ ready) p q
  pub goes_on : All (λ r. (r.fragment ≡ p.fragment) ⊎ (r.fragment ≡ q.fragment)) running

pub record IsSensible (m : Machine) (running ready : List Load) (d : Decision) : Type 0 where
  pub first : IfSome d.first (IsPartOf m (running ++ ready))
  pub second : IfSome d.second (IsPartOf m (running ++ ready))
  pub pair : (p q : Part) → d.first ≡ Some p → d.second ≡ Some q → IsPair m running ready p q
