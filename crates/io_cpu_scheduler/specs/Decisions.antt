-- The scheduling rule.
use Rattle.std.specs.Prelude.{◌-◌, ℕ, List, [], ◌∷◌, Option, Some, None, if◌then◌else◌, nat_lt, nat_le}
use Rattle.rows.specs.declared.plain.Machine.{Machine}
use Rattle.io_cpu_scheduler.specs.declared.load.Load.{Load}
use Rattle.io_cpu_scheduler.specs.declared.load.Part.{Part}
use Rattle.io_cpu_scheduler.specs.declared.load.Decision.{Decision}
use Rattle.io_cpu_scheduler.specs.declared.load.Class.{Class}
use Rattle.io_cpu_scheduler.specs.declared.load.Class.TheVariants as class
use Rattle.io_cpu_scheduler.specs.Degrees.{balance_of, class_at, other_class, solo_of}
use Rattle.io_cpu_scheduler.specs.Loads.{extreme, lowest}

abbrev pub part_of : Load → ℕ → Part
part_of l n = record { fragment = l.fragment; degree = n }

abbrev pub nothing : Decision
nothing = record { first = None; second = None }

-- the load alone, at its solo degree
abbrev pub alone : Machine → Load → Decision
alone m l = record { first = Some (part_of l (solo_of m l)); second = None }

abbrev pub lone : Machine → Option Load → Decision
lone m None = nothing
lone m (Some l) = alone m l

-- two parts, the lower fragment number first
abbrev pub in_order : Part → Part → Decision
in_order a b = if nat_lt b.fragment a.fragment then (record { first = Some b; second = Some a }) else record { first = Some a; second = Some b }

-- an `Io` load and a `Cpu` load, with the backends shared at their balance
abbrev pub paired : Machine → Load → Load → Decision
paired m i j = in_order (part_of i (balance_of m i j)) (part_of j (m.backends - balance_of m i j))

-- nothing runs: a load of each class is paired, or the one of the lowest number, if any, runs alone
abbrev pub fresh : Machine → Option Load → Option Load → Option Load → Decision
fresh m (Some i) (Some j) low = if nat_le 2 m.backends then paired m i j else lone m low
fresh m (Some i) None low = lone m low
fresh m None j low = lone m low

-- a running load and one of the class given
abbrev pub joined : Class → Machine → Load → Load → Decision
joined class.Io m r o = paired m o r
joined class.Cpu m r o = paired m r o

-- one runs: it is paired with a load of the other class, or runs alone
abbrev pub beside : Machine → Load → Class → Option Load → Decision
beside m r c (Some o) = if nat_le 2 m.backends then joined c m r o else alone m r
beside m r c None = alone m r

-- what is to run where these loads run, of which there is one at most, and these are ready
unfoldable pub decision : Machine → List Load → List Load → Decision
decision m [] ready = fresh m (extreme m class.Io ready) (extreme m class.Cpu ready) (lowest ready)
decision m (r ∷ rs) ready = (let c = other_class (class_at m r) in beside m r c (extreme m c ready))
