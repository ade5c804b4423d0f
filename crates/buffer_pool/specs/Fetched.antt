-- What a fetch from one of many drives answers.
use Rattle.std.specs.Prelude.{◌≡◌, ℕ, List, Option, None, Result, Ok, Err, ⊤}
use Rattle.std.specs.Arc.{arc_value}
use Rattle.std.specs.declared.sync.Arc.{Arc}
use Rattle.std.specs.declared.alloc.Global.{Global}
use Rattle.xp_outside.specs.Outside.{Rose}
use Rattle.heap_page.specs.declared.page.Page.{Page}
use Rattle.heap_page.specs.declared.errors.FetchErr.{FetchErr}
use Rattle.heap_page.specs.declared.errors.FetchErr.TheVariants.{DriveFault, BadPage, NoMemory}
use Rattle.heap_page.specs.Pages.{head_fault}
use Rattle.buffer_pool.specs.Told.{IsTold}
use Rattle.buffer_pool.specs.Used.{IsToldBad}
use Rattle.buffer_pool.specs.declared.place.Place.{Place}

-- the page at the place, or a fault of the place's drive whose count rose, or a rule that the page breaks
abbrev pub IsFetched : Option (List (List ℕ)) → Place → ℕ → ℕ → ℕ → ℕ → Result (Arc Page Global) FetchErr → Type 0
IsFetched told place file page before now (Ok found) = (head_fault place.kind file page (arc_value found) ≡ None) × IsTold told place.address (arc_value found)
IsFetched told place file page before now (Err (DriveFault d)) = (d ≡ place.drive) × Rose before now
IsFetched told place file page before now (Err (BadPage bad)) = IsToldBad told place.kind file page place.address (BadPage bad)
IsFetched told place file page before now (Err NoMemory) = ⊤

-- a fault of a shard is one of the drive of this number
abbrev pub error_of : ℕ → FetchErr → FetchErr
error_of drive (DriveFault d) = DriveFault drive
error_of drive (BadPage bad) = BadPage bad
error_of drive NoMemory = NoMemory
