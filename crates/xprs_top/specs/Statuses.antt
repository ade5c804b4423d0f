-- The statuses of faults of drives.
use Rattle.std.specs.Prelude.{Some}
use Rattle.heap_page.specs.declared.errors.FetchErr.{FetchErr}
use Rattle.heap_page.specs.declared.errors.FetchErr.TheVariants as fetch
use Rattle.heap_page.specs.declared.errors.StoreErr.{StoreErr}
use Rattle.heap_page.specs.declared.errors.StoreErr.TheVariants as store
use Rattle.xprs_top.specs.declared.status.Status.{Status}
use Rattle.xprs_top.specs.declared.status.Status.TheVariants.{DriveFault, Bad, NoMemory, DriveFull}

-- why tables were not laid on drives
abbrev pub of_store : StoreErr → Status
of_store (store.DriveFault d) = DriveFault (Some d)
of_store (store.DriveFull d needs capacity) = DriveFull d needs capacity
of_store store.NoMemory = NoMemory

-- why they were not read back
abbrev pub of_fetch : FetchErr → Status
of_fetch (fetch.DriveFault d) = DriveFault (Some d)
of_fetch (fetch.BadPage bad) = Bad bad
of_fetch fetch.NoMemory = NoMemory
