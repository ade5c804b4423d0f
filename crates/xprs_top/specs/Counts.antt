-- Which drives have not failed.
use Rattle.std.specs.Prelude.{◌≡◌, ◌≢◌, ℕ, List, Option, Some, None, Result, Ok, Err, slice_get}
use Rattle.xp_outside.specs.declared.drive.Drive.{Ghosts}
use Rattle.xprs_top.specs.declared.status.Status.{Status}
use Rattle.xprs_top.specs.declared.status.Status.TheVariants.{DriveFault}

-- the drive that a status names
abbrev pub named_drive : Status → Option ℕ
named_drive (DriveFault d) = d
named_drive other = None

abbrev pub failed_drive : {X : Type 0} → Result X Status → Option ℕ
failed_drive (Ok text) = None
failed_drive (Err status) = named_drive status

module _ {D : Type 0} (g : Ghosts D) where
  -- none of the drives but this one has failed
  abbrev pub NoOtherFailed : Option ℕ → List D → Type 0
  NoOtherFailed failed drives = (d : ℕ) (drive : D) → failed ≢ Some d → slice_get drives d ≡ Some drive → g.faults drive ≡ 0
