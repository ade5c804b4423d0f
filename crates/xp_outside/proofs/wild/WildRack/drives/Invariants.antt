use Rattle.std.proofs.Common.{◌≡◌, All, None, length}
use Rattle.xp_outside.specs.Drives.{IsFresh}
use Rattle.xp_outside.specs.Memory.{drive_faults, drive_size, IsMade}
use Rattle.xp_outside.proofs.wild.WildRack.drives.Given as goal

abbrev pub invariant-loop-number : goal.invariant-loop-number
invariant-loop-number l = (length l.drives.items ≡ l._number) × All (λ d. IsFresh None (drive_faults d.drive) (drive_size d.drive)) l.drives.items × All (IsMade l.self) l.drives.items
