use Rattle.std.proofs.Common.{◌≡◌, All, length}
use Rattle.xp_outside.specs.Drives.{IsFresh}
use Rattle.xp_outside.specs.Memory.{drive_faults, drive_pages, drive_size, rack_read_fails, rack_size, rack_write_fails, AreMounted}
use Rattle.xp_outside.proofs.memory_rack.MemRack.drives.Given as goal

abbrev pub invariant-loop-number : goal.invariant-loop-number
invariant-loop-number l =
    (length l.drives.items ≡ l.number) × All (λ d. IsFresh (drive_pages d) (drive_faults d) (drive_size d)) l.drives.items
    × AreMounted (rack_size l.self) (rack_read_fails l.self) (rack_write_fails l.self) l.drives.items
