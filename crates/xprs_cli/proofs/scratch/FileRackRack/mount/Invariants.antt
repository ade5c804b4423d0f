use Rattle.std.proofs.Common.{◌≡◌, length, All}
use Rattle.xprs_cli.proofs.scratch.FileRackRack.mount.Given as goal

abbrev pub invariant-loop-number : goal.invariant-loop-number
invariant-loop-number g l = (length l.drives.items ≡ l.number) × All (λ d. d.faults ≡ 0) l.drives.items × (l.self.faults ≡ l.fn.self.faults)
