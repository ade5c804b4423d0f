use Rattle.std.proofs.Common.{subst}
use Rattle.page_partition.specs.Scan.{Scan}
use Rattle.page_partition.specs.Counts.{IsMadeUp}
use Rattle.page_partition.specs.CountLaws.{made_up}
use Rattle.range_partition.proofs.entry_intervals.EntryIntervalsDivision.left.Goals as goal

pub returns-clause-made_up : goal.returns-clause-made_up
returns-clause-made_up c = subst (λ (z : Scan). IsMadeUp z.marks) c.self.view_is (made_up c.self.inside.marks.items c.self.invariant.named)
