use Rattle.std.proofs.Common.{◌∙◌, ap}
use Rattle.page_partition.specs.Scan.{out_of, Scan}
use Rattle.range_partition.proofs.entry_intervals.EntryIntervalsDivision.divide.Goals as goal

pub divide_entries-cut-requires-clause-idle : goal.divide_entries-cut-requires-clause-idle
divide_entries-cut-requires-clause-idle c = λ r lt. ap (λ xs. out_of xs r) c.deref_mut.ensures.value ∙ ap (λ (s : Scan). out_of s.marks r) c.self.view_is ∙ c.requires.idle r lt
