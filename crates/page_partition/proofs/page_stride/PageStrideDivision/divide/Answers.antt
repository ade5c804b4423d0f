use Rattle.std.proofs.Common.{◌∙◌, ap}
use Rattle.page_partition.specs.Scan.{out_of, Scan}
use Rattle.page_partition.proofs.page_stride.PageStrideDivision.divide.Goals as goal

pub divide_pages-cut-requires-clause-idle : goal.divide_pages-cut-requires-clause-idle
divide_pages-cut-requires-clause-idle c = λ r lt. ap (λ xs. out_of xs r) c.deref_mut.ensures.value ∙ ap (λ (s : Scan). out_of s.marks r) c.self.view_is ∙ c.requires.idle r lt
