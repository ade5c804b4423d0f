use Rattle.std.proofs.Common.{◌≡◌, sym, ◌∙◌, ap, subst, replicate}
use Rattle.page_partition.specs.declared.table.Mark.TheVariants.{Left}
use Rattle.page_partition.specs.Scan.{out_of, AllNamed}
use Rattle.page_partition.specs.StrideKept.{named_fresh, idle_fresh}
use Rattle.range_partition.proofs.entry_intervals.EntryIntervalsDivision.start.Goals as goal

pub divide_entries-requires-clause-named : goal.divide_entries-requires-clause-named
divide_entries-requires-clause-named c =
    let fresh : c.deref_mut.result.now ≡ replicate c.args.positions (Left 0) = c.deref_mut.ensures.value ∙ c.in_ok-marks.ensures.items_if_clones_equal (λ y e. e) in
    subst AllNamed (sym fresh) (named_fresh c.args.positions)

pub divide_entries-requires-clause-idle : goal.divide_entries-requires-clause-idle
divide_entries-requires-clause-idle c =
    let fresh : c.deref_mut.result.now ≡ replicate c.args.positions (Left 0) = c.deref_mut.ensures.value ∙ c.in_ok-marks.ensures.items_if_clones_equal (λ y e. e) in
    λ r lt. ap (λ ms. out_of ms r) fresh ∙ idle_fresh r 0 c.args.positions
