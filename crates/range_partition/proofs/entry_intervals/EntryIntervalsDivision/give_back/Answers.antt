use Rattle.std.proofs.Common.{◌∙◌, ap, length, drop, arith, ◌++◌, List}
use Rattle.page_partition.specs.declared.table.Mark.{Mark}
use Rattle.page_partition.specs.Scan.{Scan, left_of, out_of}
use Rattle.page_partition.specs.Front.{written_back}
use Rattle.range_partition.proofs.entry_intervals.EntryIntervalsDivision.give_back.Goals as goal

pub returns-clause-front : goal.returns-clause-front
returns-clause-front c =
    let back = written_back c.self.inside.marks.len c.give_to.new.marks (drop (length c.give_to.new.marks) c.self.inside.marks.items) (omega (arith, c.give_to.auto.marks, c.deref_mut.ensures.len)) in
    let old = c.deref_mut.ensures.value ∙ ap (λ (z : Scan). z.marks) c.self.view_is in
    ap (λ (xs : List Mark). left_of xs c.args.role) back ∙ c.give_to.ensures.front ∙ ap (λ (ms : List Mark). drop c.args.done (out_of ms c.args.role) ++ left_of ms c.args.role) old
