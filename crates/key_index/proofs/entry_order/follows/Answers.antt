use Rattle.std.proofs.Common.{◌∙◌, ap}
use Rattle.std.specs.Ordering.{is_le}
use Rattle.key_index.proofs.Ordered.{compared}
use Rattle.key_index.proofs.entry_order.follows.Goals as goal

pub returns : goal.returns
returns c = compared c.args.entries.now c.args.place c.index-entries-place.result c.index-entries-place-2.result c.is_le.result c.requires c.index-entries-place.is c.index-entries-place-2.is c.if-place-eq0.false (c.is_le.ensures ∙ ap is_le c.compare_entries.ensures)
