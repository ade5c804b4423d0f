use Rattle.std.proofs.Common.{List, subst}
use Rattle.rows.specs.declared.plain.KeyEntry.{KeyEntry}
use Rattle.key_index.specs.Entries.{AreEntries}
use Rattle.key_index.proofs.Ordered.{all_checked, no_order, one_checked}
use Rattle.key_index.proofs.entry_order.are_entries.Goals as goal

pub returns-then-not-follows : goal.returns-then-not-follows
returns-then-not-follows c = subst (λ (es : List KeyEntry). AreEntries c.args.key_type c.args.heap_pages es → ⊥) c.items-entries.ensures (no_order c.args.key_type c.args.heap_pages c.items-entries.result.now c.loop-place.place c.if-not-follows.ensures)

pub loop-place-preserved : goal.loop-place-preserved
loop-place-preserved c = one_checked c.args.key_type c.args.heap_pages c.items-entries.result.now c.loop-place.place _ c.loop-place.invariant c.loop-place-test.true c.index-entries-place.is c.if-not-is_entry.ensures c.if-not-follows.ensures

pub returns : goal.returns
returns c = subst (λ (es : List KeyEntry). AreEntries c.args.key_type c.args.heap_pages es) c.items-entries.ensures (all_checked c.args.key_type c.args.heap_pages c.loop-place.place c.items-entries.result.now c.loop-place-test.false c.if-entries-gt1000000.false c.loop-place.invariant)
