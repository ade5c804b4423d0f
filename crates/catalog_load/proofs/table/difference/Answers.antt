use Rattle.std.proofs.Common.{◌∙◌, sym}
use Rattle.csv.specs.Records.{fields_of}
use Rattle.catalog_load.proofs.Cells.{other_name, same_name, names_longer}
use Rattle.catalog_load.proofs.table.difference.Goals as goal

pub returns-then-not-is_named : goal.returns-then-not-is_named
returns-then-not-is_named c =
    sym (other_name c.args.columns.now (fields_of c.args.header.now) c.loop-place.place c.index-columns-place.result c.loop-place-test.true c.index-columns-place.is _ c.get.ensures.value (sym c.is_named.ensures ∙ c.if-not-is_named.true)) ∙ c.loop-place.invariant

pub loop-place-preserved : goal.loop-place-preserved
loop-place-preserved c =
    sym (same_name c.args.columns.now (fields_of c.args.header.now) c.loop-place.place c.index-columns-place.result c.loop-place-test.true c.index-columns-place.is _ c.get.ensures.value (sym c.is_named.ensures ∙ c.if-not-is_named.false)) ∙ c.loop-place.invariant

pub returns-then-len-columns : goal.returns-then-len-columns
returns-then-len-columns c = names_longer c.args.columns.now (fields_of c.args.header.now) c.loop-place.place _ c.loop-place.invariant c.loop-place-test.false c.loop-place.auto.place-end (rw c.len.ensures at c.if-len-columns.true)
