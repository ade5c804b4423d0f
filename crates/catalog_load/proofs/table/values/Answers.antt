use Rattle.std.proofs.Common.{Vec, Global}
use Rattle.rows.specs.declared.value.Value.{Value}
use Rattle.std.proofs.lemmas.Result.{err_from_is_err_and}
use Rattle.csv.specs.Records.{fields_of}
use Rattle.catalog_load.proofs.Cells.{fault_found, value_found, no_field_past, all_found}
use Rattle.catalog_load.proofs.Typed.{cells_typed}
use Rattle.catalog_load.proofs.table.values.Goals as goal

pub returns-in_err-cell-in-Some-clause-value : goal.returns-in_err-cell-in-Some-clause-value
returns-in_err-cell-in-Some-clause-value c =
    let p = err_from_is_err_and c.from_residual-in_err-cell-in-Some.result c.from_residual-in_err-cell-in-Some.ensures.1 in
    rw (p.1, p.2) (fault_found c.args.number c.loop-place.place c.args.columns.now (fields_of c.args.fields.now) c.index-columns-place.result c.in-Some.field.now c.loop-place.values.items _ c.loop-place.invariant c.loop-place-test.true c.index-columns-place.is c.in-Some.ensures.value {B = Vec Value Global} (λ v. v) (λ v. v.items) _ c.in_err-cell-in-Some.ensures)

pub unreachable-requires : goal.unreachable-requires
unreachable-requires c = no_field_past (fields_of c.args.fields.now) c.loop-place.place (c.in-None.ensures.value) (rw c.requires.whole c.loop-place-test.true)

pub loop-place-preserved : goal.loop-place-preserved
loop-place-preserved c =
    rw c.in_ok-push-in-Some.ensures.items (value_found c.args.number c.loop-place.place c.args.columns.now (fields_of c.args.fields.now) c.index-columns-place.result c.in-Some.field.now c.loop-place.values.items _ c.loop-place.invariant c.loop-place-test.true c.index-columns-place.is c.in-Some.ensures.value _ c.in_ok-cell-in-Some.ensures)

pub returns-clause-row : goal.returns-clause-row
returns-clause-row c = cells_typed c.args.number 1 c.args.columns.now (fields_of c.args.fields.now) c.loop-place.values.items c.requires.whole (all_found c.args.number c.loop-place.place c.args.columns.now (fields_of c.args.fields.now) c.loop-place.values.items _ c.loop-place.invariant c.loop-place-test.false)
