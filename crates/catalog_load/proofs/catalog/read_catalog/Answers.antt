use Rattle.std.proofs.Common.{Vec, Global}
use Rattle.rows.specs.declared.plain.Relation.{Relation}
use Rattle.std.proofs.lemmas.Result.{err_from_is_err_and}
use Rattle.catalog_load.proofs.Answering.{right, wrong}
use Rattle.catalog_load.proofs.Limits.{limits}
use Rattle.catalog_load.proofs.catalog.read_catalog.Goals as goal

pub returns-in_err-relations-clause-value : goal.returns-in_err-relations-clause-value
returns-in_err-relations-clause-value c =
    let p = err_from_is_err_and c.from_residual-in_err-relations.result c.from_residual-in_err-relations.ensures.1 in
    rw (p.1, p.2) (wrong c.args.text.now _ c.in_ok-entries.ensures (λ (v : Vec Relation Global). v.items) c.in_err-relations.field-0.0 (rw c.as_slice.ensures.value at c.in_err-relations.ensures))

pub returns-clause-value : goal.returns-clause-value
returns-clause-value c = right c.args.text.now _ c.in_ok-entries.ensures _ (rw c.from_vec.ensures (rw c.as_slice.ensures.value at c.in_ok-relations.ensures))

pub returns-clause-few : goal.returns-clause-few
returns-clause-few c = limits c.args.text.now _ (returns-clause-value c)
