use Rattle.std.proofs.lemmas.Result.{err_from_is_err_and}
use Rattle.heap_page.specs.declared.errors.FetchErr.TheVariants as fetch
use Rattle.table_store.proofs.DatabaseRead.{same_err}
use Rattle.table_store.proofs.database_reading.read_relation.Goals as goal

pub returns-in_err-rows-clause-accepted : goal.returns-in_err-rows-clause-accepted
returns-in_err-rows-clause-accepted g c = λ rows bad t e.
    let p = err_from_is_err_and c.from_residual.result c.from_residual.ensures.1 in
    c.in_err-rows.ensures.accepted rows bad t (same_err c.from_residual.result p.0 c.in_err-rows.field-0.0 (fetch.BadPage bad) p.1 p.2 e)
