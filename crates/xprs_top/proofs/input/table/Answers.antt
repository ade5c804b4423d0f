use Rattle.xprs_top.proofs.input.table.Goals as goal

pub returns-clause-table : goal.returns-clause-table
returns-clause-table g c =
    let same = c.in_ok-copy.ensures in
    record { columns = same; few = rw same c.requires.few; index = c.requires.index; rows = rw same c.in_ok-rows.ensures.rows; short = rw same c.in_ok-rows.ensures.short }
