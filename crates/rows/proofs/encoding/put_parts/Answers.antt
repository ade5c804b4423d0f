use Rattle.rows.proofs.RowStored.{row_length, row_storable}
use Rattle.rows.proofs.encoding.put_parts.Goals as goal

pub null_bits-bits-requires-clause-row : goal.null_bits-bits-requires-clause-row
null_bits-bits-requires-clause-row c = rw (c.items.ensures, c.items-2.ensures) (row_length c.args.columns.now c.args.row.now c.requires.row)

pub put_values-requires : goal.put_values-requires
put_values-requires c = rw (c.items-4.ensures) (row_storable c.args.columns.now c.args.row.now c.requires.row)
