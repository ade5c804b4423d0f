use Rattle.std.proofs.Common.{length, sym, arith, ◌∙◌, ap, flat_map}
use Rattle.std.proofs.lemmas.List.{length-append}
use Rattle.rows.specs.RowBytes.{bit_bytes, low_bytes, null_bits, value_bytes}
use Rattle.rows.proofs.RowBits.{length-low_bytes}
use Rattle.rows.proofs.RowStored.{row_length, row_storable}
use Rattle.rows.proofs.encoding.row_size.Goals as goal

pub values_size-requires-clause-few : goal.values_size-requires-clause-few
values_size-requires-clause-few c = rw (c.items-2.ensures) (omega (arith, row_length c.args.columns.now c.args.row.now c.requires.row, c.requires.few))

pub values_size-requires-clause-storable : goal.values_size-requires-clause-storable
values_size-requires-clause-storable c = rw (c.items-2.ensures) (row_storable c.args.columns.now c.args.row.now c.requires.row)

pub returns : goal.returns
returns c =
    let front = low_bytes (bit_bytes c.args.columns.now) (null_bits c.args.columns.now c.args.row.now) in
    let bits = c.bit_bytes.ensures.value ∙ (ap bit_bytes c.items.ensures ∙ sym (length-low_bytes (bit_bytes c.args.columns.now) (null_bits c.args.columns.now c.args.row.now))) in
    let values = c.values_size.ensures.value ∙ ap (λ xs. length (flat_map value_bytes xs)) c.items-2.ensures in
    omega (arith, bits, values, length-append front (flat_map value_bytes c.args.row.now))
