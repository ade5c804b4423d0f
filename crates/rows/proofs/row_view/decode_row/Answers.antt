use Rattle.std.proofs.Common.{◌≡◌, ◌∙◌, ap, arith, length}
use Rattle.std.proofs.Math.Facts.{Fits-lt-pow}
use Rattle.rows.specs.RowBytes.{bit_bytes}
use Rattle.rows.proofs.RowWhole.{too_many, too_short, there, same_values, found_same}
use Rattle.rows.proofs.row_view.decode_row.Goals as goal
use Rattle.rows.proofs.row_view.decode_row.Goals.{then-columns-gt32-via-then-columns-gt32, then-columns-gt32-via-else-columns-gt32+then-bytes-front}

pub returns-then-columns-gt32 : goal.returns-then-columns-gt32
returns-then-columns-gt32 c =
    let front : c.bit_bytes-front.result ≡ bit_bytes c.args.columns.now = c.bit_bytes-front.ensures.value ∙ ap bit_bytes c.items-columns.ensures in
    elim c.then-columns-gt32.branch [
      | then-columns-gt32-via-then-columns-gt32 w ↦ too_many c.args.columns.now c.args.bytes.now (λ i. Fits-lt-pow (c.type_inv.bytes i)) (omega (arith, ap length c.items-columns.ensures, w.if-columns-gt32.true))
      | then-columns-gt32-via-else-columns-gt32+then-bytes-front w ↦ too_short c.args.columns.now c.args.bytes.now (λ i. Fits-lt-pow (c.type_inv.bytes i)) (omega (arith, front, w.if-bytes-front.true))
    ]

pub returns : goal.returns
returns c =
    let front : c.bit_bytes-front.result ≡ bit_bytes c.args.columns.now = c.bit_bytes-front.ensures.value ∙ ap bit_bytes c.items-columns.ensures in
    let d = there c.args.columns.now c.args.bytes.now (λ i. Fits-lt-pow (c.type_inv.bytes i)) (omega (arith, ap length c.items-columns.ensures, c.if-columns-gt32.false)) (omega (arith, front, c.if-bytes-front.false)) in
    let same = same_values c.args.columns.now c.items-columns.result.now c.args.bytes.now c.split_at.result.0.now c.split_at.result.1.now c.bit_bytes-front.result c.low_number.result front c.items-columns.ensures c.split_at.ensures.front c.split_at.ensures.back c.low_number.ensures in
    found_same c.args.columns.now c.args.bytes.now _ _ same d c.read_values.result c.read_values.ensures
