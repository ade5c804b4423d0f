use Rattle.std.proofs.Common.{◌≡◌, ◌++◌, ◌-◌}
use Rattle.rows.specs.RowBytes.{low_bytes}
use Rattle.rows.specs.RowFields.{IsFront}
use Rattle.rows.proofs.encoding.put_bits.Given as goal

abbrev pub invariant-loop-place : goal.invariant-loop-place
invariant-loop-place l = record {
  told : l.out.items ++ low_bytes (l.count - l._place) l.rest ≡ l.fn.out.items ++ low_bytes l.count l.bits;
  front : IsFront l.fn.out.items l.out.items;
}
