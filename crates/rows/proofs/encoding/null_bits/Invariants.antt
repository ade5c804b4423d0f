use Rattle.std.proofs.Common.{◌≡◌, ◌<◌, ◌-◌, ◌^◌, length, drop}
use Rattle.rows.specs.RowBytes.{null_bits}
use Rattle.rows.proofs.encoding.null_bits.Given as goal

abbrev pub invariant-loop-place : goal.invariant-loop-place
invariant-loop-place l = record { told : l.bits ≡ null_bits (drop l.place l.columns) (drop l.place l.row); small : l.bits < 2 ^ (length l.columns - l.place) }
