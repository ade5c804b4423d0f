use Rattle.std.proofs.Common.{◌≡◌, ◌<◌, ◌-◌, ◌^◌, ◌*◌, length, drop}
use Rattle.rows.specs.RowFields.{low_number}
use Rattle.rows.proofs.row_view.low_number.Given as goal

abbrev pub invariant-loop-place : goal.invariant-loop-place
invariant-loop-place l = record { told : l.number ≡ low_number (drop l.place l.bytes); small : l.number < 2 ^ (8 * (length l.bytes - l.place)) }
