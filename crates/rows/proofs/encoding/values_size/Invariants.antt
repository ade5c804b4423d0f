use Rattle.std.proofs.Common.{◌≡◌, ◌≤◌, ◌*◌, length, take}
use Rattle.std.specs.List.{flat_map}
use Rattle.rows.specs.RowBytes.{value_bytes}
use Rattle.rows.proofs.encoding.values_size.Given as goal

abbrev pub invariant-loop-value : goal.invariant-loop-value
invariant-loop-value l = record { told : l.size ≡ length (flat_map value_bytes (take l.value-index l.row)); small : l.size ≤ 2002 * l.value-index }
