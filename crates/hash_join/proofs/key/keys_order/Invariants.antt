use Rattle.std.proofs.Common.{◌≡◌, drop}
use Rattle.std.specs.Cmp.Lexicographic.{slice_cmp}
use Rattle.rows.specs.Values.{value_cmp}
use Rattle.hash_join.specs.Table.{key_of}
use Rattle.hash_join.proofs.key.keys_order.Given as goal

-- the columns so far do not tell the rows apart
abbrev pub invariant-loop-column : goal.invariant-loop-column
invariant-loop-column l = slice_cmp value_cmp (key_of (drop l.column-index l.columns) l.a) (key_of (drop l.column-index l.columns) l.b) ≡ slice_cmp value_cmp (key_of l.columns l.a) (key_of l.columns l.b)
