use Rattle.std.proofs.Common.{◌≡◌, map}
use Rattle.hash_join.specs.Table.{rows_of}
use Rattle.hash_join.proofs.making.joined.Given as goal

abbrev pub invariant-loop-part : goal.invariant-loop-part
invariant-loop-part l = l.out.items ≡ rows_of (map (λ x. x.value) l.yielded)
