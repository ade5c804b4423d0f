use Rattle.std.proofs.Common.{◌≡◌, ◌++◌, map, take}
use Rattle.name_check.specs.Steps.{shown_of}
use Rattle.name_check.proofs.columns.add_ops.Given as goal

abbrev pub invariant-loop-column : goal.invariant-loop-column
invariant-loop-column l =
    l.ops.items
    ≡ l.initial.ops.items ++ map (λ s. l.op) (map shown_of (take l._column-index l.columns))
