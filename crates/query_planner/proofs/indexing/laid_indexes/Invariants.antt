use Rattle.std.proofs.Common.{◌≡◌, ◌++◌, Option, drop}
use Rattle.std.specs.List.{filter_map}
use Rattle.rows.specs.declared.plain.KeyIndex.{KeyIndex}
use Rattle.query_planner.specs.Stored.{laid_indexes}
use Rattle.query_planner.proofs.indexing.laid_indexes.Given as goal

abbrev pub invariant-loop-index : goal.invariant-loop-index
invariant-loop-index l = l.indexes.items ++ filter_map (λ (o : Option KeyIndex). o)
    (drop l.index-index l.laid.indexes.items) ≡ laid_indexes l.laid
