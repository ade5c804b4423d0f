use Rattle.std.proofs.Common.{◌≡◌, length}
use Rattle.std.specs.List.{All}
use Rattle.heap_page.specs.Blocks.{FitsAlone}
use Rattle.engine_bench.proofs.heap.rows_of_numbers.Given as goal

abbrev pub invariant-loop-number : goal.invariant-loop-number
invariant-loop-number l = record {
  count : length l.items ≡ l.number;
  fit : All FitsAlone l.items;
}
