use Rattle.std.proofs.Common.{◌≡◌, length}
use Rattle.std.specs.List.{AllByRecursion}
use Rattle.engine_bench.specs.Scans.{IsScan}
use Rattle.engine_bench.proofs.page_scans.make_scans.Given as goal

abbrev pub invariant-loop-scan : goal.invariant-loop-scan
invariant-loop-scan l = record {
  scans : AllByRecursion IsScan l.fragments.items;
  count : length l.fragments.items ≡ l.scan-index;
}
