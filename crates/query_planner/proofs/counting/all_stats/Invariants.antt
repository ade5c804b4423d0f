use Rattle.std.proofs.Common.{◌≡◌, ◌≤◌, ℕ, List, None, length, IfSome}
use Rattle.std.specs.Prelude.{All}
use Rattle.heap_page.specs.Sources.{AreCalm}
use Rattle.rel_meaning.specs.Expression.{question_of}
use Rattle.seq_optimizer.specs.Costs.{IsInterval}
use Rattle.table_store.specs.declared.files.StoredTable.{StoredTable}
use Rattle.query_planner.specs.Counted.{CountAllKept, CountTables}
use Rattle.query_planner.specs.Known.{Tells, questions_in}
use Rattle.query_planner.specs.Plans.{AreLeft}
use Rattle.query_planner.proofs.counting.all_stats.Given as goal

abbrev pub invariant-loop-var : goal.invariant-loop-var
invariant-loop-var g l = record {
  whole : g.P.PageSource.whole l.pages ≡ g.P.PageSource.whole l.fn.pages;
  counts : (d : ℕ) → g.P.PageSource.faults l.fn.pages d ≤ g.P.PageSource.faults l.pages d;
  calm : AreCalm (g.P.PageSource.lone (g.P.PageSource.whole l.fn.pages)) None (g.P.PageSource.faults l.fn.pages) (g.P.PageSource.faults l.pages);
  count : length l.stats.items ≡ l.var;
  within : All (λ s. IfSome s.interval IsInterval) l.stats.items;
  left : AreLeft l.known.relations.now l.known.laid.now (g.P.PageSource.image (g.P.PageSource.whole l.fn.pages)) (question_of l.query) l.stats.items;
  of_kept : CountAllKept (length l.known.relations.now) l.known.kept.now (questions_in l.known)
      l.table (question_of l.query) l.stats.items;
  told : (tables : List StoredTable) → Tells l.known tables
      (g.P.PageSource.image (g.P.PageSource.whole l.fn.pages)) →
      CountTables l.known.relations.now tables (question_of l.query) l.stats.items;
}
