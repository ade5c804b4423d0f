use Rattle.std.proofs.Common.{◌≡◌, ◌≤◌, ℕ, List, None, length, map}
use Rattle.plan_tree.specs.Views.{planned_of}
use Rattle.heap_page.specs.Sources.{AreCalm}
use Rattle.seq_optimizer.specs.Costs.{CanPlan}
use Rattle.table_store.specs.declared.files.StoredTable.{StoredTable}
use Rattle.query_planner.specs.Counted.{CountAllKept, CountTables}
use Rattle.query_planner.specs.Known.{Tells, questions_in}
use Rattle.query_planner.specs.Plans.{AreLeft}
use Rattle.query_planner.proofs.SoFar.{EachFirst, PlansFirst}
use Rattle.query_planner.proofs.planning.plans_of.Given as goal

abbrev pub invariant-loop-query : goal.invariant-loop-query
invariant-loop-query g l = record {
  whole : g.P.PageSource.whole l.pages ≡ g.P.PageSource.whole l.fn.pages;
  counts : (d : ℕ) → g.P.PageSource.faults l.fn.pages d ≤ g.P.PageSource.faults l.pages d;
  calm : AreCalm (g.P.PageSource.lone (g.P.PageSource.whole l.fn.pages)) None (g.P.PageSource.faults l.fn.pages) (g.P.PageSource.faults l.pages);
  count : length l.plans.items ≡ l.query-index;
  table_count : length l.table.items ≡ l.query-index;
  can : EachFirst CanPlan (questions_in l.known) l.table.items;
  plans : PlansFirst l.method (questions_in l.known) l.table.items (map planned_of l.plans.items);
  left : EachFirst (AreLeft l.known.relations.now l.known.laid.now
      (g.P.PageSource.image (g.P.PageSource.whole l.fn.pages))) (questions_in l.known)
      l.table.items;
  of_kept : EachFirst (CountAllKept (length l.known.relations.now) l.known.kept.now
      (questions_in l.known) l.table.items) (questions_in l.known) l.table.items;
  told : (tables : List StoredTable) → Tells l.known tables
      (g.P.PageSource.image (g.P.PageSource.whole l.fn.pages)) →
      EachFirst (CountTables l.known.relations.now tables) (questions_in l.known) l.table.items;
}
