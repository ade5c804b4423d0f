use Rattle.std.proofs.Common.{◌∙◌, cond}
use Rattle.lists.specs.Arranged.{distinct_by}
use Rattle.lists.proofs.Arranging.{bag_fixes, occurrences-distinct, occurrences-sort, sort_ascends}
use Rattle.rows.proofs.Orders.{row_exact, row_total}
use Rattle.rows.specs.Values.{row_cmp}
use Rattle.rows.proofs.laws.arranging_laws.Goals as goal

pub returns : goal.returns
returns c = record {
  ascends = λ unique keys rows. sort_ascends (row_total keys) (cond unique (distinct_by (row_cmp keys) rows) rows);
  all = λ keys rows row. occurrences-sort (row_total keys) row rows;
  once = λ keys rows row. occurrences-sort (row_total keys) row (distinct_by (row_cmp keys) rows) ∙ occurrences-distinct (row_total keys) row rows;
  exact = λ keys first second same. row_exact keys first second same;
  only = λ keys first second up1 up2 same. bag_fixes (row_total keys) (row_exact keys) first second up1 up2 same;
}
