-- Each tree of a resolved query gives the query's answer.
use Rattle.std.proofs.Common.{◌≡◌, ℕ, List, [], map, Option, Some, None, refl, sym, ap, ◌∙◌, subst, slice_get}
use Rattle.std.specs.List.{AllByRecursion}
use Rattle.std.proofs.lemmas.List.Elements.{recursion_from_All}
use Rattle.std.proofs.lemmas.Option.{slice_get_within, get_or_from_slice_get}
use Rattle.lists.proofs.Arranging.{bag_fixes, sort_ascends, occurrences-sort}
use Rattle.rows.specs.declared.value.Value.{Value}
use Rattle.rows.specs.Values.{row_cmp}
use Rattle.rows.proofs.Orders.{row_total, row_exact}
use Rattle.rows.specs.declared.plain.LayoutColumn.{LayoutColumn}
use Rattle.rel_meaning.specs.Expression.{Question}
use Rattle.rel_meaning.specs.declared.query.Table.{Table}
use Rattle.rel_meaning.specs.declared.query.Var.{Var}
use Rattle.rows.specs.Layouts.{FitsColumns}
use Rattle.rel_meaning.specs.Meaning.{IsResolved, IsTable, meaning, layout_column, rows_at, columns_at}
use Rattle.plan_tree.specs.declared.tree.Method.{Method}
use Rattle.plan_tree.specs.declared.tree.Way.{Way}
use Rattle.plan_tree.specs.Assignments.{columns_for, columns_if, rows_for, rows_if}
use Rattle.plan_tree.specs.Trees.{Shape, one, scan, join, IsTree}
use Rattle.plan_tree.specs.TreeLaws.{FitColumns, NamesOwn, ReadsRows, SameRows, ScanReads, answer_over, tree_answer}
use Rattle.plan_tree.proofs.Sums.{total, Same}
use Rattle.plan_tree.proofs.Bags.{sort_same}
use Rattle.plan_tree.proofs.Resolved.{resolved_names}
use Rattle.plan_tree.proofs.TreeMeaning.{tree_means}
use Rattle.plan_tree.proofs.TreeRows.{Reads}

-- rows that stand as often in both lists have the same sums
pub sums_of : (xs ys : List (List Value)) → SameRows xs ys → Same xs ys
sums_of xs ys same f =
    let order = row_total [] in
    let sorted = bag_fixes order (row_exact []) _ _ (sort_ascends order xs) (sort_ascends order ys) (λ z. occurrences-sort order z xs ∙ same z ∙ sym (occurrences-sort order z ys)) in
    sym (sort_same (row_cmp []) xs f) ∙ ap (total f) sorted ∙ sort_same (row_cmp []) ys f

-- each tree of a query that names its own variables alone, over rows that fit their columns
module _ (db : List Table) (q : Question) (columns : ℕ → List LayoutColumn) (fit : FitColumns db q columns) (scanned : ℕ → Way → List (List Value)) where
  same_reads : (t : Shape) → ReadsRows columns (rows_for db q.vars) scanned t → Reads columns (rows_for db q.vars) fit scanned t
  same_reads (one tests) h = tt
  same_reads (scan v w tests) h = sums_of _ _ h
  same_reads (join m a b keys tests) h = (same_reads a h.0, same_reads b h.1)

pub answers_over : (db : List Table) (q : Question) (m : Method) (t : Shape) (columns : ℕ → List LayoutColumn) (scanned : ℕ → Way → List (List Value)) → FitColumns db q columns → NamesOwn q → IsTree q m t →
    ReadsRows columns (rows_for db q.vars) scanned t → answer_over columns q scanned t ≡ meaning db q
answers_over db q m t columns scanned fit names tree h = tree_means db q m t tree names columns fit scanned (same_reads db q columns fit scanned t h)

module _ (db : List Table) (q : Question) (ok : IsResolved db q) where
  table_there : (relation : ℕ) (table : Table) → slice_get db relation ≡ Some table → IsTable table
  table_there relation table h =
      subst IsTable (get_or_from_slice_get db relation table table h) (ok.tables relation table (slice_get_within db relation table h))

  table_fits : (relation : ℕ) (o : Option Table) → slice_get db relation ≡ o → AllByRecursion (FitsColumns (columns_at o)) (rows_at o)
  table_fits relation None h = tt
  table_fits relation (Some table) h = recursion_from_All (FitsColumns (map layout_column table.columns)) table.rows (table_there relation table h)

  var_fits : (o : Option Var) → AllByRecursion (FitsColumns (columns_if db o)) (rows_if db o)
  var_fits None = tt
  var_fits (Some v) = table_fits v.relation (slice_get db v.relation) refl

  pub fits : (v : ℕ) → AllByRecursion (FitsColumns (columns_for db q.vars v)) (rows_for db q.vars v)
  fits v = var_fits (slice_get q.vars v)

  pub answers : (m : Method) (t : Shape) (scanned : ℕ → Way → List (List Value)) → IsTree q m t → ScanReads db q scanned t → tree_answer db q scanned t ≡ meaning db q
  answers m t scanned tree h = answers_over db q m t (columns_for db q.vars) scanned fits (resolved_names db q ok) tree h
