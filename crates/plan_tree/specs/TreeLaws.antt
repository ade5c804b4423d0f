-- What the rows of a query's trees have to do with the query.
use Rattle.std.specs.Prelude.{◌≡◌, ℕ, IsTrue, List, [], ⊤}
use Rattle.std.specs.List.{AllByRecursion}
use Rattle.lists.specs.Arranged.{occurrences}
use Rattle.rows.specs.declared.value.Value.{Value}
use Rattle.rows.specs.Values.{arranged, row_cmp}
use Rattle.rows.specs.declared.plain.LayoutColumn.{LayoutColumn}
use Rattle.rel_meaning.specs.Expression.{Question}
use Rattle.rel_meaning.specs.declared.query.Table.{Table}
use Rattle.rows.specs.Layouts.{FitsColumns, one_part}
use Rattle.plan_tree.specs.declared.tree.Way.{Way}
use Rattle.plan_tree.specs.Assignments.{columns_for, rows_for}
use Rattle.plan_tree.specs.Conjuncts.{conjuncts, is_within}
use Rattle.plan_tree.specs.Trees.{Shape, one, scan, join, is_variable}
use Rattle.plan_tree.specs.Rows.{kept, layout_of_tree, tree_rows}
use Rattle.plan_tree.specs.Fragments.{targets_of}

-- each row stands as often in both lists
abbrev pub SameRows : List (List Value) → List (List Value) → Type 0
SameRows xs ys = (row : List Value) → occurrences (row_cmp []) row xs ≡ occurrences (row_cmp []) row ys

-- a scan keeps, in any order, those of its variable's rows that pass its tests
abbrev pub ReadsRows : (ℕ → List LayoutColumn) → (ℕ → List (List Value)) →
    (ℕ → Way → List (List Value)) → Shape → Type 0
ReadsRows columns rows scanned (one tests) = ⊤
ReadsRows columns rows scanned (scan v w tests) =
    SameRows (kept (one_part v (columns v)) tests (scanned v w))
    (kept (one_part v (columns v)) tests (rows v))
ReadsRows columns rows scanned (join m a b keys tests) =
    ReadsRows columns rows scanned a × ReadsRows columns rows scanned b

-- the variables' rows are those of their tables
abbrev pub ScanReads : List Table → Question → (ℕ → Way → List (List Value)) → Shape → Type 0
ScanReads db q scanned t = ReadsRows (columns_for db q.vars) (rows_for db q.vars) scanned t

-- the values of the targets for the rows of a tree, in the order of an answer, where the variables
-- have these columns
abbrev pub answer_over : (ℕ → List LayoutColumn) → Question → (ℕ → Way → List (List Value)) →
    Shape → List (List Value)
answer_over columns q scanned t =
    arranged q.unique q.keys
    (targets_of q.targets (layout_of_tree columns t) (tree_rows columns scanned t))

-- where they have those of their tables
abbrev pub tree_answer : List Table → Question → (ℕ → Way → List (List Value)) → Shape → List (List Value)
tree_answer db q scanned t = answer_over (columns_for db q.vars) q scanned t

-- the rows of each variable's table fit these columns, whatever the bounds of their integers
abbrev pub FitColumns : List Table → Question → (ℕ → List LayoutColumn) → Type 0
FitColumns db q columns = (v : ℕ) → AllByRecursion (FitsColumns (columns v)) (rows_for db q.vars v)

-- the conjuncts of the test name variables of the query alone
abbrev pub NamesOwn : Question → Type 0
NamesOwn q = AllByRecursion (λ c. IsTrue (is_within (is_variable q) c)) (conjuncts q.test)
