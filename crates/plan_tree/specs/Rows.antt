-- The rows of trees.
use Rattle.std.specs.Prelude.{ℕ, List, [], ◌∷◌, map, filter}
use Rattle.std.specs.List.{flat_map}
use Rattle.rows.specs.declared.value.Value.{Value}
use Rattle.rows.specs.declared.plain.KeyPair.{KeyPair}
use Rattle.rows.specs.declared.plain.LayoutColumn.{LayoutColumn}
use Rattle.rows.specs.declared.plain.LayoutPart.{LayoutPart}
use Rattle.rel_meaning.specs.Expression.{Expression}
use Rattle.rows.specs.Layouts.{column_in, one_part}
use Rattle.plan_tree.specs.declared.tree.Way.{Way}
use Rattle.plan_tree.specs.Conjuncts.{all_met}
use Rattle.rows.specs.Keys.{keys_match}
use Rattle.plan_tree.specs.Trees.{Shape, one, scan, join}
use Rattle.plan_tree.specs.Combining.{combined, merged}

-- the rows for which every test is true
abbrev pub kept : List LayoutPart → List Expression → List (List Value) → List (List Value)
kept layout tests rows = filter (λ row. all_met tests (column_in layout row)) rows

-- each probing row, of the second layout, with each of the built rows that have its keys, in the order of the built rows
abbrev pub probed : List LayoutPart → List LayoutPart → List LayoutPart → List KeyPair → List (List Value) → List (List Value) → List (List Value)
probed layout first second keys built rows = flat_map (λ row. map (λ b. combined layout first second b row) (filter (λ b. keys_match first second keys b row) built)) rows

-- the layout of a tree's rows, where the variables have these columns
abbrev pub layout_of_tree : (ℕ → List LayoutColumn) → Shape → List LayoutPart
layout_of_tree columns (one tests) = []
layout_of_tree columns (scan v way tests) = one_part v (columns v)
layout_of_tree columns (join m a b keys tests) = merged (layout_of_tree columns a) (layout_of_tree columns b)

-- the rows of a tree, where a scan reads these rows
abbrev pub tree_rows : (ℕ → List LayoutColumn) → (ℕ → Way → List (List Value)) → Shape → List (List Value)
tree_rows columns scanned (one tests) = kept [] tests ([] ∷ [])
tree_rows columns scanned (scan v way tests) = kept (one_part v (columns v)) tests (scanned v way)
tree_rows columns scanned (join m a b keys tests) =
    kept (merged (layout_of_tree columns a) (layout_of_tree columns b)) tests
    (probed (merged (layout_of_tree columns a) (layout_of_tree columns b)) (layout_of_tree columns a) (layout_of_tree columns b) keys (tree_rows columns scanned a) (tree_rows columns scanned b))
