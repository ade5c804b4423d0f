-- The fragments of a tree.
use Rattle.std.specs.Prelude.{ℕ, ◌+◌, ◌-◌, ◌*◌, Bool, List, [], ◌∷◌, ◌++◌, map, length, min, max, Option, Some, None, slice_get}
use Rattle.rows.specs.declared.plain.Interval.{Interval}
use Rattle.rows.specs.declared.plain.KeyIndex.{KeyIndex}
use Rattle.rows.specs.declared.plain.KeyPair.{KeyPair}
use Rattle.rows.specs.declared.plain.LayoutColumn.{LayoutColumn}
use Rattle.rows.specs.declared.plain.LayoutPart.{LayoutPart}
use Rattle.rows.specs.Layouts.{one_part}
use Rattle.rel_meaning.specs.Expression.{Expression, Question}
use Rattle.plan_tree.specs.declared.fragment.Source.TheVariants as source
use Rattle.plan_tree.specs.declared.tree.Method.TheVariants.{Hash, Merge}
use Rattle.plan_tree.specs.declared.tree.Way.{Way}
use Rattle.plan_tree.specs.declared.tree.Way.TheVariants as way
use Rattle.plan_tree.specs.Combining.{merged}
use Rattle.plan_tree.specs.Conjuncts.{conjuncts}
use Rattle.plan_tree.specs.Fragments.{merge_slices}
use Rattle.plan_tree.specs.Pieces.{Probing, Piping, Ending, building, answering, sorting, Piece}
use Rattle.plan_tree.specs.Rows.{layout_of_tree}
use Rattle.plan_tree.specs.Trees.{Shape, one, scan, join, has}
use Rattle.plan_tree.specs.WellFormed.{sort_key}
use Rattle.seq_optimizer.specs.declared.stats.VarStats.{VarStats}
use Rattle.seq_optimizer.specs.Estimates.{limit, set_size, stats_at, variable_sizes}
use Rattle.fragments.specs.Homes.{Store, Home, nowhere, stored, made, columns_in, Known, home_for}

-- what the cut of a statement's tree knows: the statement's number, the relation of each range
-- variable and how many rows it has, and how many rows a set of variables is taken to have
pub record Facts : Type 0 where
  pub statement : ℕ
  pub home : ℕ → Home
  pub rows : ℕ → ℕ
  pub size : (ℕ → Bool) → ℕ

abbrev pub columns_for : Facts → ℕ → List LayoutColumn
columns_for facts v = columns_in (facts.home v)

-- the layout of a tree's rows
abbrev pub tree_layout : Facts → Shape → List LayoutPart
tree_layout facts t = layout_of_tree (columns_for facts) t

-- A fragment before its end. Its source has so many positions, reads so many pages and gives so many
-- rows; a probe of a join counts once for each of them.
pub record Opening : Type 0 where
  pub pipe : Piping
  pub positions : ℕ
  pub pages : ℕ
  pub rows : ℕ
  pub joins : ℕ

-- the time of a fragment: 8 for a page, and for each row 1 and 1 more for each probe
abbrev pub time_of : ℕ → ℕ → ℕ → ℕ
time_of pages rows joins = min (max 1 (8 * pages + rows * (1 + joins))) limit

-- a fragment of a statement with its end, whose rows before the end have this layout
abbrev pub ended : ℕ → List LayoutPart → Opening → Ending → Piece
ended statement layout opening ending = record {
  statement = statement;
  pipe = opening.pipe;
  end = ending;
  layout = layout;
  positions = opening.positions;
  pages = opening.pages;
  time = time_of opening.pages opening.rows opening.joins;
}

abbrev pub closed : Facts → Shape → Opening → Ending → Piece
closed facts t opening ending = ended facts.statement (tree_layout facts t) opening ending

-- ---- scans

abbrev pub one_opening : List Expression → Opening
one_opening tests = record {
  pipe = record { source = source.One; columns = []; tests = tests; probes = [] };
  positions = 1;
  pages = 0;
  rows = 1;
  joins = 0;
}

-- the pages of the heap file, one position each
abbrev pub heap_opening : ℕ → Store → ℕ → List Expression → Opening
heap_opening v store rows tests = record {
  pipe = record { source = source.Heap v store.heap_file; columns = store.columns; tests = tests; probes = [] };
  positions = store.pages;
  pages = store.pages;
  rows = rows;
  joins = 0;
}

-- the entries of the interval, one position each, with a page for each and one for each level
abbrev pub index_opening : ℕ → Store → KeyIndex → Interval → List Expression → Opening
index_opening v store index interval tests = record {
  pipe = record { source = source.Index v index store.heap_file interval; columns = store.columns; tests = tests; probes = [] };
  positions = interval.upto - interval.from;
  pages = min (interval.upto - interval.from + index.height) limit;
  rows = interval.upto - interval.from;
  joins = 0;
}

-- one position with the empty row, probed without a key with the rows that a fragment made
abbrev pub kept_opening : ℕ → ℕ → List LayoutColumn → ℕ → List Expression → Opening
kept_opening v number columns rows tests = record {
  pipe = record {
    source = source.One;
    columns = [];
    tests = [];
    probes = record { input = number; keys = []; tests = tests; layout = one_part v columns } ∷ [];
  };
  positions = 1;
  pages = 0;
  rows = rows;
  joins = 0;
}

-- no interval is of a relation without an index
abbrev pub indexed_opening : ℕ → Store → Option KeyIndex → Interval → ℕ → List Expression → Opening
indexed_opening v store None interval rows tests = heap_opening v store rows tests
indexed_opening v store (Some index) interval rows tests = index_opening v store index interval tests

abbrev pub stored_opening : ℕ → Store → Way → ℕ → List Expression → Opening
stored_opening v store way.Heap rows tests = heap_opening v store rows tests
stored_opening v store (way.Index interval) rows tests = indexed_opening v store store.index interval rows tests

abbrev pub scan_opening : ℕ → Home → Way → ℕ → List Expression → Opening
scan_opening v nowhere how rows tests = one_opening tests
scan_opening v (stored store) how rows tests = stored_opening v store how rows tests
scan_opening v (made number columns) how rows tests = kept_opening v number columns rows tests

-- ---- trees

abbrev pub with_probe : Opening → Probing → Opening
with_probe o probe = record {
  pipe = record { source = o.pipe.source; columns = o.pipe.columns; tests = o.pipe.tests; probes = o.pipe.probes ++ probe ∷ [] };
  positions = o.positions;
  pages = o.pages;
  rows = o.rows;
  joins = o.joins + 1;
}

-- the fragments of a tree but for the end of the last one
pub record Cut : Type 0 where
  pub before : List Piece
  pub last : Opening

-- the build side ends with a build by its key columns, and the last fragment of the probe side gets a
-- probe of it, with the tests of the join
abbrev pub hash_cut : Facts → ℕ → Shape → Shape → List KeyPair → List Expression → Cut → Cut → Cut
hash_cut facts input a b keys tests ca cb = record {
  before = ca.before ++ closed facts a ca.last (building (map (λ key. key.build) keys)) ∷ cb.before;
  last = with_probe cb.last (record {
    input = input;
    keys = keys;
    tests = tests;
    layout = merged (tree_layout facts a) (tree_layout facts b);
  });
}

-- the merge of two fragments whose rows have these layouts
abbrev pub merge_of : ℕ → ℕ → List LayoutPart → List LayoutPart → List KeyPair → List Expression → ℕ → Opening
merge_of left right first second keys tests rows = record {
  pipe = record { source = source.Merge left right keys first second; columns = []; tests = tests; probes = [] };
  positions = merge_slices;
  pages = 0;
  rows = rows;
  joins = 0;
}

-- its rows are taken to be as many as both sides have
abbrev pub merge_opening : Facts → ℕ → ℕ → Shape → Shape → List KeyPair → List Expression → Opening
merge_opening facts left right a b keys tests =
    merge_of left right (tree_layout facts a) (tree_layout facts b) keys tests
    (facts.size (has a) + facts.size (has b))

-- each side ends with a sort by its key columns
abbrev pub left_sort : Facts → Shape → List KeyPair → Ending
left_sort facts a keys = sorting (map (sort_key (tree_layout facts a)) (map (λ key. key.build) keys))

abbrev pub right_sort : Facts → Shape → List KeyPair → Ending
right_sort facts b keys = sorting (map (sort_key (tree_layout facts b)) (map (λ key. key.probe) keys))

abbrev pub merge_cut : Facts → ℕ → ℕ → Shape → Shape → List KeyPair → List Expression → Cut → Cut → Cut
merge_cut facts left right a b keys tests ca cb = record {
  before = ca.before ++ closed facts a ca.last (left_sort facts a keys)
      ∷ (cb.before ++ closed facts b cb.last (right_sort facts b keys) ∷ []);
  last = merge_opening facts left right a b keys tests;
}

-- the fragments of a tree, numbered from n on: those of the first side come first
abbrev pub cut_tree : Facts → ℕ → Shape → Cut
cut_tree facts n (one tests) = record { before = []; last = one_opening tests }
cut_tree facts n (scan v how tests) =
    record { before = []; last = scan_opening v (facts.home v) how (facts.rows v) tests }
cut_tree facts n (join Hash a b keys tests) =
    let ca = cut_tree facts n a in
    let cb = cut_tree facts (n + length ca.before + 1) b in
    hash_cut facts (n + length ca.before) a b keys tests ca cb
cut_tree facts n (join Merge a b keys tests) =
    let ca = cut_tree facts n a in
    let cb = cut_tree facts (n + length ca.before + 1) b in
    merge_cut facts (n + length ca.before) (n + length ca.before + 1 + length cb.before) a b keys tests ca cb

-- the number of the last fragment
abbrev pub last_of : Facts → ℕ → Shape → ℕ
last_of facts n t = n + length (cut_tree facts n t).before

-- the fragments of a statement: the last one ends with its answer
abbrev pub cut_query : Facts → ℕ → Question → Shape → List Piece
cut_query facts n q t =
    (cut_tree facts n t).before
    ++ closed facts t (cut_tree facts n t).last (answering q.targets q.unique q.keys) ∷ []

-- ---- the facts of a statement

-- those of a query over the known relations, whose variables have these stats, where the last
-- fragments of the statements before it have these numbers
abbrev pub facts_of : Known → List ℕ → Question → List VarStats → Facts
facts_of known lasts q stats = record {
  statement = length lasts;
  home = λ v. home_for known lasts (slice_get q.vars v);
  rows = λ v. (stats_at stats v).rows;
  size = λ set. let cs = conjuncts q.test in set_size cs (variable_sizes cs stats) set;
}
