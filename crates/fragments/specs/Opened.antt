-- What the code holds of a fragment before its end, and of what it is cut from.
use Rattle.std.specs.Prelude.{◌≡◌, ◌≤◌, ℕ, ◌+◌, List, [], ◌∷◌, ◌++◌, length, All}
use Rattle.rows.specs.declared.plain.LayoutPart.{LayoutPart}
use Rattle.rel_meaning.specs.Expression.{question_of}
use Rattle.plan_tree.specs.Pieces.{Ending, Piece, piping_of}
use Rattle.plan_tree.specs.Trees.{Shape, one, scan, join}
use Rattle.plan_tree.specs.declared.tree.Method.TheVariants.{Hash, Merge}
use Rattle.seq_optimizer.specs.Costs.{CanPlan}
use Rattle.fragments.specs.declared.scans.Open.{Open}
use Rattle.fragments.specs.declared.known.Known.{Known}
use Rattle.fragments.specs.declared.known.Stored.{Stored}
use Rattle.fragments.specs.declared.known.Statement.{Statement}
use Rattle.fragments.specs.Homes as homes
use Rattle.fragments.specs.Homes.{columns_in}
use Rattle.fragments.specs.Cuts.{Facts, Opening, cut_tree, ended, facts_of, tree_layout}

abbrev pub opening_of : Open → Opening
opening_of o = record {
  pipe = piping_of o.pipe;
  positions = o.positions;
  pages = o.pages;
  rows = o.rows;
  joins = o.joins;
}

-- this fragment, whose rows have this layout
pub record IsOpen (o : Open) (opening : Opening) (layout : List LayoutPart) : Type 0 where
  pub is : opening_of o ≡ opening
  pub laid : o.layout ≡ layout

abbrev pub known_of : Known → homes.Known
known_of known = record {
  relations = known.catalog.now;
  files = known.files.now;
  indexes = known.indexes.now;
  kept = known.kept.now;
}

abbrev pub store_of : Stored → homes.Store
store_of stored = record {
  columns = stored.columns.now;
  heap_file = stored.heap_file;
  pages = stored.pages;
  index = stored.index;
}

abbrev pub facts_in : Statement → Facts
facts_in s = facts_of (known_of s.known) s.lasts.now (question_of s.query.now) s.stats.now

-- a statement of a script, and what it may read
pub record IsStatement (s : Statement) : Type 0 where
  pub few : length s.lasts.now ≤ 16
  pub relations : length s.known.catalog.now ≤ 16
  pub narrow : (v : ℕ) → length (columns_in ((facts_in s).home v)) ≤ 32
  pub plan : CanPlan (question_of s.query.now) s.stats.now
  pub bounds : All (λ k. length k.bounds ≡ length k.columns) s.known.kept.now

-- the last fragment of a side was added
pub record IsSide (statement : ℕ) (layout : List LayoutPart) (opening : Opening) (ending : Ending) (old new : List Piece) (number : ℕ) (side : List LayoutPart) : Type 0 where
  pub pieces : new ≡ old ++ ended statement layout opening ending ∷ []
  pub at : number ≡ length old
  pub laid : side ≡ layout

-- how many fragments a tree has
abbrev pub fragment_count : Shape → ℕ
fragment_count (one tests) = 1
fragment_count (scan v how tests) = 1
fragment_count (join Hash a b keys tests) = fragment_count a + fragment_count b
fragment_count (join Merge a b keys tests) = fragment_count a + fragment_count b + 1

-- the fragments of a tree but the last one were added, and that one is open
pub record GivesCut (facts : Facts) (t : Shape) (old new : List Piece) (opening : Opening) (layout : List LayoutPart) : Type 0 where
  pub pieces : new ≡ old ++ (cut_tree facts (length old) t).before
  pub last : opening ≡ (cut_tree facts (length old) t).last
  pub laid : layout ≡ tree_layout facts t
