-- Lists of fragments that fit together, and the shape of their rows.
use Rattle.std.specs.Prelude.{◌≡◌, ◌<◌, ◌≤◌, ◌+◌, ◌-◌, ◌^◌, ℕ, false, IsTrue, ◌⊎◌, List, [], ◌∷◌, map, length, take, drop, Option, Some, IsSome, slice_get, unwrap_or, ⊤}
use Rattle.std.specs.List.{AllByRecursion}
use Rattle.std.specs.Ordering.{nat_cmp}
use Rattle.lists.specs.Arranged.{Ascends}
use Rattle.rows.specs.declared.value.Value.{Value}
use Rattle.rows.specs.declared.order.SortKey.{SortKey}
use Rattle.rows.specs.declared.plain.Column.{Column}
use Rattle.rows.specs.declared.plain.ColumnRef.{ColumnRef}
use Rattle.rows.specs.declared.plain.Interval.{Interval}
use Rattle.rows.specs.declared.plain.KeyIndex.{KeyIndex}
use Rattle.rows.specs.declared.plain.KeyPair.{KeyPair}
use Rattle.rows.specs.declared.plain.LayoutColumn.{LayoutColumn}
use Rattle.rows.specs.declared.plain.LayoutPart.{LayoutPart}
use Rattle.rel_meaning.specs.Expression.{Expression, Output}
use Rattle.rows.specs.Layouts.{all_columns, column_place, column_type, HasType, IsRowIn}
use Rattle.rel_meaning.specs.Typing.{type_of, is_truth, compare_type, integer_bound}
use Rattle.aggregate_op.specs.declared.fold.Fold.{Fold}
use Rattle.aggregate_op.specs.declared.fold.FoldOp.{FoldOp}
use Rattle.aggregate_op.specs.declared.fold.FoldOp.TheVariants.{Sum}
use Rattle.aggregate_op.specs.Partials.{IsPartial}
use Rattle.plan_tree.specs.declared.fragment.Fragment.{Fragment}
use Rattle.plan_tree.specs.declared.fragment.Source.{Source}
use Rattle.plan_tree.specs.declared.fragment.Source.TheVariants as source
use Rattle.plan_tree.specs.Combining.{IsOrdered, AreApart, merged}
use Rattle.plan_tree.specs.Pieces.{Probing, Ending, building, answering, folding, sorting, Piece}
use Rattle.plan_tree.specs.Fragments.{added, source_layout, merge_slices}

-- ---- types

-- tests of rows of a layout
abbrev pub AreTests : List LayoutPart → List Expression → Type 0
AreTests layout tests = AllByRecursion (λ t. IsTrue (is_truth (type_of t (column_type layout)))) tests

abbrev pub IsColumn : List LayoutPart → ColumnRef → Type 0
IsColumn layout c = IsSome (column_type layout c.var c.col)

-- a column of each of two layouts, of one type
abbrev pub IsPair : List LayoutPart → List LayoutPart → KeyPair → Type 0
IsPair first second key = IsTrue (is_truth (compare_type (column_type first key.build.var key.build.col) (column_type second key.probe.var key.probe.col)))

abbrev pub type_at : List LayoutPart → Output → Option LayoutColumn
type_at layout target = type_of target.expr (column_type layout)

abbrev pub target_types : List LayoutPart → List Output → List (Option LayoutColumn)
target_types layout targets = map (type_at layout) targets

abbrev pub AreTargets : List LayoutPart → List Output → Type 0
AreTargets layout targets = AllByRecursion (λ type. IsSome type) (target_types layout targets)

-- ---- inputs

-- there is such an earlier fragment, and it has a property
abbrev pub HasInput : List Piece → ℕ → (Piece → Type 0) → Type 0
HasInput before number Property = (piece : Piece) × (slice_get before number ≡ Some piece) × Property piece

-- it ends with a build of these rows by the build sides of the keys
abbrev pub IsBuilt : List LayoutPart → List KeyPair → Piece → Type 0
IsBuilt layout keys piece = (piece.layout ≡ layout) × (piece.end ≡ building (map (λ key. key.build) keys))

-- it ends with an answer whose targets have the types and bounds of these columns
abbrev pub AnswersColumns : List LayoutColumn → List LayoutPart → Ending → Type 0
AnswersColumns columns layout (building keys) = ⊥
AnswersColumns columns layout (answering targets unique keys) = target_types layout targets ≡ map Some columns
AnswersColumns columns layout (folding targets fold) = ⊥
AnswersColumns columns layout (sorting keys) = ⊥

abbrev pub IsAnswered : List LayoutPart → Piece → Type 0
IsAnswered layout piece = AnswersColumns (all_columns layout) piece.layout piece.end

-- up by a column of a layout
abbrev pub sort_key : List LayoutPart → ColumnRef → SortKey
sort_key layout c = record { column = unwrap_or (column_place layout c.var c.col) 0; down = false }

-- it ends with a sort of these rows by these columns
abbrev pub IsSorted : List LayoutPart → List ColumnRef → Piece → Type 0
IsSorted layout columns piece = (piece.layout ≡ layout) × (piece.end ≡ sorting (map (sort_key layout) columns))

-- ---- parts of a fragment

-- an interval of the entries of an index that has a page and a level where it has an entry
pub record IsIndexed (index : KeyIndex) (interval : Interval) : Type 0 where
  pub begins : interval.from ≤ interval.upto
  pub within : interval.upto ≤ index.entries
  pub pages : 0 < index.entries → 0 < index.pages
  pub levels : 0 < index.entries → 0 < index.height

-- two earlier fragments that are sorted by the keys, and layouts that share no variable
pub record IsMerge (before : List Piece) (left right : ℕ) (keys : List KeyPair) (left_layout right_layout : List LayoutPart) : Type 0 where
  pub left_input : HasInput before left (IsSorted left_layout (map (λ key. key.build) keys))
  pub right_input : HasInput before right (IsSorted right_layout (map (λ key. key.probe) keys))
  pub left_ordered : IsOrdered left_layout
  pub right_ordered : IsOrdered right_layout
  pub apart : AreApart left_layout right_layout
  pub pairs : AllByRecursion (IsPair left_layout right_layout) keys

-- a source with so many positions, of a fragment that reads so many pages: the positions of a heap
-- file are its pages
abbrev pub IsSource : List Piece → Source → List Column → ℕ → ℕ → Type 0
IsSource before source.One columns positions pages = (columns ≡ []) × (positions ≡ 1)
IsSource before (source.Heap var file) columns positions pages = positions ≡ pages
IsSource before (source.Index var index heap_file interval) columns positions pages =
    IsIndexed index interval × (positions ≡ interval.upto - interval.from)
IsSource before (source.Merge left right keys left_layout right_layout) columns positions pages =
    IsMerge before left right keys left_layout right_layout × (columns ≡ []) × (positions ≡ merge_slices)

-- what a probe reads: rows that are built by its keys, or, without keys, the answer of an earlier statement, beside nothing else
abbrev pub ReadsBuilt : List Piece → List LayoutPart → Probing → Type 0
ReadsBuilt before layout p = HasInput before p.input (IsBuilt (added layout p.layout) p.keys)

abbrev pub ReadsAnswer : List Piece → List LayoutPart → Probing → Type 0
ReadsAnswer before layout p = (layout ≡ []) × (p.keys ≡ []) × HasInput before p.input (IsAnswered (added layout p.layout))

pub record IsProbe (before : List Piece) (layout : List LayoutPart) (p : Probing) : Type 0 where
  pub layouts : p.layout ≡ merged (added layout p.layout) layout
  pub ordered : IsOrdered p.layout
  pub input : ReadsBuilt before layout p ⊎ ReadsAnswer before layout p
  pub keys : AllByRecursion (IsPair (added layout p.layout) layout) p.keys
  pub tests : AreTests p.layout p.tests

-- probes that lead from one layout to another
abbrev pub AreProbes : List Piece → List LayoutPart → List Probing → List LayoutPart → Type 0
AreProbes before layout [] last = last ≡ layout
AreProbes before layout (p ∷ ps) last = IsProbe before layout p × AreProbes before p.layout ps last

-- an integer for each sum
abbrev pub AreSummed : List FoldOp → List (Option LayoutColumn) → Type 0
AreSummed [] types = ⊤
AreSummed (op ∷ ops) [] = ⊤
AreSummed (Sum ∷ ops) (type ∷ types) = IsSome (integer_bound type) × AreSummed ops types
AreSummed (op ∷ ops) (type ∷ types) = AreSummed ops types

-- a target for each group value, and then one for each op
pub record IsFolded (layout : List LayoutPart) (targets : List Output) (fold : Fold) : Type 0 where
  pub typed : AreTargets layout targets
  pub width : length targets ≡ fold.groups + length fold.ops
  pub sums : AreSummed fold.ops (drop fold.groups (target_types layout targets))

abbrev pub IsBelow : ℕ → SortKey → Type 0
IsBelow width key = key.column < width

-- an end of rows of a layout
abbrev pub IsEnd : List LayoutPart → Ending → Type 0
IsEnd layout (building keys) = AllByRecursion (IsColumn layout) keys
IsEnd layout (answering targets unique keys) = AreTargets layout targets × AllByRecursion (IsBelow (length targets)) keys
IsEnd layout (folding targets fold) = IsFolded layout targets fold
IsEnd layout (sorting keys) = AllByRecursion (IsBelow (length (all_columns layout))) keys

-- a time from 1 to 2^40, and at most 2^40 pages
pub record IsTimed (pages time : ℕ) : Type 0 where
  pub few_pages : pages ≤ 2 ^ 40
  pub some_time : 1 ≤ time
  pub short : time ≤ 2 ^ 40

abbrev pub IsTimedFragment : Fragment → Type 0
IsTimedFragment f = IsTimed f.pages f.time

-- a fragment behind earlier ones
pub record IsPiece (before : List Piece) (piece : Piece) : Type 0 where
  pub source : IsSource before piece.pipe.source piece.pipe.columns piece.positions piece.pages
  pub tests : AreTests (source_layout piece.pipe.source piece.pipe.columns) piece.pipe.tests
  pub probes : AreProbes before (source_layout piece.pipe.source piece.pipe.columns) piece.pipe.probes piece.layout
  pub end : IsEnd piece.layout piece.end
  pub timed : IsTimed piece.pages piece.time

-- ---- lists of fragments

pub record AreWellFormed (pieces : List Piece) : Type 0 where
  pub few : length pieces ≤ 1000
  pub statements : Ascends nat_cmp (map (λ (piece : Piece). piece.statement) pieces)
  pub each : (number : ℕ) (piece : Piece) → slice_get pieces number ≡ Some piece → IsPiece (take number pieces) piece

-- ---- the shape of rows before an end

-- one value for each type, null or of the type and within its bound
abbrev pub FitsTypes : List (Option LayoutColumn) → List Value → Type 0
FitsTypes [] [] = ⊤
FitsTypes (Some c ∷ types) (v ∷ vs) = HasType v c × FitsTypes types vs
FitsTypes types vs = ⊥

-- the shape of what the positions of a fragment give
abbrev pub HasShape : List LayoutPart → Ending → List (List Value) → Type 0
HasShape layout (building keys) rows = AllByRecursion (IsRowIn layout) rows
HasShape layout (answering targets unique keys) rows = AllByRecursion (FitsTypes (target_types layout targets)) rows
HasShape layout (folding targets fold) rows = IsPartial fold rows
HasShape layout (sorting keys) rows = AllByRecursion (IsRowIn layout) rows
