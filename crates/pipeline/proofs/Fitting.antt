-- What is kept of earlier fragments fits where a later one reads it.
use Rattle.std.proofs.Common.{◌≡◌, ℕ, Bool, true, false, List, [], ◌∷◌, ◌++◌, map, Some, refl, sym, ap, ◌∙◌, subst, inl, inr, slice_get}
use Rattle.std.specs.Prelude.{◌⊎◌}
use Rattle.std.specs.List.{All, AllByRecursion, AllZip}
use Rattle.std.proofs.lemmas.List.{append-nil}
use Rattle.std.proofs.lemmas.List.Elements.{All-cons, All-nil}
use Rattle.lists.specs.Arranged.{distinct_by}
use Rattle.rows.specs.declared.value.Value.{Value}
use Rattle.rows.specs.declared.order.SortKey.{SortKey}
use Rattle.rows.specs.declared.plain.Column.{Column}
use Rattle.rows.specs.declared.plain.ColumnRef.{ColumnRef}
use Rattle.rows.specs.declared.plain.KeyPair.{KeyPair}
use Rattle.rows.specs.declared.plain.LayoutColumn.{LayoutColumn}
use Rattle.rows.specs.declared.plain.LayoutPart.{LayoutPart}
use Rattle.rows.specs.Layouts.{FitsColumns, IsRowIn, all_columns}
use Rattle.rows.specs.Values.{arranged, row_cmp}
use Rattle.hash_join.specs.Table.{HasKeys, IsColumn, Table, places_of, rows_of}
use Rattle.hash_join.proofs.Places.{keys_are}
use Rattle.merge_join.specs.Sides.{IsSide, left_columns, right_columns}
use Rattle.merge_join.proofs.InOrder.{arranged_side, pairs_there}
use Rattle.plan_tree.specs.declared.fragment.Source.{Source}
use Rattle.plan_tree.specs.declared.fragment.Source.TheVariants as source
use Rattle.plan_tree.specs.EndValues.{IsEndValue, one_list}
use Rattle.plan_tree.specs.Fragments.{added}
use Rattle.plan_tree.specs.Inputs.{inputs_of, probe_inputs, source_inputs}
use Rattle.plan_tree.specs.Pieces.{Ending, Piece, Probing, answering, building, folding, sorting}
use Rattle.plan_tree.specs.WellFormed.{AnswersColumns, AreProbes, FitsTypes, HasInput, HasShape, IsAnswered, IsBuilt, IsMerge, IsPiece, IsProbe, IsSorted, IsSource, ReadsAnswer, ReadsBuilt, sort_key, target_types}
use Rattle.plan_tree.proofs.Elements.{all_distinct, all_flat, all_more, all_sort}
use Rattle.pipeline.specs.KeptValues.{AreKept, IsKept, IsShapedValue}
use Rattle.pipeline.specs.Positions.{AreInputs, FitInputs}
use Rattle.pipeline.specs.Probes.{FitProbes, FitsProbe}

all_of : {X : Type 0} (P : X → Type 0) (xs : List X) → AllByRecursion P xs → All P xs
all_of P [] all = All-nil P
all_of P (x ∷ xs) all = All-cons P x xs all.0 (all_of P xs all.1)

-- ---- rows of several parts

all_rows : (P : List Value → Type 0) (parts : List (List (List Value))) → AllByRecursion (AllByRecursion P) parts → AllByRecursion P (rows_of parts)
all_rows P parts all = all_flat (AllByRecursion P) P (λ rows. rows) (λ rows h. h) parts all

all_arranged : (P : List Value → Type 0) (unique : Bool) (keys : List SortKey) (rows : List (List Value)) → AllByRecursion P rows → AllByRecursion P (arranged unique keys rows)
all_arranged P true keys rows all = all_sort (row_cmp keys) P (distinct_by (row_cmp keys) rows) (all_distinct (row_cmp keys) P rows all)
all_arranged P false keys rows all = all_sort (row_cmp keys) P rows all

in_one_list : (P : List Value → Type 0) (rows : List (List Value)) → AllByRecursion P rows → AllByRecursion P (rows_of (rows ∷ []))
in_one_list P rows all = subst (AllByRecursion P) (sym (append-nil rows)) all

types_fit : (columns : List LayoutColumn) (row : List Value) → FitsTypes (map Some columns) row → FitsColumns columns row
types_fit [] [] h = tt
types_fit [] (v ∷ vs) h = elim h [ ]
types_fit (c ∷ cs) [] h = elim h [ ]
types_fit (c ∷ cs) (v ∷ vs) h = (h.0, types_fit cs vs h.1)

-- ---- the value of an end

-- a build's table is found by the build sides of the keys
built_fits : (layout : List LayoutPart) (keys : List KeyPair) (piece : Piece) (table : Table) → AllByRecursion (IsColumn layout) (map (λ key. key.build) keys) → IsBuilt layout keys piece → IsShapedValue piece table →
    HasKeys layout (map (λ key. key.build) keys) table × AllByRecursion (IsRowIn layout) (rows_of table.lists)
built_fits layout keys piece table there is kept =
    let columns = map (λ key. key.build) keys in
    let shapes = subst (λ l. AllByRecursion (AllByRecursion (IsRowIn l)) kept.0) is.0 (subst (λ e. AllByRecursion (HasShape piece.layout e) kept.0) is.1 kept.1) in
    let value : table ≡ record { lists = kept.0; columns = places_of layout columns } =
    subst (λ l. table ≡ record { lists = kept.0; columns = places_of l columns }) is.0 (subst (λ e. IsEndValue e piece.layout kept.0 table) is.1 kept.2) in
    subst (λ (t : Table). HasKeys layout columns t × AllByRecursion (IsRowIn layout) (rows_of t.lists)) (sym value)
    (keys_are layout columns kept.0 (all_of (IsColumn layout) columns there), all_rows (IsRowIn layout) kept.0 shapes)

-- an answer's table has no keys
answered_fits : (columns : List LayoutColumn) (layout : List LayoutPart) (end : Ending) (parts : List (List (List Value))) (table : Table) → AnswersColumns columns layout end → AllByRecursion (HasShape layout end) parts → IsEndValue end layout parts table →
    (table.columns ≡ []) × AllByRecursion (FitsColumns columns) (rows_of table.lists)
answered_fits columns layout (building keys) parts table a shapes is = elim a [ ]
answered_fits columns layout (answering targets unique keys) parts table a shapes is =
    let fit = all_more (FitsTypes (target_types layout targets)) (FitsColumns columns) (rows_of parts) (λ row k. types_fit columns row (subst (λ types. FitsTypes types row) a k)) (all_rows (FitsTypes (target_types layout targets)) parts shapes) in
    let rows = arranged unique keys (rows_of parts) in (
      ap (λ (t : Table). t.columns) is,
      subst (λ (t : Table). AllByRecursion (FitsColumns columns) (rows_of t.lists)) (sym is) (in_one_list (FitsColumns columns) rows (all_arranged (FitsColumns columns) unique keys (rows_of parts) fit)),
    )
answered_fits columns layout (folding targets fold) parts table a shapes is = elim a [ ]
answered_fits columns layout (sorting keys) parts table a shapes is = elim a [ ]

-- a sorted table is a side of a merge
sorted_side : (layout : List LayoutPart) (columns : List ColumnRef) (piece : Piece) (table : Table) → AllByRecursion (IsColumn layout) columns → IsSorted layout columns piece → IsShapedValue piece table → IsSide layout columns table.lists
sorted_side layout columns piece table there is kept =
    let keys = map (sort_key layout) columns in
    let shapes = subst (λ l. AllByRecursion (AllByRecursion (IsRowIn l)) kept.0) is.0 (subst (λ e. AllByRecursion (HasShape piece.layout e) kept.0) is.1 kept.1) in
    let value : table ≡ one_list (arranged false keys (rows_of kept.0)) = subst (λ e. IsEndValue e piece.layout kept.0 table) is.1 kept.2 in
    let lists : table.lists ≡ arranged false keys (rows_of kept.0) ∷ [] = ap (λ (t : Table). t.lists) value in
    let rows = all_arranged (IsRowIn layout) false keys (rows_of kept.0) (all_rows (IsRowIn layout) kept.0 shapes) in
    arranged_side layout columns (rows_of kept.0) table.lists lists there
    (subst (λ ls. AllByRecursion (IsRowIn layout) (rows_of ls)) (sym lists) (in_one_list (IsRowIn layout) (arranged false keys (rows_of kept.0)) rows))

-- ---- inputs

module _ (before : List Piece) where
  fits_probe : (layout : List LayoutPart) (p : Probing) (table : Table) → IsProbe before layout p → IsKept before p.input table → FitsProbe layout p table
  fits_probe layout p table is kept = by is.input where
    by : ReadsBuilt before layout p ⊎ ReadsAnswer before layout p → FitsProbe layout p table
    by (inl built) =
        let fit = built_fits (added layout p.layout) p.keys built.0 table (pairs_there (added layout p.layout) layout p.keys is.keys).0 built.2 (kept built.0 built.1) in
        record { keys = fit.0; rows = fit.1 }
    by (inr answer) =
        let piece = answer.2.0 in
        let value = kept piece answer.2.1 in
        let fit = answered_fits (all_columns (added layout p.layout)) piece.layout piece.end value.0 table answer.2.2 value.1 value.2 in
        record { keys = λ row. cc; rows = fit.1 }

  fit_probes : (layout : List LayoutPart) (ps : List Probing) (last : List LayoutPart) (ts : List Table) → AreProbes before layout ps last → AllZip (IsKept before) (probe_inputs ps) ts → FitProbes layout ps ts
  fit_probes layout [] last [] probes all = refl
  fit_probes layout [] last (t ∷ ts) probes all = absurd all
  fit_probes layout (p ∷ ps) last [] probes all = absurd all
  fit_probes layout (p ∷ ps) last (t ∷ ts) probes all = (fits_probe layout p t probes.0 all.0, fit_probes p.layout ps last ts probes.1 all.1)

  fit_source : (s : Source) (columns : List Column) (positions pages : ℕ) (layout : List LayoutPart) (ps : List Probing) (last : List LayoutPart) (ts : List Table) → IsSource before s columns positions pages → AreProbes before layout ps last →
      AllZip (IsKept before) (source_inputs s ++ probe_inputs ps) ts → FitInputs s layout ps ts
  fit_source source.One columns positions pages layout ps last ts is probes all = fit_probes layout ps last ts probes all
  fit_source (source.Heap var file) columns positions pages layout ps last ts is probes all = fit_probes layout ps last ts probes all
  fit_source (source.Index var index heap_file interval) columns positions pages layout ps last ts is probes all = fit_probes layout ps last ts probes all
  fit_source (source.Merge left right keys first second) columns positions pages layout ps last [] is probes all = absurd all
  fit_source (source.Merge left right keys first second) columns positions pages layout ps last (a ∷ []) is probes all = absurd all.1
  fit_source (source.Merge left right keys first second) columns positions pages layout ps last (a ∷ b ∷ ts) is probes all =
      let m = is.0 in
      let there = pairs_there first second keys m.pairs in (
        sorted_side first (left_columns keys) m.left_input.0 a there.0 m.left_input.2 (all.0 m.left_input.0 m.left_input.1),
        sorted_side second (right_columns keys) m.right_input.0 b there.1 m.right_input.2 (all.1.0 m.right_input.0 m.right_input.1),
        fit_probes layout ps last ts probes all.1.1,
      )

-- what is kept of the fragments that a well formed one reads are its inputs
pub kept_fit : (before : List Piece) (piece : Piece) (tables : List Table) → IsPiece before piece → AreKept before piece tables → AreInputs piece.pipe tables
kept_fit before piece tables is all =
    fit_source before piece.pipe.source piece.pipe.columns piece.positions piece.pages _ piece.pipe.probes piece.layout tables is.source is.probes all
