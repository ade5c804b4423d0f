-- The rows of a well-formed fragment have its shape, whatever the files tell.
use Rattle.std.proofs.Common.{◌≡◌, ℕ, ◌+◌, ◌<◌, suc, zero, Bool, true, false, cond, not, ◌==◌, is_some, List, [], ◌∷◌, ◌++◌, length, map, take, drop, Option, Some, None, refl, sym, ap, ◌∙◌, subst, arith, inl, inr, slice_get, lit<, length-drop}
use Rattle.std.specs.Prelude.{IsSome, IfSome, ◌⊎◌}
use Rattle.std.specs.Int.Signed.{nat_abs-le}
use Rattle.std.specs.List.{filter, AllByRecursion, range_with_len}
use Rattle.std.specs.Option.{option_to_list, option_and_then}
use Rattle.std.proofs.lemmas.Bool.Decides.{nat_tests}
use Rattle.std.proofs.lemmas.List.{length-map, length-take-le, take-append-drop}
use Rattle.rows.specs.declared.value.Value.{Value}
use Rattle.rows.specs.declared.value.Value.TheVariants as value
use Rattle.rows.specs.declared.field.ColType.{ColType}
use Rattle.rows.specs.declared.field.ColType.TheVariants as col
use Rattle.rows.specs.declared.order.SortKey.{SortKey}
use Rattle.rows.specs.declared.plain.Column.{Column}
use Rattle.rows.specs.declared.plain.ColumnRef.{ColumnRef}
use Rattle.rows.specs.declared.plain.KeyPair.{KeyPair}
use Rattle.rows.specs.declared.plain.LayoutColumn.{LayoutColumn}
use Rattle.rows.specs.declared.plain.LayoutPart.{LayoutPart}
use Rattle.rows.specs.RowBytes.{Encodes, IsOfType, IsRowOf, IsValueOf}
use Rattle.rows.specs.RowFields.{row_in}
use Rattle.lists.specs.Arranged.{distinct_by}
use Rattle.rows.specs.Values.{arranged, row_cmp}
use Rattle.rows.proofs.RowBits.{IsBytes}
use Rattle.rows.proofs.RowWhole.{decodes}
use Rattle.rel_meaning.specs.Expression.{Output}
use Rattle.rel_meaning.specs.Eval.{eval}
use Rattle.rows.specs.Layouts.{all_columns, column_in, column_type, FitsColumns, HasType, IsRowIn, one_part}
use Rattle.rel_meaning.specs.Meaning.{bound_at, layout_column, project}
use Rattle.rel_meaning.specs.Typing.{bound_if, integer_bound}
use Rattle.rel_meaning.proofs.Typed.{column_typed, eval_typed}
use Rattle.aggregate_op.specs.declared.fold.Fold.{Fold}
use Rattle.aggregate_op.specs.declared.fold.FoldOp.{FoldOp}
use Rattle.aggregate_op.specs.declared.fold.FoldOp.TheVariants.{Count, Min, Max, Sum}
use Rattle.aggregate_op.specs.Partials.{AreOpValues, IsFoldRow, IsInteger, IsPartial, partial}
use Rattle.plan_tree.specs.declared.fragment.Source.{Source}
use Rattle.plan_tree.specs.declared.fragment.Source.TheVariants as source
use Rattle.plan_tree.specs.Conjuncts.{all_met}
use Rattle.plan_tree.specs.Combining.{AreApart, ComesFirst, IsOrdered, combined, has_part, merged, part_of}
use Rattle.rows.specs.Keys.{keys_match}
use Rattle.plan_tree.specs.Pieces.{Probing, Ending, building, answering, folding, sorting, Piece}
use Rattle.plan_tree.specs.Fragments.{EntryPlace, Stored, added, after_probe, all_rows, begun, ended, entry_item, given, matched, out, page_items, piped, position_rows, projected, rows_in, slice_of, source_layout, through, value_at, value_of}
use Rattle.plan_tree.specs.ShapeLaws.{HaveShapes, HoldsBytes}
use Rattle.plan_tree.specs.WellFormed.{AnswersColumns, AreProbes, AreSummed, FitsTypes, HasShape, IsBuilt, IsEnd, IsFolded, IsMerge, IsPiece, IsProbe, IsSorted, IsSource, ReadsAnswer, ReadsBuilt, target_types, type_at}
use Rattle.plan_tree.proofs.Ascending.{above_filter, merged_ascends}
use Rattle.plan_tree.proofs.Combined.{Distinct, distinct_merged, part_of_merged, part_some}
use Rattle.plan_tree.proofs.Elements.{all_distinct, all_filter, all_flat, all_map, all_more, all_slice, all_sort, flat_every}
use Rattle.plan_tree.proofs.Typing.{combined_fits, probed_fits}

-- ---- layouts

not_behind : (p : LayoutPart) (ps : List LayoutPart) → ComesFirst p ps → part_of ps p.var ≡ None
not_behind p [] first = refl
not_behind p (q ∷ qs) first =
    let k : (q.var == p.var) ≡ false = (let h = first.0 in grind (arith, nat_tests)) in ap (λ b. cond b (Some q.columns) (part_of qs p.var)) k ∙ not_behind p qs first.1

pub distinct_ordered : (layout : List LayoutPart) → IsOrdered layout → Distinct layout
distinct_ordered [] up = tt
distinct_ordered (p ∷ ps) up = (not_behind p ps up.0, distinct_ordered ps up.1)

pub filter_ordered : (f : LayoutPart → Bool) (layout : List LayoutPart) → IsOrdered layout → IsOrdered (filter f layout)
filter_ordered f [] up = tt
filter_ordered f (p ∷ ps) up = elim (f p) as (λ b. IsOrdered (cond b (p ∷ filter f ps) (filter f ps))) [
  | true ↦ (above_filter f p ps up.0, filter_ordered f ps up.1)
  | false ↦ filter_ordered f ps up.1
]

pub added_apart : (before after : List LayoutPart) → AreApart (added before after) before
added_apart before [] var h = absurd (let k : false ≡ true = h in cc)
added_apart before (q ∷ qs) var h = by (added_apart before qs var) (has_part before q.var) refl h where
  last : (c : Bool) → (q.var == var) ≡ c → has_part before q.var ≡ false → (has_part (added before qs) var ≡ true → part_of before var ≡ None) →
      is_some (cond c (Some q.columns) (part_of (added before qs) var)) ≡ true → part_of before var ≡ None
  last true e there rest k = let same : q.var ≡ var = grind (arith, nat_tests) in subst (λ v. part_of before v ≡ None) same (part_some (part_of before q.var) there)
  last false e there rest k = rest k

  by : (has_part (added before qs) var ≡ true → part_of before var ≡ None) → (b : Bool) → has_part before q.var ≡ b → has_part (cond (not b) (q ∷ added before qs) (added before qs)) var ≡ true → part_of before var ≡ None
  by rest true e k = rest k
  by rest false e k = last (q.var == var) refl e rest k

-- ---- rows of a table

typed_fits : (t : ColType) (v : Value) → IsOfType t v → HasType v (record { col_type = t; bound = bound_at t })
typed_fits t value.Null h = tt
typed_fits col.Int4 (value.Number n) h = (refl, nat_abs-le n h.sfits)
typed_fits col.Text (value.Number n) h = elim h [ ]
typed_fits col.Bool (value.Number n) h = elim h [ ]
typed_fits col.Int4 (value.Word w) h = elim h [ ]
typed_fits col.Text (value.Word w) h = refl
typed_fits col.Bool (value.Word w) h = elim h [ ]
typed_fits col.Int4 (value.Truth b) h = elim h [ ]
typed_fits col.Text (value.Truth b) h = elim h [ ]
typed_fits col.Bool (value.Truth b) h = refl

value_fits : (c : Column) (v : Value) → IsValueOf c v → HasType v (layout_column c)
value_fits c value.Null h = tt
value_fits c (value.Number n) h = typed_fits c.col_type (value.Number n) h
value_fits c (value.Word w) h = typed_fits c.col_type (value.Word w) h
value_fits c (value.Truth b) h = typed_fits c.col_type (value.Truth b) h

pub row_fits : (columns : List Column) (row : List Value) → IsRowOf columns row → FitsColumns (map layout_column columns) row
row_fits [] [] h = tt
row_fits [] (v ∷ vs) h = elim h [ ]
row_fits (c ∷ cs) [] h = elim h [ ]
row_fits (c ∷ cs) (v ∷ vs) h = (value_fits c v h.0, row_fits cs vs h.1)

pub are_bytes : (bytes : List ℕ) → AllByRecursion (λ byte. byte < 256) bytes → IsBytes bytes
are_bytes [] all i = lit< tt
are_bytes (b ∷ bs) all zero = all.0
are_bytes (b ∷ bs) all (suc i) = are_bytes bs all.1 i

append_none : (layout : List LayoutColumn) (row : List Value) → FitsColumns layout row → FitsColumns (layout ++ []) row
append_none [] [] h = h
append_none [] (v ∷ vs) h = elim h [ ]
append_none (c ∷ cs) [] h = elim h [ ]
append_none (c ∷ cs) (v ∷ vs) h = (h.0, append_none cs vs h.1)

module _ (var : ℕ) (columns : List Column) where
  scanned : List LayoutPart
  scanned = one_part var (map layout_column columns)

  found_fits : (bytes : List ℕ) → AllByRecursion (λ byte. byte < 256) bytes → (found : Option (List Value)) → row_in columns bytes ≡ found → AllByRecursion (IsRowIn (one_part var (map layout_column columns))) (option_to_list found)
  found_fits bytes small None e = tt
  found_fits bytes small (Some row) e =
      let d = (decodes columns bytes (are_bytes bytes small)).sound in
      let s : IfSome (Some row) (λ r. Encodes columns r bytes) = subst (λ o. IfSome o (λ r. Encodes columns r bytes)) e d in
      (append_none (map layout_column columns) row (row_fits columns row s.is_row), tt)

  pub items_fit : (items : List (List ℕ)) → AllByRecursion (AllByRecursion (λ byte. byte < 256)) items → AllByRecursion (IsRowIn (one_part var (map layout_column columns))) (rows_in columns items)
  items_fit items all = all_flat (AllByRecursion (λ byte. byte < 256)) (IsRowIn (one_part var (map layout_column columns))) (λ item. option_to_list (row_in columns item)) (λ item h. found_fits item h (row_in columns item) refl) items all

  item_there : (items : List (List ℕ)) → AllByRecursion (AllByRecursion (λ byte. byte < 256)) items → (slot : ℕ) (o : Option (List ℕ)) → slice_get items slot ≡ o →
      AllByRecursion (IsRowIn (one_part var (map layout_column columns))) (option_to_list (option_and_then (row_in columns) o))
  item_there items all slot None e = tt
  item_there [] all slot (Some item) e = cc
  item_there (i ∷ is) all zero (Some item) e =
      let same : i ≡ item = cc in found_fits item (subst (AllByRecursion (λ byte. byte < 256)) same all.0) (row_in columns item) refl
  item_there (i ∷ is) all (suc slot) (Some item) e = item_there is all.1 slot (Some item) e

  pub entry_fits : (stored : Stored) → HoldsBytes stored → (heap_file : ℕ) (o : Option EntryPlace) →
      AllByRecursion (IsRowIn (one_part var (map layout_column columns))) (option_to_list (option_and_then (λ at. option_and_then (row_in columns) (entry_item stored heap_file at)) o))
  entry_fits stored bytes heap_file None = tt
  entry_fits stored bytes heap_file (Some at) = item_there (page_items stored heap_file at.page) (bytes heap_file at.page) at.slot (slice_get (page_items stored heap_file at.page) at.slot) refl

-- ---- inputs

types_fit : (columns : List LayoutColumn) (row : List Value) → FitsTypes (map Some columns) row → FitsColumns columns row
types_fit [] [] h = tt
types_fit [] (v ∷ vs) h = elim h [ ]
types_fit (c ∷ cs) [] h = elim h [ ]
types_fit (c ∷ cs) (v ∷ vs) h = (h.0, types_fit cs vs h.1)

built_fits : (layout : List LayoutPart) (keys : List KeyPair) (piece : Piece) (rows : List (List Value)) → IsBuilt layout keys piece → HasShape piece.layout piece.end rows → AllByRecursion (IsRowIn layout) rows
built_fits layout keys piece rows b h =
    let k : AllByRecursion (IsRowIn piece.layout) rows = subst (λ e. HasShape piece.layout e rows) b.1 h in subst (λ l. AllByRecursion (IsRowIn l) rows) b.0 k

sorted_fits : (layout : List LayoutPart) (columns : List ColumnRef) (piece : Piece) (rows : List (List Value)) → IsSorted layout columns piece → HasShape piece.layout piece.end rows → AllByRecursion (IsRowIn layout) rows
sorted_fits layout columns piece rows b h =
    let k : AllByRecursion (IsRowIn piece.layout) rows = subst (λ e. HasShape piece.layout e rows) b.1 h in subst (λ l. AllByRecursion (IsRowIn l) rows) b.0 k

answered_fits : (columns : List LayoutColumn) (layout : List LayoutPart) (end : Ending) (rows : List (List Value)) → AnswersColumns columns layout end → HasShape layout end rows → AllByRecursion (FitsColumns columns) rows
answered_fits columns layout (building keys) rows a h = elim a [ ]
answered_fits columns layout (answering targets unique keys) rows a h =
    all_more (FitsTypes (target_types layout targets)) (FitsColumns columns) rows (λ row k. types_fit columns row (subst (λ types. FitsTypes types row) a k)) h
answered_fits columns layout (folding targets fold) rows a h = elim a [ ]
answered_fits columns layout (sorting keys) rows a h = elim a [ ]

module _ (before : List Piece) (values : List (List (List Value))) (shapes : HaveShapes before values) where
  reads_fit : (layout : List LayoutPart) (p : Probing) → ReadsBuilt before layout p ⊎ ReadsAnswer before layout p → AllByRecursion (IsRowIn (added layout p.layout)) (value_at values p.input)
  reads_fit layout p (inl b) = built_fits (added layout p.layout) p.keys b.0 (value_at values p.input) b.2 (shapes p.input b.0 b.1)
  reads_fit layout p (inr a) = let r = a.2 in answered_fits (all_columns (added layout p.layout)) r.0.layout r.0.end (value_at values p.input) r.2 (shapes p.input r.0 r.1)

  probe_fits : (layout : List LayoutPart) (p : Probing) → IsOrdered layout → IsProbe before layout p → (rows : List (List Value)) → AllByRecursion (IsRowIn layout) rows →
      AllByRecursion (IsRowIn p.layout) (after_probe values layout p rows)
  probe_fits layout p up probe rows fits =
      let up_added = filter_ordered (λ part. not (has_part layout part.var)) p.layout probe.ordered in
      let apart = added_apart layout p.layout in
      let parts = λ (v : ℕ). ap (λ l. part_of l v) probe.layouts ∙ part_of_merged (added layout p.layout) layout apart (distinct_ordered (added layout p.layout) up_added) v in
      probed_fits p.layout (added layout p.layout) layout parts (distinct_ordered p.layout probe.ordered) p.keys p.tests (value_at values p.input) rows (reads_fit layout p probe.input) fits

  through_fits : (layout : List LayoutPart) (ps : List Probing) (last : List LayoutPart) → IsOrdered layout → AreProbes before layout ps last → (rows : List (List Value)) → AllByRecursion (IsRowIn layout) rows →
      AllByRecursion (IsRowIn last) (through values layout ps rows)
  through_fits layout [] last up probes rows fits = subst (λ l. AllByRecursion (IsRowIn l) rows) (sym probes) fits
  through_fits layout (p ∷ ps) last up probes rows fits =
      through_fits p.layout ps last probes.0.ordered probes.1 (after_probe values layout p rows) (probe_fits layout p up probes.0 rows fits)

  matched_fit : (left right : ℕ) (keys : List KeyPair) (left_layout right_layout : List LayoutPart) → IsMerge before left right keys left_layout right_layout → (p : ℕ) →
      AllByRecursion (IsRowIn (merged left_layout right_layout)) (matched left_layout right_layout keys (slice_of p (value_at values left)) (value_at values right))
  matched_fit left right keys left_layout right_layout m p =
      let l = m.left_input in
      let r = m.right_input in
      let ld = distinct_ordered left_layout m.left_ordered in
      let parts = part_of_merged left_layout right_layout m.apart ld in
      let distinct = distinct_merged left_layout right_layout m.apart ld (distinct_ordered right_layout m.right_ordered) in
      let left_fits = sorted_fits left_layout (map (λ key. key.build) keys) l.0 (value_at values left) l.2 (shapes left l.0 l.1) in
      let right_fits = sorted_fits right_layout (map (λ key. key.probe) keys) r.0 (value_at values right) r.2 (shapes right r.0 r.1) in
      all_flat (IsRowIn left_layout) (IsRowIn (merged left_layout right_layout)) _
      (λ a fa. all_map (IsRowIn right_layout) (IsRowIn (merged left_layout right_layout)) (λ b. combined (merged left_layout right_layout) left_layout right_layout a b)
      (λ b fb. combined_fits (merged left_layout right_layout) left_layout right_layout parts distinct a b fa fb) _ (all_filter (IsRowIn right_layout) (λ b. keys_match left_layout right_layout keys a b) (value_at values right) right_fits))
      _ (all_slice (IsRowIn left_layout) p (value_at values left) left_fits)

  module _ (stored : Stored) (bytes : HoldsBytes stored) where
    begun_fits : (from : Source) (columns : List Column) (positions pages : ℕ) → IsSource before from columns positions pages → (p : ℕ) → AllByRecursion (IsRowIn (source_layout from columns)) (begun stored values from columns p)
    begun_fits source.One columns positions pages s p = (tt, tt)
    begun_fits (source.Heap var file) columns positions pages s p = items_fit var columns (page_items stored file p) (bytes file p)
    begun_fits (source.Index var index heap_file interval) columns positions pages s p = entry_fits var columns stored bytes heap_file (slice_get (stored.entries index.file) (interval.from + p))
    begun_fits (source.Merge left right keys left_layout right_layout) columns positions pages s p = matched_fit left right keys left_layout right_layout s.0 p

    source_ordered : (from : Source) (columns : List Column) (positions pages : ℕ) → IsSource before from columns positions pages → IsOrdered (source_layout from columns)
    source_ordered source.One columns positions pages s = tt
    source_ordered (source.Heap var file) columns positions pages s = (tt, tt)
    source_ordered (source.Index var index heap_file interval) columns positions pages s = (tt, tt)
    source_ordered (source.Merge left right keys left_layout right_layout) columns positions pages s =
        merged_ascends left_layout right_layout s.0.apart (distinct_ordered left_layout s.0.left_ordered) s.0.right_ordered

    -- the rows of a position before the end
    pub piped_fits : (piece : Piece) → IsPiece before piece → (p : ℕ) → AllByRecursion (IsRowIn piece.layout) (piped stored values piece.pipe p)
    piped_fits piece is p =
        let layout = source_layout piece.pipe.source piece.pipe.columns in
        through_fits layout piece.pipe.probes piece.layout (source_ordered piece.pipe.source piece.pipe.columns piece.positions piece.pages is.source) is.probes _
        (all_filter (IsRowIn layout) (λ row. all_met piece.pipe.tests (column_in layout row)) (begun stored values piece.pipe.source piece.pipe.columns p) (begun_fits piece.pipe.source piece.pipe.columns piece.positions piece.pages is.source p))

-- ---- ends

-- what each row fits before an end
abbrev RowFits : List LayoutPart → Ending → List Value → Type 0
RowFits layout (building keys) row = IsRowIn layout row
RowFits layout (answering targets unique keys) row = FitsTypes (target_types layout targets) row
RowFits layout (folding targets fold) row = FitsTypes (target_types layout targets) row
RowFits layout (sorting keys) row = IsRowIn layout row

pub targets_fit : (layout : List LayoutPart) (row : List Value) → IsRowIn layout row → (targets : List Output) → AllByRecursion (λ type. IsSome type) (target_types layout targets) →
    FitsTypes (target_types layout targets) (project targets (column_in layout row))
targets_fit layout row fits [] typed = tt
targets_fit layout row fits (t ∷ ts) typed = by (targets_fit layout row fits ts typed.1) (type_at layout t) refl typed.0 where
  by : FitsTypes (target_types layout ts) (project ts (column_in layout row)) → (o : Option LayoutColumn) → type_at layout t ≡ o → IsSome o → FitsTypes (o ∷ target_types layout ts) (eval t.expr (column_in layout row) ∷ project ts (column_in layout row))
  by rest None e some = cc some
  by rest (Some c) e some = (eval_typed (column_type layout) (column_in layout row) (column_typed layout row fits) t.expr c e, rest)

projected_fits : (layout : List LayoutPart) (end : Ending) → IsEnd layout end → (rows : List (List Value)) → AllByRecursion (IsRowIn layout) rows → AllByRecursion (RowFits layout end) (projected end layout rows)
projected_fits layout (building keys) is rows fits = fits
projected_fits layout (answering targets unique keys) is rows fits = all_map (IsRowIn layout) (FitsTypes (target_types layout targets)) _ (λ row f. targets_fit layout row f targets is.0) rows fits
projected_fits layout (folding targets fold) is rows fits = all_map (IsRowIn layout) (FitsTypes (target_types layout targets)) _ (λ row f. targets_fit layout row f targets is.typed) rows fits
projected_fits layout (sorting keys) is rows fits = fits

integer_type : (t : ColType) (bound : ℕ) → IsSome (bound_if t bound) → t ≡ col.Int4
integer_type col.Int4 bound h = refl
integer_type col.Text bound h = cc h
integer_type col.Bool bound h = cc h

integer_fits : (v : Value) (c : LayoutColumn) → IsSome (integer_bound (Some c)) → HasType v c → IsInteger v
integer_fits value.Null c h fits = tt
integer_fits (value.Number n) c h fits = tt
integer_fits (value.Word w) c h fits = let k = integer_type c.col_type c.bound h in absurd (let same : col.Int4 ≡ col.Text = sym k ∙ fits in cc)
integer_fits (value.Truth b) c h fits = let k = integer_type c.col_type c.bound h in absurd (let same : col.Int4 ≡ col.Bool = sym k ∙ fits in cc)

ops_fit : (ops : List FoldOp) (types : List (Option LayoutColumn)) (vs : List Value) → AreSummed ops types → FitsTypes types vs → length vs ≡ length ops → AreOpValues ops vs
ops_fit [] [] [] sums fits same = tt
ops_fit [] [] (v ∷ vs) sums fits same = elim fits [ ]
ops_fit [] (None ∷ types) [] sums fits same = elim fits [ ]
ops_fit [] (None ∷ types) (v ∷ vs) sums fits same = elim fits [ ]
ops_fit [] (Some c ∷ types) [] sums fits same = elim fits [ ]
ops_fit [] (Some c ∷ types) (v ∷ vs) sums fits same = absurd (omega arith)
ops_fit (op ∷ ops) [] [] sums fits same = absurd (omega arith)
ops_fit (op ∷ ops) [] (v ∷ vs) sums fits same = elim fits [ ]
ops_fit (op ∷ ops) (None ∷ types) [] sums fits same = elim fits [ ]
ops_fit (op ∷ ops) (None ∷ types) (v ∷ vs) sums fits same = elim fits [ ]
ops_fit (op ∷ ops) (Some c ∷ types) [] sums fits same = elim fits [ ]
ops_fit (Count ∷ ops) (Some c ∷ types) (v ∷ vs) sums fits same = (tt, ops_fit ops types vs sums fits.1 (omega arith))
ops_fit (Min ∷ ops) (Some c ∷ types) (v ∷ vs) sums fits same = (tt, ops_fit ops types vs sums fits.1 (omega arith))
ops_fit (Max ∷ ops) (Some c ∷ types) (v ∷ vs) sums fits same = (tt, ops_fit ops types vs sums fits.1 (omega arith))
ops_fit (Sum ∷ ops) (Some c ∷ types) (v ∷ vs) sums fits same = (integer_fits v c sums.0 fits.0, ops_fit ops types vs sums.1 fits.1 (omega arith))

types_length : (types : List (Option LayoutColumn)) (vs : List Value) → FitsTypes types vs → length vs ≡ length types
types_length [] [] fits = refl
types_length [] (v ∷ vs) fits = elim fits [ ]
types_length (None ∷ types) [] fits = elim fits [ ]
types_length (None ∷ types) (v ∷ vs) fits = elim fits [ ]
types_length (Some c ∷ types) [] fits = elim fits [ ]
types_length (Some c ∷ types) (v ∷ vs) fits = ap suc (types_length types vs fits.1)

drop_fits : (n : ℕ) (types : List (Option LayoutColumn)) (vs : List Value) → FitsTypes types vs → FitsTypes (drop n types) (drop n vs)
drop_fits zero types vs fits = fits
drop_fits (suc n) [] [] fits = tt
drop_fits (suc n) [] (v ∷ vs) fits = elim fits [ ]
drop_fits (suc n) (None ∷ types) [] fits = elim fits [ ]
drop_fits (suc n) (None ∷ types) (v ∷ vs) fits = elim fits [ ]
drop_fits (suc n) (Some c ∷ types) [] fits = elim fits [ ]
drop_fits (suc n) (Some c ∷ types) (v ∷ vs) fits = drop_fits n types vs fits.1

fold_row : (layout : List LayoutPart) (targets : List Output) (fold : Fold) → IsFolded layout targets fold → (row : List Value) → FitsTypes (target_types layout targets) row → IsFoldRow fold row
fold_row layout targets fold is row fits =
    let wide : length row ≡ length targets = types_length (target_types layout targets) row fits ∙ length-map targets (type_at layout) in
    let front : length (take fold.groups row) ≡ fold.groups = length-take-le fold.groups row (let w = is.width in omega arith) in
    record {
      groups = take fold.groups row;
      values = drop fold.groups row;
      width = front;
      whole = sym (take-append-drop fold.groups row);
      ops = ops_fit fold.ops (drop fold.groups (target_types layout targets)) (drop fold.groups row) is.sums (drop_fits fold.groups (target_types layout targets) row fits)
          (length-drop fold.groups row ∙ (let w = is.width in omega arith));
    }

folded_shape : (layout : List LayoutPart) (targets : List Output) (fold : Fold) → IsFolded layout targets fold → (rows : List (List Value)) → AllByRecursion (FitsTypes (target_types layout targets)) rows → IsPartial fold (partial fold rows)
folded_shape layout targets fold is rows fits =
    record { rows = rows; fit = all_more (FitsTypes (target_types layout targets)) (IsFoldRow fold) rows (fold_row layout targets fold is) fits; same = refl }

given_shape : (layout : List LayoutPart) (end : Ending) → IsEnd layout end → (rows : List (List Value)) → AllByRecursion (RowFits layout end) rows → HasShape layout end (given end rows)
given_shape layout (building keys) is rows fits = fits
given_shape layout (answering targets unique keys) is rows fits = fits
given_shape layout (folding targets fold) is rows fits = folded_shape layout targets fold is rows fits
given_shape layout (sorting keys) is rows fits = fits

all_arranged : (P : List Value → Type 0) (unique : Bool) (keys : List SortKey) (rows : List (List Value)) → AllByRecursion P rows → AllByRecursion P (arranged unique keys rows)
all_arranged P true keys rows all = all_sort (row_cmp keys) P (distinct_by (row_cmp keys) rows) (all_distinct (row_cmp keys) P rows all)
all_arranged P false keys rows all = all_sort (row_cmp keys) P rows all

ended_shape : (layout : List LayoutPart) (end : Ending) → IsEnd layout end → (rows : List (List Value)) → AllByRecursion (RowFits layout end) rows → HasShape layout end (ended end rows)
ended_shape layout (building keys) is rows fits = fits
ended_shape layout (answering targets unique keys) is rows fits = all_arranged (FitsTypes (target_types layout targets)) unique keys rows fits
ended_shape layout (folding targets fold) is rows fits = folded_shape layout targets fold is rows fits
ended_shape layout (sorting keys) is rows fits = all_arranged (IsRowIn layout) false keys rows fits

module _ (before : List Piece) (values : List (List (List Value))) (shapes : HaveShapes before values) (stored : Stored) (bytes : HoldsBytes stored) (piece : Piece) (is : IsPiece before piece) where
  position_fits : (p : ℕ) → AllByRecursion (RowFits piece.layout piece.end) (position_rows stored values piece p)
  position_fits p = projected_fits piece.layout piece.end is.end (piped stored values piece.pipe p) (piped_fits before values shapes stored bytes piece is p)

  -- what a position gives
  pub out_shape : (p : ℕ) → HasShape piece.layout piece.end (out stored values piece p)
  out_shape p = given_shape piece.layout piece.end is.end (position_rows stored values piece p) (position_fits p)

  -- the value of the fragment
  pub value_shape : HasShape piece.layout piece.end (value_of stored values piece)
  value_shape = ended_shape piece.layout piece.end is.end (all_rows stored values piece) (flat_every (RowFits piece.layout piece.end) (position_rows stored values piece) position_fits (range_with_len 0 piece.positions))
