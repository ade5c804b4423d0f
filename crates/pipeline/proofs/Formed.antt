-- What a well formed fragment and inputs that fit it give to each source.
use Rattle.std.proofs.Common.{◌≡◌, ℕ, zero, suc, ◌+◌, ◌-◌, ◌<◌, ◌≤◌, List, [], ◌∷◌, ◌++◌, drop, get_or, length, map, take, Some, refl, sym, ap, ◌∙◌, subst, arith, slice_get}
use Rattle.std.specs.List.{AllByRecursion}
use Rattle.std.specs.Option.{option_and_then, option_map, option_to_list}
use Rattle.std.proofs.lemmas.Option.{slice_get-get_or, slice_get-map}
use Rattle.std.proofs.lemmas.List.{take_rest}
use Rattle.key_index.specs.Entries.{IsEntry}
use Rattle.key_index.specs.Files.{HoldsIndex}
use Rattle.rows.specs.declared.field.ColType.{ColType}
use Rattle.rows.specs.declared.plain.KeyPair.{KeyPair}
use Rattle.rows.specs.declared.value.Value.TheVariants.{Null}
use Rattle.heap_page.specs.Pages.{items_of}
use Rattle.hash_join.specs.Table.{Table, rows_of}
use Rattle.rows.specs.declared.value.Value.{Value}
use Rattle.rows.specs.declared.plain.Column.{Column}
use Rattle.rows.specs.declared.plain.Interval.{Interval}
use Rattle.rows.specs.declared.plain.KeyEntry.{KeyEntry}
use Rattle.rows.specs.declared.plain.KeyIndex.{KeyIndex}
use Rattle.rows.specs.declared.plain.LayoutPart.{LayoutPart}
use Rattle.rows.specs.RowFields.{row_in}
use Rattle.rel_meaning.specs.Expression.{Expression}
use Rattle.plan_tree.specs.declared.fragment.Source.{Source}
use Rattle.plan_tree.specs.declared.fragment.Source.TheVariants as source
use Rattle.plan_tree.specs.Fragments.{EntryPlace, Stored, begun, entry_row, page_items, position_rows, row_at, source_layout, value_at}
use Rattle.plan_tree.specs.Inputs.{input_values, probe_inputs, source_inputs}
use Rattle.plan_tree.specs.Pieces.{Ending, Piece, Probing}
use Rattle.plan_tree.specs.Rows.{kept}
use Rattle.plan_tree.specs.Combining.{merged}
use Rattle.plan_tree.specs.WellFormed.{AreProbes, IsPiece, IsSource}
use Rattle.pipeline.specs.Ends.{CanFinish, IsPartOf, led_to_end}
use Rattle.pipeline.specs.Entries.{slot_rows}
use Rattle.pipeline.specs.Images.{HoldsPlaces, Image, StoresHeap, place_of}
use Rattle.pipeline.specs.Positions.{AreInputs, FitInputs, IsFormed}
use Rattle.pipeline.specs.Probes.{AreValues, FitProbes, last_layout}
use Rattle.pipeline.specs.Scans.{scanned}
use Rattle.pipeline.proofs.Inputs.{can_all}

last_is : (before : List Piece) (layout : List LayoutPart) (ps : List Probing) (last : List LayoutPart) → AreProbes before layout ps last → last_layout layout ps ≡ last
last_is before layout [] last h = sym h
last_is before layout (p ∷ ps) last h = last_is before p.layout ps last h.1

pub can_finish : (piece : Piece) (tables : List Table) → IsFormed piece → FitProbes (source_layout piece.pipe.source piece.pipe.columns) piece.pipe.probes tables
    → CanFinish (source_layout piece.pipe.source piece.pipe.columns) piece tables
can_finish piece tables formed fits = record {
  probes = can_all formed.before (source_layout piece.pipe.source piece.pipe.columns) piece.pipe.probes piece.layout tables formed.is.probes fits;
  last = last_is formed.before (source_layout piece.pipe.source piece.pipe.columns) piece.pipe.probes piece.layout formed.is.probes;
  end = formed.is.end;
}

-- the rows of a position, by the source
pub rows_at : (stored : Stored) (values : List (List (List Value))) (piece : Piece) (p : ℕ) (s : Source) → piece.pipe.source ≡ s →
    led_to_end values piece (source_layout s piece.pipe.columns) (kept (source_layout s piece.pipe.columns) piece.pipe.tests (begun stored values s piece.pipe.columns p)) ≡ position_rows stored values piece p
rows_at stored values piece p s is =
    subst (λ s. led_to_end values piece (source_layout s piece.pipe.columns) (kept (source_layout s piece.pipe.columns) piece.pipe.tests (begun stored values s piece.pipe.columns p)) ≡ position_rows stored values piece p) is refl

module _ (piece : Piece) (tables : List Table) (formed : IsFormed piece) (inputs : AreInputs piece.pipe tables) where
  fits_at : (s : Source) → piece.pipe.source ≡ s → FitInputs s (source_layout piece.pipe.source piece.pipe.columns) piece.pipe.probes tables
  fits_at s is = subst (λ s. FitInputs s (source_layout piece.pipe.source piece.pipe.columns) piece.pipe.probes tables) is inputs

  moved : (s : Source) (ts : List Table) → piece.pipe.source ≡ s → CanFinish (source_layout piece.pipe.source piece.pipe.columns) piece ts → CanFinish (source_layout s piece.pipe.columns) piece ts
  moved s ts is can = subst (λ s. CanFinish (source_layout s piece.pipe.columns) piece ts) is can

  pub can_one : piece.pipe.source ≡ source.One → CanFinish [] piece tables
  can_one is = moved source.One tables is (can_finish piece tables formed (fits_at source.One is))

  pub can_heap : (var file : ℕ) → piece.pipe.source ≡ source.Heap var file → CanFinish (scanned var piece.pipe.columns) piece tables
  can_heap var file is = moved (source.Heap var file) tables is (can_finish piece tables formed (fits_at (source.Heap var file) is))

  pub can_index : (var : ℕ) (index : KeyIndex) (heap_file : ℕ) (interval : Interval) → piece.pipe.source ≡ source.Index var index heap_file interval → CanFinish (scanned var piece.pipe.columns) piece tables
  can_index var index heap_file interval is = moved (source.Index var index heap_file interval) tables is (can_finish piece tables formed (fits_at (source.Index var index heap_file interval) is))

  merged_inputs : (left right : ℕ) (keys : List KeyPair) (first second : List LayoutPart) (ts : List Table) → FitInputs (source.Merge left right keys first second) (source_layout piece.pipe.source piece.pipe.columns) piece.pipe.probes ts →
      FitProbes (source_layout piece.pipe.source piece.pipe.columns) piece.pipe.probes (drop 2 ts)
  merged_inputs left right keys first second [] fits = elim fits [ ]
  merged_inputs left right keys first second (a ∷ []) fits = elim fits [ ]
  merged_inputs left right keys first second (a ∷ b ∷ ts) fits = fits.2

  pub can_merge : (left right : ℕ) (keys : List KeyPair) (first second : List LayoutPart) → piece.pipe.source ≡ source.Merge left right keys first second → CanFinish (merged first second) piece (drop 2 tables)
  can_merge left right keys first second is =
      let s = source.Merge left right keys first second in
      moved s (drop 2 tables) is (can_finish piece (drop 2 tables) formed (merged_inputs left right keys first second tables (fits_at s is)))

-- the values of the probes' inputs, in order
pub probe_values : (values : List (List (List Value))) (ps : List Probing) (ts : List Table) → map (value_at values) (probe_inputs ps) ≡ map (λ (t : Table). rows_of t.lists) ts → AreValues values ps ts
probe_values values [] ts e = tt
probe_values values (p ∷ ps) [] e = cc
probe_values values (p ∷ ps) (t ∷ ts) e =
    let first : value_at values p.input ≡ rows_of t.lists = cc in
    let rest : map (value_at values) (probe_inputs ps) ≡ map (λ (t : Table). rows_of t.lists) ts = cc in
    (first, probe_values values ps ts rest)

pub entry_begun : (stored : Stored) (values : List (List (List Value))) (var : ℕ) (index : KeyIndex) (heap_file : ℕ) (interval : Interval) (columns : List Column) (tests : List Expression) (p : ℕ) (e : KeyEntry) (items : List (List ℕ)) →
    slice_get (stored.entries index.file) (interval.from + p) ≡ Some (place_of e) → page_items stored heap_file e.page ≡ items →
    slot_rows (scanned var columns) columns tests items e.slot ≡ kept (scanned var columns) tests (begun stored values (source.Index var index heap_file interval) columns p)
entry_begun stored values var index heap_file interval columns tests p e items lies stands =
    let row : entry_row stored columns heap_file index.file (interval.from + p) ≡ option_and_then (row_in columns) (slice_get items e.slot) =
    ap (option_and_then (row_at stored columns heap_file)) lies ∙ ap (λ is. option_and_then (row_in columns) (slice_get is e.slot)) stands in
    ap (λ o. kept (scanned var columns) tests (option_to_list o)) (sym row)

module _ (values : List (List (List Value))) (piece : Piece) (ts : List Table) (are : input_values values piece ≡ map (λ (t : Table). rows_of t.lists) ts) where
  values_at : (s : Source) → piece.pipe.source ≡ s → map (value_at values) (source_inputs s ++ probe_inputs piece.pipe.probes) ≡ map (λ (t : Table). rows_of t.lists) ts
  values_at s is = subst (λ s. map (value_at values) (source_inputs s ++ probe_inputs piece.pipe.probes) ≡ map (λ (t : Table). rows_of t.lists) ts) is are

  pub one_values : piece.pipe.source ≡ source.One → AreValues values piece.pipe.probes ts
  one_values is = probe_values values piece.pipe.probes ts (values_at source.One is)

  pub heap_values : (var file : ℕ) → piece.pipe.source ≡ source.Heap var file → AreValues values piece.pipe.probes ts
  heap_values var file is = probe_values values piece.pipe.probes ts (values_at (source.Heap var file) is)

  pub index_values : (var : ℕ) (index : KeyIndex) (heap_file : ℕ) (interval : Interval) → piece.pipe.source ≡ source.Index var index heap_file interval → AreValues values piece.pipe.probes ts
  index_values var index heap_file interval is = probe_values values piece.pipe.probes ts (values_at (source.Index var index heap_file interval) is)

-- the values of a merge's inputs
pub merge_values : (values : List (List (List Value))) (left right : ℕ) (ps : List Probing) (a b : Table) (ts : List Table) →
    map (value_at values) (left ∷ right ∷ probe_inputs ps) ≡ map (λ (t : Table). rows_of t.lists) (a ∷ b ∷ ts) →
    (value_at values left ≡ rows_of a.lists) × (value_at values right ≡ rows_of b.lists) × AreValues values ps ts
merge_values values left right ps a b ts e =
    let first : value_at values left ≡ rows_of a.lists = cc in
    let second : value_at values right ≡ rows_of b.lists = cc in
    let rest : map (value_at values) (probe_inputs ps) ≡ map (λ (t : Table). rows_of t.lists) ts = cc in
    (first, second, probe_values values ps ts rest)

legal_page : (t : ColType) (heap : ℕ) (entries : List KeyEntry) (n : ℕ) (e : KeyEntry) → AllByRecursion (IsEntry t heap) entries → slice_get entries n ≡ Some e → e.page < heap
legal_page t heap [] n e all here = cc
legal_page t heap (x ∷ xs) zero e all here = let same : x ≡ e = cc in subst (λ (y : KeyEntry). y.page < heap) same all.0.1
legal_page t heap (x ∷ xs) (suc n) e all here = legal_page t heap xs n e all.1 here

-- an entry of a told index, and where it leads
pub record IsStoredEntry (image : Image) (stored : Stored) (index : KeyIndex) (heap_file number : ℕ) : Type 0 where
  pub entries : List KeyEntry
  pub holds : HoldsIndex index (image index.file) entries
  pub e : KeyEntry
  pub here : slice_get entries number ≡ Some e
  pub lies : slice_get (stored.entries index.file) number ≡ Some (place_of e)
  pub items : page_items stored heap_file e.page ≡ items_of (image heap_file e.page)

pub stored_entry : (image : Image) (stored : Stored) (index : KeyIndex) (heap_file number : ℕ) → HoldsPlaces image index (stored.entries index.file) → StoresHeap image stored heap_file index.heap_pages → number < index.entries →
    IsStoredEntry image stored index heap_file number
stored_entry image stored index heap_file number told heap within =
    let count : index.entries ≡ length told.entries = ap (λ (i : KeyIndex). i.entries) told.holds.numbers in
    let e = get_or told.entries number (record { key = Null; page = 0; slot = 0 }) in
    let here : slice_get told.entries number ≡ Some e = slice_get-get_or told.entries number (record { key = Null; page = 0; slot = 0 }) (omega (arith, within, count)) in
    record {
      entries = told.entries;
      holds = told.holds;
      e = e;
      here = here;
      lies = ap (λ ps. slice_get ps number) told.lead ∙ slice_get-map place_of told.entries number ∙ ap (option_map place_of) here;
      items = heap e.page (legal_page index.key_type index.heap_pages told.entries number e told.holds.legal.each here);
    }

-- an entry of the interval is one of the index
pub entry_within : (before : List Piece) (piece : Piece) (p : ℕ) (var : ℕ) (index : KeyIndex) (heap_file : ℕ) (interval : Interval) → IsPiece before piece → piece.pipe.source ≡ source.Index var index heap_file interval → p < piece.positions →
    (interval.from + p < interval.upto) × (interval.upto ≤ index.entries)
entry_within before piece p var index heap_file interval is at within =
    let s = subst (λ s. IsSource before s piece.pipe.columns piece.positions piece.pages) at is.source in
    (omega (arith, s.1, s.0.begins, within), s.0.within)

map_drop : {X Y : Type 0} (f : X → Y) (n : ℕ) (xs : List X) → drop n (map f xs) ≡ map f (drop n xs)
map_drop f zero xs = refl
map_drop f (suc n) [] = refl
map_drop f (suc n) (x ∷ xs) = map_drop f n xs

-- the inputs behind those of a merge
pub rest_is : {X Y : Type 0} (f : X → Y) (items inputs : List X) → items ≡ inputs → drop 2 (map f inputs) ≡ map f (take (length items - 2) (drop 2 items))
rest_is f items inputs e = ap (λ xs. drop 2 (map f xs)) (sym e) ∙ map_drop f 2 items ∙ ap (map f) (sym (take_rest items 2))

-- the values of the inputs of a merge, by their places
pub merge_all : {X : Type 0} (f : X → Table) (values : List (List (List Value))) (left right : ℕ) (ps : List Probing) (xs : List X) (x y : X) → 2 ≤ length xs → x ≡ get_or xs 0 x → y ≡ get_or xs 1 y →
    map (value_at values) (left ∷ right ∷ probe_inputs ps) ≡ map (λ (t : Table). rows_of t.lists) (map f xs) →
    (value_at values left ≡ rows_of (f x).lists) × (value_at values right ≡ rows_of (f y).lists) × AreValues values ps (map f (drop 2 xs))
merge_all f values left right ps [] x y some a b e = absurd (omega (arith, some))
merge_all f values left right ps (u ∷ []) x y some a b e = absurd (omega (arith, some))
merge_all f values left right ps (u ∷ v ∷ xs) x y some a b e =
    let all = merge_values values left right ps (f u) (f v) (map f xs) e in
    (all.0 ∙ ap (λ z. rows_of (f z).lists) (sym a), all.1 ∙ ap (λ z. rows_of (f z).lists) (sym b), all.2)

pub merge_inputs : (values : List (List (List Value))) (piece : Piece) (ts : List Table) (left right : ℕ) (keys : List KeyPair) (first second : List LayoutPart) → input_values values piece ≡ map (λ (t : Table). rows_of t.lists) ts →
    piece.pipe.source ≡ source.Merge left right keys first second → map (value_at values) (left ∷ right ∷ probe_inputs piece.pipe.probes) ≡ map (λ (t : Table). rows_of t.lists) ts
merge_inputs values piece ts left right keys first second are is = values_at values piece ts are (source.Merge left right keys first second) is

-- a part of the same rows
pub part_moved : (end : Ending) (rows same found : List (List Value)) → rows ≡ same → IsPartOf end rows found → IsPartOf end same found
part_moved end rows same found e part = subst (λ rs. IsPartOf end rs found) e part
