-- The rows to which the entries of an index lead.
use Rattle.std.proofs.Common.{◌≡◌, ℕ, suc, zero, ◌+◌, ◌≤◌, Bool, true, false, not, cond, List, [], ◌∷◌, ◌++◌, length, map, Option, Some, refl, sym, ap, ◌∙◌, arith, sum_by, slice_get, slice_index_or, option_and_then, option_to_list}
use Rattle.std.specs.Prelude.{unwrap_or}
use Rattle.std.specs.List.{AllByRecursion, filter, range_with_len}
use Rattle.std.specs.Ordering.{is_gt, ordering_then}
use Rattle.std.specs.declared.cmp.Ordering.{Ordering}
use Rattle.std.specs.declared.cmp.Ordering.TheVariants.{Less, Equal, Greater}
use Rattle.std.proofs.lemmas.List.{map-append}
use Rattle.std.proofs.lemmas.List.Elements.{All-from_recursion, recursion_from_All}
use Rattle.std.proofs.lemmas.List.Sorted.{All-permutation, sum_by-IsPermutation}
use Rattle.std.proofs.lemmas.List.Sums.{sum_by-cons}
use Rattle.lists.specs.Arranged.{Ascends}
use Rattle.rows.specs.declared.plain.Column.{Column}
use Rattle.rows.specs.declared.plain.KeyEntry.{KeyEntry}
use Rattle.rows.specs.declared.value.Value.{Value}
use Rattle.rows.specs.RowBytes.{IsRowOf, row_bytes}
use Rattle.rows.specs.RowFields.{row_in}
use Rattle.rows.specs.Values.{column_of, row_cmp, value_cmp, is_null}
use Rattle.rows.proofs.RowWhole.{row_again}
use Rattle.heap_page.specs.Blocks.{joined}
use Rattle.key_index.specs.Entries.{entry_cmp}
use Rattle.plan_tree.specs.TreeLaws.{SameRows}
use Rattle.plan_tree.proofs.Bags.{same_occurrences}
use Rattle.plan_tree.proofs.Elements.{all_filter}
use Rattle.plan_tree.proofs.Sums.{Same, total, total_map}
use Rattle.table_store.specs.Entries.{IsIndexOf, Place, at_places, entry_at, keyed, keys_of, placed, places_from, places_of, places_on}
use Rattle.query_planner.specs.Reading.{entry_row, entry_rows}
use Rattle.query_planner.proofs.Ranks.{keys_in}

-- ---- what stands at the places

-- the item at a place
abbrev pub item_at : List (List (List ℕ)) → Place → Option (List ℕ)
item_at blocks at = slice_get (slice_index_or blocks at.page []) at.slot

map_map : {X Y Z : Type 0} (f : Y → Z) (g : X → Y) (xs : List X) → map f (map g xs) ≡ map (λ x. f (g x)) xs
map_map f g [] = refl
map_map f g (x ∷ xs) = λ i. f (g x) ∷ map_map f g xs i

map_shifted : {Y : Type 0} (f : ℕ → Y) (a n : ℕ) → map f (range_with_len (suc a) n) ≡ map (λ i. f (suc i)) (range_with_len a n)
map_shifted f a zero = refl
map_shifted f a (suc n) =
    let e : suc a + 1 ≡ suc (a + 1) = omega arith in
    ap (λ k. f (suc a) ∷ map f (range_with_len k n)) e ∙ (λ i. f (suc a) ∷ map_shifted f (a + 1) n i)

slots_found : (items : List (List ℕ)) → map (slice_get items) (range_with_len 0 (length items)) ≡ map Some items
slots_found [] = refl
slots_found (x ∷ xs) = λ i. Some x ∷ (map_shifted (slice_get (x ∷ xs)) 0 (length xs) ∙ slots_found xs) i

page_found : (blocks : List (List (List ℕ))) (page : ℕ) (items : List (List ℕ)) → slice_index_or blocks page [] ≡ items → map (item_at blocks) (places_on page items) ≡ map Some items
page_found blocks page items e =
    map_map (item_at blocks) (λ slot. record { page = page; slot = slot }) (range_with_len 0 (length items))
    ∙ ap (λ there. map (slice_get there) (range_with_len 0 (length items))) e ∙ slots_found items

-- the pages behind a first one
page_shifted : (b : List (List ℕ)) (bs : List (List (List ℕ))) (page : ℕ) (slots : List ℕ) →
    map (item_at (b ∷ bs)) (map (λ slot. record { page = suc page; slot = slot }) slots) ≡ map (item_at bs) (map (λ slot. record { page = page; slot = slot }) slots)
page_shifted b bs page [] = refl
page_shifted b bs page (s ∷ ss) = λ i. slice_get (slice_index_or bs page []) s ∷ page_shifted b bs page ss i

pages_shifted : (b : List (List ℕ)) (bs : List (List (List ℕ))) (first : ℕ) (cs : List (List (List ℕ))) → map (item_at (b ∷ bs)) (places_from (suc first) cs) ≡ map (item_at bs) (places_from first cs)
pages_shifted b bs first [] = refl
pages_shifted b bs first (c ∷ cs) =
    let e : suc first + 1 ≡ suc (first + 1) = omega arith in
    map-append (item_at (b ∷ bs)) (places_on (suc first) c) (places_from (suc first + 1) cs)
    ∙ (λ i. page_shifted b bs first (range_with_len 0 (length c)) i ++ (ap (λ n. map (item_at (b ∷ bs)) (places_from n cs)) e ∙ pages_shifted b bs (first + 1) cs) i)
    ∙ sym (map-append (item_at bs) (places_on first c) (places_from (first + 1) cs))

-- each item stands at its place
places_found : (blocks : List (List (List ℕ))) → map (item_at blocks) (places_of blocks) ≡ map Some (joined blocks)
places_found [] = refl
places_found (b ∷ bs) =
    map-append (item_at (b ∷ bs)) (places_on 0 b) (places_from 1 bs)
    ∙ (λ i. page_found (b ∷ bs) 0 b refl i ++ (pages_shifted b bs 0 bs ∙ places_found bs) i)
    ∙ sym (map-append Some b (joined bs))

-- ---- rows that are read again

-- entries in order have keys in order
smaller_key : (r s : Ordering) → is_gt (ordering_then r s) ≡ false → is_gt r ≡ false
smaller_key Less s h = refl
smaller_key Equal s h = refl
smaller_key Greater s h = h

sum_total : {X : Type 0} (f : X → ℕ) (xs : List X) → total f xs ≡ sum_by f xs
sum_total f [] = refl
sum_total f (x ∷ xs) = ap (λ n. f x + n) (sum_total f xs) ∙ sym (sum_by-cons f x xs)

-- ---- entries and their rows

module _ (columns : List Column) (column : ℕ) (blocks : List (List (List ℕ))) where
  -- the entry leads to a row that has its key
  pub record Leads (e : KeyEntry) : Type 0 where
    pub row : List Value
    pub there : entry_row columns blocks e ≡ Some row
    pub key : column_of row column ≡ e.key

  -- the row to which an entry leads
  abbrev pub row_of : KeyEntry → List Value
  row_of e = unwrap_or (entry_row columns blocks e) []

  abbrev pub AllLead : List KeyEntry → Type 0
  AllLead es = AllByRecursion Leads es

  pub rows_are : (es : List KeyEntry) → AllLead es → entry_rows columns blocks es ≡ map row_of es
  rows_are [] all = refl
  rows_are (e ∷ es) all = (λ i. option_to_list (all.0.there i) ++ entry_rows columns blocks es) ∙ (λ i. sym (ap (λ (o : Option (List Value)). unwrap_or o []) all.0.there) i ∷ rows_are es all.1 i)

  row_key : (e : KeyEntry) → Leads e → column_of (row_of e) column ≡ e.key
  row_key e l = (λ i. column_of (unwrap_or (l.there i) []) column) ∙ l.key

  pub keys_are : (es : List KeyEntry) → AllLead es → map (λ row. column_of row column) (map row_of es) ≡ keys_in es
  keys_are [] all = refl
  keys_are (e ∷ es) all = λ i. row_key e all.0 i ∷ keys_are es all.1 i

  abbrev by_column : List Value → List Value → Ordering
  by_column a b = value_cmp (column_of a column) (column_of b column)

  none_above : (e : KeyEntry) (es : List KeyEntry) → Leads e → AllLead es → AllByRecursion (λ f. is_gt (entry_cmp e f) ≡ false) es → AllByRecursion (λ row. is_gt (by_column (row_of e) row) ≡ false) (map row_of es)
  none_above e [] l all up = tt
  none_above e (f ∷ fs) l all up =
      ((λ i. is_gt (value_cmp (row_key e l i) (row_key f all.0 i))) ∙ smaller_key (value_cmp e.key f.key) _ up.0, none_above e fs l all.1 up.1)

  pub rows_ascend : (es : List KeyEntry) → AllLead es → Ascends entry_cmp es → Ascends by_column (map row_of es)
  rows_ascend [] all up = tt
  rows_ascend (e ∷ es) all up = (none_above e es all.0 all.1 up.0, rows_ascend es all.1 up.1)

  -- ---- the entries of all rows

  abbrev pub has_value : List Value → Bool
  has_value row = not (is_null (column_of row column))

  module _ (few : length columns ≤ 32) where
    row_there : (at : Place) (row : List Value) → IsRowOf columns row → item_at blocks at ≡ Some (row_bytes columns row) → entry_row columns blocks (entry_at (column_of row column) at) ≡ Some row
    row_there at row is h = ap (λ item. option_and_then (row_in columns) item) h ∙ row_again columns row few is

    first_same : (a b : Option (List ℕ)) (xs ys : List (Option (List ℕ))) → ◌≡◌ {A = List (Option (List ℕ))} (a ∷ xs) (b ∷ ys) → (a ≡ b) × (xs ≡ ys)
    first_same a b xs ys h = (cc, cc)

    -- each row's entry leads to it
    all_lead : (places : List Place) (rows : List (List Value)) → AllByRecursion (IsRowOf columns) rows → map (item_at blocks) places ≡ map Some (map (row_bytes columns) rows) → AllLead (at_places (keys_of column rows) places)
    all_lead [] [] are h = tt
    all_lead [] (row ∷ rows) are h = absurd cc
    all_lead (at ∷ places) [] are h = tt
    all_lead (at ∷ places) (row ∷ rows) are h =
        let s = first_same (item_at blocks at) (Some (row_bytes columns row)) (map (item_at blocks) places) (map Some (map (row_bytes columns) rows)) h in
        (record { row = row; there = row_there at row are.0 s.0; key = refl }, all_lead places rows are.1 s.1)

    -- the entries whose key isn't null lead to the rows that have a key
    keyed_rows : (places : List Place) (rows : List (List Value)) → AllByRecursion (IsRowOf columns) rows → map (item_at blocks) places ≡ map Some (map (row_bytes columns) rows) →
        map row_of (keyed (at_places (keys_of column rows) places)) ≡ filter has_value rows
    keyed_rows [] [] are h = refl
    keyed_rows [] (row ∷ rows) are h = absurd cc
    keyed_rows (at ∷ places) [] are h = absurd cc
    keyed_rows (at ∷ places) (row ∷ rows) are h =
        let s = first_same (item_at blocks at) (Some (row_bytes columns row)) (map (item_at blocks) places) (map Some (map (row_bytes columns) rows)) h in
        let l = row_there at row are.0 s.0 in
        let e : KeyEntry = entry_at (column_of row column) at in
        let es : List KeyEntry = at_places (keys_of column rows) places in
        by e es (λ i. unwrap_or (l i) []) (keyed_rows places rows are.1 s.1) (has_value row) where
          by : (e : KeyEntry) (es : List KeyEntry) → row_of e ≡ row → map row_of (keyed es) ≡ filter has_value rows → (b : Bool) → map row_of (cond b (e ∷ keyed es) (keyed es)) ≡ cond b (row ∷ filter has_value rows) (filter has_value rows)
          by e es one rest true = λ i. one i ∷ rest i
          by e es one rest false = rest

    module _ (rows : List (List Value)) (are : AllByRecursion (IsRowOf columns) rows) (items : joined blocks ≡ map (row_bytes columns) rows) (entries : List KeyEntry) (index : IsIndexOf column rows blocks entries) where
      found : map (item_at blocks) (places_of blocks) ≡ map Some (map (row_bytes columns) rows)
      found = places_found blocks ∙ ap (map Some) items

      pub entries_lead : AllLead entries
      entries_lead = recursion_from_All Leads entries (All-permutation Leads (placed column rows blocks) entries index.same
          (All-from_recursion Leads (placed column rows blocks) (all_filter Leads (λ e. not (is_null e.key)) (at_places (keys_of column rows) (places_of blocks)) (all_lead (places_of blocks) rows are found))))

      sums_same : Same (map row_of entries) (filter has_value rows)
      sums_same f =
          total_map f row_of entries
          ∙ sum_total (λ e. f (row_of e)) entries
          ∙ sum_by-IsPermutation (λ e. f (row_of e)) (placed column rows blocks) entries index.same
          ∙ sym (sum_total (λ e. f (row_of e)) (placed column rows blocks))
          ∙ sym (total_map f row_of (placed column rows blocks))
          ∙ ap (total f) (keyed_rows (places_of blocks) rows are found)

      -- the entries of an index lead to the rows that have a key, in some order
      pub same_rows : SameRows (map row_of entries) (filter has_value rows)
      same_rows = same_occurrences (row_cmp []) _ _ sums_same
