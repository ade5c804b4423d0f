-- All positions of a scan or a merge, one after the other.
use Rattle.std.proofs.Common.{◌≡◌, ℕ, ◌+◌, ◌-◌, ◌*◌, ◌/◌, ◌<◌, ◌≤◌, suc, zero, List, [], ◌∷◌, ◌++◌, length, map, take, drop, Option, Some, None, refl, sym, ap, ◌∙◌, subst, arith, get_or, slice_get, lit<}
use Rattle.std.specs.List.{flat_map, filter, range_with_len, AllByRecursion}
use Rattle.std.specs.Option.{option_to_list, option_and_then}
use Rattle.std.proofs.Math.Nat.{mul-div_cancel_left, div-mul-le_self, div-le_self}
use Rattle.std.proofs.Math.Seq.{take-add}
use Rattle.std.proofs.lemmas.Grind.{flat_map-append}
use Rattle.std.proofs.lemmas.List.{append-nil, drop-drop, drop-map, take-map, take_all}
use Rattle.std.proofs.lemmas.Nat.{le-div}
use Rattle.rows.specs.declared.value.Value.{Value}
use Rattle.rows.specs.declared.plain.Column.{Column}
use Rattle.rows.specs.declared.plain.KeyPair.{KeyPair}
use Rattle.rows.specs.declared.plain.LayoutPart.{LayoutPart}
use Rattle.rows.specs.RowBytes.{Encodes, IsRowOf, row_bytes}
use Rattle.rows.specs.RowFields.{row_in}
use Rattle.rows.specs.Values.{row_cmp}
use Rattle.rows.proofs.RowWhole.{decodes}
use Rattle.plan_tree.specs.Combining.{combined, merged}
use Rattle.plan_tree.specs.Rows.{probed}
use Rattle.rows.specs.Keys.{keys_match}
use Rattle.plan_tree.specs.Fragments.{EntryPlace, Stored, entry_row, matched, merge_slices, page_items, row_at, rows_in, slice_of, slice_start}
use Rattle.plan_tree.specs.ShapeLaws.{HoldsBytes}
use Rattle.plan_tree.specs.TreeLaws.{SameRows}
use Rattle.plan_tree.proofs.Bags.{same_occurrences}
use Rattle.plan_tree.proofs.Elements.{all_append}
use Rattle.plan_tree.proofs.Shapes.{are_bytes}
use Rattle.plan_tree.proofs.Sums.{only, Same, total_flat, total_map, total_filter, total_same, total_swap}

-- ---- what stands at a run of places

module _ {X Y : Type 0} (g : X → List Y) where
  abbrev at : List X → ℕ → List Y
  at xs p = flat_map g (option_to_list (slice_get xs p))

  none_taken : (n : ℕ) → flat_map g (take n []) ≡ []
  none_taken zero = refl
  none_taken (suc n) = refl

  one_more : (xs : List X) (a n : ℕ) → flat_map g (take (suc n) (drop a xs)) ≡ at xs a ++ flat_map g (take n (drop (a + 1) xs))
  one_more [] zero n = sym (none_taken n)
  one_more [] (suc a) n = let e : suc a + 1 ≡ suc (a + 1) = omega arith in rw e (sym (none_taken n))
  one_more (x ∷ xs) zero n = ap (λ ys. ys ++ flat_map g (take n xs)) (sym (append-nil (g x)))
  one_more (x ∷ xs) (suc a) n = let e : suc a + 1 ≡ suc (a + 1) = omega arith in rw e (one_more xs a n)

  run_is : (xs : List X) (a n : ℕ) → flat_map (at xs) (range_with_len a n) ≡ flat_map g (take n (drop a xs))
  run_is xs a zero = refl
  run_is xs a (suc n) = ap (λ ys. at xs a ++ ys) (run_is xs (a + 1) n) ∙ sym (one_more xs a n)

shifted : {Y : Type 0} (f : ℕ → List Y) (from a n : ℕ) → flat_map (λ p. f (from + p)) (range_with_len a n) ≡ flat_map f (range_with_len (from + a) n)
shifted f from a zero = refl
shifted f from a (suc n) =
    let e : from + (a + 1) ≡ (from + a) + 1 = omega arith in
    ap (λ ys. f (from + a) ++ ys) (shifted f from (a + 1) n ∙ ap (λ k. flat_map f (range_with_len k n)) e)

flat_same : {X Y : Type 0} (f g : X → List Y) → ((x : X) → f x ≡ g x) → (xs : List X) → flat_map f xs ≡ flat_map g xs
flat_same f g same xs = λ i. flat_map (λ x. same x i) xs

-- ---- pages

module _ (columns : List Column) where
  page_at : (pages : List (List (List ℕ))) (p : ℕ) → rows_in columns (get_or pages p []) ≡ at (rows_in columns) pages p
  page_at [] p = refl
  page_at (x ∷ xs) zero = sym (append-nil (rows_in columns x))
  page_at (x ∷ xs) (suc p) = page_at xs p

  rows_joined : (pages : List (List (List ℕ))) → flat_map (rows_in columns) pages ≡ rows_in columns (flat_map (λ items. items) pages)
  rows_joined [] = refl
  rows_joined (x ∷ xs) = ap (λ ys. rows_in columns x ++ ys) (rows_joined xs) ∙ sym (flat_map-append (λ item. option_to_list (row_in columns item)) x (flat_map (λ items. items) xs))

  all_bytes : (pages : List (List (List ℕ))) → ((p : ℕ) → AllByRecursion (AllByRecursion (λ byte. byte < 256)) (get_or pages p [])) → AllByRecursion (AllByRecursion (λ byte. byte < 256)) (flat_map (λ items. items) pages)
  all_bytes [] h = tt
  all_bytes (x ∷ xs) h = all_append (AllByRecursion (λ byte. byte < 256)) x (flat_map (λ items. items) xs) (h 0) (all_bytes xs (λ p. h (suc p)))

  read_again : length columns ≤ 32 → (rows : List (List Value)) → AllByRecursion (IsRowOf columns) rows → AllByRecursion (AllByRecursion (λ byte. byte < 256)) (map (row_bytes columns) rows) → rows_in columns (map (row_bytes columns) rows) ≡ rows
  read_again few [] are small = refl
  read_again few (row ∷ rows) are small =
      let encodes : Encodes columns row (row_bytes columns row) = record { few = few; is_row = are.0; are_bytes = refl } in
      let found = (decodes columns (row_bytes columns row) (are_bytes (row_bytes columns row) small.0)).complete row encodes in
      λ i. option_to_list (found i) ++ read_again few rows are.1 small.1 i

  -- the pages of rows, read in order
  pub pages_read : (stored : Stored) (file : ℕ) (rows : List (List Value)) → HoldsBytes stored → length columns ≤ 32 → AllByRecursion (IsRowOf columns) rows →
      flat_map (λ items. items) (stored.pages file) ≡ map (row_bytes columns) rows →
      flat_map (λ p. rows_in columns (page_items stored file p)) (range_with_len 0 (length (stored.pages file))) ≡ rows
  pages_read stored file rows bytes few are same =
      flat_same _ _ (page_at (stored.pages file)) (range_with_len 0 (length (stored.pages file)))
      ∙ run_is (rows_in columns) (stored.pages file) 0 (length (stored.pages file))
      ∙ ap (flat_map (rows_in columns)) (take_all (length (stored.pages file)) (stored.pages file) (omega arith))
      ∙ rows_joined (stored.pages file)
      ∙ ap (rows_in columns) same
      ∙ read_again few rows are (subst (AllByRecursion (AllByRecursion (λ byte. byte < 256))) same (all_bytes (stored.pages file) (bytes file)))

  -- ---- entries

  module _ (stored : Stored) (heap_file file : ℕ) where
    entry_at : (p : ℕ) → option_to_list (entry_row stored columns heap_file file p) ≡ at (λ place. option_to_list (row_at stored columns heap_file place)) (stored.entries file) p
    entry_at p = by (slice_get (stored.entries file) p) where
      by : (o : Option EntryPlace) → option_to_list (option_and_then (row_at stored columns heap_file) o) ≡ flat_map (λ place. option_to_list (row_at stored columns heap_file place)) (option_to_list o)
      by None = refl
      by (Some place) = sym (append-nil (option_to_list (row_at stored columns heap_file place)))

    somes : (rows : List (List Value)) → flat_map (λ o. option_to_list o) (map Some rows) ≡ rows
    somes [] = refl
    somes (row ∷ rows) = ap (λ rs. row ∷ rs) (somes rows)

    flat_map_of : (places : List EntryPlace) → flat_map (λ place. option_to_list (row_at stored columns heap_file place)) places ≡ flat_map (λ o. option_to_list o) (map (row_at stored columns heap_file) places)
    flat_map_of [] = refl
    flat_map_of (place ∷ places) = ap (λ rs. option_to_list (row_at stored columns heap_file place) ++ rs) (flat_map_of places)

    -- a run of the entries of rows
    pub entries_read : (rows : List (List Value)) → map (row_at stored columns heap_file) (stored.entries file) ≡ map Some rows → (from n : ℕ) →
        flat_map (λ p. option_to_list (entry_row stored columns heap_file file (from + p))) (range_with_len 0 n) ≡ take n (drop from rows)
    entries_read rows same from n =
        let e : from + 0 ≡ from = omega arith in
        shifted (λ p. option_to_list (entry_row stored columns heap_file file p)) from 0 n
        ∙ ap (λ k. flat_map (λ p. option_to_list (entry_row stored columns heap_file file p)) (range_with_len k n)) e
        ∙ flat_same _ _ entry_at (range_with_len from n)
        ∙ run_is (λ place. option_to_list (row_at stored columns heap_file place)) (stored.entries file) from n
        ∙ flat_map_of (take n (drop from (stored.entries file)))
        ∙ ap (flat_map (λ o. option_to_list o)) (sym (take-map (row_at stored columns heap_file) n (drop from (stored.entries file))) ∙ ap (take n) (sym (drop-map (row_at stored columns heap_file) from (stored.entries file)))
        ∙ ap (λ os. take n (drop from os)) same ∙ ap (take n) (drop-map Some from rows) ∙ take-map Some n (drop from rows))
        ∙ somes (take n (drop from rows))

-- ---- slices of a merge

start_more : (rows k : ℕ) → slice_start rows k ≤ slice_start rows (k + 1)
start_more rows k =
    let h = div-mul-le_self (k * rows) 64 in
    let m : k * rows ≤ (k + 1) * rows = omega arith in
    le-div (k * rows / 64) ((k + 1) * rows) 64 (lit< tt) (omega (arith, h, m))

start_up : (rows k m : ℕ) → slice_start rows k ≤ slice_start rows (k + m)
start_up rows k zero = let e : k + 0 ≡ k = omega arith in subst (λ j. slice_start rows k ≤ slice_start rows j) (sym e) (omega arith)
start_up rows k (suc m) =
    let e : (k + m) + 1 ≡ k + suc m = omega arith in
    let a = start_up rows k m in
    let b = subst (λ j. slice_start rows (k + m) ≤ slice_start rows j) e (start_more rows (k + m)) in
    omega (arith, a, b)

slices_from : (xs : List (List Value)) (a n : ℕ) →
    flat_map (λ p. slice_of p xs) (range_with_len a n) ≡ take (slice_start (length xs) (a + n) - slice_start (length xs) a) (drop (slice_start (length xs) a) xs)
slices_from xs a zero =
    let e : a + 0 ≡ a = omega arith in
    let z : slice_start (length xs) a - slice_start (length xs) a ≡ 0 = omega arith in
    sym (ap (λ k. take k (drop (slice_start (length xs) a) xs)) (ap (λ j. slice_start (length xs) j - slice_start (length xs) a) e ∙ z))
slices_from xs a (suc n) =
    let s = slice_start (length xs) a in
    let t = slice_start (length xs) (a + 1) in
    let u = slice_start (length xs) ((a + 1) + n) in
    let e : (a + 1) + n ≡ a + suc n = omega arith in
    let st = start_more (length xs) a in
    let tu = start_up (length xs) (a + 1) n in
    let up : s + (t - s) ≡ t = omega (arith, st) in
    let both : (t - s) + (u - t) ≡ u - s = omega (arith, st, tu) in
    ap (λ ys. slice_of a xs ++ ys) (slices_from xs (a + 1) n ∙ ap (λ k. take (u - t) (drop k xs)) (sym up) ∙ ap (take (u - t)) (sym (drop-drop (t - s) s xs)))
    ∙ sym (take-add (t - s) (u - t) (drop s xs))
    ∙ ap (λ k. take k (drop s xs)) (both ∙ ap (λ j. slice_start (length xs) j - s) e)

slices_all : (xs : List (List Value)) → flat_map (λ p. slice_of p xs) (range_with_len 0 merge_slices) ≡ xs
slices_all xs =
    let zero_is : slice_start (length xs) 0 ≡ 0 = omega (arith, div-le_self (0 * length xs) 64) in
    let last : slice_start (length xs) 64 ≡ length xs = mul-div_cancel_left (length xs) (lit< tt) in
    slices_from xs 0 64
    ∙ (λ i. take (last i - zero_is i) (drop (zero_is i) xs))
    ∙ take_all (length xs - 0) xs (omega arith)

module _ (first second : List LayoutPart) (keys : List KeyPair) (right : List (List Value)) where
  slices_matched : (g : ℕ → List (List Value)) (ns : List ℕ) → flat_map (λ n. matched first second keys (g n) right) ns ≡ matched first second keys (flat_map g ns) right
  slices_matched g [] = refl
  slices_matched g (n ∷ ns) =
      ap (λ r. matched first second keys (g n) right ++ r) (slices_matched g ns)
      ∙ sym (flat_map-append (λ a. map (λ b. combined (merged first second) first second a b) (filter (λ b. keys_match first second keys a b) right)) (g n) (flat_map g ns))

  -- all slices of a merge
  pub merge_whole : (left : List (List Value)) → flat_map (λ p. matched first second keys (slice_of p left) right) (range_with_len 0 merge_slices) ≡ matched first second keys left right
  merge_whole left = slices_matched (λ p. slice_of p left) (range_with_len 0 merge_slices) ∙ ap (λ xs. matched first second keys xs right) (slices_all left)

  matched_sums : (left : List (List Value)) → Same (matched first second keys left right) (probed (merged first second) first second keys left right)
  matched_sums left f =
      let put = λ (a b : List Value). combined (merged first second) first second a b in
      total_flat f (λ a. map (λ b. put a b) (filter (λ b. keys_match first second keys a b) right)) left
      ∙ total_same _ _ left (λ a. total_map f (λ b. put a b) (filter (λ b. keys_match first second keys a b) right) ∙ total_filter (λ b. f (put a b)) (λ b. keys_match first second keys a b) right)
      ∙ total_swap (λ a b. only (keys_match first second keys a b) (f (put a b))) left right
      ∙ total_same _ _ right (λ b. sym (total_map f (λ a. put a b) (filter (λ a. keys_match first second keys a b) left) ∙ total_filter (λ a. f (put a b)) (λ a. keys_match first second keys a b) left))
      ∙ sym (total_flat f (λ b. map (λ a. put a b) (filter (λ a. keys_match first second keys a b) left)) right)

  -- a merge finds the rows that a probe finds
  pub merge_probes : (left : List (List Value)) → SameRows (matched first second keys left right) (probed (merged first second) first second keys left right)
  merge_probes left = same_occurrences (row_cmp []) _ _ (matched_sums left)
