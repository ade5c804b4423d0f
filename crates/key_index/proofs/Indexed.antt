-- Pages that hold an index are read as its levels.
use Rattle.std.proofs.Common.{◌≡◌, ℕ, zero, suc, ◌+◌, ◌-◌, ◌^◌, ◌<◌, ◌≤◌, List, [], ◌∷◌, ◌++◌, length, get_or, Some, refl, sym, ap, subst, ◌∙◌, arith, length-append}
use Rattle.std.specs.Prelude.{slice_get}
use Rattle.std.specs.List.{AllByRecursion}
use Rattle.heap_page.specs.Blocks.{AreBlocks, joined, weight_of}
use Rattle.rows.specs.declared.field.ColType.{ColType}
use Rattle.rows.specs.declared.plain.KeyEntry.{KeyEntry}
use Rattle.rows.specs.declared.plain.KeyIndex.{KeyIndex}
use Rattle.rows.specs.RowBytes.{IsOfType}
use Rattle.key_index.specs.Aims.{first_of}
use Rattle.key_index.specs.Bytes.{page_of, weight}
use Rattle.key_index.specs.Entries.{AreEntries, IsEntry, Item, blank, items_from, items_of}
use Rattle.key_index.specs.Files.{HoldsIndex, level_pages, pages_of_levels}
use Rattle.key_index.specs.Levels.{AreLevels, base_at, firsts, items_at, levels_from, levels_of, pages_at, up}
use Rattle.key_index.specs.Searches.{IsIndexPage, Leads}
use Rattle.key_index.proofs.Descents.{IsIndex}
use Rattle.key_index.proofs.Fronts.{numbered}
use Rattle.rows.proofs.RowValues.{value_small}
use Rattle.key_index.proofs.Keys.{AreItems, weight_bounds}
use Rattle.key_index.proofs.Levels.{at_level}
use Rattle.key_index.proofs.Made.{IsSmall, few_levels, few_pages, levels_made}
use Rattle.key_index.proofs.Numbers.{Numbered}
use Rattle.key_index.proofs.Written.{no_fault, no_head_fault, read_whole}

-- ---- where a page stands in the file

get_front : {X : Type 0} (xs ys : List X) (n : ℕ) (x : X) → slice_get xs n ≡ Some x → slice_get (xs ++ ys) n ≡ Some x
get_front [] ys n x e = absurd cc
get_front (y ∷ xs) ys zero x e = e
get_front (y ∷ xs) ys (suc n) x e = get_front xs ys n x e

get_behind : {X : Type 0} (xs ys : List X) (n m : ℕ) → m ≡ length xs + n → slice_get (xs ++ ys) m ≡ slice_get ys n
get_behind [] ys n m e = let k : m ≡ n = omega (arith, e) in ap (slice_get ys) k
get_behind (x ∷ xs) ys n zero e = absurd (omega (arith, e))
get_behind (x ∷ xs) ys n (suc m) e = get_behind xs ys n m (omega (arith, e))

pub length-level : (file level number : ℕ) (b : List (List Item)) → length (level_pages file level number b) ≡ length b
length-level file level number [] = refl
length-level file level number (c ∷ b) = ap suc (length-level file level (suc number) b)

pub level_page : (file level number n : ℕ) (b : List (List Item)) → n < length b → slice_get (level_pages file level number b) n ≡ Some (page_of file (number + n) level (get_or b n []))
level_page file level number n [] lt = absurd (omega arith)
level_page file level number zero (c ∷ b) lt = let e : number ≡ number + 0 = omega arith in ap (λ (k : ℕ). Some (page_of file k level c)) e
level_page file level number (suc n) (c ∷ b) lt = let e : suc number + n ≡ number + suc n = omega arith in level_page file level (suc number) n b (omega arith) ∙ ap (λ (k : ℕ). Some (page_of file k level (get_or b n []))) e

pub base_below : (base : ℕ) (levels : List (List (List Item))) (k : ℕ) → base ≤ base_at base levels k
base_below base levels zero = omega arith
base_below base [] (suc k) = omega arith
base_below base (b ∷ bs) (suc k) = omega (arith, base_below (base + length b) bs k)

pub length-pages : (file level base : ℕ) (levels : List (List (List Item))) → base + length (pages_of_levels file level base levels) ≡ base_at base levels (length levels)
length-pages file level base [] = omega arith
length-pages file level base (b ∷ bs) =
    omega (arith, length-append (level_pages file level base b) (pages_of_levels file (suc level) (base + length b) bs), length-level file level base b, length-pages file (suc level) (base + length b) bs)

page_there : (file level base : ℕ) (levels : List (List (List Item))) (k n m : ℕ) → k < length levels → n < length (pages_at levels k) → base + m ≡ base_at base levels k + n →
    slice_get (pages_of_levels file level base levels) m ≡ Some (page_of file (base + m) (level + k) (get_or (pages_at levels k) n []))
page_there file level base [] k n m lt small e = absurd (omega arith)
page_there file level base (b ∷ bs) zero n m lt small e =
    let same : m ≡ n = omega (arith, e) in
    let at : level ≡ level + 0 = omega arith in
    rw same (get_front (level_pages file level base b) (pages_of_levels file (suc level) (base + length b) bs) n _ (level_page file level base n b small)
    ∙ ap (λ (j : ℕ). Some (page_of file (base + n) j (get_or b n []))) at)
page_there file level base (b ∷ bs) (suc k) n m lt small e =
    let over : length b ≤ m = omega (arith, e, base_below (base + length b) bs k) in
    let left : m ≡ length (level_pages file level base b) + (m - length b) = omega (arith, over, length-level file level base b) in
    let there : (base + length b) + (m - length b) ≡ base + m = omega (arith, over) in
    let at : suc level + k ≡ level + suc k = omega arith in
    get_behind (level_pages file level base b) (pages_of_levels file (suc level) (base + length b) bs) (m - length b) m left
    ∙ (page_there file (suc level) (base + length b) bs k n (m - length b) (omega arith) small (omega (arith, e, over))
    ∙ (ap (λ (j : ℕ). Some (page_of file j (suc level + k) (get_or (pages_at bs k) n []))) there ∙ ap (λ (j : ℕ). Some (page_of file (base + m) j (get_or (pages_at bs k) n []))) at))

base_grows : (base : ℕ) (levels : List (List (List Item))) (k n : ℕ) → k < length levels → n < length (pages_at levels k) → base_at base levels k + n < base_at base levels (length levels)
base_grows base [] k n lt small = absurd (omega arith)
base_grows base (b ∷ bs) zero n lt small = omega (arith, base_below (base + length b) bs (length bs), small)
base_grows base (b ∷ bs) (suc k) n lt small = base_grows (base + length b) bs k n (omega arith) small

-- ---- what holds of the items of a level

module _ (t : ColType) (heap pages n : ℕ) where
  abbrev Good : ℕ → Item → Type 0
  Good zero e = IsOfType t e.key × (e.page < heap) × (e.slot < 65536) × (e.left < n)
  Good (suc level) e = IsOfType t e.key × (e.page < pages) × (e.slot ≡ 0) × (e.left < n)

  good_up : (level page : ℕ) (e : Item) → page < pages → Good level e → Good (suc level) (up page e)
  good_up zero page e lt h = (h.0, lt, refl, h.3)
  good_up (suc level) page e lt h = (h.0, lt, refl, h.3)

  all_right : {X : Type 0} (P : X → Type 0) (xs ys : List X) → AllByRecursion P (xs ++ ys) → AllByRecursion P ys
  all_right P [] ys h = h
  all_right P (x ∷ xs) ys h = all_right P xs ys h.1

  all_left : {X : Type 0} (P : X → Type 0) (xs ys : List X) → AllByRecursion P (xs ++ ys) → AllByRecursion P xs
  all_left P [] ys h = tt
  all_left P (x ∷ xs) ys h = (h.0, all_left P xs ys h.1)

  good_firsts : (level base : ℕ) (b : List (List Item)) → base + length b ≤ pages → AllByRecursion (Good level) (joined b) → AllByRecursion (Good (suc level)) (firsts base b)
  good_firsts level base [] le h = tt
  good_firsts level base ([] ∷ bs) le h = good_firsts level (suc base) bs (omega (arith, le)) h
  good_firsts level base ((x ∷ xs) ∷ bs) le h =
      (good_up level base x (omega (arith, le)) h.0, good_firsts level (suc base) bs (omega (arith, le)) (all_right (Good level) xs (joined bs) h.1))

  good_at : (level base : ℕ) (items : List Item) (levels : List (List (List Item))) (k : ℕ) → AreLevels level base items levels → base_at base levels (length levels) ≤ pages → k < length levels → AllByRecursion (Good level) items →
      AllByRecursion (Good (level + k)) (items_at base items levels k)
  good_at level base items [] k h le lt good = absurd (omega arith)
  good_at level base items (b ∷ []) zero h le lt good = let e : level ≡ level + 0 = omega arith in subst (λ (j : ℕ). AllByRecursion (Good j) items) e good
  good_at level base items (b ∷ []) (suc k) h le lt good = absurd (omega arith)
  good_at level base items (b ∷ c ∷ more) zero h le lt good = let e : level ≡ level + 0 = omega arith in subst (λ (j : ℕ). AllByRecursion (Good j) items) e good
  good_at level base items (b ∷ c ∷ more) (suc k) h le lt good =
      let e : suc level + k ≡ level + suc k = omega arith in
      let first = good_firsts level base b (omega (arith, le, base_below (base + length b) (c ∷ more) (length (c ∷ more)))) (subst (λ (xs : List Item). AllByRecursion (Good level) xs) (sym h.0.same) good) in
      subst (λ (j : ℕ). AllByRecursion (Good j) (items_at (base + length b) (firsts base b) (c ∷ more) k)) e (good_at (suc level) (base + length b) (firsts base b) (c ∷ more) k h.1.1 le (omega arith) first)

  good_block : (level n2 : ℕ) (b : List (List Item)) → AllByRecursion (Good level) (joined b) → AllByRecursion (Good level) (get_or b n2 [])
  good_block level n2 [] h = tt
  good_block level zero (c ∷ b) h = all_left (Good level) c (joined b) h
  good_block level (suc n2) (c ∷ b) h = good_block level n2 b (all_right (Good level) c (joined b) h)

  items_above : (level number : ℕ) (es : List Item) → pages ≤ 2 ^ 32 → n ≤ 2 ^ 32 → AllByRecursion (Good (suc level)) es → AreItems t (suc level) number es
  items_above level number [] ps ns h = tt
  items_above level number (e ∷ es) ps ns h = ((h.0.0, omega (arith, h.0.1, ps), h.0.2, omega (arith, h.0.3, ns)), items_above level (suc number) es ps ns h.1)

  items_leaf : (number : ℕ) (es : List Item) → heap ≤ 2 ^ 32 → AllByRecursion (Good 0) es → Numbered number es → AreItems t 0 number es
  items_leaf number [] hs h k = tt
  items_leaf number (e ∷ es) hs h k = ((h.0.0, omega (arith, h.0.1, hs), h.0.2, k.0), items_leaf (suc number) es hs h.1 k.1)

good_entries : (t : ColType) (heap pages n s : ℕ) (es : List KeyEntry) → AllByRecursion (IsEntry t heap) es → s + length es ≤ n → AllByRecursion (Good t heap pages n 0) (items_from s es)
good_entries t heap pages n s [] h le = tt
good_entries t heap pages n s (e ∷ es) h le = ((h.0.0, h.0.1, h.0.2, omega (arith, le)), good_entries t heap pages n (suc s) es h.1 (omega (arith, le)))

small_entries : (t : ColType) (heap s : ℕ) (es : List KeyEntry) → AllByRecursion (IsEntry t heap) es → AllByRecursion IsSmall (items_from s es)
small_entries t heap s [] h = tt
small_entries t heap s (e ∷ es) h = (value_small t e.key h.0.0, small_entries t heap (suc s) es h.1)

leads_above : (t : ColType) (index : KeyIndex) (level : ℕ) (es : List Item) → AllByRecursion (Good t index.heap_pages index.pages index.entries level) es → AllByRecursion (Leads index level) es
leads_above t index level [] h = tt
leads_above t index zero (e ∷ es) h = (h.0.1, leads_above t index zero es h.1)
leads_above t index (suc level) (e ∷ es) h = ((h.0.1, omega (arith, h.0.3)), leads_above t index (suc level) es h.1)

-- ---- numbers

numbers_behind : (s : ℕ) (xs ys : List Item) → Numbered s (xs ++ ys) → Numbered (s + length xs) ys
numbers_behind s [] ys h = let e : s ≡ s + 0 = omega arith in subst (λ (k : ℕ). Numbered k ys) e h
numbers_behind s (x ∷ xs) ys h = let e : suc s + length xs ≡ s + suc (length xs) = omega arith in subst (λ (k : ℕ). Numbered k ys) e (numbers_behind (suc s) xs ys h.1)

numbers_front : (s : ℕ) (xs ys : List Item) → Numbered s (xs ++ ys) → Numbered s xs
numbers_front s [] ys h = tt
numbers_front s (x ∷ xs) ys h = (h.0, numbers_front (suc s) xs ys h.1)

numbers_from_first : (s : ℕ) (xs : List Item) → Numbered s xs → Numbered (first_of xs).left xs
numbers_from_first s [] h = tt
numbers_from_first s (x ∷ xs) h = subst (λ (k : ℕ). Numbered k (x ∷ xs)) (sym h.0) h

numbers_block : (s n : ℕ) (b : List (List Item)) → Numbered s (joined b) → Numbered (first_of (get_or b n [])).left (get_or b n [])
numbers_block s n [] h = tt
numbers_block s zero (c ∷ b) h = numbers_from_first s c (numbers_front s c (joined b) h)
numbers_block s (suc n) (c ∷ b) h = numbers_block (s + length c) n b (numbers_behind s c (joined b) h)

number_at : (s i : ℕ) (xs : List Item) → Numbered s xs → i < length xs → (get_or xs i blank).left ≡ s + i
number_at s i [] h lt = absurd (omega arith)
number_at s zero (x ∷ xs) h lt = omega (arith, h.0)
number_at s (suc i) (x ∷ xs) h lt = omega (arith, number_at (suc s) i xs h.1 (omega arith))

-- ---- a block

block_fits : (level n : ℕ) (b : List (List Item)) → AllByRecursion (λ c. (0 < length c) × (weight_of (weight level) c ≤ 8172)) b → n < length b → (0 < length (get_or b n [])) × (weight_of (weight level) (get_or b n []) ≤ 8172)
block_fits level n [] h lt = absurd (omega arith)
block_fits level zero (c ∷ b) h lt = h.0
block_fits level (suc n) (c ∷ b) h lt = block_fits level n b h.1 (omega arith)

few_in : (t : ColType) (heap pages n level : ℕ) (es : List Item) → AllByRecursion (Good t heap pages n level) es → length es ≤ weight_of (weight level) es
few_in t heap pages n level [] h = omega arith
few_in t heap pages n zero (e ∷ es) h = omega (arith, (weight_bounds zero e (value_small t e.key h.0.0)).0, few_in t heap pages n zero es h.1)
few_in t heap pages n (suc level) (e ∷ es) h = omega (arith, (weight_bounds (suc level) e (value_small t e.key h.0.0)).0, few_in t heap pages n (suc level) es h.1)

pub length-items : (n : ℕ) (entries : List KeyEntry) → length (items_from n entries) ≡ length entries
length-items n [] = refl
length-items n (e ∷ es) = ap suc (length-items (suc n) es)

pub made_of : (t : ColType) (heap : ℕ) (entries : List KeyEntry) → AreEntries t heap entries → AreLevels 0 0 (items_of entries) (levels_of entries)
unfolding levels_from
made_of t heap entries h = by entries (small_entries t heap 0 entries h.each) where
  by : (es : List KeyEntry) → AllByRecursion IsSmall (items_of es) → AreLevels 0 0 (items_of es) (levels_of es)
  by [] small = refl
  by (e ∷ es) small = levels_made (suc (length es)) 0 0 (items_of (e ∷ es)) (omega arith) (omega (arith, length-items 0 (e ∷ es))) small

module _ (index : KeyIndex) (pages : ℕ → List ℕ) (entries : List KeyEntry) (h : HoldsIndex index pages entries) where
  items : List Item
  items = items_of entries

  levels : List (List (List Item))
  levels = levels_of entries

  made : AreLevels 0 0 (items_of entries) (levels_of entries)
  made = made_of index.key_type index.heap_pages entries h.legal

  small : AllByRecursion IsSmall (items_of entries)
  small = small_entries index.key_type index.heap_pages 0 entries h.legal.each

  entries_are : index.entries ≡ length entries
  entries_are = ap (λ (i : KeyIndex). i.entries) h.numbers

  pages_are : index.pages ≡ base_at 0 (levels_of entries) (length (levels_of entries))
  pages_are = ap (λ (i : KeyIndex). i.pages) h.numbers ∙ omega (arith, length-pages index.file 0 0 (levels_of entries))

  pages_small : index.pages ≤ 2000000
  pages_small = omega (arith, pages_are, few_pages 0 0 (items_of entries) (levels_of entries) made small, length-items 0 entries, h.legal.few)

  height_small : length (levels_of entries) ≤ 20
  height_small = few_levels 19 0 0 (items_of entries) (levels_of entries) made small (omega (arith, length-items 0 entries, h.legal.few))

  module _ (k n : ℕ) (lt : k < length (levels_of entries)) (inside : n < length (pages_at (levels_of entries) k)) where
    abbrev block : List Item
    block = get_or (pages_at (levels_of entries) k) n []

    abbrev number : ℕ
    number = base_at 0 (levels_of entries) k + n

    blocks : AreBlocks (weight k) 8172 (items_at 0 (items_of entries) (levels_of entries) k) (pages_at (levels_of entries) k)
    blocks = let e : 0 + k ≡ k = omega arith in subst (λ (j : ℕ). AreBlocks (weight j) 8172 (items_at 0 (items_of entries) (levels_of entries) k) (pages_at (levels_of entries) k)) e (at_level 0 0 (items_of entries) (levels_of entries) k made lt).0

    good : AllByRecursion (Good index.key_type index.heap_pages index.pages index.entries k) (get_or (pages_at (levels_of entries) k) n [])
    good =
        let e : 0 + k ≡ k = omega arith in
        let first = good_entries index.key_type index.heap_pages index.pages index.entries 0 entries h.legal.each (omega (arith, entries_are)) in
        let all = good_at index.key_type index.heap_pages index.pages index.entries 0 0 (items_of entries) (levels_of entries) k made (omega (arith, pages_are)) lt first in
        good_block index.key_type index.heap_pages index.pages index.entries k n (pages_at (levels_of entries) k)
        (subst (λ (xs : List Item). AllByRecursion (Good index.key_type index.heap_pages index.pages index.entries k) xs) (sym blocks.same)
        (subst (λ (j : ℕ). AllByRecursion (Good index.key_type index.heap_pages index.pages index.entries j) (items_at 0 (items_of entries) (levels_of entries) k)) e all))

    fits : (0 < length (get_or (pages_at (levels_of entries) k) n [])) × (weight_of (weight k) (get_or (pages_at (levels_of entries) k) n []) ≤ 8172)
    fits = block_fits k n (pages_at (levels_of entries) k) blocks.fit inside

    told : pages (base_at 0 (levels_of entries) k + n) ≡ page_of index.file (base_at 0 (levels_of entries) k + n) k (get_or (pages_at (levels_of entries) k) n [])
    told =
        let z : 0 + (base_at 0 (levels_of entries) k + n) ≡ base_at 0 (levels_of entries) k + n = omega arith in
        let e : 0 + k ≡ k = omega arith in
        let there = page_there index.file 0 0 (levels_of entries) k n (base_at 0 (levels_of entries) k + n) lt inside z in
        h.told (base_at 0 (levels_of entries) k + n) (page_of index.file (base_at 0 (levels_of entries) k + n) k (get_or (pages_at (levels_of entries) k) n []))
        (there ∙ (ap (λ (j : ℕ). Some (page_of index.file j (0 + k) (get_or (pages_at (levels_of entries) k) n []))) z ∙ ap (λ (j : ℕ). Some (page_of index.file (base_at 0 (levels_of entries) k + n) j (get_or (pages_at (levels_of entries) k) n []))) e))

  leaf_numbers : (n : ℕ) → Numbered (first_of (get_or (pages_at (levels_of entries) 0) n [])).left (get_or (pages_at (levels_of entries) 0) n [])
  leaf_numbers n = by (levels_of entries) made where
    by : (ls : List (List (List Item))) → AreLevels 0 0 (items_of entries) ls → Numbered (first_of (get_or (pages_at ls 0) n [])).left (get_or (pages_at ls 0) n [])
    by [] m = tt
    by (b ∷ []) m = numbers_block 0 n b (subst (λ (xs : List Item). Numbered 0 xs) (sym m.0.same) (numbered 0 entries))
    by (b ∷ c ∷ more) m = numbers_block 0 n b (subst (λ (xs : List Item). Numbered 0 xs) (sym m.0.same) (numbered 0 entries))

  are_items : (k n : ℕ) → k < length (levels_of entries) → n < length (pages_at (levels_of entries) k) → AreItems index.key_type k (first_of (get_or (pages_at (levels_of entries) k) n [])).left (get_or (pages_at (levels_of entries) k) n [])
  are_items zero n lt inside =
      items_leaf index.key_type index.heap_pages index.pages index.entries (first_of (get_or (pages_at (levels_of entries) 0) n [])).left (get_or (pages_at (levels_of entries) 0) n []) (omega (arith, h.small.1)) (good zero n lt inside) (leaf_numbers n)
  are_items (suc k) n lt inside =
      items_above index.key_type index.heap_pages index.pages index.entries k (first_of (get_or (pages_at (levels_of entries) (suc k)) n [])).left (get_or (pages_at (levels_of entries) (suc k)) n []) (omega (arith, pages_small)) (omega (arith, entries_are, h.legal.few)) (good (suc k) n lt inside)

  reads : (k n : ℕ) → k < length (levels_of entries) → n < length (pages_at (levels_of entries) k) →
      IsIndexPage index k (first_of (get_or (pages_at (levels_of entries) k) n [])).left (base_at 0 (levels_of entries) k + n) (pages (base_at 0 (levels_of entries) k + n)) (get_or (pages_at (levels_of entries) k) n [])
  reads k n lt inside =
      let b = get_or (pages_at (levels_of entries) k) n [] in
      let left = (first_of b).left in
      let number = base_at 0 (levels_of entries) k + n in
      let few = few_in index.key_type index.heap_pages index.pages index.entries k b (good k n lt inside) in
      let f = fits k n lt inside in
      let many : length b < 65536 = omega (arith, few, f.1) in
      let ls : k < 65536 = omega (arith, lt, height_small) in
      let ns : number < 2 ^ 32 = omega (arith, base_grows 0 (levels_of entries) k n lt inside, pages_are, pages_small) in
      let ok = are_items k n lt inside in
      subst (λ (xs : List ℕ). IsIndexPage index k left number xs b) (sym (told k n lt inside)) (record {
        head = no_head_fault index.file number k b h.small.0 ns;
        fine = no_fault index.file number k b index.key_type left f.0 many ls ok;
        rest = _;
        holds = read_whole index.file number k b index.key_type left many ok;
        leads = leads_above index.key_type index k b (good k n lt inside);
      })

  pub indexed : IsIndex index pages (items_of entries)
  indexed = record {
    levels = levels_of entries;
    made = made;
    height = ap (λ (i : KeyIndex). i.height) h.numbers;
    count = pages_are;
    entries = entries_are ∙ sym (length-items 0 entries);
    numbered = λ i lt. number_at 0 i (items_of entries) (numbered 0 entries) lt ∙ omega arith;
    reads = reads;
  }
