-- How many pages an index has: at most two for each entry, whatever the number of its file.
use Rattle.std.proofs.Common.{◌≡◌, ℕ, zero, suc, ◌+◌, ◌*◌, ◌<◌, ◌≤◌, List, [], ◌∷◌, ◌++◌, length, take, refl, sym, ap, subst, arith, length-append}
use Rattle.std.specs.List.{AllByRecursion}
use Rattle.heap_page.specs.Blocks.{AreBlocks, AreFull, joined, weight_of}
use Rattle.rows.proofs.RowValues.{value_small}
use Rattle.rows.specs.declared.field.ColType.{ColType}
use Rattle.rows.specs.declared.plain.KeyEntry.{KeyEntry}
use Rattle.rows.specs.RowBytes.{value_bytes}
use Rattle.key_index.specs.Bytes.{tail_bytes, weight}
use Rattle.key_index.specs.Entries.{AreEntries, IsEntry, Item, items_from, items_of}
use Rattle.key_index.specs.Files.{index_pages, level_pages, pages_of_levels}
use Rattle.key_index.specs.Levels.{AreLevels, firsts, levels_of}

-- ---- the items are short

-- the key has at most 2,002 bytes
abbrev IsSmall : Item → Type 0
IsSmall e = length (value_bytes e.key) ≤ 2002

all_small : (t : ColType) (heap number : ℕ) (es : List KeyEntry) → AllByRecursion (IsEntry t heap) es → AllByRecursion IsSmall (items_from number es)
all_small t heap number [] h = tt
all_small t heap number (e ∷ es) h = (value_small t e.key h.0.0, all_small t heap (suc number) es h.1)

tail_length : (level : ℕ) (e : Item) → length (tail_bytes level e) ≤ 8
tail_length zero e = omega arith
tail_length (suc level) e = omega arith

short : (level : ℕ) (e : Item) → IsSmall e → weight level e ≤ 2010
short level e h = omega (arith, tail_length level e, length-append (value_bytes e.key) (tail_bytes level e), h)

short_part : (level : ℕ) (part : List Item) → AllByRecursion IsSmall part → weight_of (weight level) part ≤ 2010 * length part
short_part level [] h = omega arith
short_part level (e ∷ es) h = omega (arith, short level e h.0, short_part level es h.1)

left : (xs ys : List Item) → AllByRecursion IsSmall (xs ++ ys) → AllByRecursion IsSmall xs
left [] ys h = tt
left (x ∷ xs) ys h = (h.0, left xs ys h.1)

right : (xs ys : List Item) → AllByRecursion IsSmall (xs ++ ys) → AllByRecursion IsSmall ys
right [] ys h = h
right (x ∷ xs) ys h = right xs ys h.1

both : (xs ys : List Item) → AllByRecursion IsSmall xs → AllByRecursion IsSmall ys → AllByRecursion IsSmall (xs ++ ys)
both [] ys h k = k
both (x ∷ xs) ys h k = (h.0, both xs ys h.1 k)

first_small : (c : List Item) → AllByRecursion IsSmall c → AllByRecursion IsSmall (take 1 c)
first_small [] h = tt
first_small (x ∷ c) h = (h.0, tt)

first_one : (c : List Item) → length (take 1 c) ≤ 1
first_one [] = omega arith
first_one (x ∷ c) = omega arith

-- ---- so every page but the last one has four items or more

halved : (level : ℕ) (blocks : List (List Item)) → AllByRecursion (λ c. (0 < length c) × (weight_of (weight level) c ≤ 8172)) blocks → AreFull (weight level) 8172 blocks → AllByRecursion IsSmall (joined blocks) →
    2 * length blocks ≤ length (joined blocks) + 1
halved level [] fit full small = omega arith
halved level (b ∷ []) fit full small = omega (arith, length-append b [], fit.0.0)
halved level (b ∷ c ∷ bs) fit full small =
    let rest = right b (joined (c ∷ bs)) small in
    let w = short_part level (b ++ take 1 c) (both b (take 1 c) (left b (joined (c ∷ bs)) small) (first_small c (left c (joined bs) rest))) in
    omega (arith, w, full.0, length-append b (take 1 c), first_one c, length-append b (joined (c ∷ bs)), halved level (c ∷ bs) fit.1 full.1 rest)

half : (level : ℕ) (items : List Item) (b : List (List Item)) → AreBlocks (weight level) 8172 items b → AllByRecursion IsSmall items → 2 * length b ≤ length items + 1
half level items b h small = omega (arith, halved level b h.fit h.full (subst (λ (xs : List Item). AllByRecursion IsSmall xs) (sym h.same) small), ap length h.same)

few_firsts : (base : ℕ) (b : List (List Item)) → length (firsts base b) ≤ length b
few_firsts base [] = omega arith
few_firsts base ([] ∷ bs) = omega (arith, few_firsts (suc base) bs)
few_firsts base ((x ∷ xs) ∷ bs) = omega (arith, few_firsts (suc base) bs)

small_firsts : (base : ℕ) (b : List (List Item)) → AllByRecursion IsSmall (joined b) → AllByRecursion IsSmall (firsts base b)
small_firsts base [] h = tt
small_firsts base ([] ∷ bs) h = small_firsts (suc base) bs h
small_firsts base ((x ∷ xs) ∷ bs) h = (h.0, small_firsts (suc base) bs (right xs (joined bs) h.1))

-- ---- the pages of all levels

length_level : (file level number : ℕ) (b : List (List Item)) → length (level_pages file level number b) ≡ length b
length_level file level number [] = refl
length_level file level number (c ∷ b) = ap suc (length_level file level (suc number) b)

few_pages : (file level base : ℕ) (items : List Item) (levels : List (List (List Item))) → AreLevels level base items levels → AllByRecursion IsSmall items → length (pages_of_levels file level base levels) ≤ 2 * length items
few_pages file level base items [] h small = omega arith
few_pages file level base items (b ∷ []) h small =
    omega (arith, length-append (level_pages file level base b) [], length_level file level base b, half level items b h.0 small, h.1)
few_pages file level base items (b ∷ c ∷ more) h small =
    let all = subst (λ (xs : List Item). AllByRecursion IsSmall xs) (sym h.0.same) small in
    let above = few_pages file (suc level) (base + length b) (firsts base b) (c ∷ more) h.1.1 (small_firsts base b all) in
    omega (arith, length-append (level_pages file level base b) (pages_of_levels file (suc level) (base + length b) (c ∷ more)), length_level file level base b, half level items b h.0 small, few_firsts base b, h.1.0, above)

length_items : (n : ℕ) (entries : List KeyEntry) → length (items_from n entries) ≡ length entries
length_items n [] = refl
length_items n (e ∷ es) = ap suc (length_items (suc n) es)

pub few_index_pages : (t : ColType) (heap file : ℕ) (entries : List KeyEntry) → AreEntries t heap entries → AreLevels 0 0 (items_of entries) (levels_of entries) → length (index_pages file entries) ≤ 2000000
few_index_pages t heap file entries h levels = omega (arith, few_pages file 0 0 (items_of entries) (levels_of entries) levels (all_small t heap 0 entries h.each), length_items 0 entries, h.few)

same_levels : (file other level base : ℕ) (levels : List (List (List Item))) → length (pages_of_levels file level base levels) ≡ length (pages_of_levels other level base levels)
same_levels file other level base [] = refl
same_levels file other level base (b ∷ levels) =
    omega (
      arith,
      length-append (level_pages file level base b) (pages_of_levels file (suc level) (base + length b) levels),
      length-append (level_pages other level base b) (pages_of_levels other (suc level) (base + length b) levels),
      length_level file level base b,
      length_level other level base b,
      same_levels file other (suc level) (base + length b) levels,
    )

-- the number of the file doesn't matter
pub same_count : (file other : ℕ) (entries : List KeyEntry) → length (index_pages file entries) ≡ length (index_pages other entries)
same_count file other entries = same_levels file other 0 0 (levels_of entries)
