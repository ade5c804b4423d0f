-- The levels that the function gives are the levels of an index, and few.
use Rattle.std.proofs.Common.{◌≡◌, ℕ, zero, suc, ◌+◌, ◌*◌, ◌<◌, ◌≤◌, cond, ltb, List, [], ◌∷◌, ◌++◌, length, refl, sym, ap, subst, arith, inl, inr, length-append}
use Rattle.std.specs.Prelude.{◌⊎◌}
use Rattle.std.specs.List.{AllByRecursion}
use Rattle.std.proofs.lemmas.Bool.{cases_lt, lt-ltb, le-ltb}
use Rattle.heap_page.specs.Blocks.{AreBlocks, blocks_of, joined, laid, weight_of}
use Rattle.heap_page.proofs.Cut.{are_blocks, only_blocks, laid_more, laid_next, laid_end}
use Rattle.rows.specs.RowBytes.{value_bytes}
use Rattle.key_index.specs.Bytes.{weight}
use Rattle.key_index.specs.Entries.{Item}
use Rattle.key_index.specs.Levels.{AreLevels, base_at, firsts, levels_from}
use Rattle.key_index.proofs.Keys.{weight_bounds}

-- the key has at most 2,002 bytes
abbrev pub IsSmall : Item → Type 0
IsSmall e = length (value_bytes e.key) ≤ 2002

pub light : (level : ℕ) (items : List Item) → AllByRecursion IsSmall items → AllByRecursion (λ e. weight level e ≤ 8172) items
light level [] h = tt
light level (e ∷ es) h = (omega (arith, (weight_bounds level e h.0).1), light level es h.1)

pub cut : (level : ℕ) (items : List Item) → AllByRecursion IsSmall items → AreBlocks (weight level) 8172 items (blocks_of (weight level) 8172 items)
cut level items h = are_blocks (weight level) 8172 items (light level items h)

pub is_cut : (level : ℕ) (items : List Item) (b : List (List Item)) → AllByRecursion IsSmall items → AreBlocks (weight level) 8172 items b → b ≡ blocks_of (weight level) 8172 items
is_cut level items b h c = only_blocks (weight level) 8172 items b (blocks_of (weight level) 8172 items) c (cut level items h)

-- ---- there are about half as many pages as items, or fewer

light_part : (level : ℕ) (part : List Item) → AllByRecursion IsSmall part → weight_of (weight level) part ≤ 2010 * length part
light_part level [] h = omega arith
light_part level (e ∷ es) h = omega (arith, (weight_bounds level e h.0).1, light_part level es h.1)

all_append : (P : Item → Type 0) (xs ys : List Item) → AllByRecursion P xs → AllByRecursion P ys → AllByRecursion P (xs ++ ys)
all_append P [] ys h k = k
all_append P (x ∷ xs) ys h k = (h.0, all_append P xs ys h.1 k)

halved : (level : ℕ) (xs part : List Item) → 0 < length part → AllByRecursion IsSmall part → AllByRecursion IsSmall xs → 2 * length (laid (weight level) 8172 part xs) ≤ length part + length xs + 1
halved level [] part some small all = let e = ap length (laid_end (weight level) 8172 part) in omega (arith, e, some)
halved level (x ∷ xs) part some small all =
    by (cases_lt 8172 (weight_of (weight level) (part ++ x ∷ []))) (halved level xs (part ++ x ∷ []) (omega (arith, length-append part (x ∷ []))) (all_append IsSmall part (x ∷ []) small (all.0, tt)) all.1) (halved level xs (x ∷ []) (omega arith) (all.0, tt) all.1) where
      by : (8172 < weight_of (weight level) (part ++ x ∷ [])) ⊎ (weight_of (weight level) (part ++ x ∷ []) ≤ 8172) → 2 * length (laid (weight level) 8172 (part ++ x ∷ []) xs) ≤ length (part ++ x ∷ []) + length xs + 1 →
          2 * length (laid (weight level) 8172 (x ∷ []) xs) ≤ 1 + length xs + 1 → 2 * length (laid (weight level) 8172 part (x ∷ xs)) ≤ length part + length (x ∷ xs) + 1
      by (inr le) h k = let e = ap length (laid_more (weight level) 8172 part x xs le) in omega (arith, e, h, length-append part (x ∷ []))
      by (inl lt) h k =
          let e = ap length (laid_next (weight level) 8172 part x xs lt) in
          let w = light_part level (part ++ x ∷ []) (all_append IsSmall part (x ∷ []) small (all.0, tt)) in
          omega (arith, e, k, w, lt, length-append part (x ∷ []))

pub fewer : (level : ℕ) (items : List Item) → AllByRecursion IsSmall items → 2 * length (blocks_of (weight level) 8172 items) ≤ length items + 1
fewer level [] all = omega arith
fewer level (x ∷ xs) all = omega (arith, halved level xs (x ∷ []) (omega arith) (all.0, tt) all.1)

pub fewer_blocks : (level : ℕ) (items : List Item) (b : List (List Item)) → AllByRecursion IsSmall items → AreBlocks (weight level) 8172 items b → 2 * length b ≤ length items + 1
fewer_blocks level items b all h = omega (arith, fewer level items all, ap length (is_cut level items b all h))

some_cut : (level : ℕ) (items : List Item) (b : List (List Item)) → AreBlocks (weight level) 8172 items b → 0 < length items → 0 < length b
some_cut level items [] h lt = let e : 0 ≡ length items = ap length h.same in absurd (omega (arith, e, lt))
some_cut level items (c ∷ b) h lt = omega arith

-- ---- the items over pages

pub small_firsts : (base : ℕ) (b : List (List Item)) → AllByRecursion IsSmall (joined b) → AllByRecursion IsSmall (firsts base b)
small_firsts base [] all = tt
small_firsts base ([] ∷ bs) all = small_firsts (suc base) bs all
small_firsts base ((x ∷ xs) ∷ bs) all = (all.0, small_firsts (suc base) bs (right xs (joined bs) all.1)) where
  right : (ys zs : List Item) → AllByRecursion IsSmall (ys ++ zs) → AllByRecursion IsSmall zs
  right [] zs h = h
  right (y ∷ ys) zs h = right ys zs h.1

pub firsts_length : (level base : ℕ) (items : List Item) (b : List (List Item)) → AreBlocks (weight level) 8172 items b → length (firsts base b) ≡ length b
firsts_length level base items b h = go base b h.fit where
  go : (base : ℕ) (bs : List (List Item)) → AllByRecursion (λ c. (0 < length c) × (weight_of (weight level) c ≤ 8172)) bs → length (firsts base bs) ≡ length bs
  go base [] h = refl
  go base ([] ∷ bs) h = absurd (omega (arith, h.0.0))
  go base ((x ∷ xs) ∷ bs) h = ap suc (go (suc base) bs h.1)

pub small_next : (level base : ℕ) (items : List Item) (b : List (List Item)) → AreBlocks (weight level) 8172 items b → AllByRecursion IsSmall items → AllByRecursion IsSmall (firsts base b)
small_next level base items b h all = small_firsts base b (subst (λ (xs : List Item). AllByRecursion IsSmall xs) (sym h.same) all)

-- ---- the levels

add_level : (level base : ℕ) (items : List Item) (b : List (List Item)) (ls : List (List (List Item))) → AreBlocks (weight level) 8172 items b → 1 < length b → AreLevels (suc level) (base + length b) (firsts base b) ls →
    AreLevels level base items (b ∷ ls)
add_level level base items b [] h lt next = let e : length (firsts base b) ≡ 0 = ap length next in absurd (omega (arith, e, firsts_length level base items b h, lt))
add_level level base items b (c ∷ more) h lt next = (h, (lt, next))

pub levels_made : (most level base : ℕ) (items : List Item) → 0 < length items → length items ≤ most → AllByRecursion IsSmall items → AreLevels level base items (levels_from most level base items)
unfolding levels_from
levels_made zero level base items lt le all = absurd (omega arith)
levels_made (suc most) level base items lt le all =
    by (cases_lt 1 (length (blocks_of (weight level) 8172 items))) (λ more. levels_made most (suc level) (base + length (blocks_of (weight level) 8172 items)) (firsts base (blocks_of (weight level) 8172 items))
    (omega (arith, firsts_length level base items (blocks_of (weight level) 8172 items) (cut level items all), more)) (omega (arith, firsts_length level base items (blocks_of (weight level) 8172 items) (cut level items all), fewer level items all, more, le))
    (small_next level base items (blocks_of (weight level) 8172 items) (cut level items all) all)) where
      b : List (List Item)
      b = blocks_of (weight level) 8172 items

      by : (1 < length b) ⊎ (length b ≤ 1) → (1 < length b → AreLevels (suc level) (base + length b) (firsts base b) (levels_from most (suc level) (base + length b) (firsts base b))) →
          AreLevels level base items (b ∷ cond (ltb 1 (length b)) (levels_from most (suc level) (base + length b) (firsts base b)) [])
      by (inl more) next = rw (lt-ltb 1 (length b) more) (add_level level base items b (levels_from most (suc level) (base + length b) (firsts base b)) (cut level items all) more (next more))
      by (inr one) next = rw (le-ltb 1 (length b) one) (cut level items all, omega (arith, one, some_cut level items b (cut level items all) lt))

abbrev pub doubled : ℕ → ℕ
doubled zero = 1
doubled (suc k) = 2 * doubled k

-- how many levels there are
pub few_levels : (k level base : ℕ) (items : List Item) (levels : List (List (List Item))) → AreLevels level base items levels → AllByRecursion IsSmall items → length items ≤ doubled (suc k) → length levels ≤ suc k
few_levels k level base items [] h all le = omega arith
few_levels k level base items (b ∷ []) h all le = omega arith
few_levels zero level base items (b ∷ c ∷ more) h all le = absurd (omega (arith, fewer_blocks level items b all h.0, h.1.0, le))
few_levels (suc k) level base items (b ∷ c ∷ more) h all le =
    omega (arith, few_levels k (suc level) (base + length b) (firsts base b) (c ∷ more) h.1.1 (small_next level base items b h.0 all) (omega (arith, firsts_length level base items b h.0, fewer_blocks level items b all h.0, le)))

-- how many pages there are
pub few_pages : (level base : ℕ) (items : List Item) (levels : List (List (List Item))) → AreLevels level base items levels → AllByRecursion IsSmall items → base_at base levels (length levels) ≤ base + 2 * length items
few_pages level base items [] h all = omega arith
few_pages level base items (b ∷ []) h all = omega (arith, fewer_blocks level items b all h.0, h.1)
few_pages level base items (b ∷ c ∷ more) h all =
    omega (arith, few_pages (suc level) (base + length b) (firsts base b) (c ∷ more) h.1.1 (small_next level base items b h.0 all), firsts_length level base items b h.0, fewer_blocks level items b all h.0, h.1.0)
