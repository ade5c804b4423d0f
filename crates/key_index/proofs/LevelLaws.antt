-- The levels of an index are the only ones, and its pages are whole.
use Rattle.std.proofs.Common.{◌≡◌, ℕ, zero, suc, ◌+◌, ◌<◌, ◌≤◌, List, [], ◌∷◌, ◌++◌, length, Some, refl, sym, ap, subst, ◌∙◌, arith}
use Rattle.std.specs.Prelude.{slice_get}
use Rattle.std.specs.List.{AllByRecursion}
use Rattle.heap_page.specs.Blocks.{AreBlocks, joined, weight_of}
use Rattle.heap_page.proofs.Cut.{only_blocks}
use Rattle.rows.specs.declared.field.ColType.{ColType}
use Rattle.rows.specs.declared.plain.KeyEntry.{KeyEntry}
use Rattle.key_index.specs.Bytes.{page_of, weight}
use Rattle.key_index.specs.Entries.{AreEntries, Item, items_of}
use Rattle.key_index.specs.Files.{index_pages, level_pages, pages_of_levels}
use Rattle.key_index.specs.Levels.{AreLevels, firsts, levels_of}
use Rattle.key_index.proofs.Indexed.{made_of}
use Rattle.key_index.proofs.Written.{length-page, weight_is}

no_blocks : (level : ℕ) (items : List Item) (bs : List (List Item)) → items ≡ [] → AreBlocks (weight level) 8172 items bs → length bs ≡ 0
no_blocks level items [] e a = refl
no_blocks level items ([] ∷ bs) e a = absurd (omega (arith, a.fit.0.0))
no_blocks level items ((x ∷ c) ∷ bs) e a = let q : length (x ∷ (c ++ joined bs)) ≡ 0 = ap length (a.same ∙ e) in absurd (omega (arith, q))

no_levels : (level base : ℕ) (items : List Item) (ms : List (List (List Item))) → items ≡ [] → AreLevels level base items ms → ms ≡ []
no_levels level base items [] e k = refl
no_levels level base items (b ∷ []) e k = absurd (omega (arith, k.1, no_blocks level items b e k.0))
no_levels level base items (b ∷ c ∷ ms) e k = absurd (omega (arith, k.1.0, no_blocks level items b e k.0))

-- two lists of levels over the same items
pub same_levels : (level base : ℕ) (items : List Item) (ls ms : List (List (List Item))) → AreLevels level base items ls → AreLevels level base items ms → ls ≡ ms
same_levels level base items [] ms h k = sym (no_levels level base items ms h k)
same_levels level base items (b ∷ ls) [] h k = no_levels level base items (b ∷ ls) k h
same_levels level base items (b ∷ []) (c ∷ []) h k = ap (λ (x : List (List Item)). x ∷ []) (only_blocks (weight level) 8172 items b c h.0 k.0)
same_levels level base items (b ∷ []) (c ∷ d ∷ ms) h k = absurd (omega (arith, h.1, k.1.0, ap length (only_blocks (weight level) 8172 items b c h.0 k.0)))
same_levels level base items (b ∷ d ∷ ls) (c ∷ []) h k = absurd (omega (arith, k.1, h.1.0, ap length (only_blocks (weight level) 8172 items b c h.0 k.0)))
same_levels level base items (b ∷ d ∷ ls) (c ∷ e ∷ ms) h k =
    let one = only_blocks (weight level) 8172 items b c h.0 k.0 in
    let rest = same_levels (suc level) (base + length b) (firsts base b) (d ∷ ls) (e ∷ ms) h.1.1 (subst (λ (x : List (List Item)). AreLevels (suc level) (base + length x) (firsts base x) (e ∷ ms)) (sym one) k.1.1) in
    ap (λ (x : List (List Item)). x ∷ d ∷ ls) one ∙ ap (λ (xs : List (List (List Item))). c ∷ xs) rest

level_lengths : (file level number n : ℕ) (b : List (List Item)) (page : List ℕ) → AllByRecursion (λ c. (0 < length c) × (weight_of (weight level) c ≤ 8172)) b → slice_get (level_pages file level number b) n ≡ Some page → length page ≡ 8192
level_lengths file level number n [] page h e = absurd cc
level_lengths file level number zero (c ∷ b) page h e =
    let k : page ≡ page_of file number level c = cc in ap length k ∙ length-page file number level c (omega (arith, weight_is level c, h.0.1))
level_lengths file level number (suc n) (c ∷ b) page h e = level_lengths file level (suc number) n b page h.1 e

get_both : (P : List ℕ → Type 0) (xs ys : List (List ℕ)) (n : ℕ) (x : List ℕ) → ((k : ℕ) (y : List ℕ) → slice_get xs k ≡ Some y → P y) → ((k : ℕ) (y : List ℕ) → slice_get ys k ≡ Some y → P y) → slice_get (xs ++ ys) n ≡ Some x → P x
get_both P [] ys n x h k e = k n x e
get_both P (y ∷ xs) ys zero x h k e = h 0 x e
get_both P (y ∷ xs) ys (suc n) x h k e = get_both P xs ys n x (λ i z q. h (suc i) z q) k e

levels_lengths : (file level base n : ℕ) (items : List Item) (levels : List (List (List Item))) (page : List ℕ) → AreLevels level base items levels → slice_get (pages_of_levels file level base levels) n ≡ Some page → length page ≡ 8192
levels_lengths file level base n items [] page h e = absurd cc
levels_lengths file level base n items (b ∷ []) page h e =
    get_both (λ x. length x ≡ 8192) (level_pages file level base b) [] n page (λ k y q. level_lengths file level base k b y h.0.fit q) (λ k y q. absurd cc) e
levels_lengths file level base n items (b ∷ c ∷ more) page h e =
    get_both (λ x. length x ≡ 8192) (level_pages file level base b) (pages_of_levels file (suc level) (base + length b) (c ∷ more)) n page (λ k y q. level_lengths file level base k b y h.0.fit q)
    (λ k y q. levels_lengths file (suc level) (base + length b) k (firsts base b) (c ∷ more) y h.1.1 q) e

pub only_levels : (t : ColType) (heap : ℕ) (entries : List KeyEntry) (levels : List (List (List Item))) → AreEntries t heap entries → AreLevels 0 0 (items_of entries) levels → levels ≡ levels_of entries
only_levels t heap entries levels a h = same_levels 0 0 (items_of entries) levels (levels_of entries) h (made_of t heap entries a)

pub page_lengths : (t : ColType) (heap file n : ℕ) (entries : List KeyEntry) (page : List ℕ) → AreEntries t heap entries → slice_get (index_pages file entries) n ≡ Some page → length page ≡ 8192
page_lengths t heap file n entries page a e = levels_lengths file 0 0 n (items_of entries) (levels_of entries) page (made_of t heap entries a) e
