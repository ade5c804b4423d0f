-- How many pages a table needs.
use Rattle.std.proofs.Common.{◌≡◌, ℕ, zero, suc, ◌+◌, ◌*◌, ◌<◌, ◌≤◌, List, [], ◌∷◌, ◌++◌, length, drop, refl, sym, ap, subst, ◌∙◌, arith}
use Rattle.std.specs.List.{All, AllByRecursion}
use Rattle.std.proofs.lemmas.List.{drop_all}
use Rattle.heap_page.specs.Blocks.{weight_of, item_weight, laid, blocks_of, ArePages, FitsAlone}
use Rattle.std.specs.Prelude.{slice_get, Some, ◌^◌}
use Rattle.heap_page.specs.Pages.{Fits, total, page_of}
use Rattle.heap_page.proofs.Written.{IsPageOf, page_again}
use Rattle.heap_page.proofs.Cut.{length-laid, weight-append, laid_more, laid_next, laid_end, begins, are_blocks, only_blocks}

pub light : (items : List (List ℕ)) → AllByRecursion FitsAlone items → AllByRecursion (λ item. item_weight item ≤ 8172) items
light [] each = tt
light (x ∷ xs) each = (omega (arith, each.0), light xs each.1)

pub items_here : (items : List (List ℕ)) (i : ℕ) (x : List ℕ) → slice_get items i ≡ Some x → drop i items ≡ x ∷ drop (i + 1) items
items_here [] i x e = absurd cc
items_here (y ∷ ys) zero x e = let s : y ≡ x = cc in ap (λ (z : List ℕ). z ∷ ys) s
items_here (y ∷ ys) (suc i) x e = let k : suc i + 1 ≡ suc (i + 1) = omega arith in rw k (items_here ys i x e)

pub fit_here : (items : List (List ℕ)) (i : ℕ) (x : List ℕ) → slice_get items i ≡ Some x → All FitsAlone items → FitsAlone x
fit_here [] i x e h = absurd cc
fit_here (y ∷ ys) zero x e h = let s : y ≡ x = cc in omega (arith, h 0 [] (omega arith), ap length s)
fit_here (y ∷ ys) (suc i) x e h = fit_here ys i x e (λ k d lt. h (suc k) d (omega arith))

-- the blocks of some items begin with the first one
pub first_laid : (items : List (List ℕ)) (x : List ℕ) → slice_get items 0 ≡ Some x → blocks_of item_weight 8172 items ≡ laid item_weight 8172 (x ∷ []) (drop 1 items)
first_laid [] x e = absurd cc
first_laid (y ∷ ys) x e = let s : y ≡ x = cc in ap (λ (z : List ℕ). laid item_weight 8172 (z ∷ []) ys) s

pub length-cut : (items : List (List ℕ)) → length (blocks_of item_weight 8172 items) ≤ length items
length-cut [] = omega arith
length-cut (x ∷ xs) = omega (arith, length-laid item_weight 8172 (x ∷ []) xs)

-- ---- the state of the count

pub record Counts (blocks : List (List (List ℕ))) (pages used : ℕ) (rest : List (List ℕ)) : Type 0 where
  pub part : List (List ℕ)
  pub used_is : used ≡ weight_of item_weight part
  pub within : used ≤ 8172
  pub all : length blocks + 1 ≡ pages + length (laid item_weight 8172 part rest)

starts : (first : List ℕ) (rest : List (List ℕ)) (used : ℕ) → used ≡ item_weight first → FitsAlone first → Counts (laid item_weight 8172 (first ∷ []) rest) 1 used rest
starts first rest used e fit = record { part = first ∷ []; used_is = omega (arith, e); within = omega (arith, e, fit); all = omega arith }

pub goes_on : (blocks : List (List (List ℕ))) (pages used more : ℕ) (x : List ℕ) (rest : List (List ℕ)) → Counts blocks pages used (x ∷ rest) → more ≡ item_weight x → used + more ≤ 8172 → Counts blocks pages (used + more) rest
goes_on blocks pages used more x rest c e le =
    let w : weight_of item_weight (c.part ++ x ∷ []) ≡ used + more = weight-append item_weight 8172 c.part (x ∷ []) ∙ omega (arith, e, c.used_is) in
    record { part = c.part ++ x ∷ []; used_is = sym w; within = le; all = c.all ∙ ap (λ (bs : List (List (List ℕ))). pages + length bs) (laid_more item_weight 8172 c.part x rest (omega (arith, w, le))) }

pub turns : (blocks : List (List (List ℕ))) (pages used more : ℕ) (x : List ℕ) (rest : List (List ℕ)) → Counts blocks pages used (x ∷ rest) → more ≡ item_weight x → FitsAlone x → 8172 < used + more → Counts blocks (pages + 1) more rest
turns blocks pages used more x rest c e fit over =
    let w : weight_of item_weight (c.part ++ x ∷ []) ≡ used + more = weight-append item_weight 8172 c.part (x ∷ []) ∙ omega (arith, e, c.used_is) in
    let n = ap length (laid_next item_weight 8172 c.part x rest (omega (arith, w, over))) in
    record { part = x ∷ []; used_is = omega (arith, e); within = omega (arith, e, fit); all = omega (arith, n, c.all) }

pub ends : (blocks : List (List (List ℕ))) (pages used : ℕ) → Counts blocks pages used [] → pages ≡ length blocks
ends blocks pages used c = omega (arith, c.all, ap length (laid_end item_weight 8172 c.part))

some_laid : (part xs : List (List ℕ)) → 0 < length (laid item_weight 8172 part xs)
some_laid part xs = omega (arith, ap length (begins item_weight 8172 part xs).2)

pub pages_small : (blocks : List (List (List ℕ))) (pages used : ℕ) (rest : List (List ℕ)) → Counts blocks pages used rest → pages ≤ length blocks
pages_small blocks pages used rest c = omega (arith, c.all, some_laid c.part rest)

pub started : (items : List (List ℕ)) (x : List ℕ) (used : ℕ) → slice_get items 0 ≡ Some x → used ≡ item_weight x → FitsAlone x → Counts (blocks_of item_weight 8172 items) 1 used (drop 1 items)
started items x used at e fit = subst (λ (bs : List (List (List ℕ))). Counts bs 1 used (drop 1 items)) (sym (first_laid items x at)) (starts x (drop 1 items) used e fit)

-- one of the items
pub at_item : (blocks : List (List (List ℕ))) (pages used : ℕ) (items : List (List ℕ)) (i : ℕ) (x : List ℕ) → slice_get items i ≡ Some x →
    Counts blocks pages used (drop i items) → Counts blocks pages used (x ∷ drop (i + 1) items)
at_item blocks pages used items i x e c = subst (Counts blocks pages used) (items_here items i x e) c

pub at_end : (blocks : List (List (List ℕ))) (pages used : ℕ) (items : List (List ℕ)) (i : ℕ) → length items ≤ i → Counts blocks pages used (drop i items) → pages ≡ length blocks
at_end blocks pages used items i le c = ends blocks pages used (subst (Counts blocks pages used) (drop_all i items le) c)

pub all_items : (items : List (List ℕ)) → All FitsAlone items → AllByRecursion FitsAlone items
all_items [] h = tt
all_items (x ∷ xs) h = (h 0 [] (omega arith), all_items xs (λ k d lt. h (suc k) d (omega arith)))

-- the blocks are those of the function
pub is_cut : (items : List (List ℕ)) (blocks : List (List (List ℕ))) → AllByRecursion FitsAlone items → ArePages items blocks → blocks ≡ blocks_of item_weight 8172 items
is_cut items blocks each h = only_blocks item_weight 8172 items blocks (blocks_of item_weight 8172 items) h (are_blocks item_weight 8172 items (light items each))

pub none_cut : (items : List (List ℕ)) → length items ≡ 0 → blocks_of item_weight 8172 items ≡ []
none_cut [] e = refl
none_cut (x ∷ xs) e = absurd (omega arith)

-- ---- a page of a table holds what was cut for it

weight_is : (items : List (List ℕ)) → weight_of item_weight items ≡ 4 * length items + total items
weight_is [] = refl
weight_is (x ∷ xs) = omega (arith, weight_is xs)

one_fits : (blocks : List (List (List ℕ))) (number : ℕ) (block : List (List ℕ)) → AllByRecursion (λ b. (0 < length b) × (weight_of item_weight b ≤ 8172)) blocks → slice_get blocks number ≡ Some block → Fits block
one_fits [] number block each e = absurd cc
one_fits (b ∷ bs) zero block each e = let h : block ≡ b = cc in rw h (omega (arith, each.0.1, weight_is b))
one_fits (b ∷ bs) (suc number) block each e = one_fits bs number block each.1 e

pub block_again : (file number : ℕ) (items block : List (List ℕ)) (blocks : List (List (List ℕ))) → file < 2 ^ 32 → number < 2 ^ 32 → ArePages items blocks → slice_get blocks number ≡ Some block →
    IsPageOf file number block (page_of file number block)
block_again file number items block blocks fs ns h e = page_again file number block fs ns (one_fits blocks number block h.fit e)
