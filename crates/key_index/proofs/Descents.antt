-- The descent of a search.
use Rattle.std.proofs.Common.{◌≡◌, ℕ, zero, suc, ◌+◌, ◌-◌, ◌<◌, Bool, true, false, List, [], ◌∷◌, ◌++◌, length, get_or, take, refl, sym, ap, subst, ◌∙◌, arith}
use Rattle.std.proofs.lemmas.List.{length-append}
use Rattle.lists.specs.Arranged.{one_if}
use Rattle.heap_page.specs.Blocks.{AreBlocks, joined}
use Rattle.rows.specs.declared.plain.KeyIndex.{KeyIndex}
use Rattle.key_index.specs.Aims.{IsFront, NonePass, chosen, count, first_of}
use Rattle.key_index.specs.Bytes.{weight}
use Rattle.key_index.specs.Entries.{Item, blank}
use Rattle.key_index.specs.Levels.{up, firsts, items_at, base_at, pages_at, AreLevels}
use Rattle.key_index.specs.Searches.{IsIndexPage}
use Rattle.key_index.proofs.Reached.{AreSome, begins, reached, front_right}
use Rattle.key_index.proofs.Levels.{within, counts_firsts, over, last_reached, place_in, blocks_some, at_level, some_blocks, one_root, front_at, first_at, no_count, some_at}

-- the levels of an index over these items, whose pages stand so
pub record IsIndex (index : KeyIndex) (pages : ℕ → List ℕ) (items : List Item) : Type 0 where
  pub levels : List (List (List Item))
  pub made : AreLevels 0 0 items levels
  pub height : index.height ≡ length levels
  pub count : index.pages ≡ base_at 0 levels (length levels)
  pub entries : index.entries ≡ length items
  pub numbered : (i : ℕ) → i < length items → (get_or items i blank).left ≡ i
  pub reads : (k n : ℕ) → k < length levels → n < length (pages_at levels k) → let b = get_or (pages_at levels k) n [] in
      IsIndexPage index k (first_of b).left (base_at 0 levels k + n) (pages (base_at 0 levels k + n)) b

module _ (p : Item → Bool) where
  -- the chosen item is the last one that passes
  chosen_at : (d : Item) (xs : List Item) (z : Item) → IsFront p xs → chosen p d xs ≡ get_or (d ∷ xs) (count p xs) z
  chosen_at d [] z h = refl
  chosen_at d (x ∷ xs) z h = by (chosen_at x xs z h.1) (chosen_at d xs z h.1) (p x) refl where
    by : chosen p x xs ≡ get_or (x ∷ xs) (count p xs) z → chosen p d xs ≡ get_or (d ∷ xs) (count p xs) z → (v : Bool) → p x ≡ v → chosen p d (x ∷ xs) ≡ get_or (d ∷ x ∷ xs) (one_if (p x) + count p xs) z
    by one two true e = let k : 1 + count p xs ≡ suc (count p xs) = omega arith in rw (e, k) one
    by one two false e =
        let none = no_count p xs (h.0 e) in
        let k : 0 + count p xs ≡ 0 = omega (arith, none) in
        rw (e, k) (two ∙ ap (λ (j : ℕ). get_or (d ∷ xs) j z) none)

  pub chosen_last : (b : List Item) (z : Item) → 0 < length b → IsFront p b → chosen p (get_or b 0 z) b ≡ get_or b (count p b - 1) z
  chosen_last [] z lt h = absurd (omega arith)
  chosen_last (x ∷ xs) z lt h = chosen_at x (x ∷ xs) z h ∙ by (count p (x ∷ xs)) where
    by : (n : ℕ) → get_or (x ∷ x ∷ xs) n z ≡ get_or (x ∷ xs) (n - 1) z
    by zero = refl
    by (suc n) = let k : suc n - 1 ≡ n = omega arith in rw k refl

  front_left : (xs ys : List Item) → IsFront p (xs ++ ys) → IsFront p xs
  front_left [] ys h = tt
  front_left (x ∷ xs) ys h = ((λ e. none_left xs ys (h.0 e)), front_left xs ys h.1) where
    none_left : (us bs : List Item) → NonePass p (us ++ bs) → NonePass p us
    none_left [] bs h = tt
    none_left (a ∷ us) bs h = (h.0, none_left us bs h.1)

  pub front_block : (bs : List (List Item)) (n : ℕ) → IsFront p (joined bs) → IsFront p (get_or bs n [])
  front_block [] n h = tt
  front_block (b ∷ bs) zero h = front_left b (joined bs) h
  front_block (b ∷ bs) (suc n) h = front_block bs n (front_right p b (joined bs) h)

base_next : (base : ℕ) (levels : List (List (List Item))) (k : ℕ) → k < length levels → base_at base levels (suc k) ≡ base_at base levels k + length (pages_at levels k)
base_next base [] k lt = absurd (omega arith)
base_next base (b ∷ bs) zero lt = refl
base_next base (b ∷ bs) (suc k) lt = base_next (base + length b) bs k (omega arith)

first_joined : (bs : List (List Item)) (z : Item) → 0 < length bs → AreSome bs → get_or (get_or bs 0 []) 0 z ≡ get_or (joined bs) 0 z
first_joined [] z lt h = absurd (omega arith)
first_joined ([] ∷ bs) z lt h = absurd (omega (arith, h.0))
first_joined ((x ∷ xs) ∷ bs) z lt h = refl

module _ (p : Item → Bool) (levels : List (List (List Item))) (items : List Item) where
  -- which page of level k a search reaches
  abbrev pub place_at : ℕ → ℕ
  place_at k = count p (items_at 0 items levels (suc k)) - 1

  abbrev pub page_at : ℕ → ℕ
  page_at k = base_at 0 levels k + place_at k

  abbrev pub block_at : ℕ → List Item
  block_at k = get_or (pages_at levels k) (place_at k) []

module _ (p : Item → Bool) (keeps : (n : ℕ) (x : Item) → p (up n x) ≡ p x) (index : KeyIndex) (pages : ℕ → List ℕ) (items : List Item) (h : IsIndex index pages items) (front : IsFront p items) where
  module _ (k : ℕ) (lt : k < length h.levels) where
    cut : AreBlocks (weight (0 + k)) 8172 (items_at 0 items h.levels k) (pages_at h.levels k)
    cut = (at_level 0 0 items h.levels k h.made lt).0

    next : items_at 0 items h.levels (suc k) ≡ firsts (base_at 0 h.levels k) (pages_at h.levels k)
    next = (at_level 0 0 items h.levels k h.made lt).1

    some : AreSome (pages_at h.levels k)
    some = blocks_some (0 + k) (items_at 0 items h.levels k) (pages_at h.levels k) cut

    any : 0 < length (pages_at h.levels k)
    any = some_blocks 0 0 items h.levels k h.made lt

    front_here : IsFront p (joined (pages_at h.levels k))
    front_here = subst (λ (xs : List Item). IsFront p xs) (sym cut.same) (front_at p keeps 0 0 items h.levels k h.made (omega (arith, lt)) front)

    -- the place by the beginnings of the blocks
    same_place : place_at p h.levels items k ≡ count (begins p) (pages_at h.levels k) - 1
    same_place = rw next (ap (λ (n : ℕ). n - 1) (counts_firsts p keeps (base_at 0 h.levels k) (pages_at h.levels k) some))

    inside : place_at p h.levels items k < length (pages_at h.levels k)
    inside = rw same_place (place_in p (pages_at h.levels k) any)

    pub full : 0 < length (block_at p h.levels items k)
    full = some_at p (pages_at h.levels k) (place_at p h.levels items k) inside some

    -- what stands on the page
    pub read_here : IsIndexPage index k (first_of (block_at p h.levels items k)).left (page_at p h.levels items k) (pages (page_at p h.levels items k)) (block_at p h.levels items k)
    read_here = h.reads k (place_at p h.levels items k) lt inside

    pub front_at_block : IsFront p (block_at p h.levels items k)
    front_at_block = front_block p (pages_at h.levels k) (place_at p h.levels items k) front_here

    -- the chosen entry of the page is the last of the level that passes
    pub chosen_here : chosen p (first_of (block_at p h.levels items k)) (block_at p h.levels items k) ≡ get_or (items_at 0 items h.levels k) (count p (items_at 0 items h.levels k) - 1) blank
    chosen_here =
        chosen_last p (block_at p h.levels items k) blank full (front_block p (pages_at h.levels k) (place_at p h.levels items k) front_here)
        ∙ (ap (λ (n : ℕ). get_or (get_or (pages_at h.levels k) n []) (count p (get_or (pages_at h.levels k) n []) - 1) blank) same_place
        ∙ (sym (last_reached p (pages_at h.levels k) blank any some front_here)
        ∙ ap (λ (xs : List Item). get_or xs (count p xs - 1) blank) cut.same))

    pub over_here : get_or (items_at 0 items h.levels (suc k)) (place_at p h.levels items k) blank ≡ up (page_at p h.levels items k) (first_of (block_at p h.levels items k))
    over_here = ap (λ (xs : List Item). get_or xs (place_at p h.levels items k) blank) next ∙ over (base_at 0 h.levels k) (pages_at h.levels k) (place_at p h.levels items k) blank some inside

  -- one step down
  pub down : (k : ℕ) → suc k < length h.levels → chosen p (first_of (block_at p h.levels items (suc k))) (block_at p h.levels items (suc k)) ≡ up (page_at p h.levels items k) (first_of (block_at p h.levels items k))
  down k lt = chosen_here (suc k) lt ∙ over_here k (omega (arith, lt))

  -- where it begins
  pub top : (k : ℕ) → suc k ≡ length h.levels → (page_at p h.levels items k ≡ index.pages - 1) × ((first_of (block_at p h.levels items k)).left ≡ 0)
  top k e =
      let lt : k < length h.levels = omega (arith, e) in
      let one = one_root 0 0 items h.levels k h.made e in
      let z : place_at p h.levels items k ≡ 0 = omega (arith, inside k lt, one) in
      let last = base_next 0 h.levels k lt in
      let all : index.pages ≡ base_at 0 h.levels (suc k) = h.count ∙ ap (λ (n : ℕ). base_at 0 h.levels n) (sym e) in (
        omega (arith, z, last, all, one),
        rw z (ap (λ (x : Item). x.left) (first_joined (pages_at h.levels k) blank (any k lt) (some k lt)) ∙ (ap (λ (xs : List Item). (get_or xs 0 blank).left) (cut k lt).same
            ∙ (first_at (λ x. x.left) (λ n x. refl) 0 0 items h.levels k blank h.made (omega (arith, lt)) ∙ zeroth items h.numbered))),
      ) where
        zeroth : (xs : List Item) → ((i : ℕ) → i < length xs → (get_or xs i blank).left ≡ i) → (get_or xs 0 blank).left ≡ 0
        zeroth [] f = refl
        zeroth (x ∷ xs) f = f 0 (omega arith)

  -- the rank
  pub rank_is : 0 < length h.levels → count p items ≡ (first_of (block_at p h.levels items 0)).left + count p (block_at p h.levels items 0)
  rank_is lt =
      let n = place_at p h.levels items 0 in
      let bs = pages_at h.levels 0 in
      let core = reached p bs (any 0 lt) (some 0 lt) (front_here 0 lt) in
      let same = (cut 0 lt).same in
      let core' : count p items ≡ length (joined (take n bs)) + count p (get_or bs n []) = subst (λ (xs : List Item). count p xs ≡ length (joined (take n bs)) + count p (get_or bs n [])) same (rw (same_place 0 lt) core) in
      let first = within bs n 0 blank (inside 0 lt) (full 0 lt) in
      let left : (get_or (joined bs) (length (joined (take n bs)) + 0) blank).left ≡ (first_of (get_or bs n [])).left = ap (λ (x : Item). x.left) first in
      let left' : (get_or items (length (joined (take n bs)) + 0) blank).left ≡ (first_of (get_or bs n [])).left = subst (λ (xs : List Item). (get_or xs (length (joined (take n bs)) + 0) blank).left ≡ (first_of (get_or bs n [])).left) same left in
      let number = h.numbered (length (joined (take n bs)) + 0) (below bs n (inside 0 lt) (full 0 lt) items same) in
      omega (arith, core', left', number) where
        below : (bs : List (List Item)) (n : ℕ) → n < length bs → 0 < length (get_or bs n []) → (xs : List Item) → joined bs ≡ xs → length (joined (take n bs)) + 0 < length xs
        below bs n lt full xs e = rw (sym e) (go bs n lt full) where
          go : (cs : List (List Item)) (m : ℕ) → m < length cs → 0 < length (get_or cs m []) → length (joined (take m cs)) + 0 < length (joined cs)
          go [] m lt full = absurd (omega arith)
          go (c ∷ cs) zero lt full = omega (arith, length-append c (joined cs), full)
          go (c ∷ cs) (suc m) lt full = omega (arith, length-append c (joined cs), length-append c (joined (take m cs)), go cs m (omega arith) full)
