-- What a search reaches on each level.
use Rattle.std.proofs.Common.{◌≡◌, ℕ, zero, suc, ◌+◌, ◌-◌, ◌<◌, ◌≤◌, Bool, true, false, List, [], ◌∷◌, ◌++◌, length, get_or, take, refl, sym, ap, subst, ◌∙◌, arith}
use Rattle.std.specs.List.{AllByRecursion}
use Rattle.std.proofs.lemmas.List.{length-append}
use Rattle.lists.specs.Arranged.{one_if}
use Rattle.heap_page.specs.Blocks.{AreBlocks, joined, weight_of}
use Rattle.key_index.specs.Aims.{count, NonePass, IsFront}
use Rattle.key_index.specs.Bytes.{weight}
use Rattle.key_index.specs.Entries.{Item}
use Rattle.key_index.specs.Levels.{up, firsts, items_at, base_at, pages_at, AreLevels}
use Rattle.key_index.proofs.Reached.{AreSome, begins, reached, none_right, front_right}

module _ {X : Type 0} where
  -- an element of a joined list, by its page
  pub within : (pages : List (List X)) (n i : ℕ) (d : X) → n < length pages → i < length (get_or pages n []) →
      get_or (joined pages) (length (joined (take n pages)) + i) d ≡ get_or (get_or pages n []) i d
  within [] n i d lt small = absurd (omega arith)
  within (b ∷ bs) zero i d lt small = let e : 0 + i ≡ i = omega arith in subst (λ (j : ℕ). get_or (b ++ joined bs) j d ≡ get_or b i d) (sym e) (left b (joined bs) i small) where
    left : (xs ys : List X) (j : ℕ) → j < length xs → get_or (xs ++ ys) j d ≡ get_or xs j d
    left [] ys j h = absurd (omega arith)
    left (x ∷ xs) ys zero h = refl
    left (x ∷ xs) ys (suc j) h = left xs ys j (omega arith)
  within (b ∷ bs) (suc n) i d lt small =
      let len = length-append b (joined (take n bs)) in
      let e : length (b ++ joined (take n bs)) + i ≡ length b + (length (joined (take n bs)) + i) = omega (arith, len) in
      rw e (right b (joined bs) (length (joined (take n bs)) + i) ∙ within bs n i d (omega arith) small) where
        right : (xs ys : List X) (j : ℕ) → get_or (xs ++ ys) (length xs + j) d ≡ get_or ys j d
        right [] ys j = let e : 0 + j ≡ j = omega arith in ap (λ (k : ℕ). get_or ys k d) e
        right (x ∷ xs) ys j = let e : suc (length xs) + j ≡ suc (length xs + j) = omega arith in ap (λ (k : ℕ). get_or (x ∷ (xs ++ ys)) k d) e ∙ right xs ys j

module _ (p : Item → Bool) (keeps : (n : ℕ) (x : Item) → p (up n x) ≡ p x) where
  pub counts_firsts : (base : ℕ) (bs : List (List Item)) → AreSome bs → count p (firsts base bs) ≡ count (begins p) bs
  counts_firsts base [] h = refl
  counts_firsts base ([] ∷ bs) h = absurd (omega (arith, h.0))
  counts_firsts base ((x ∷ xs) ∷ bs) h = rw (keeps base x) (omega (arith, counts_firsts (suc base) bs h.1))

  none_firsts : (base : ℕ) (bs : List (List Item)) → AreSome bs → NonePass p (joined bs) → NonePass p (firsts base bs)
  none_firsts base [] some h = tt
  none_firsts base ([] ∷ bs) some h = absurd (omega (arith, some.0))
  none_firsts base ((x ∷ xs) ∷ bs) some h = (keeps base x ∙ h.0, none_firsts (suc base) bs some.1 (none_right p xs (joined bs) h.1))

  pub front_firsts : (base : ℕ) (bs : List (List Item)) → AreSome bs → IsFront p (joined bs) → IsFront p (firsts base bs)
  front_firsts base [] some h = tt
  front_firsts base ([] ∷ bs) some h = absurd (omega (arith, some.0))
  front_firsts base ((x ∷ xs) ∷ bs) some h =
      ((λ e. none_firsts (suc base) bs some.1 (none_right p xs (joined bs) (h.0 (sym (keeps base x) ∙ e)))), front_firsts (suc base) bs some.1 (front_right p xs (joined bs) h.1))

pub length_firsts : (base : ℕ) (bs : List (List Item)) → AreSome bs → length (firsts base bs) ≡ length bs
length_firsts base [] h = refl
length_firsts base ([] ∷ bs) h = absurd (omega (arith, h.0))
length_firsts base ((x ∷ xs) ∷ bs) h = ap suc (length_firsts (suc base) bs h.1)

-- the item over a block
pub over : (base : ℕ) (bs : List (List Item)) (n : ℕ) (d : Item) → AreSome bs → n < length bs → get_or (firsts base bs) n d ≡ up (base + n) (get_or (get_or bs n []) 0 d)
over base [] n d some lt = absurd (omega arith)
over base ([] ∷ bs) n d some lt = absurd (omega (arith, some.0))
over base ((x ∷ xs) ∷ bs) zero d some lt = let e : base ≡ base + 0 = omega arith in ap (λ (k : ℕ). up k x) e
over base ((x ∷ xs) ∷ bs) (suc n) d some lt =
    let e : suc base + n ≡ base + suc n = omega arith in over (suc base) bs n d some.1 (omega arith) ∙ ap (λ (k : ℕ). up k (get_or (get_or bs n []) 0 d)) e

module _ {X : Type 0} (p : X → Bool) where
  pub few : (xs : List X) → count p xs ≤ length xs
  few [] = omega arith
  few (x ∷ xs) = omega (arith, few xs, one_le (p x)) where
    one_le : (b : Bool) → one_if b ≤ 1
    one_le true = omega arith
    one_le false = omega arith

  none_begins : (pages : List (List X)) → AreSome pages → NonePass p (joined pages) → NonePass (begins p) pages
  none_begins [] some h = tt
  none_begins ([] ∷ pages) some h = absurd (omega (arith, some.0))
  none_begins ((x ∷ xs) ∷ pages) some h = (h.0, none_begins pages some.1 (none_right p xs (joined pages) h.1))

  front_begins : (pages : List (List X)) → AreSome pages → IsFront p (joined pages) → IsFront (begins p) pages
  front_begins [] some h = tt
  front_begins ([] ∷ pages) some h = absurd (omega (arith, some.0))
  front_begins ((x ∷ xs) ∷ pages) some h = ((λ e. none_begins pages some.1 (none_right p xs (joined pages) (h.0 e))), front_begins pages some.1 (front_right p xs (joined pages) h.1))

  begun : (b : List X) → begins p b ≡ true → 0 < count p b
  begun [] e = absurd cc
  begun (x ∷ xs) e = let k : one_if (p x) ≡ 1 = ap one_if e in omega (arith, k)

  pub some_at : (pages : List (List X)) (n : ℕ) → n < length pages → AreSome pages → 0 < length (get_or pages n [])
  some_at [] n lt h = absurd (omega arith)
  some_at (b ∷ bs) zero lt h = h.0
  some_at (b ∷ bs) (suc n) lt h = some_at bs n (omega arith) h.1

module _ {Y : Type 0} (q : Y → Bool) where
  pub no_count : (xs : List Y) → NonePass q xs → count q xs ≡ 0
  no_count [] h = refl
  no_count (x ∷ xs) h = let k : one_if (q x) ≡ 0 = ap one_if h.0 in omega (arith, k, no_count xs h.1)

  -- the last element that passes
  pub last_passes : (xs : List Y) (d : Y) → IsFront q xs → 0 < count q xs → q (get_or xs (count q xs - 1) d) ≡ true
  last_passes [] d h lt = absurd (omega arith)
  last_passes (x ∷ xs) d h lt = by (λ some. last_passes xs d h.1 some) (q x) refl (count q xs) refl where
    by : (0 < count q xs → q (get_or xs (count q xs - 1) d) ≡ true) → (v : Bool) → q x ≡ v → (n : ℕ) → count q xs ≡ n → q (get_or (x ∷ xs) (one_if (q x) + count q xs - 1) d) ≡ true
    by rest false e n f = let none = no_count xs (h.0 e) in let k : one_if (q x) ≡ 0 = ap one_if e in absurd (omega (arith, k, none, lt))
    by rest true e zero f = let k : one_if (q x) ≡ 1 = ap one_if e in let z : one_if (q x) + count q xs - 1 ≡ 0 = omega (arith, k, f) in rw z e
    by rest true e (suc n) f =
        let k : one_if (q x) ≡ 1 = ap one_if e in
        let z : one_if (q x) + count q xs - 1 ≡ suc (count q xs - 1) = omega (arith, k, f) in
        rw z (rest (omega (arith, f)))

module _ {X : Type 0} (p : X → Bool) where
  abbrev place : List (List X) → ℕ
  place pages = count (begins p) pages - 1

  pub place_in : (pages : List (List X)) → 0 < length pages → place pages < length pages
  place_in pages lt = omega (arith, few (begins p) pages)

  -- the last element that passes is the last one that passes in the page reached (or the first element of all)
  pub last_reached : (pages : List (List X)) (d : X) → 0 < length pages → AreSome pages → IsFront p (joined pages) →
      get_or (joined pages) (count p (joined pages) - 1) d ≡ get_or (get_or pages (place pages) []) (count p (get_or pages (place pages) []) - 1) d
  last_reached pages d lt some front = by (count (begins p) pages) refl where
    b : List X
    b = get_or pages (place pages) []

    core : count p (joined pages) ≡ length (joined (take (place pages) pages)) + count p b
    core = reached p pages lt some front

    full : 0 < length b
    full = some_at p pages (place pages) (place_in pages lt) some

    by : (n : ℕ) → count (begins p) pages ≡ n → get_or (joined pages) (count p (joined pages) - 1) d ≡ get_or b (count p b - 1) d
    by zero e =
        let z : place pages ≡ 0 = omega (arith, e) in
        let nothing : length (joined (take (place pages) pages)) ≡ 0 = rw z refl in
        let same : count p (joined pages) - 1 ≡ length (joined (take (place pages) pages)) + (count p b - 1) = omega (arith, core, nothing) in
        rw same (within pages (place pages) (count p b - 1) d (place_in pages lt) (omega (arith, full, few p b)))
    by (suc n) e =
        let passes = last_passes (begins p) pages [] (front_begins p pages some front) (omega (arith, e)) in
        let one = begun p b passes in
        let same : count p (joined pages) - 1 ≡ length (joined (take (place pages) pages)) + (count p b - 1) = omega (arith, core, one) in
        rw same (within pages (place pages) (count p b - 1) d (place_in pages lt) (omega (arith, full, few p b)))

some_of : (level : ℕ) (bs : List (List Item)) → AllByRecursion (λ b. (0 < length b) × (weight_of (weight level) b ≤ 8172)) bs → AreSome bs
some_of level [] h = tt
some_of level (b ∷ bs) h = (h.0.0, some_of level bs h.1)

pub blocks_some : (level : ℕ) (items : List Item) (bs : List (List Item)) → AreBlocks (weight level) 8172 items bs → AreSome bs
blocks_some level items bs h = some_of level bs h.fit

-- each level is the blocks of its items, and the items of the next one are the first ones of these blocks
pub at_level : (level base : ℕ) (items : List Item) (levels : List (List (List Item))) (k : ℕ) → AreLevels level base items levels → k < length levels →
    AreBlocks (weight (level + k)) 8172 (items_at base items levels k) (pages_at levels k) × (items_at base items levels (suc k) ≡ firsts (base_at base levels k) (pages_at levels k))
at_level level base items [] k h lt = absurd (omega arith)
at_level level base items (b ∷ []) zero h lt = let e : level + 0 ≡ level = omega arith in (rw e h.0, refl)
at_level level base items (b ∷ []) (suc k) h lt = absurd (omega arith)
at_level level base items (b ∷ c ∷ more) zero h lt = let e : level + 0 ≡ level = omega arith in (rw e h.0, refl)
at_level level base items (b ∷ c ∷ more) (suc k) h lt =
    let e : level + suc k ≡ suc level + k = omega arith in
    let rest = at_level (suc level) (base + length b) (firsts base b) (c ∷ more) k h.1.1 (omega arith) in
    (rw e rest.0, rest.1)

pub some_blocks : (level base : ℕ) (items : List Item) (levels : List (List (List Item))) (k : ℕ) → AreLevels level base items levels → k < length levels → 0 < length (pages_at levels k)
some_blocks level base items [] k h lt = absurd (omega arith)
some_blocks level base items (b ∷ []) zero h lt = omega (arith, h.1)
some_blocks level base items (b ∷ []) (suc k) h lt = absurd (omega arith)
some_blocks level base items (b ∷ c ∷ more) zero h lt = omega (arith, h.1.0)
some_blocks level base items (b ∷ c ∷ more) (suc k) h lt = some_blocks (suc level) (base + length b) (firsts base b) (c ∷ more) k h.1.1 (omega arith)

pub one_root : (level base : ℕ) (items : List Item) (levels : List (List (List Item))) (k : ℕ) → AreLevels level base items levels → suc k ≡ length levels → length (pages_at levels k) ≡ 1
one_root level base items [] k h e = absurd (omega (arith, e))
one_root level base items (b ∷ []) zero h e = h.1
one_root level base items (b ∷ []) (suc k) h e = absurd (omega (arith, e))
one_root level base items (b ∷ c ∷ more) zero h e = absurd (omega (arith, e))
one_root level base items (b ∷ c ∷ more) (suc k) h e = one_root (suc level) (base + length b) (firsts base b) (c ∷ more) k h.1.1 (omega (arith, e))

module _ (p : Item → Bool) (keeps : (n : ℕ) (x : Item) → p (up n x) ≡ p x) where
  pub front_at : (level base : ℕ) (items : List Item) (levels : List (List (List Item))) (k : ℕ) → AreLevels level base items levels → k ≤ length levels → IsFront p items →
      IsFront p (items_at base items levels k)
  front_at level base items levels zero h le front = front
  front_at level base items [] (suc k) h le front = tt
  front_at level base items (b ∷ []) (suc zero) h le front = front_firsts p keeps base b (blocks_some level items b h.0) (subst (λ (xs : List Item). IsFront p xs) (sym h.0.same) front)
  front_at level base items (b ∷ []) (suc (suc k)) h le front = tt
  front_at level base items (b ∷ c ∷ more) (suc k) h le front =
      front_at (suc level) (base + length b) (firsts base b) (c ∷ more) k h.1.1 (omega arith)
      (front_firsts p keeps base b (blocks_some level items b h.0) (subst (λ (xs : List Item). IsFront p xs) (sym h.0.same) front))

module _ (f : Item → ℕ) (keeps : (n : ℕ) (x : Item) → f (up n x) ≡ f x) where
  first_first : (base : ℕ) (bs : List (List Item)) (d : Item) → AreSome bs → 0 < length bs → f (get_or (firsts base bs) 0 d) ≡ f (get_or (joined bs) 0 d)
  first_first base [] d some lt = absurd (omega arith)
  first_first base ([] ∷ bs) d some lt = absurd (omega (arith, some.0))
  first_first base ((x ∷ xs) ∷ bs) d some lt = keeps base x

  -- the first item of each level stands for the first one of all
  pub first_at : (level base : ℕ) (items : List Item) (levels : List (List (List Item))) (k : ℕ) (d : Item) → AreLevels level base items levels → k ≤ length levels →
      f (get_or (items_at base items levels k) 0 d) ≡ f (get_or items 0 d)
  first_at level base items levels zero d h le = refl
  first_at level base items [] (suc k) d h le = absurd (omega arith)
  first_at level base items (b ∷ []) (suc zero) d h le =
      first_first base b d (blocks_some level items b h.0) (omega (arith, h.1)) ∙ ap (λ (xs : List Item). f (get_or xs 0 d)) h.0.same
  first_at level base items (b ∷ []) (suc (suc k)) d h le = absurd (omega arith)
  first_at level base items (b ∷ c ∷ more) (suc k) d h le =
      first_at (suc level) (base + length b) (firsts base b) (c ∷ more) k d h.1.1 (omega arith)
      ∙ (first_first base b d (blocks_some level items b h.0) (omega (arith, h.1.0)) ∙ ap (λ (xs : List Item). f (get_or xs 0 d)) h.0.same)
