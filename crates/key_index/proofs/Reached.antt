-- The page that a search reaches.
use Rattle.std.proofs.Common.{◌≡◌, ℕ, suc, ◌+◌, ◌-◌, ◌<◌, ◌≤◌, Bool, true, false, List, [], ◌∷◌, ◌++◌, length, get_or, take, refl, ap, arith}
use Rattle.std.specs.List.{AllByRecursion}
use Rattle.std.proofs.lemmas.List.{length-append, append-nil}
use Rattle.lists.specs.Arranged.{one_if}
use Rattle.heap_page.specs.Blocks.{joined}
use Rattle.key_index.specs.Aims.{count, NonePass, IsFront}

module _ {X : Type 0} where
  -- the first element of a page passes
  abbrev pub begins : (X → Bool) → List X → Bool
  begins p [] = false
  begins p (x ∷ xs) = p x

  abbrev pub AreSome : List (List X) → Type 0
  AreSome pages = AllByRecursion (λ b. 0 < length b) pages

module _ {X : Type 0} (p : X → Bool) where
  pub count-append : (xs ys : List X) → count p (xs ++ ys) ≡ count p xs + count p ys
  count-append [] ys = omega arith
  count-append (x ∷ xs) ys = omega (arith, count-append xs ys)

  none_counted : (xs : List X) → NonePass p xs → count p xs ≡ 0
  none_counted [] h = refl
  none_counted (x ∷ xs) h = let k : one_if (p x) ≡ 0 = ap one_if h.0 in omega (arith, k, none_counted xs h.1)

  pub none_right : (xs ys : List X) → NonePass p (xs ++ ys) → NonePass p ys
  none_right [] ys h = h
  none_right (x ∷ xs) ys h = none_right xs ys h.1

  pub front_right : (xs ys : List X) → IsFront p (xs ++ ys) → IsFront p ys
  front_right [] ys h = h
  front_right (x ∷ xs) ys h = front_right xs ys h.1

  -- what stands before an element that passes
  all_counted : (xs : List X) (y : X) (ys : List X) → IsFront p (xs ++ y ∷ ys) → p y ≡ true → count p xs ≡ length xs
  all_counted [] y ys h e = refl
  all_counted (x ∷ xs) y ys h e = by (p x) refl (all_counted xs y ys h.1 e) where
    by : (b : Bool) → p x ≡ b → count p xs ≡ length xs → one_if (p x) + count p xs ≡ suc (length xs)
    by true f rest = let k : one_if (p x) ≡ 1 = ap one_if f in omega (arith, k, rest)
    by false f rest = let no : p y ≡ false = (none_right xs (y ∷ ys) (h.0 f)).0 in absurd cc

  begin_passes : (b : List X) (y : X) (ys : List X) → 0 < length b → IsFront p (b ++ y ∷ ys) → p y ≡ true → begins p b ≡ true
  begin_passes [] y ys lt h e = absurd (omega arith)
  begin_passes (x ∷ xs) y ys lt h e = by (p x) refl where
    by : (v : Bool) → p x ≡ v → p x ≡ true
    by true f = f
    by false f = let no : p y ≡ false = (none_right xs (y ∷ ys) (h.0 f)).0 in absurd cc

  none_begin : (pages : List (List X)) → AreSome pages → NonePass p (joined pages) → count (begins p) pages ≡ 0
  none_begin [] some h = refl
  none_begin ([] ∷ pages) some h = absurd (omega (arith, some.0))
  none_begin ((x ∷ xs) ∷ pages) some h =
      let k : one_if (p x) ≡ 0 = ap one_if h.0 in
      omega (arith, k, none_begin pages some.1 (none_right xs (joined pages) h.1))

  abbrev at : List (List X) → ℕ
  at pages = count (begins p) pages - 1

  Reached : List (List X) → ℕ → Type 0
  Reached pages n = count p (joined pages) ≡ length (joined (take n pages)) + count p (get_or pages n [])

  one_le : (b : Bool) → one_if b ≤ 1
  one_le true = omega arith
  one_le false = omega arith

  pub reached : (pages : List (List X)) → 0 < length pages → AreSome pages → IsFront p (joined pages) → count p (joined pages) ≡ length (joined (take (at pages) pages)) + count p (get_or pages (at pages) [])
  reached [] lt some h = absurd (omega arith)
  reached (b ∷ []) lt some h =
      let k : at (b ∷ []) ≡ 0 = omega (arith, one_le (begins p b)) in
      rw (k, append-nil b) (omega arith)
  reached (b ∷ [] ∷ pages) lt some h = absurd (omega (arith, some.1.0))
  reached (b ∷ (c ∷ cs) ∷ pages) lt some h = by (p c) refl (reached ((c ∷ cs) ∷ pages) (omega arith) some.1 (front_right b _ h)) where
    by : (v : Bool) → p c ≡ v → count p (joined ((c ∷ cs) ∷ pages)) ≡ length (joined (take (at ((c ∷ cs) ∷ pages)) ((c ∷ cs) ∷ pages))) + count p (get_or ((c ∷ cs) ∷ pages) (at ((c ∷ cs) ∷ pages)) []) →
        count p (joined (b ∷ (c ∷ cs) ∷ pages)) ≡ length (joined (take (at (b ∷ (c ∷ cs) ∷ pages)) (b ∷ (c ∷ cs) ∷ pages))) + count p (get_or (b ∷ (c ∷ cs) ∷ pages) (at (b ∷ (c ∷ cs) ∷ pages)) [])
    by true e rest =
        let tail = (c ∷ cs) ∷ pages in
        let one : one_if (p c) ≡ 1 = ap one_if e in
        let all = all_counted b c (cs ++ joined pages) h e in
        let start = begin_passes b c (cs ++ joined pages) some.0 h e in
        let first : one_if (begins p b) ≡ 1 = ap one_if start in
        let k : at (b ∷ tail) ≡ suc (at tail) = omega (arith, one, first) in
        let add = count-append b (joined tail) in
        rw k (omega (arith, all, add, rest, length-append b (joined (take (at tail) tail))))
    by false e rest =
        let tail = (c ∷ cs) ∷ pages in
        let none : NonePass p (joined tail) = (e, (front_right b (joined tail) h).0 e) in
        let zero_tail = none_counted (joined tail) none in
        let zero_begin = none_begin tail some.1 none in
        let k : at (b ∷ tail) ≡ 0 = omega (arith, zero_begin, one_le (begins p b)) in
        let add = count-append b (joined tail) in
        rw k (omega (arith, add, zero_tail))
