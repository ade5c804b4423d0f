-- `blocks_of` gives the blocks, and there are no others.
use Rattle.std.proofs.Common.{◌≡◌, ℕ, zero, suc, ◌+◌, ◌<◌, ◌≤◌, Bool, true, false, cond, leb, List, [], ◌∷◌, ◌++◌, length, take, drop, refl, sym, ap, subst, ◌∙◌, append_assoc, arith, inl, inr}
use Rattle.std.specs.List.{AllByRecursion}
use Rattle.std.proofs.lemmas.List.{length-append, append-nil, take-append-le, take_at, drop_at}
use Rattle.std.proofs.lemmas.Bool.{leb-true, leb-false, le-leb, lt-leb, cases_lt}
use Rattle.heap_page.specs.Blocks.{weight_of, AreFull, AreBlocks, joined, laid, blocks_of}

module _ {X : Type 0} (weight : X → ℕ) (limit : ℕ) where
  abbrev Within : List X → Type 0
  Within b = (0 < length b) × (weight_of weight b ≤ limit)

  pub weight-append : (b c : List X) → weight_of weight (b ++ c) ≡ weight_of weight b + weight_of weight c
  weight-append [] c = omega arith
  weight-append (x ∷ b) c = omega (arith, weight-append b c)

  -- the first block of what is laid begins with the part one
  pub begins : (part xs : List X) → (more : List X) × (rest : List (List X)) × (laid weight limit part xs ≡ (part ++ more) ∷ rest)
  unfolding laid
  begins part [] = ([], [], ap (λ (b : List X). b ∷ []) (sym (append-nil part)))
  begins part (x ∷ xs) = by (leb (weight_of weight (part ++ x ∷ [])) limit) (begins (part ++ x ∷ []) xs) where
    by : (b : Bool) → (more : List X) × (rest : List (List X)) × (laid weight limit (part ++ x ∷ []) xs ≡ ((part ++ x ∷ []) ++ more) ∷ rest) →
        (more : List X) × (rest : List (List X)) × (cond b (laid weight limit (part ++ x ∷ []) xs) (part ∷ laid weight limit (x ∷ []) xs) ≡ (part ++ more) ∷ rest)
    by true h = (x ∷ h.0, h.1, h.2 ∙ ap (λ (b : List X). b ∷ h.1) (append_assoc part (x ∷ []) h.0))
    by false h = ([], laid weight limit (x ∷ []) xs, ap (λ (b : List X). b ∷ laid weight limit (x ∷ []) xs) (sym (append-nil part)))

  pub laid_more : (part : List X) (x : X) (xs : List X) → weight_of weight (part ++ x ∷ []) ≤ limit → laid weight limit part (x ∷ xs) ≡ laid weight limit (part ++ x ∷ []) xs
  unfolding laid
  laid_more part x xs h = let e : leb (weight_of weight (part ++ x ∷ [])) limit ≡ true = le-leb _ _ h in rw e refl

  pub laid_next : (part : List X) (x : X) (xs : List X) → limit < weight_of weight (part ++ x ∷ []) → laid weight limit part (x ∷ xs) ≡ part ∷ laid weight limit (x ∷ []) xs
  unfolding laid
  laid_next part x xs h = let e : leb (weight_of weight (part ++ x ∷ [])) limit ≡ false = lt-leb _ _ h in rw e refl

  pub laid_end : (part : List X) → laid weight limit part [] ≡ part ∷ []
  unfolding laid
  laid_end part = refl

  alone : (x : X) → weight x ≤ limit → weight_of weight (x ∷ []) ≤ limit
  alone x h = omega arith

  pub laid_blocks : (xs part : List X) → 0 < length part → weight_of weight part ≤ limit → AllByRecursion (λ x. weight x ≤ limit) xs → AreBlocks weight limit (part ++ xs) (laid weight limit part xs)
  unfolding laid
  laid_blocks [] part some fit each = record { same = refl; fit = ((some, fit), tt); full = tt }
  laid_blocks (x ∷ xs) part some fit each =
      by (leb (weight_of weight (part ++ x ∷ [])) limit) refl (λ f. laid_blocks xs (part ++ x ∷ []) (omega (arith, length-append part (x ∷ []))) f each.1) (laid_blocks xs (x ∷ []) (omega arith) (alone x each.0) each.1) where
        by : (b : Bool) → leb (weight_of weight (part ++ x ∷ [])) limit ≡ b → (weight_of weight (part ++ x ∷ []) ≤ limit → AreBlocks weight limit ((part ++ x ∷ []) ++ xs) (laid weight limit (part ++ x ∷ []) xs)) →
            AreBlocks weight limit (x ∷ xs) (laid weight limit (x ∷ []) xs) →
            AreBlocks weight limit (part ++ x ∷ xs) (cond b (laid weight limit (part ++ x ∷ []) xs) (part ∷ laid weight limit (x ∷ []) xs))
        by true e first second =
            let h = first (leb-true _ _ e) in
            record { same = h.same ∙ append_assoc part (x ∷ []) xs; fit = h.fit; full = h.full }
        by false e first second =
            let h = second in
            let s = begins (x ∷ []) xs in
            let no : limit < weight_of weight (part ++ x ∷ []) = leb-false _ _ e in
            record {
              same = ap (λ (ys : List X). part ++ ys) h.same;
              fit = ((some, fit), h.fit);
              full = rw s.2 (no, rw s.2 at h.full);
            }

  pub are_blocks : (items : List X) → AllByRecursion (λ x. weight x ≤ limit) items → AreBlocks weight limit items (blocks_of weight limit items)
  are_blocks [] each = record { same = refl; fit = tt; full = tt }
  are_blocks (x ∷ xs) each = laid_blocks xs (x ∷ []) (omega arith) (alone x each.0) each.1

  pub length-laid : (part xs : List X) → length (laid weight limit part xs) ≤ 1 + length xs
  unfolding laid
  length-laid part [] = omega arith
  length-laid part (x ∷ xs) = by (leb (weight_of weight (part ++ x ∷ [])) limit) (length-laid (part ++ x ∷ []) xs) (length-laid (x ∷ []) xs) where
    by : (b : Bool) → length (laid weight limit (part ++ x ∷ []) xs) ≤ 1 + length xs → length (laid weight limit (x ∷ []) xs) ≤ 1 + length xs →
        length (cond b (laid weight limit (part ++ x ∷ []) xs) (part ∷ laid weight limit (x ∷ []) xs)) ≤ 1 + length (x ∷ xs)
    by true h k = omega (arith, h)
    by false h k = omega (arith, k)

  -- ---- there are no others

  abbrev Stops : List X → List X → Type 0
  Stops b rest = 0 < length rest → limit < weight_of weight (b ++ take 1 rest)

  weight_take : (n : ℕ) (c : List X) → weight_of weight (take n c) ≤ weight_of weight c
  weight_take zero c = omega arith
  weight_take (suc n) [] = omega arith
  weight_take (suc n) (x ∷ c) = omega (arith, weight_take n c)

  take_over : (b r : List X) → take (suc (length b)) (b ++ r) ≡ b ++ take 1 r
  take_over [] r = refl
  take_over (x ∷ b) r = ap (λ (ys : List X). x ∷ ys) (take_over b r)

  heads_le : (b r c s : List X) → b ++ r ≡ c ++ s → Stops b r → weight_of weight c ≤ limit → length c ≤ length b
  heads_le b r c s e stops fit =
      elim (cases_lt (length b) (length c)) [
        | inl lt ↦ (
            let sizes : length b + length r ≡ length c + length s = omega (arith, ap length e, length-append b r, length-append c s) in
            let front : b ++ take 1 r ≡ take (suc (length b)) c = sym (take_over b r) ∙ (ap (take (suc (length b))) e ∙ take-append-le (suc (length b)) c s (omega arith)) in
            let over = stops (omega arith) in
            absurd (omega (arith, over, ap (weight_of weight) front, weight_take (suc (length b)) c, fit)))
        | inr ge ↦ ge
      ]

  full_stops : (b : List X) (bs : List (List X)) → AllByRecursion Within bs → AreFull weight limit (b ∷ bs) → Stops b (joined bs)
  full_stops b [] each full = λ lt. absurd (omega arith)
  full_stops b (c ∷ bs) each full = λ lt. subst (λ (t : List X). limit < weight_of weight (b ++ t)) (sym (take-append-le 1 c (joined bs) (omega (arith, each.0.0)))) full.0

  tail_full : (b : List X) (bs : List (List X)) → AreFull weight limit (b ∷ bs) → AreFull weight limit bs
  tail_full b [] full = tt
  tail_full b (c ∷ bs) full = full.1

  same_joined : (bs cs : List (List X)) → AllByRecursion Within bs → AllByRecursion Within cs → AreFull weight limit bs → AreFull weight limit cs → joined bs ≡ joined cs → bs ≡ cs
  same_joined [] [] p q f g e = refl
  same_joined [] (c ∷ cs) p q f g e = absurd (omega (arith, ap length e, length-append c (joined cs), q.0.0))
  same_joined (b ∷ bs) [] p q f g e = absurd (omega (arith, ap length e, length-append b (joined bs), p.0.0))
  same_joined (b ∷ bs) (c ∷ cs) p q f g e =
      let one = heads_le b (joined bs) c (joined cs) e (full_stops b bs p.1 f) q.0.1 in
      let two = heads_le c (joined cs) b (joined bs) (sym e) (full_stops c cs q.1 g) p.0.1 in
      let len : length c ≡ length b = omega arith in
      let head : b ≡ c = sym (take_at b (joined bs) (length b) refl) ∙ (ap (take (length b)) e ∙ take_at c (joined cs) (length b) len) in
      let rest : joined bs ≡ joined cs = sym (drop_at b (joined bs) (length b) refl) ∙ (ap (drop (length b)) e ∙ drop_at c (joined cs) (length b) len) in
      ap (λ (x : List X). x ∷ bs) head ∙ ap (λ (ys : List (List X)). c ∷ ys) (same_joined bs cs p.1 q.1 (tail_full b bs f) (tail_full c cs g) rest)

  pub only_blocks : (items : List X) (bs cs : List (List X)) → AreBlocks weight limit items bs → AreBlocks weight limit items cs → bs ≡ cs
  only_blocks items bs cs h k = same_joined bs cs h.fit k.fit h.full k.full (h.same ∙ sym k.same)
