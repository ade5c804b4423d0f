-- What a write at an offset and a write behind it do together.
use Rattle.std.proofs.Common.{◌≡◌, ℕ, ◌+◌, ◌-◌, ◌≤◌, ◌<◌, leb, ltb, Bool, true, false, cond, List, take, drop, get_or, length, length-take, length-drop, take_all, Option, Some, None, refl, sym, ap, ◌∙◌, subst, arith}
use Rattle.std.proofs.lemmas.List.{get_or-take, get_or-drop, get_or_past}
use Rattle.std.proofs.lemmas.Bool.{leb-true, leb-false, ltb-true, ltb-false}
use Rattle.xprs_cli.specs.Bytes.{overlaid, Writes}

-- behind the first n items there is none
past_take : (n : ℕ) (xs : List ℕ) (i d : ℕ) → n ≤ i → get_or (take n xs) i d ≡ d
past_take n xs i d h = get_or_past (take n xs) i d (omega (arith, length-take n xs))

-- an item of the first a and n items, by the place in them
front_item : (a n : ℕ) (xs : List ℕ) (i d : ℕ) → i < a → get_or (take a xs) i d ≡ get_or (take (a + n) xs) i d
front_item a n xs i d h = get_or-take a xs i d h ∙ sym (get_or-take (a + n) xs i d (omega arith))

later_item : (a n : ℕ) (xs : List ℕ) (i d : ℕ) → get_or (take n (drop a xs)) i d ≡ get_or (take (a + n) xs) (a + i) d
later_item a n xs i d = by (ltb i n) refl where
  by : (b : Bool) → ltb i n ≡ b → get_or (take n (drop a xs)) i d ≡ get_or (take (a + n) xs) (a + i) d
  by true e = get_or-take n (drop a xs) i d (ltb-true i n e) ∙ get_or-drop a xs i d ∙ sym (get_or-take (a + n) xs (a + i) d (omega (arith, ltb-true i n e)))
  by false e = let far : n ≤ i = omega (arith, ltb-false i n e) in past_take n (drop a xs) i d far ∙ sym (past_take (a + n) xs (a + i) d (omega (arith, far)))

module _ (bytes : ℕ → ℕ) (offset a n : ℕ) (xs : List ℕ) where
  two_as_one : (place : ℕ) → overlaid (overlaid bytes offset (take a xs)) (offset + a) (take n (drop a xs)) place ≡ overlaid bytes offset (take (a + n) xs) place
  two_as_one place = by (leb offset place) (leb (offset + a) place) refl refl where
    by : (b c : Bool) → leb offset place ≡ b → leb (offset + a) place ≡ c → overlaid (overlaid bytes offset (take a xs)) (offset + a) (take n (drop a xs)) place ≡ overlaid bytes offset (take (a + n) xs) place
    by false false e f = rw (e, f) refl
    by false true e f = absurd (omega (arith, leb-true (offset + a) place f, leb-false offset place e))
    by true false e f = rw (e, f) (front_item a n xs (place - offset) (bytes place) (omega (arith, leb-true offset place e, leb-false (offset + a) place f)))
    by true true e f =
        let d = get_or (take a xs) (place - offset) (bytes place) in
        let at : a + (place - (offset + a)) ≡ place - offset = omega (arith, leb-true (offset + a) place f) in
        rw (e, f) (later_item a n xs (place - (offset + a)) d ∙ ap (λ i. get_or (take (a + n) xs) i d) at
        ∙ ap (get_or (take (a + n) xs) (place - offset)) (past_take a xs (place - offset) (bytes place) (omega (arith, leb-true (offset + a) place f))))

pub writes_more : (old mid new : Option (ℕ → ℕ)) (offset a n : ℕ) (xs : List ℕ) → Writes old mid offset a xs → Writes mid new (offset + a) n (drop a xs) → Writes old new offset (a + n) xs
writes_more None mid new offset a n xs first second = subst (λ m. Writes m new (offset + a) n (drop a xs)) first second
writes_more (Some bytes) mid new offset a n xs first second =
    let later : new ≡ Some (overlaid (overlaid bytes offset (take a xs)) (offset + a) (take n (drop a xs))) = subst (λ m. Writes m new (offset + a) n (drop a xs)) first second in
    later ∙ ap Some (λ i place. two_as_one bytes offset a n xs place i)

-- all that is behind a place
pub all_behind : (a : ℕ) (xs : List ℕ) → take (length xs - a) (drop a xs) ≡ drop a xs
all_behind a xs = take_all (length xs - a) (drop a xs) (omega (arith, length-drop a xs))
