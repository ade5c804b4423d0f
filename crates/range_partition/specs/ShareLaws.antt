use Rattle.std.proofs.Common.{◌≡◌, ℕ, zero, suc, ◌+◌, ◌-◌, ◌*◌, ◌/◌, min, ◌<◌, ◌≤◌, true, false, cond, leb, List, [], ◌∷◌, ◌++◌, length, get_or, set, take, drop, replicate, refl, ap, sym, ◌∙◌, inl, inr, arith, add-one, append_assoc}
use Rattle.std.proofs.lemmas.Bool.{cases_Bool, cases_lt, le-leb, lt-leb}
use Rattle.std.proofs.lemmas.List.{take_more_set, take_more, drop_more, get_or-drop, length-replicate}
use Rattle.std.proofs.Math.Nat.{mul-le-mul_right, div-lt_iff_lt-mul, le-div_iff_mul-le, mul_comm}
use Rattle.page_partition.specs.declared.table.Mark.{Mark}
use Rattle.page_partition.specs.declared.table.Mark.TheVariants.{Left}
use Rattle.page_partition.specs.Scan.{is_out, is_deposited, places_from, places, out_of, AllNamed}
use Rattle.page_partition.specs.StrideKept.{no_deposits}
use Rattle.range_partition.specs.Share.{undeposited, share_start, ended, share_from, share_marks}

-- a share ends at or before place k where its role comes before role (k + 1) * n - 1 divided by r
pub share_end : (r n k j : ℕ) → 0 < n → 0 < r → share_start r n j ≤ k → j ≤ ((k + 1) * n - 1) / r
share_end r n k j hn hr h =
    let below : j * r / n < k + 1 = omega arith in
    let prod : j * r < (k + 1) * n = (div-lt_iff_lt-mul {k = n} {x = j * r} {y = k + 1} hn).0 below in
    (le-div_iff_mul-le {k = r} {x = j} {y = (k + 1) * n - 1} hr).1 (omega arith)

pub share_end_back : (r n k j : ℕ) → 0 < n → 0 < r → j ≤ ((k + 1) * n - 1) / r → share_start r n j ≤ k
share_end_back r n k j hn hr h =
    let prod : j * r ≤ (k + 1) * n - 1 = (le-div_iff_mul-le {k = r} {x = j} {y = (k + 1) * n - 1} hr).0 h in
    let below : j * r / n < k + 1 = (div-lt_iff_lt-mul {k = n} {x = j * r} {y = k + 1} hn).1 (omega arith) in
    omega arith

ended_min : (m r n k : ℕ) → 0 < n → 0 < r → ended m r n k ≡ min m (((k + 1) * n - 1) / r)
ended_min zero r n k hn hr = omega arith
ended_min (suc j) r n k hn hr =
    let ih = ended_min j r n k hn hr in
    elim (cases_lt j (((k + 1) * n - 1) / r)) [
      | inl lt ↦ let t : leb (share_start r n (j + 1)) k ≡ true = le-leb (share_start r n (j + 1)) k (share_end_back r n k (j + 1) hn hr (omega arith)) in simp t (omega arith)
      | inr ge ↦
          let over : k < share_start r n (j + 1) = elim (cases_lt k (share_start r n (j + 1))) [ inl lt ↦ lt | inr le ↦ absurd (let no = share_end r n k (j + 1) hn hr le in omega arith) ] in
          let f : leb (share_start r n (j + 1)) k ≡ false = lt-leb (share_start r n (j + 1)) k over in
          simp f (omega arith)
    ]

role_below : (r n k : ℕ) → 0 < n → k < r → ((k + 1) * n - 1) / r < n
role_below r n k hn h =
    let prod = mul-le-mul_right {m = k + 1} {n = r} n (omega arith) in
    (div-lt_iff_lt-mul {k = r} {x = (k + 1) * n - 1} {y = n} (omega arith)).1 (omega (arith, mul_comm n r))

-- the role of a place, as a quotient
pub ended_is : (r n k : ℕ) → 0 < n → k < r → ended n r n k ≡ ((k + 1) * n - 1) / r
ended_is r n k hn h = let b = role_below r n k hn h in ended_min n r n k hn (omega arith) ∙ omega arith

pub ended_below : (r n k : ℕ) → 0 < n → k < r → ended n r n k < n
ended_below r n k hn h = let b = role_below r n k hn h in omega (arith, ended_is r n k hn h)

-- a role's share of the places, in the words of the division
pub share_law : (r n k j : ℕ) → 0 < n → k < r → share_start r n j ≤ k → k < share_start r n (j + 1) → j ≡ ended n r n k
share_law r n k j hn h low high =
    let q = ((k + 1) * n - 1) / r in
    let hr : 0 < r = omega arith in
    let a = share_end r n k j hn hr low in
    let b : q < j + 1 = elim (cases_lt (((k + 1) * n - 1) / r) (j + 1)) [ inl lt ↦ lt | inr ge ↦ absurd (let no = share_end_back r n k (j + 1) hn hr ge in omega arith) ] in
    omega (arith, ended_is r n k hn h)

-- of the marks
pub undeposited_few : (p : ℕ) (ms : List Mark) → undeposited ms + length (places_from p is_deposited ms) ≡ length ms
undeposited_few p [] = refl
undeposited_few p (x ∷ xs) = let ih = undeposited_few (suc p) xs in elim (cases_Bool (is_deposited x)) [ inl e ↦ simp e (omega arith) | inr e ↦ simp e (omega arith) ]

pub length-share_from : (k r n : ℕ) (ms : List Mark) → length (share_from k r n ms) ≡ length ms
length-share_from k r n [] = refl
length-share_from k r n (x ∷ xs) = elim (cases_Bool (is_deposited x)) [ inl e ↦ simp e (ap suc (length-share_from k r n xs)) | inr e ↦ simp e (ap suc (length-share_from (suc k) r n xs)) ]

pub deposited-share_from : (p k r n : ℕ) (ms : List Mark) → places_from p is_deposited (share_from k r n ms) ≡ places_from p is_deposited ms
deposited-share_from p k r n [] = refl
deposited-share_from p k r n (x ∷ xs) =
    elim (cases_Bool (is_deposited x)) [ inl e ↦ simp e (ap (λ ys. p ∷ ys) (deposited-share_from (suc p) k r n xs)) | inr e ↦ simp e (deposited-share_from (suc p) (suc k) r n xs) ]

pub named-share_from : (k r n : ℕ) (ms : List Mark) → 0 < n → n ≤ 64 → k + undeposited ms ≡ r → AllNamed ms → AllNamed (share_from k r n ms)
named-share_from k r n [] hn high h a = tt
named-share_from k r n (x ∷ xs) hn high h a =
    elim (cases_Bool (is_deposited x)) [
      | inl e ↦ let h' = simp e at h in simp e (a.0, named-share_from k r n xs hn high (omega arith) a.1)
      | inr e ↦ let h' = simp e at h in simp e ((let b = ended_below r n k hn (omega arith) in omega arith), named-share_from (suc k) r n xs hn high (omega arith) a.1)
    ]

pub idle-share_from : (role p k r n : ℕ) (ms : List Mark) → places_from p (is_out role) ms ≡ [] → places_from p (is_out role) (share_from k r n ms) ≡ []
idle-share_from role p k r n [] h = refl
idle-share_from role p k r n (x ∷ xs) h =
    elim (cases_Bool (is_out role x)) [
      | inl e ↦ absurd (let no = simp e at h in cc)
      | inr e ↦ let h' = simp e at h in
          elim (cases_Bool (is_deposited x)) [ inl f ↦ simp (e, f) (idle-share_from role (suc p) k r n xs h') | inr f ↦ simp f (idle-share_from role (suc p) (suc k) r n xs h') ]
    ]

share_fresh : (k r n p : ℕ) (ms : List Mark) → places_from p is_deposited ms ≡ [] → share_from k r n ms ≡ share_from k r n (replicate (length ms) (Left 0))
share_fresh k r n p [] h = refl
share_fresh k r n p (x ∷ xs) h =
    elim (cases_Bool (is_deposited x)) [
      | inl e ↦ absurd (let no = simp e at h in cc)
      | inr e ↦ simp e (ap (λ ys. Left (ended n r n k) ∷ ys) (share_fresh (suc k) r n (suc p) xs (simp e at h)))
    ]

pub share_as_started : (n : ℕ) (ms : List Mark) → places is_deposited ms ≡ [] → share_marks n ms ≡ share_marks n (replicate (length ms) (Left 0))
share_as_started n ms h =
    let all : undeposited ms ≡ length ms = omega (arith, undeposited_few 0 ms, ap length h) in
    let fresh : undeposited (replicate (length ms) (Left 0)) ≡ length ms = omega (arith, undeposited_few 0 (replicate (length ms) (Left 0)), ap length (no_deposits 0 (length ms)), length-replicate (length ms) (Left 0)) in
    share_fresh 0 (undeposited ms) n 0 ms h ∙ ap (λ r. share_from 0 r n (replicate (length ms) (Left 0))) (all ∙ sym fresh)

pub share_kept : (n : ℕ) (ms : List Mark) → places is_deposited (share_marks n ms) ≡ places is_deposited ms
share_kept n ms = deposited-share_from 0 0 (undeposited ms) n ms

pub share_length : (n : ℕ) (ms : List Mark) → length (share_marks n ms) ≡ length ms
share_length n ms = length-share_from 0 (undeposited ms) n ms

pub share_named : (n : ℕ) (ms : List Mark) → 1 ≤ n → n ≤ 64 → AllNamed ms → AllNamed (share_marks n ms)
share_named n ms low high a = named-share_from 0 (undeposited ms) n ms low high (omega arith) a

pub share_idle : (n r : ℕ) (ms : List Mark) → out_of ms r ≡ [] → out_of (share_marks n ms) r ≡ []
share_idle n r ms h = idle-share_from r 0 0 (undeposited ms) n ms h

-- the mark at the front of two equal ends
pub same_front : (ms ms0 : List Mark) (p : ℕ) (d : Mark) → drop p ms ≡ drop p ms0 → get_or ms p d ≡ get_or ms0 p d
same_front ms ms0 p d e =
    let z : p + 0 ≡ p = omega arith in
    ap (λ n. get_or ms n d) (sym z) ∙ sym (get_or-drop p ms 0 d) ∙ ap (λ xs. get_or xs 0 d) e ∙ get_or-drop p ms0 0 d ∙ ap (λ n. get_or ms0 n d) z

-- one turn of the loop
pub share_turn : (ms ms0 : List Mark) (p k r n : ℕ) (d : Mark) → p < length ms → p < length ms0 → is_deposited (get_or ms0 p d) ≡ false
    → take (p + 1) (set ms p (Left (ended n r n k))) ++ share_from (k + 1) r n (drop (p + 1) ms0) ≡ take p ms ++ share_from k r n (drop p ms0)
share_turn ms ms0 p k r n d h h0 e = rw (take_more_set ms p (Left (ended n r n k)) h, drop_more ms0 p d h0) (simp (append_assoc, e, add-one))

pub share_skip : (ms ms0 : List Mark) (p k r n : ℕ) (d : Mark) → p < length ms → p < length ms0 → drop p ms ≡ drop p ms0 → is_deposited (get_or ms0 p d) ≡ true
    → take (p + 1) ms ++ share_from k r n (drop (p + 1) ms0) ≡ take p ms ++ share_from k r n (drop p ms0)
share_skip ms ms0 p k r n d h h0 same e = rw (take_more ms p d h, same_front ms ms0 p d same, drop_more ms0 p d h0) (simp (append_assoc, e))

pub undeposited_more : (ms0 : List Mark) (p : ℕ) (d : Mark) → p < length ms0 → undeposited (drop p ms0) ≡ cond (is_deposited (get_or ms0 p d)) 0 1 + undeposited (drop (p + 1) ms0)
undeposited_more ms0 p d h = rw (drop_more ms0 p d h)
