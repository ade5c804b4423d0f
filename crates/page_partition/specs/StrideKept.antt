use Rattle.std.proofs.Common.{◌≡◌, ℕ, zero, suc, ◌+◌, ◌%◌, max, ◌<◌, ◌≤◌, true, false, ltb, List, [], ◌∷◌, ◌++◌, length, get_or, set, take, drop, replicate, refl, ap, sym, ◌∙◌, inl, inr, arith, add-one, append_assoc}
use Rattle.std.proofs.lemmas.Bool.{cases_Bool, lt-ltb, le-ltb}
use Rattle.std.proofs.lemmas.List.{take_more_set, length-take, length-replicate, drop-set-lt, drop_more}
use Rattle.page_partition.specs.declared.table.Mark.{Mark}
use Rattle.page_partition.specs.declared.table.Mark.TheVariants.{Left}
use Rattle.page_partition.specs.Scan.{is_out, is_deposited, places_from, places, out_of, AllNamed}
use Rattle.page_partition.specs.Stride.{past, page_cut, stride_from, stride_marks}
use Rattle.page_partition.specs.Marks.{places_bound}
use Rattle.page_partition.specs.Places.{places_more_true, places_more_false}

pub past-push : (ps : List ℕ) (p : ℕ) → past (ps ++ p ∷ []) ≡ max (past ps) (p + 1)
past-push [] p = omega arith
past-push (q ∷ ps) p = let ih = past-push ps p in omega arith

pub past_le : (ps : List ℕ) (n : ℕ) → ((k : ℕ) → k < length ps → get_or ps k 0 < n) → past ps ≤ n
past_le [] n h = omega arith
past_le (p ∷ ps) n h = let ih = past_le ps n (λ k l. h (suc k) (omega arith)) in let first = h 0 (omega arith) in omega arith

pub stride_below : (k q cut n : ℕ) (ms : List Mark) → q + k ≤ cut → stride_from q cut n ms ≡ take k ms ++ stride_from (q + k) cut n (drop k ms)
stride_below zero q cut n ms h = let z : q + 0 ≡ q = omega arith in rw z
stride_below (suc k) q cut n [] h = refl
stride_below (suc k) q cut n (x ∷ xs) h =
    let lt : ltb q cut ≡ true = lt-ltb q cut (omega arith) in
    let z : q + suc k ≡ suc q + k = omega arith in
    simp (lt, z) (ap (λ ys. x ∷ ys) (stride_below k (suc q) cut n xs (omega arith)))

pub stride_step : (ms : List Mark) (p cut n : ℕ) → p < length ms → cut ≤ p → take (p + 1) (set ms p (Left (p % n))) ++ stride_from (p + 1) cut n (drop (p + 1) (set ms p (Left (p % n)))) ≡ take p ms ++ stride_from p cut n (drop p ms)
stride_step ms p cut n h le =
    let above : ltb p cut ≡ false = le-ltb p cut le in
    let lt : p < p + 1 = omega arith in
    rw (take_more_set ms p (Left (p % n)) h, drop-set-lt (p + 1) ms p (Left (p % n)) lt, drop_more ms p (Left 0) h) (simp (append_assoc, above, add-one))

pub length-stride_from : (p cut n : ℕ) (ms : List Mark) → length (stride_from p cut n ms) ≡ length ms
length-stride_from p cut n [] = refl
length-stride_from p cut n (x ∷ xs) = ap suc (length-stride_from (suc p) cut n xs)

-- what was deposited stays so
pub deposited-stride_from : (p cut n : ℕ) (ms : List Mark) → past (places_from p is_deposited ms) ≤ cut → places_from p is_deposited (stride_from p cut n ms) ≡ places_from p is_deposited ms
deposited-stride_from p cut n [] h = refl
deposited-stride_from p cut n (x ∷ xs) h =
    elim (cases_Bool (is_deposited x)) [
      | inl e ↦
          let h' = simp e at h in
          let lt : ltb p cut ≡ true = lt-ltb p cut (omega arith) in
          simp (e, lt) (ap (λ ys. p ∷ ys) (deposited-stride_from (suc p) cut n xs (omega arith)))
      | inr e ↦
          let ih = deposited-stride_from (suc p) cut n xs (simp e at h) in
          elim (cases_Bool (ltb p cut)) [ inl f ↦ simp (e, f) ih | inr f ↦ simp (e, f) ih ]
    ]

pub named-stride_from : (p cut n : ℕ) (ms : List Mark) → 1 ≤ n → n ≤ 64 → AllNamed ms → AllNamed (stride_from p cut n ms)
named-stride_from p cut n [] low high a = tt
named-stride_from p cut n (x ∷ xs) low high a =
    let ih = named-stride_from (suc p) cut n xs low high a.1 in
    elim (cases_Bool (ltb p cut)) [ inl f ↦ simp f (a.0, ih) | inr f ↦ simp f (omega arith, ih) ]

pub idle-stride_from : (r p cut n : ℕ) (ms : List Mark) → places_from p (is_out r) ms ≡ [] → places_from p (is_out r) (stride_from p cut n ms) ≡ []
idle-stride_from r p cut n [] h = refl
idle-stride_from r p cut n (x ∷ xs) h =
    elim (cases_Bool (is_out r x)) [
      | inl e ↦ absurd (let no = simp e at h in cc)
      | inr e ↦
          let ih = idle-stride_from r (suc p) cut n xs (simp e at h) in
          elim (cases_Bool (ltb p cut)) [ inl f ↦ simp (e, f) ih | inr f ↦ simp (e, f) ih ]
    ]

-- with nothing deposited each position goes to its number modulo the degree
stride_fresh : (p n : ℕ) (ms ms' : List Mark) → length ms ≡ length ms' → stride_from p 0 n ms ≡ stride_from p 0 n ms'
stride_fresh p n [] [] h = refl
stride_fresh p n [] (y ∷ ys) h = absurd (omega arith)
stride_fresh p n (x ∷ xs) [] h = absurd (omega arith)
stride_fresh p n (x ∷ xs) (y ∷ ys) h = let no : ltb p 0 ≡ false = le-ltb p 0 (omega arith) in simp no (ap (λ zs. Left (p % n) ∷ zs) (stride_fresh (suc p) n xs ys (omega arith)))

pub no_deposits : (p k : ℕ) → places_from p is_deposited (replicate k (Left 0)) ≡ []
no_deposits p zero = refl
no_deposits p (suc k) = no_deposits (suc p) k

pub stride_as_started : (n : ℕ) (ms : List Mark) → places is_deposited ms ≡ [] → stride_marks n ms ≡ stride_marks n (replicate (length ms) (Left 0))
stride_as_started n ms h =
    ap (λ ps. stride_from 0 (past ps) n ms) h ∙ stride_fresh 0 n ms (replicate (length ms) (Left 0)) (sym (length-replicate (length ms) (Left 0)))
    ∙ ap (λ ps. stride_from 0 (past ps) n (replicate (length ms) (Left 0))) (sym (no_deposits 0 (length ms)))

pub past_take : (ms : List Mark) (p : ℕ) → past (places is_deposited (take p ms)) ≤ p
past_take ms p = past_le (places is_deposited (take p ms)) p (λ k h. let b = places_bound is_deposited 0 (take p ms) k 0 h in omega (arith, length-take p ms))

pub page_cut_within : (ms : List Mark) → page_cut ms ≤ length ms
page_cut_within ms = past_le (places is_deposited ms) (length ms) (λ k h. let b = places_bound is_deposited 0 ms k 0 h in omega arith)

pub page_cut_true : (ms : List Mark) (p : ℕ) (d : Mark) → p < length ms → is_deposited (get_or ms p d) ≡ true → page_cut (take (p + 1) ms) ≡ p + 1
page_cut_true ms p d h e =
    let b = past_take ms p in
    ap past (places_more_true is_deposited ms p d h e) ∙ past-push (places is_deposited (take p ms)) p ∙ omega arith

pub cut_later : (ms : List Mark) (p cut later : ℕ) → cut ≡ page_cut (take p ms) → later ≡ max cut (p + 1) → p < length ms → is_deposited (get_or ms p (Left 0)) ≡ true → later ≡ page_cut (take (p + 1) ms)
cut_later ms p cut later here is h e = let b = past_take ms p in let t = page_cut_true ms p (Left 0) h e in omega arith

pub page_cut_false : (ms : List Mark) (p : ℕ) (d : Mark) → p < length ms → is_deposited (get_or ms p d) ≡ false → page_cut (take (p + 1) ms) ≡ page_cut (take p ms)
page_cut_false ms p d h e = ap past (places_more_false is_deposited ms p d h e)

pub stride_kept : (n : ℕ) (ms : List Mark) → places is_deposited (stride_marks n ms) ≡ places is_deposited ms
stride_kept n ms = deposited-stride_from 0 (page_cut ms) n ms (omega arith)

pub stride_length : (n : ℕ) (ms : List Mark) → length (stride_marks n ms) ≡ length ms
stride_length n ms = length-stride_from 0 (page_cut ms) n ms

pub stride_named : (n : ℕ) (ms : List Mark) → 1 ≤ n → n ≤ 64 → AllNamed ms → AllNamed (stride_marks n ms)
stride_named n ms low high a = named-stride_from 0 (page_cut ms) n ms low high a

pub stride_idle : (n r : ℕ) (ms : List Mark) → out_of ms r ≡ [] → out_of (stride_marks n ms) r ≡ []
stride_idle n r ms h = idle-stride_from r 0 (page_cut ms) n ms h

pub named_fresh : (k : ℕ) → AllNamed (replicate k (Left 0))
named_fresh zero = tt
named_fresh (suc k) = (omega arith, named_fresh k)

pub idle_fresh : (r p k : ℕ) → places_from p (is_out r) (replicate k (Left 0)) ≡ []
idle_fresh r p zero = refl
idle_fresh r p (suc k) = idle_fresh r (suc p) k
