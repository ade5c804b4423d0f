use Rattle.std.proofs.Common.{◌≡◌, ℕ, zero, suc, ◌+◌, ◌%◌, ◌<◌, ◌≤◌, Bool, true, false, cond, ltb, leb, eqb, List, [], ◌∷◌, ◌++◌, length, replicate, refl, ap, sym, ◌∙◌, subst, inl, inr, arith}
use Rattle.std.proofs.lemmas.Bool.{cases_Bool, cases_lt, eqb-true, eq-eqb, false≢true, lt-ltb, le-ltb, le-leb, lt-leb, ltb-false, or_right, or_left}
use Rattle.page_partition.specs.declared.table.Mark.{Mark}
use Rattle.page_partition.specs.declared.table.Mark.TheVariants.{Left, Out, Deposited}
use Rattle.page_partition.specs.Scan.{is_deposited, places}
use Rattle.page_partition.specs.Stride.{past, page_cut, stride_from, stride_marks}
use Rattle.page_partition.specs.StrideKept.{no_deposits}
use Rattle.page_partition.specs.Counts.{has}
use Rattle.page_partition.specs.Owners.{Divided, IsOwned, AllOwned, AreDeposited}
use Rattle.page_partition.specs.PageOwner.{page_cut_after, starts_below, page_pairs, owner_from, page_owner, page_owns}

has_within : (p : ℕ) (xs : List ℕ) → has p xs ≡ true → p + 1 ≤ past xs
has_within p [] e = absurd (false≢true e)
has_within p (q ∷ xs) e =
    elim (cases_Bool (eqb q p)) [
      | inl t ↦ let same = eqb-true q p t in omega arith
      | inr f ↦ let e' = simp f at e in let ih = has_within p xs e' in omega arith
    ]

past_within : (xs : List ℕ) (n : ℕ) → ((p : ℕ) → has p xs ≡ true → p + 1 ≤ n) → past xs ≤ n
past_within [] n h = omega arith
past_within (q ∷ xs) n h =
    let ih = past_within xs n (λ p e. h p (or_right (eqb q p) (has p xs) e)) in
    let here = h q (or_left (eqb q q) (has q xs) (eq-eqb q q refl)) in omega arith

-- the cut depends on which pages are deposited alone
pub page_cut_is : (positions : ℕ) (xs : List ℕ) (ms : List Mark) → length ms ≡ positions → AreDeposited xs ms → page_cut_after positions xs ≡ page_cut ms
page_cut_is positions xs ms len same =
    let a = past_within xs (page_cut ms) (λ p e. has_within p (places is_deposited ms) (sym (same p) ∙ e)) in
    let b = past_within (places is_deposited ms) (past xs) (λ p e. has_within p xs (same p ∙ e)) in
    omega arith

owner_kept : (other : ℕ) (pairs : List (ℕ × ℕ)) (c n p : ℕ) → p < c → owner_from other (starts_below c pairs ++ (c, n) ∷ []) p ≡ owner_from other pairs p
owner_kept other [] c n p h = let f : leb c p ≡ false = lt-leb c p h in simp f
owner_kept other (a ∷ pairs) c n p h =
    elim (cases_Bool (ltb a.0 c)) [
      | inl e ↦ simp e (owner_kept (cond (leb a.0 p) (p % a.1) other) pairs c n p h)
      | inr e ↦ let f : leb a.0 p ≡ false = lt-leb a.0 p (let ge = ltb-false a.0 c e in omega arith) in simp (e, f) (owner_kept other pairs c n p h)
    ]

owner_new : (other : ℕ) (pairs : List (ℕ × ℕ)) (c n p : ℕ) → c ≤ p → owner_from other (pairs ++ (c, n) ∷ []) p ≡ p % n
owner_new other [] c n p h = let t : leb c p ≡ true = le-leb c p h in simp t
owner_new other (a ∷ pairs) c n p h = owner_new (cond (leb a.0 p) (p % a.1) other) pairs c n p h

owned_along : (a b : ℕ → ℕ → Bool) (p : ℕ) (m : Mark) → ((role : ℕ) → b role p ≡ a role p) → IsOwned a p m → IsOwned b p m
owned_along a b p (Left q) same o = λ role. same role ∙ o role
owned_along a b p (Out q) same o = λ role. same role ∙ o role
owned_along a b p Deposited same o = tt

owned_stride : (pairs : List (ℕ × ℕ)) (p c n : ℕ) (ms : List Mark) → AllOwned (λ role q. eqb (page_owner pairs q) role) p ms
    → AllOwned (λ role q. eqb (page_owner (starts_below c pairs ++ (c, n) ∷ []) q) role) p (stride_from p c n ms)
owned_stride pairs p c n [] o = tt
owned_stride pairs p c n (x ∷ xs) o =
    let ih = owned_stride pairs (suc p) c n xs o.1 in
    elim (cases_lt p c) [
      | inl lt ↦
          let t : ltb p c ≡ true = lt-ltb p c lt in
          simp t (owned_along (λ role q. eqb (page_owner pairs q) role) (λ role q. eqb (page_owner (starts_below c pairs ++ (c, n) ∷ []) q) role) p x (λ role. ap (λ o. eqb o role) (owner_kept 0 pairs c n p lt)) o.0, ih)
      | inr ge ↦
          let f : ltb p c ≡ false = le-ltb p c ge in
          simp f ((λ role. ap (λ o. eqb o role) (owner_new 0 (starts_below c pairs) c n p ge)), ih)
    ]

owned_fresh : (n p k : ℕ) → AllOwned (λ role q. eqb (page_owner ((0, n) ∷ []) q) role) p (stride_from p 0 n (replicate k (Left 0)))
owned_fresh n p zero = tt
owned_fresh n p (suc k) =
    let f : ltb p 0 ≡ false = le-ltb p 0 (omega arith) in
    let t : leb 0 p ≡ true = le-leb 0 p (omega arith) in
    simp f ((λ role. simp t), owned_fresh n (suc p) k)

-- at the start each page goes to its number modulo the degree
pub page_owned_start : (positions degree : ℕ) → 1 ≤ degree → AllOwned (page_owns positions degree []) 0 (stride_marks degree (replicate positions (Left 0)))
page_owned_start positions degree low =
    subst (λ (ps : List ℕ). AllOwned (page_owns positions degree []) 0 (stride_from 0 (past ps) degree (replicate positions (Left 0)))) (sym (no_deposits 0 positions))
    (owned_fresh degree 0 positions)

-- and a divide keeps the marks with the owners
pub page_owned_divided : (positions degree to : ℕ) (divides : List Divided) (xs : List ℕ) (ms : List Mark) → 1 ≤ to → length ms ≡ positions → AreDeposited xs ms
    → AllOwned (page_owns positions degree divides) 0 ms → AllOwned (page_owns positions degree (record { degree = to; deposited = xs } ∷ divides)) 0 (stride_marks to ms)
page_owned_divided positions degree to divides xs ms low len same o =
    subst (λ (c : ℕ). AllOwned (page_owns positions degree (record { degree = to; deposited = xs } ∷ divides)) 0 (stride_from 0 c to ms)) (page_cut_is positions xs ms len same)
    (owned_stride (page_pairs degree divides) 0 (past xs) to ms o)
