use Rattle.std.proofs.Common.{◌≡◌, ℕ, zero, suc, ◌+◌, ◌-◌, ◌<◌, ◌≤◌, Bool, true, false, not, ◌||◌, List, [], ◌∷◌, ◌++◌, length, take, drop, filter, replicate, refl, ap, sym, ◌∙◌, subst, inl, inr, arith, eqb, append_assoc}
use Rattle.std.proofs.lemmas.Bool.{cases_Bool, cases_lt, cases_eq, eq-eqb, ne_eqb, false≢true}
use Rattle.std.proofs.lemmas.List.{length-replicate}
use Rattle.page_partition.specs.declared.table.Mark.{Mark}
use Rattle.page_partition.specs.declared.table.Mark.TheVariants.{Left, Out, Deposited}
use Rattle.page_partition.specs.Scan.{is_deposited, places_from, places}
use Rattle.page_partition.specs.StrideKept.{no_deposits}
use Rattle.page_partition.specs.Counts.{has, numbers_from}
use Rattle.page_partition.specs.CountLaws.{places_filter, deposited_at}
use Rattle.page_partition.specs.Owners.{Divided, AllOwned, AreDeposited}
use Rattle.range_partition.specs.Share.{undeposited, share_start, ended, share_from, share_marks}
use Rattle.range_partition.specs.ShareLaws.{share_law, share_end, share_end_back, ended_is}
use Rattle.range_partition.specs.EntryOwner.{undeposited_after, entry_cut_after, slice, share_of, entry_owns}

abbrev is_open : Mark → Bool
is_open m = not (is_deposited m)

undeposited_is : (p : ℕ) (ms : List Mark) → undeposited ms ≡ length (places_from p is_open ms)
undeposited_is p [] = refl
undeposited_is p (Left q ∷ xs) = let ih = undeposited_is (suc p) xs in omega arith
undeposited_is p (Out q ∷ xs) = let ih = undeposited_is (suc p) xs in omega arith
undeposited_is p (Deposited ∷ xs) = let ih = undeposited_is (suc p) xs in omega arith

-- what isn't among the deposited positions is what isn't marked as deposited
open_places : (positions : ℕ) (xs : List ℕ) (ms : List Mark) → length ms ≡ positions → AreDeposited xs ms → undeposited_after positions xs ≡ places is_open ms
open_places positions xs ms len same =
    subst (λ (n : ℕ). filter (λ p. not (has p xs)) (numbers_from 0 n) ≡ places is_open ms) len
    (places_filter is_open (λ p. not (has p xs)) 0 ms (λ k h. let z : 0 + k ≡ k = omega arith in ap (λ p. not (has p xs)) z ∙ ap not (deposited_at xs ms same k h)))

pub entry_cut_is : (positions : ℕ) (xs : List ℕ) (ms : List Mark) → length ms ≡ positions → AreDeposited xs ms → entry_cut_after positions xs ≡ undeposited ms
entry_cut_is positions xs ms len same = ap length (open_places positions xs ms len same) ∙ sym (undeposited_is 0 ms)

-- a number between two lists that don't hold it, and a slice of the whole
not_taken : (p c : ℕ) (xs : List ℕ) → has p xs ≡ false → has p (take c xs) ≡ false
not_taken p zero xs h = refl
not_taken p (suc c) [] h = refl
not_taken p (suc c) (x ∷ xs) h =
    elim (cases_Bool (eqb x p)) [ inl e ↦ absurd (let no = simp e at h in false≢true (sym no)) | inr e ↦ simp e (not_taken p c xs (simp e at h)) ]

not_dropped : (p c : ℕ) (xs : List ℕ) → has p xs ≡ false → has p (drop c xs) ≡ false
not_dropped p zero xs h = h
not_dropped p (suc c) [] h = refl
not_dropped p (suc c) (x ∷ xs) h =
    elim (cases_Bool (eqb x p)) [ inl e ↦ absurd (let no = simp e at h in false≢true (sym no)) | inr e ↦ not_dropped p c xs (simp e at h) ]

slice_in : (p a c : ℕ) (front rest : List ℕ) → a ≤ length front → length front < a + c → has p (take c (drop a (front ++ p ∷ rest))) ≡ true
slice_in p zero zero front rest low high = absurd (omega arith)
slice_in p zero (suc c) [] rest low high = let t : eqb p p ≡ true = eq-eqb p p refl in simp t
slice_in p zero (suc c) (x ∷ front) rest low high =
    elim (cases_Bool (eqb x p)) [ inl e ↦ simp e | inr e ↦ simp e (slice_in p zero c front rest (omega arith) (omega arith)) ]
slice_in p (suc a) c [] rest low high = absurd (omega arith)
slice_in p (suc a) c (x ∷ front) rest low high = slice_in p a c front rest (omega arith) (omega arith)

slice_before : (p a c : ℕ) (front rest : List ℕ) → has p rest ≡ false → length front < a → has p (take c (drop a (front ++ p ∷ rest))) ≡ false
slice_before p zero c front rest none h = absurd (omega arith)
slice_before p (suc a) c [] rest none h = not_taken p c (drop a rest) (not_dropped p a rest none)
slice_before p (suc a) c (x ∷ front) rest none h = slice_before p a c front rest none (omega arith)

slice_after : (p a c : ℕ) (front rest : List ℕ) → has p front ≡ false → a + c ≤ length front → has p (take c (drop a (front ++ p ∷ rest))) ≡ false
slice_after p zero zero front rest none h = refl
slice_after p zero (suc c) [] rest none h = absurd (omega arith)
slice_after p zero (suc c) (x ∷ front) rest none h =
    elim (cases_Bool (eqb x p)) [ inl e ↦ absurd (let no = simp e at none in false≢true (sym no)) | inr e ↦ simp e (slice_after p zero c front rest (simp e at none) (omega arith)) ]
slice_after p (suc a) zero front rest none h = refl
slice_after p (suc a) (suc c) [] rest none h = absurd (omega arith)
slice_after p (suc a) (suc c) (x ∷ front) rest none h =
    elim (cases_Bool (eqb x p)) [ inl e ↦ absurd (let no = simp e at none in false≢true (sym no)) | inr e ↦ slice_after p a (suc c) front rest (simp e at none) (omega arith) ]

at_seam : (front : List ℕ) (p : ℕ) (rest : List ℕ) → length front < length (front ++ p ∷ rest)
at_seam [] p rest = omega arith
at_seam (q ∷ front) p rest = let ih = at_seam front p rest in omega arith

-- the position at place k of u belongs to the one role whose share holds place k
owner_at : (u front : List ℕ) (n p : ℕ) (rest : List ℕ) → 0 < n → u ≡ front ++ p ∷ rest → has p front ≡ false → has p rest ≡ false → (role : ℕ)
    → has p (share_of u n role) ≡ eqb (ended n (length u) n (length front)) role
owner_at u front n p rest hn e before after role =
    let r = length u in
    let k = length front in
    let j = ended n r n k in
    let h : k < r = subst (λ (z : List ℕ). k < length z) (sym e) (at_seam front p rest) in
    let hr : 0 < r = omega arith in
    let is = ended_is r n k hn h in
    let low : share_start r n j ≤ k = share_end_back r n k j hn hr (omega arith) in
    let high : k < share_start r n (j + 1) = elim (cases_lt k (share_start r n (j + 1))) [
      | inl lt ↦ lt
      | inr ge ↦ absurd (let no = share_end r n k (j + 1) hn hr ge in omega arith)
    ] in
    let whole : (a b : ℕ) → has p (take (b - a) (drop a (front ++ p ∷ rest))) ≡ has p (slice u a b) = λ a b. ap (λ (z : List ℕ). has p (slice z a b)) (sym e) in
    elim (cases_eq j role) [
      | inl same ↦
          let t : eqb j role ≡ true = eq-eqb j role same in
          rw t (subst (λ (q : ℕ). has p (share_of u n q) ≡ true) same
          (sym (whole (share_start r n j) (share_start r n (j + 1))) ∙ slice_in p (share_start r n j) (share_start r n (j + 1) - share_start r n j) front rest low (omega arith)))
      | inr ne ↦
          let f : eqb j role ≡ false = ne_eqb j role ne in
          rw f (sym (whole (share_start r n role) (share_start r n (role + 1))) ∙ elim (cases_lt k (share_start r n role)) [
            | inl lt ↦ slice_before p (share_start r n role) (share_start r n (role + 1) - share_start r n role) front rest after lt
            | inr ge ↦ elim (cases_lt k (share_start r n (role + 1))) [
              | inl lt ↦ absurd (ne (sym (share_law r n k role hn h ge lt)))
              | inr over ↦ slice_after p (share_start r n role) (share_start r n (role + 1) - share_start r n role) front rest before (omega arith)
            ]
          ])
    ]

has_append : (q : ℕ) (xs ys : List ℕ) → has q (xs ++ ys) ≡ (has q xs || has q ys)
has_append q [] ys = refl
has_append q (x ∷ xs) ys = elim (cases_Bool (eqb x q)) [ inl e ↦ simp e | inr e ↦ simp e (has_append q xs ys) ]

none_before : (t : Mark → Bool) (p q : ℕ) (ms : List Mark) → q < p → has q (places_from p t ms) ≡ false
none_before t p q [] h = refl
none_before t p q (x ∷ xs) h =
    let f : eqb p q ≡ false = ne_eqb p q (λ e. absurd (omega arith)) in
    elim (cases_Bool (t x)) [ inl e ↦ simp (e, f) (none_before t (suc p) q xs (omega arith)) | inr e ↦ simp e (none_before t (suc p) q xs (omega arith)) ]

-- so far all positions lie below p
abbrev AllBelow : ℕ → List ℕ → Type 0
AllBelow p front = (q : ℕ) → p ≤ q → has q front ≡ false

below_more : (p : ℕ) (front : List ℕ) → AllBelow p front → AllBelow (suc p) (front ++ p ∷ [])
below_more p front below q h =
    let f : eqb p q ≡ false = ne_eqb p q (λ e. absurd (omega arith)) in
    let a = below q (omega arith) in
    has_append q front (p ∷ []) ∙ simp (a, f)

length_more : (f : List ℕ) (q : ℕ) → length (f ++ q ∷ []) ≡ suc (length f)
length_more [] q = refl
length_more (x ∷ f) q = ap suc (length_more f q)

owned_share : (u : List ℕ) (n : ℕ) → 0 < n → (p : ℕ) (front : List ℕ) (ms : List Mark) → AllBelow p front → u ≡ front ++ places_from p is_open ms
    → AllOwned (λ role q. has q (share_of u n role)) p (share_from (length front) (length u) n ms)
owned_share u n hn p front [] below e = tt
owned_share u n hn p front (Deposited ∷ xs) below e = (tt, owned_share u n hn (suc p) front xs (λ q h. below q (omega arith)) e)
owned_share u n hn p front (Left o ∷ xs) below e = (
  owner_at u front n p (places_from (suc p) is_open xs) hn e (below p (omega arith)) (none_before is_open (suc p) p xs (omega arith)),
  subst (λ (k : ℕ). AllOwned (λ role q. has q (share_of u n role)) (suc p) (share_from k (length u) n xs)) (length_more front p)
      (owned_share u n hn (suc p) (front ++ p ∷ []) xs (below_more p front below) (e ∙ sym (append_assoc front (p ∷ []) (places_from (suc p) is_open xs)))),
)
owned_share u n hn p front (Out o ∷ xs) below e = (
  owner_at u front n p (places_from (suc p) is_open xs) hn e (below p (omega arith)) (none_before is_open (suc p) p xs (omega arith)),
  subst (λ (k : ℕ). AllOwned (λ role q. has q (share_of u n role)) (suc p) (share_from k (length u) n xs)) (length_more front p)
      (owned_share u n hn (suc p) (front ++ p ∷ []) xs (below_more p front below) (e ∙ sym (append_assoc front (p ∷ []) (places_from (suc p) is_open xs)))),
)

shared_out : (positions n : ℕ) (xs : List ℕ) (ms : List Mark) → 1 ≤ n → length ms ≡ positions → AreDeposited xs ms → AllOwned (λ role q. has q (share_of (undeposited_after positions xs) n role)) 0 (share_marks n ms)
shared_out positions n xs ms low len same =
    let u = undeposited_after positions xs in
    let is : u ≡ places is_open ms = open_places positions xs ms len same in
    let size : length u ≡ undeposited ms = ap length is ∙ sym (undeposited_is 0 ms) in
    subst (λ (r : ℕ). AllOwned (λ role q. has q (share_of u n role)) 0 (share_from 0 r n ms)) size
    (owned_share u n low 0 [] ms (λ q h. refl) is)

-- at the start and at each divide the undeposited entries go to the owners of their places
pub entry_owned_start : (positions degree : ℕ) → 1 ≤ degree → AllOwned (entry_owns positions degree []) 0 (share_marks degree (replicate positions (Left 0)))
entry_owned_start positions degree low =
    shared_out positions degree [] (replicate positions (Left 0)) low (length-replicate positions (Left 0)) (λ p. ap (has p) (sym (no_deposits 0 positions)))

pub entry_owned_divided : (positions degree to : ℕ) (divides : List Divided) (xs : List ℕ) (ms : List Mark) → 1 ≤ to → length ms ≡ positions → AreDeposited xs ms
    → AllOwned (entry_owns positions degree divides) 0 ms → AllOwned (entry_owns positions degree (record { degree = to; deposited = xs } ∷ divides)) 0 (share_marks to ms)
entry_owned_divided positions degree to divides xs ms low len same o = shared_out positions to xs ms low len same
