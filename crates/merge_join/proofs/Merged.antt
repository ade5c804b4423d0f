use Rattle.std.proofs.Common.{◌≡◌, ℕ, ◌+◌, ◌<◌, ◌≤◌, suc, zero, Bool, true, false, cond, not, nat_lt, List, [], ◌∷◌, take, drop, ◌++◌, Some, refl, ap, arith, slice_get}
use Rattle.std.proofs.lemmas.Bool.Decides.{nat_tests}
use Rattle.std.specs.List.{position_or_len, prefix_len, insert}
use Rattle.rows.specs.declared.plain.LayoutPart.{LayoutPart}
use Rattle.plan_tree.specs.Combining.{insert_part}

pub drop_get : {X : Type 0} (xs : List X) (i : ℕ) (x : X) → slice_get xs i ≡ Some x → drop i xs
    ≡ x ∷ drop (i + 1) xs
drop_get [] i x h = cc
drop_get (y ∷ ys) zero x h = let k : y ≡ x = cc in ap (λ z. z ∷ ys) k
drop_get (y ∷ ys) (suc i) x h = let e : suc i + 1 ≡ suc (i + 1) = omega arith in rw e
    (drop_get ys i x h)

pub inserted : (p : LayoutPart) (xs : List LayoutPart)
    → insert xs (position_or_len (λ other. nat_lt p.var other.var) xs) p ≡ insert_part p xs
inserted p [] = refl
inserted p (x ∷ xs) = by (inserted p xs) (nat_lt p.var x.var) where
  k : ℕ
  k = prefix_len (λ other. not (nat_lt p.var other.var)) xs

  by : insert xs k p ≡ insert_part p xs → (b : Bool) → insert (x ∷ xs) (cond (not b) (1 + k) 0) p
      ≡ cond b (p ∷ x ∷ xs) (x ∷ insert_part p xs)
  by rest true = refl
  by rest false = let e : 1 + k ≡ suc k = omega arith in rw e (ap (λ r. x ∷ r) rest)

-- one step of the search for a part's place
pub put_step : (p : LayoutPart) (xs : List LayoutPart) (n : ℕ) (x : LayoutPart) → slice_get xs n
    ≡ Some x → x.var ≤ p.var → take n xs ++ insert_part p (drop n xs) ≡ take (n + 1) xs
    ++ insert_part p (drop (n + 1) xs)
put_step p [] n x h le = cc
put_step p (y ∷ ys) zero x h le =
    let k : y ≡ x = cc in
    let l : nat_lt p.var y.var
    ≡ false = (let m : y.var ≡ x.var = ap (λ z. z.var) k in grind (arith, nat_tests)) in
    ap (λ b. cond b (p ∷ y ∷ ys) (y ∷ insert_part p ys)) l
put_step p (y ∷ ys) (suc n) x h le = let e : suc n + 1 ≡ suc (n + 1) = omega arith in rw e
    (ap (λ r. y ∷ r) (put_step p ys n x h le))

pub put_here : (p : LayoutPart) (xs : List LayoutPart) (n : ℕ)
    → ((x : LayoutPart) → slice_get xs n ≡ Some x → p.var < x.var) → take n xs
    ++ insert_part p (drop n xs) ≡ take n xs ++ p ∷ drop n xs
put_here p [] zero h = refl
put_here p [] (suc n) h = refl
put_here p (y ∷ ys) zero h = let l : nat_lt p.var y.var
    ≡ true = (let k = h y refl in grind (arith, nat_tests)) in ap
    (λ b. cond b (p ∷ y ∷ ys) (y ∷ insert_part p ys)) l
put_here p (y ∷ ys) (suc n) h = ap (λ r. y ∷ r) (put_here p ys n h)
