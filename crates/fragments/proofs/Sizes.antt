-- A tree of a query has at most eleven fragments.
use Rattle.std.proofs.Common.{◌≡◌, ℕ, zero, suc, ◌+◌, ◌*◌, ◌<◌, ◌≤◌, Bool, true, false, ◌==◌, nat_lt, List, [], ◌∷◌, ◌++◌, length, refl, sym, ap, ◌∙◌, subst, arith, lit≤, length-append}
use Rattle.std.proofs.lemmas.Bool.Decides.{nat_tests}
use Rattle.lists.specs.Arranged.{one_if}
use Rattle.rel_meaning.specs.Expression.{Expression, Question}
use Rattle.rows.specs.declared.plain.KeyPair.{KeyPair}
use Rattle.plan_tree.specs.declared.tree.Method.{Method}
use Rattle.plan_tree.specs.declared.tree.Method.TheVariants.{Hash, Merge}
use Rattle.plan_tree.specs.Trees.{Shape, one, scan, join, has, scans, IsPlaced, IsTree}
use Rattle.plan_tree.proofs.TreeRows.{leaves, scans_some}
use Rattle.plan_tree.proofs.Placement.{left_more, right_more}
use Rattle.fragments.specs.Opened.{fragment_count}

-- the sum of the numbers for the variables below n
upto : (ℕ → ℕ) → ℕ → ℕ
upto f zero = 0
upto f (suc n) = upto f n + f n

upto_plus : (f g : ℕ → ℕ) (n : ℕ) → upto (λ v. f v + g v) n ≡ upto f n + upto g n
unfolding upto
upto_plus f g zero = refl
upto_plus f g (suc n) = omega (arith, upto_plus f g n)

upto_none : (n : ℕ) → upto (λ v. 0) n ≡ 0
unfolding upto
upto_none zero = refl
upto_none (suc n) = omega (arith, upto_none n)

upto_most : (f : ℕ → ℕ) (n : ℕ) → ((v : ℕ) → f v ≤ 1) → upto f n ≤ n
unfolding upto
upto_most f zero small = lit≤ tt
upto_most f (suc n) small = omega (arith, upto_most f n small, small n)

upto_past : (w n : ℕ) → n ≤ w → upto (λ v. one_if (v == w)) n ≡ 0
unfolding upto
upto_past w zero h = refl
upto_past w (suc n) h =
    let other : (n == w) ≡ false = grind (arith, nat_tests) in
    let here : one_if (n == w) ≡ 0 = ap one_if other in
    omega (arith, upto_past w n (omega arith), here)

upto_one : (w n : ℕ) → w < n → upto (λ v. one_if (v == w)) n ≡ 1
unfolding upto
upto_one w zero h = absurd (omega arith)
upto_one w (suc n) h = by (upto_one w n) (n == w) refl where
  by : (w < n → upto (λ v. one_if (v == w)) n ≡ 1) → (b : Bool) → (n == w) ≡ b → upto (λ v. one_if (v == w)) n + one_if (n == w) ≡ 1
  by rest true e =
      let same : n ≡ w = grind (arith, nat_tests) in
      let here : one_if (n == w) ≡ 1 = ap one_if e in
      omega (arith, upto_past w n (omega arith), here)
  by rest false e =
      let other : n ≡ w → ⊥ = grind (arith, nat_tests) in
      let here : one_if (n == w) ≡ 0 = ap one_if e in
      omega (arith, rest (omega arith), here)

leaf_sum : (t : Shape) (n : ℕ) → ((v : ℕ) → has t v ≡ true → v < n) → upto (scans t) n ≡ length (leaves t)
leaf_sum (one tests) n h = upto_none n
leaf_sum (scan w how tests) n h = upto_one w n (h w (let k : (w == w) ≡ true = grind (arith, nat_tests) in k))
leaf_sum (join m a b keys tests) n h =
    upto_plus (scans b) (scans a) n
    ∙ (λ i. leaf_sum b n (λ v k. h v (right_more (has a v) (has b v) k)) i + leaf_sum a n (λ v k. h v (left_more (has a v) (has b v) k)) i)
    ∙ sym (length-append (leaves b) (leaves a))

-- the nodes below the root are no empty rows
node_count : (cs : List Expression) (t : Shape) → IsPlaced cs false t → fragment_count t + 1 ≤ 2 * length (leaves t)
node_count cs (one tests) h = elim h [ ]
node_count cs (scan v how tests) h = lit≤ tt
node_count cs (join m a b keys tests) h = by (node_count cs a h.0) (node_count cs b h.1) m where
  by : fragment_count a + 1 ≤ 2 * length (leaves a) → fragment_count b + 1 ≤ 2 * length (leaves b) → (m : Method) → fragment_count (join m a b keys tests) + 1 ≤ 2 * length (leaves b ++ leaves a)
  by x y Hash = (let l = length-append (leaves b) (leaves a) in omega (arith, x, y, l))
  by x y Merge = (let l = length-append (leaves b) (leaves a) in omega (arith, x, y, l))

root_count : (cs : List Expression) (t : Shape) (n : ℕ) → n ≤ 6 → length (leaves t) ≤ n → IsPlaced cs true t → fragment_count t ≤ 11
root_count cs (one tests) n few less h = lit≤ tt
root_count cs (scan v how tests) n few less h = lit≤ tt
root_count cs (join m a b keys tests) n few less h = by m where
  by : (m : Method) → fragment_count (join m a b keys tests) ≤ 11
  by Hash = (let x = node_count cs a h.0 in let y = node_count cs b h.1 in let l = length-append (leaves b) (leaves a) in omega (arith, x, y, l, few, less))
  by Merge = (let x = node_count cs a h.0 in let y = node_count cs b h.1 in let l = length-append (leaves b) (leaves a) in omega (arith, x, y, l, few, less))

small : (b : Bool) → one_if b ≤ 1
small true = lit≤ tt
small false = lit≤ tt

module _ (q : Question) (m : Method) (t : Shape) (tree : IsTree q m t) where
  -- its scans are of variables of the query
  pub has_below : (v : ℕ) → has t v ≡ true → v < length q.vars
  has_below v h = by (nat_lt v (length q.vars)) refl where
    by : (b : Bool) → nat_lt v (length q.vars) ≡ b → v < length q.vars
    by true e = grind (arith, nat_tests)
    by false e = absurd (let some = scans_some t v h in let none : scans t v ≡ 0 = tree.once v ∙ ap one_if e in omega (arith, some, none))

  pub tree_count : length q.vars ≤ 6 → fragment_count t ≤ 11
  tree_count few = root_count _ t (length q.vars) few
      (let sum = leaf_sum t (length q.vars) has_below in let most = upto_most (scans t) (length q.vars) (λ v. let e = tree.once v in let s = small (nat_lt v (length q.vars)) in omega (arith, e, s)) in omega (arith, sum, most))
      tree.placed
