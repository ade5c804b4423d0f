-- The tests and keys of a tree's nodes hold together where the conjuncts do.
use Rattle.std.proofs.Common.{◌≡◌, ℕ, Bool, true, false, ◌&&◌, ◌||◌, not, cond, ◌==◌, List, [], ◌∷◌, Option, Some, None, refl, sym, ap, ◌∙◌, subst}
use Rattle.std.specs.List.{filter, AllByRecursion}
use Rattle.std.specs.Ordering.{is_eq, ordering_reverse}
use Rattle.std.specs.declared.cmp.Ordering.{Ordering}
use Rattle.std.specs.declared.cmp.Ordering.TheVariants.{Less, Equal, Greater}
use Rattle.rows.specs.Values.{value_cmp, is_null}
use Rattle.rows.proofs.Orders.{value_total}
use Rattle.rows.specs.declared.value.Value.{Value}
use Rattle.rows.specs.declared.value.Value.TheVariants as value
use Rattle.rel_meaning.specs.Expression as ex
use Rattle.rel_meaning.specs.Expression.{Expression}
use Rattle.rel_meaning.specs.declared.expr.CompareOp.TheVariants as op
use Rattle.rel_meaning.specs.Eval.{compare_values}
use Rattle.rel_meaning.specs.Meaning.{is_true}
use Rattle.rows.specs.declared.plain.ColumnRef.{ColumnRef}
use Rattle.rows.specs.declared.plain.KeyPair.{KeyPair}
use Rattle.plan_tree.specs.Assignments.{Assignment}
use Rattle.plan_tree.specs.Conjuncts.{is_within, names_none, is_met, all_met}
use Rattle.plan_tree.specs.Keys.{Equality, column_ref, two_columns, equality_of, pair_of, pair_if, key_of, with_key, keys_of, no_key, is_key_met, all_keys_met}
use Rattle.rows.specs.Keys.{values_match}
use Rattle.plan_tree.specs.Trees.{Shape, one, scan, join, has, is_inside, is_join_test, IsPlaced}
use Rattle.plan_tree.proofs.Agreement.{first_of_both, second_of_both}

-- a conjunct that is `a = b` of two columns

column_is : (t : Expression) (c : ColumnRef) → column_ref t ≡ Some c → t ≡ ex.column c.var c.col
column_is (ex.column var col) c h = let k : record { var = var; col = col } ≡ c = cc in ap (λ r. ex.column r.var r.col) k
column_is (ex.number n) c h = cc
column_is (ex.word w) c h = cc
column_is (ex.truth b) c h = cc
column_is (ex.negate e) c h = cc
column_is (ex.opposite e) c h = cc
column_is (ex.arith o s t) c h = cc
column_is (ex.compare o s t) c h = cc
column_is (ex.both s t) c h = cc
column_is (ex.either s t) c h = cc
column_is (ex.is_null e n) c h = cc

abbrev equality : Equality → Expression
equality q = ex.compare op.Equal (ex.column q.left.var q.left.col) (ex.column q.right.var q.right.col)

columns_are : (s t : Expression) (q : Equality) → two_columns (column_ref s) (column_ref t) ≡ Some q → ex.compare op.Equal s t ≡ equality q
columns_are s t q h = by (column_ref s) (column_ref t) refl refl h where
  by : (c d : Option ColumnRef) → column_ref s ≡ c → column_ref t ≡ d → two_columns c d ≡ Some q → ex.compare op.Equal s t ≡ equality q
  by None d i j k = cc
  by (Some c) None i j k = cc
  by (Some c) (Some d) i j k =
      let l : record { left = c; right = d } ≡ q = cc in
      (λ n. ex.compare op.Equal (column_is s c i n) (column_is t d j n)) ∙ ap equality l

equality_is : (t : Expression) (q : Equality) → equality_of t ≡ Some q → t ≡ equality q
equality_is (ex.compare op.Equal s t) q h = columns_are s t q h
equality_is (ex.compare op.NotEqual s t) q h = cc
equality_is (ex.compare op.Less s t) q h = cc
equality_is (ex.compare op.AtMost s t) q h = cc
equality_is (ex.compare op.More s t) q h = cc
equality_is (ex.compare op.AtLeast s t) q h = cc
equality_is (ex.column var col) q h = cc
equality_is (ex.number n) q h = cc
equality_is (ex.word w) q h = cc
equality_is (ex.truth b) q h = cc
equality_is (ex.negate e) q h = cc
equality_is (ex.opposite e) q h = cc
equality_is (ex.arith o s t) q h = cc
equality_is (ex.both s t) q h = cc
equality_is (ex.either s t) q h = cc
equality_is (ex.is_null e n) q h = cc

match_is : (a b : Value) → is_true (compare_values op.Equal a b) ≡ values_match a b
match_is value.Null b = refl
match_is (value.Number n) value.Null = refl
match_is (value.Number n) (value.Number m) = refl
match_is (value.Number n) (value.Word m) = refl
match_is (value.Number n) (value.Truth m) = refl
match_is (value.Word n) value.Null = refl
match_is (value.Word n) (value.Number m) = refl
match_is (value.Word n) (value.Word m) = refl
match_is (value.Word n) (value.Truth m) = refl
match_is (value.Truth n) value.Null = refl
match_is (value.Truth n) (value.Number m) = refl
match_is (value.Truth n) (value.Word m) = refl
match_is (value.Truth n) (value.Truth m) = refl

match_turned : (a b : Value) → values_match a b ≡ values_match b a
match_turned a b = λ i. turned (not (is_null a)) (not (is_null b)) _ _ (same_eq (value_cmp a b) (value_cmp b a) (value_total.antisymm b a)) i where
  same_eq : (r s : Ordering) → s ≡ ordering_reverse r → is_eq r ≡ is_eq s
  same_eq Less s h = sym (ap is_eq h)
  same_eq Equal s h = sym (ap is_eq h)
  same_eq Greater s h = sym (ap is_eq h)

  turned : (a b c d : Bool) → c ≡ d → (a && b && c) ≡ (b && a && d)
  turned true true c d h = h
  turned true false c d h = refl
  turned false true c d h = refl
  turned false false c d h = refl

-- a test within some variables is within more

pub within_more : (p q : ℕ → Bool) → ((v : ℕ) → p v ≡ true → q v ≡ true) → (t : Expression) → is_within p t ≡ true → is_within q t ≡ true
within_more p q more (ex.number n) h = refl
within_more p q more (ex.word w) h = refl
within_more p q more (ex.truth b) h = refl
within_more p q more (ex.column var col) h = more var h
within_more p q more (ex.negate e) h = within_more p q more e h
within_more p q more (ex.opposite e) h = within_more p q more e h
within_more p q more (ex.arith o s t) h = λ i. within_more p q more s (first_of_both _ _ h) i && within_more p q more t (second_of_both (is_within p s) _ h) i
within_more p q more (ex.compare o s t) h = λ i. within_more p q more s (first_of_both _ _ h) i && within_more p q more t (second_of_both (is_within p s) _ h) i
within_more p q more (ex.both s t) h = λ i. within_more p q more s (first_of_both _ _ h) i && within_more p q more t (second_of_both (is_within p s) _ h) i
within_more p q more (ex.either s t) h = λ i. within_more p q more s (first_of_both _ _ h) i && within_more p q more t (second_of_both (is_within p s) _ h) i
within_more p q more (ex.is_null e n) h = within_more p q more e h

inside_more : (p q : ℕ → Bool) → ((v : ℕ) → p v ≡ true → q v ≡ true) → (t : Expression) → is_inside p t ≡ true → is_inside q t ≡ true
inside_more p q more t h = λ i. within_more p q more t (first_of_both _ _ h) i && second_of_both (is_within p t) _ h i

pub left_more : (a b : Bool) → a ≡ true → (a || b) ≡ true
left_more a b h = rw h refl

pub right_more : (a b : Bool) → b ≡ true → (a || b) ≡ true
right_more true b h = refl
right_more false b h = h

-- a key pair

module _ (first second : ℕ → Bool) (e : Assignment) where
  pub record IsKey (t : Expression) (key : KeyPair) : Type 0 where
    pub met : is_met e t ≡ is_key_met e key
    pub inside : is_inside (λ v. first v || second v) t ≡ true
    pub build_in : first key.build.var ≡ true
    pub probe_in : second key.probe.var ≡ true

  pair_is : (q : Equality) (key : KeyPair) → pair_of first second q.left q.right ≡ Some key → IsKey (equality q) key
  pair_is q key h = by (first q.left.var && second q.right.var) (first q.right.var && second q.left.var) refl refl h where
    by : (a b : Bool) → (first q.left.var && second q.right.var) ≡ a → (first q.right.var && second q.left.var) ≡ b →
        cond a (Some (record { build = q.left; probe = q.right })) (cond b (Some (record { build = q.right; probe = q.left })) None) ≡ Some key → IsKey (equality q) key
    by true b i j k =
        let l : record { build = q.left; probe = q.right } ≡ key = cc in
        subst (λ x. IsKey (equality q) x) l (record {
          met = match_is (e q.left.var q.left.col) (e q.right.var q.right.col);
          inside = rw (left_more (first q.left.var) (second q.left.var) (first_of_both (first q.left.var) (second q.right.var) i), right_more (first q.right.var) (second q.right.var) (second_of_both (first q.left.var) (second q.right.var) i)) refl;
          build_in = first_of_both (first q.left.var) (second q.right.var) i;
          probe_in = second_of_both (first q.left.var) (second q.right.var) i;
        })
    by false true i j k =
        let l : record { build = q.right; probe = q.left } ≡ key = cc in
        subst (λ x. IsKey (equality q) x) l (record {
          met = match_is (e q.left.var q.left.col) (e q.right.var q.right.col) ∙ match_turned (e q.left.var q.left.col) (e q.right.var q.right.col);
          inside = rw (right_more (first q.left.var) (second q.left.var) (second_of_both (first q.right.var) (second q.left.var) j), left_more (first q.right.var) (second q.right.var) (first_of_both (first q.right.var) (second q.left.var) j)) refl;
          build_in = first_of_both (first q.right.var) (second q.left.var) j;
          probe_in = second_of_both (first q.right.var) (second q.left.var) j;
        })
    by false false i j k = cc

  pub key_is : (t : Expression) (key : KeyPair) → key_of first second t ≡ Some key → IsKey t key
  key_is t key h = by (equality_of t) refl h where
    by : (o : Option Equality) → equality_of t ≡ o → pair_if first second o ≡ Some key → IsKey t key
    by None i k = cc
    by (Some q) i k = subst (λ x. IsKey x key) (sym (equality_is t q i)) (pair_is q key k)

-- truth tables

always : (b : Bool) → cond b true true ≡ true
always true = refl
always false = refl

table : (m inT inA inB nk rc : Bool) → (inA ≡ true → inT ≡ true) → (inB ≡ true → inT ≡ true) → (nk ≡ false → inT ≡ true) →
    (cond (inB || false) m true && (cond (inA || false) m true && ((nk || m) && cond ((inT && not inA && not inB && nk) || rc) m true))) ≡ cond (inT || rc) m true
table false false true inB nk rc f g h = cc (f refl)
table false false false true nk rc f g h = cc (g refl)
table false false false false false rc f g h = cc (h refl)
table false false false false true rc f g h = refl
table false true true true nk rc f g h = refl
table false true true false nk rc f g h = refl
table false true false true nk rc f g h = refl
table false true false false true rc f g h = refl
table false true false false false rc f g h = refl
table true inT true true true rc f g h = always _ ∙ sym (always _)
table true inT true true false rc f g h = always _ ∙ sym (always _)
table true inT true false true rc f g h = always _ ∙ sym (always _)
table true inT true false false rc f g h = always _ ∙ sym (always _)
table true inT false true true rc f g h = always _ ∙ sym (always _)
table true inT false true false rc f g h = always _ ∙ sym (always _)
table true inT false false true rc f g h = always _ ∙ sym (always _)
table true inT false false false rc f g h = always _ ∙ sym (always _)

two : (x xs y ys : Bool) → ((x && xs) && (y && ys)) ≡ ((x && y) && (xs && ys))
two true true y ys = refl
two true false true ys = refl
two true false false ys = refl
two false xs y ys = refl

four : (x xs y ys z zs w ws : Bool) → ((x && xs) && ((y && ys) && ((z && zs) && (w && ws)))) ≡ ((x && (y && (z && w))) && (xs && (ys && (zs && ws))))
four x xs y ys z zs w ws =
    ap (λ b. (x && xs) && ((y && ys) && b)) (two z zs w ws)
    ∙ ap (λ b. (x && xs) && b) (two y ys (z && w) (zs && ws))
    ∙ two x xs (y && (z && w)) (ys && (zs && ws))

-- the conjuncts that pass p are met
abbrev pub met_if : (Expression → Bool) → List Expression → Assignment → Bool
met_if p [] e = true
met_if p (c ∷ cs) e = cond (p c) (is_met e c) true && met_if p cs e

pub met_filter : (p : Expression → Bool) (cs : List Expression) (e : Assignment) → all_met (filter p cs) e ≡ met_if p cs e
met_filter p [] e = refl
met_filter p (c ∷ cs) e = elim (p c) as (λ b. all_met (cond b (c ∷ filter p cs) (filter p cs)) e ≡ (cond b (is_met e c) true && met_if p cs e)) [
  | true ↦ ap (λ b. is_met e c && b) (met_filter p cs e)
  | false ↦ met_filter p cs e
]

abbrev key_or_true : Assignment → Option KeyPair → Bool
key_or_true e None = true
key_or_true e (Some key) = is_key_met e key

keys_met-with : (e : Assignment) (o : Option KeyPair) (keys : List KeyPair) → all_keys_met (with_key o keys) e ≡ (key_or_true e o && all_keys_met keys e)
keys_met-with e None keys = refl
keys_met-with e (Some key) keys = refl

abbrev pub at_node : Bool → (ℕ → Bool) → Expression → Bool
at_node root vars c = is_inside vars c || (root && names_none c)

module _ (root : Bool) (first second : ℕ → Bool) (e : Assignment) where
  one_conjunct : (c : Expression) →
      (cond (at_node false second c) (is_met e c) true && (cond (at_node false first c) (is_met e c) true && (key_or_true e (key_of first second c) && cond (is_join_test root first second c) (is_met e c) true)))
      ≡ cond (at_node root (λ v. first v || second v) c) (is_met e c) true
  one_conjunct c =
      by (key_of first second c) refl
    where
      begin : is_inside first c ≡ true → is_inside (λ v. first v || second v) c ≡ true
      begin = inside_more first (λ v. first v || second v) (λ v h. left_more (first v) (second v) h) c

      end : is_inside second c ≡ true → is_inside (λ v. first v || second v) c ≡ true
      end = inside_more second (λ v. first v || second v) (λ v h. right_more (first v) (second v) h) c

      by : (o : Option KeyPair) → key_of first second c ≡ o →
          (cond (at_node false second c) (is_met e c) true && (cond (at_node false first c) (is_met e c) true && (key_or_true e o && cond ((is_inside (λ v. first v || second v) c && not (is_inside first c) && not (is_inside second c) && no_key o) || (root && names_none c)) (is_met e c) true)))
          ≡ cond (at_node root (λ v. first v || second v) c) (is_met e c) true
      by None k = table (is_met e c) (is_inside (λ v. first v || second v) c) (is_inside first c) (is_inside second c) true (root && names_none c) begin end (λ h. cc)
      by (Some key) k =
          let is = key_is first second e c key k in
          ap (λ b. cond (at_node false second c) (is_met e c) true && (cond (at_node false first c) (is_met e c) true && (b && cond ((is_inside (λ v. first v || second v) c && not (is_inside first c) && not (is_inside second c) && false) || (root && names_none c)) (is_met e c) true))) (sym is.met)
          ∙ table (is_met e c) (is_inside (λ v. first v || second v) c) (is_inside first c) (is_inside second c) false (root && names_none c) begin end (λ h. is.inside)

  all_conjuncts : (cs : List Expression) →
      (met_if (at_node false second) cs e && (met_if (at_node false first) cs e && (all_keys_met (keys_of first second cs) e && met_if (is_join_test root first second) cs e)))
      ≡ met_if (at_node root (λ v. first v || second v)) cs e
  all_conjuncts [] = refl
  all_conjuncts (c ∷ cs) =
      ap (λ b. met_if (at_node false second) (c ∷ cs) e && (met_if (at_node false first) (c ∷ cs) e && (b && met_if (is_join_test root first second) (c ∷ cs) e))) (keys_met-with e (key_of first second c) (keys_of first second cs))
      ∙ four _ (met_if (at_node false second) cs e) _ (met_if (at_node false first) cs e) (key_or_true e (key_of first second c)) (all_keys_met (keys_of first second cs) e) _ (met_if (is_join_test root first second) cs e)
      ∙ (λ i. one_conjunct c i && all_conjuncts cs i)

-- all tests and keys of a tree
abbrev pub holds : Shape → Assignment → Bool
holds (one tests) e = all_met tests e
holds (scan var way tests) e = all_met tests e
holds (join method a b keys tests) e = holds b e && (holds a e && (all_keys_met keys e && all_met tests e))

module _ (cs : List Expression) (e : Assignment) where
  placed_join : (root : Bool) (a b : Shape) (keys : List KeyPair) (tests : List Expression) →
      holds a e ≡ met_if (at_node false (has a)) cs e → holds b e ≡ met_if (at_node false (has b)) cs e →
      keys ≡ keys_of (has a) (has b) cs → tests ≡ filter (is_join_test root (has a) (has b)) cs →
      (holds b e && (holds a e && (all_keys_met keys e && all_met tests e))) ≡ met_if (at_node root (λ v. has a v || has b v)) cs e
  placed_join root a b keys tests first second k t =
      (λ i. second i && (first i && (all_keys_met (k i) e && (ap (λ ts. all_met ts e) t ∙ met_filter (is_join_test root (has a) (has b)) cs e) i)))
      ∙ all_conjuncts root (has a) (has b) e cs

  pub placed_node : (t : Shape) → IsPlaced cs false t → holds t e ≡ met_if (at_node false (has t)) cs e
  placed_node (one tests) p = elim p [ ]
  placed_node (scan var way tests) p = ap (λ ts. all_met ts e) p ∙ met_filter (at_node false (λ v. var == v)) cs e
  placed_node (join m a b keys tests) p = placed_join false a b keys tests (placed_node a p.0) (placed_node b p.1) p.2 p.3

  all_at : (vars : ℕ → Bool) (ts : List Expression) → AllByRecursion (λ t. is_within vars t ≡ true) ts → met_if (at_node true vars) ts e ≡ all_met ts e
  all_at vars [] all = refl
  all_at vars (t ∷ ts) all = (λ i. by (names_none t) i && all_at vars ts all.1 i) where
    by : (b : Bool) → cond ((is_within vars t && not b) || b) (is_met e t) true ≡ is_met e t
    by true = ap (λ w. cond ((w && false) || true) (is_met e t) true) all.0
    by false = ap (λ w. cond ((w && true) || false) (is_met e t) true) all.0

  -- the tests and keys of a query's tree hold where the conjuncts are met
  pub placed_met : (t : Shape) → IsPlaced cs true t → AllByRecursion (λ c. is_within (has t) c ≡ true) cs → holds t e ≡ all_met cs e
  placed_met (one tests) p all = ap (λ ts. all_met ts e) p
  placed_met (scan var way tests) p all = ap (λ ts. all_met ts e) p ∙ met_filter (at_node true (λ v. var == v)) cs e ∙ all_at (λ v. var == v) cs all
  placed_met (join m a b keys tests) p all = placed_join true a b keys tests (placed_node a p.0) (placed_node b p.1) p.2 p.3 ∙ all_at (λ v. has a v || has b v) cs all
