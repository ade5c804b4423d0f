-- The bounds of a query's conjuncts are set by the tests of the scan.
use Rattle.std.proofs.Common.{◌≡◌, ℕ, Bool, true, false, ◌&&◌, cond, ◌==◌, List, [], ◌∷◌, Option, Some, None, refl, sym, ap, subst, eq-eqb, eqb-true, option_and_then, option_map, inl, inr, ◌⊎◌}
use Rattle.std.specs.List.{AllByRecursion, cons_option}
use Rattle.std.specs.Option.{option_or}
use Rattle.std.specs.Ordering.{ordering_reverse}
use Rattle.std.specs.declared.cmp.Ordering.{Ordering}
use Rattle.std.specs.declared.cmp.Ordering.TheVariants.{Less, Equal, Greater}
use Rattle.rows.specs.Values.{value_cmp}
use Rattle.rows.proofs.Orders.{value_total}
use Rattle.rows.specs.declared.value.Value.{Value}
use Rattle.rows.specs.declared.value.Value.TheVariants as value
use Rattle.rows.specs.declared.plain.Bound.{Bound}
use Rattle.rows.specs.declared.plain.BoundOp.{BoundOp}
use Rattle.rows.specs.declared.plain.BoundOp.TheVariants as bound
use Rattle.rows.specs.declared.plain.ColumnRef.{ColumnRef}
use Rattle.rel_meaning.specs.Expression as ex
use Rattle.rel_meaning.specs.Expression.{Expression}
use Rattle.rel_meaning.specs.declared.expr.CompareOp.{CompareOp}
use Rattle.rel_meaning.specs.declared.expr.CompareOp.TheVariants as op
use Rattle.rel_meaning.specs.Eval.{compare_values, eval, holds}
use Rattle.rel_meaning.specs.Meaning.{is_true}
use Rattle.plan_tree.specs.Assignments.{Assignment}
use Rattle.plan_tree.specs.Conjuncts.{all_met, is_met, is_within}
use Rattle.plan_tree.specs.Intervals.{Sets, compare_op, is_within_bound}
use Rattle.plan_tree.specs.Keys.{column_ref}
use Rattle.plan_tree.specs.Trees.{is_scan_test, scan_tests}
use Rattle.seq_optimizer.specs.Bounds.{Comparison, bound_by, bound_if, bound_of, bound_op, bounds_of, compared, constant_value, is_constant, is_number, turned}

-- ---- what a comparison says

column_is : (t : Expression) (c : ColumnRef) → column_ref t ≡ Some c → t ≡ ex.column c.var c.col
column_is (ex.column var col) c h = let k : record { var = var; col = col } ≡ c = cc in ap (λ r. ex.column r.var r.col) k
column_is other c h = cc

-- a constant names no variable, and has its value whatever the variables have
number_within : (e : Expression) (vars : ℕ → Bool) → is_number e ≡ true → is_within vars e ≡ true
number_within (ex.number n) vars h = refl
number_within other vars h = cc

constant_within : (e : Expression) (vars : ℕ → Bool) → is_constant e ≡ true → is_within vars e ≡ true
constant_within (ex.number n) vars h = refl
constant_within (ex.word w) vars h = refl
constant_within (ex.truth b) vars h = refl
constant_within (ex.negate e) vars h = number_within e vars h
constant_within other vars h = cc

signed_evaluates : (e : Expression) (row : Assignment) → is_number e ≡ true → eval (ex.negate e) row ≡ constant_value (ex.negate e)
signed_evaluates (ex.number n) row h = refl
signed_evaluates other row h = cc

evaluates : (e : Expression) (row : Assignment) → is_constant e ≡ true → eval e row ≡ constant_value e
evaluates (ex.number n) row h = refl
evaluates (ex.word w) row h = refl
evaluates (ex.truth b) row h = refl
evaluates (ex.negate e) row h = signed_evaluates e row h
evaluates other row h = cc

-- an operator that is turned round says the same of two values that change places
turned_holds : (o : CompareOp) (r s : Ordering) → s ≡ ordering_reverse r → holds (turned o) s ≡ holds o r
turned_holds op.Equal Less s e = ap (holds op.Equal) e
turned_holds op.Equal Equal s e = ap (holds op.Equal) e
turned_holds op.Equal Greater s e = ap (holds op.Equal) e
turned_holds op.NotEqual Less s e = ap (holds op.NotEqual) e
turned_holds op.NotEqual Equal s e = ap (holds op.NotEqual) e
turned_holds op.NotEqual Greater s e = ap (holds op.NotEqual) e
turned_holds op.Less Less s e = ap (holds op.More) e
turned_holds op.Less Equal s e = ap (holds op.More) e
turned_holds op.Less Greater s e = ap (holds op.More) e
turned_holds op.AtMost Less s e = ap (holds op.AtLeast) e
turned_holds op.AtMost Equal s e = ap (holds op.AtLeast) e
turned_holds op.AtMost Greater s e = ap (holds op.AtLeast) e
turned_holds op.More Less s e = ap (holds op.Less) e
turned_holds op.More Equal s e = ap (holds op.Less) e
turned_holds op.More Greater s e = ap (holds op.Less) e
turned_holds op.AtLeast Less s e = ap (holds op.AtMost) e
turned_holds op.AtLeast Equal s e = ap (holds op.AtMost) e
turned_holds op.AtLeast Greater s e = ap (holds op.AtMost) e

turned_there : (o : CompareOp) (a b : Value) → value.Truth (holds (turned o) (value_cmp b a)) ≡ value.Truth (holds o (value_cmp a b))
turned_there o a b = ap value.Truth (turned_holds o (value_cmp a b) (value_cmp b a) (value_total.antisymm b a))

turned_values : (o : CompareOp) (a b : Value) → compare_values (turned o) b a ≡ compare_values o a b
turned_values o value.Null value.Null = refl
turned_values o value.Null (value.Number n) = refl
turned_values o value.Null (value.Word n) = refl
turned_values o value.Null (value.Truth n) = refl
turned_values o (value.Number n) value.Null = refl
turned_values o (value.Word n) value.Null = refl
turned_values o (value.Truth n) value.Null = refl
turned_values o (value.Number n) (value.Number m) = turned_there o (value.Number n) (value.Number m)
turned_values o (value.Number n) (value.Word m) = turned_there o (value.Number n) (value.Word m)
turned_values o (value.Number n) (value.Truth m) = turned_there o (value.Number n) (value.Truth m)
turned_values o (value.Word n) (value.Number m) = turned_there o (value.Word n) (value.Number m)
turned_values o (value.Word n) (value.Word m) = turned_there o (value.Word n) (value.Word m)
turned_values o (value.Word n) (value.Truth m) = turned_there o (value.Word n) (value.Truth m)
turned_values o (value.Truth n) (value.Number m) = turned_there o (value.Truth n) (value.Number m)
turned_values o (value.Truth n) (value.Word m) = turned_there o (value.Truth n) (value.Word m)
turned_values o (value.Truth n) (value.Truth m) = turned_there o (value.Truth n) (value.Truth m)

same_op : (o : CompareOp) (b : BoundOp) → bound_op o ≡ Some b → compare_op b ≡ o
same_op op.Equal b h = let e : bound.Equal ≡ b = cc in sym (ap compare_op e)
same_op op.NotEqual b h = cc
same_op op.Less b h = let e : bound.Less ≡ b = cc in sym (ap compare_op e)
same_op op.AtMost b h = let e : bound.AtMost ≡ b = cc in sym (ap compare_op e)
same_op op.More b h = let e : bound.More ≡ b = cc in sym (ap compare_op e)
same_op op.AtLeast b h = let e : bound.AtLeast ≡ b = cc in sym (ap compare_op e)

-- ---- the bound that a conjunct sets

-- the column on the one side, a constant on the other, and an operator that the bound has
record Says (o : CompareOp) (c : Option ColumnRef) (constant : Expression) (v k : ℕ) (b : Bound) : Type 0 where
  there : c ≡ Some (record { var = v; col = k })
  is : is_constant constant ≡ true
  op : bound_op o ≡ Some b.op
  value : b.value ≡ constant_value constant

module _ (v k : ℕ) where
  abbrev bounded : Option Comparison → Option Bound
  bounded c = option_and_then (bound_if v k) c

  by_op : (o : Option BoundOp) (e : Expression) (b : Bound) → option_map (bound_by e) o ≡ Some b → (o ≡ Some b.op) × (b.value ≡ constant_value e)
  by_op None e b h = cc
  by_op (Some o) e b h = let same : bound_by e o ≡ b = cc in (ap (λ (x : Bound). Some x.op) same, sym (ap (λ (x : Bound). x.value) same))

  says : (o : CompareOp) (c : Option ColumnRef) (e : Expression) (b : Bound) → bounded (compared o c e) ≡ Some b → Says o c e v k b
  says o None e b h = cc
  says o (Some c) e b h = by (is_constant e) refl h where
    parts : is_constant e ≡ true → (one : Bool) (two : Bool) → (c.var == v) ≡ one → (c.col == k) ≡ two → cond (one && two) (option_map (bound_by e) (bound_op o)) None ≡ Some b → Says o (Some c) e v k b
    parts i true true p q j =
        let f = by_op (bound_op o) e b j in
        let a : c.var ≡ v = eqb-true c.var v p in
        let d : c.col ≡ k = eqb-true c.col k q in
        record { there = (λ n. Some (record { var = a n; col = d n })); is = i; op = f.0; value = f.1 }
    parts i true false p q j = cc
    parts i false two p q j = cc

    by : (t : Bool) → is_constant e ≡ t → bounded (cond t (Some (record { column = c; op = o; constant = e })) None) ≡ Some b → Says o (Some c) e v k b
    by false i j = cc
    by true i j = parts i (c.var == v) (c.col == k) refl refl j

  either_says : (c d : Option Comparison) (b : Bound) → bounded (option_or c d) ≡ Some b → (bounded c ≡ Some b) ⊎ (bounded d ≡ Some b)
  either_says None d b h = inr h
  either_says (Some c) d b h = inl h

  -- the conjunct is a test of the variable's scan, and where it is true the bound holds
  record IsSet (c : Expression) (b : Bound) : Type 0 where
    alone : (root : Bool) → is_scan_test root (λ u. v == u) c ≡ true
    holds : (e : Assignment) → is_met e c ≡ true → is_within_bound b (e v k) ≡ true

  self : (v == v) ≡ true
  self = eq-eqb v v refl

  constant_right : (o : CompareOp) (e : Expression) (b : Bound) → Says o (Some (record { var = v; col = k })) e v k b → IsSet (ex.compare o (ex.column v k) e) b
  constant_right o e b s = record {
    alone = λ root. (let w = constant_within e (λ u. v == u) s.is in rw (self, w) refl);
    holds = λ row h.
        subst (λ x. is_true (compare_values (compare_op b.op) (row v k) x) ≡ true) (sym s.value)
        (subst (λ x. is_true (compare_values x (row v k) (constant_value e)) ≡ true) (sym (same_op o b.op s.op))
        (subst (λ x. is_true (compare_values o (row v k) x) ≡ true) (evaluates e row s.is) h));
  }

  constant_left : (o : CompareOp) (e : Expression) (b : Bound) → Says (turned o) (Some (record { var = v; col = k })) e v k b → IsSet (ex.compare o e (ex.column v k)) b
  constant_left o e b s = record {
    alone = λ root. (let w = constant_within e (λ u. v == u) s.is in rw (w, self, constant_within e (λ u. false) s.is) refl);
    holds = λ row h.
        subst (λ x. is_true (compare_values (compare_op b.op) (row v k) x) ≡ true) (sym s.value)
        (subst (λ x. is_true (compare_values x (row v k) (constant_value e)) ≡ true) (sym (same_op (turned o) b.op s.op))
        (subst (λ x. is_true x ≡ true) (sym (turned_values o (constant_value e) (row v k)))
        (subst (λ x. is_true (compare_values o x (row v k)) ≡ true) (evaluates e row s.is) h)));
  }

  compare_sets : (o : CompareOp) (left right : Expression) (b : Bound) → bound_of v k (ex.compare o left right) ≡ Some b → IsSet (ex.compare o left right) b
  compare_sets o left right b h = elim (either_says (compared o (column_ref left) right) (compared (turned o) (column_ref right) left) b h) [
    | inl x ↦ (
        let s = says o (column_ref left) right b x in
        subst (λ l. IsSet (ex.compare o l right) b) (sym (column_is left (record { var = v; col = k }) s.there)) (constant_right o right b (record { there = refl; is = s.is; op = s.op; value = s.value }))
        )
    | inr x ↦ (
        let s = says (turned o) (column_ref right) left b x in
        subst (λ r. IsSet (ex.compare o left r) b) (sym (column_is right (record { var = v; col = k }) s.there)) (constant_left o left b (record { there = refl; is = s.is; op = s.op; value = s.value }))
        )
  ]

  sets : (c : Expression) (b : Bound) → bound_of v k c ≡ Some b → IsSet c b
  sets (ex.compare o left right) b h = compare_sets o left right b h
  sets other b h = cc

  -- ---- all bounds

  both_true : (a b : Bool) → (a && b) ≡ true → (a ≡ true) × (b ≡ true)
  both_true true b h = (refl, h)
  both_true false b h = cc

  rest_met : (root : Bool) (c : Expression) (cs : List Expression) (e : Assignment) → all_met (scan_tests root (λ u. v == u) (c ∷ cs)) e ≡ true → all_met (scan_tests root (λ u. v == u) cs) e ≡ true
  rest_met root c cs e h = by (is_scan_test root (λ u. v == u) c) h where
    by : (t : Bool) → all_met (cond t (c ∷ scan_tests root (λ u. v == u) cs) (scan_tests root (λ u. v == u) cs)) e ≡ true → all_met (scan_tests root (λ u. v == u) cs) e ≡ true
    by true j = (both_true (is_met e c) (all_met (scan_tests root (λ u. v == u) cs) e) j).1
    by false j = j

  first_met : (root : Bool) (c : Expression) (cs : List Expression) (e : Assignment) → is_scan_test root (λ u. v == u) c ≡ true → all_met (scan_tests root (λ u. v == u) (c ∷ cs)) e ≡ true → is_met e c ≡ true
  first_met root c cs e i h =
      (both_true (is_met e c) (all_met (scan_tests root (λ u. v == u) cs) e) (subst (λ t. all_met (cond t (c ∷ scan_tests root (λ u. v == u) cs) (scan_tests root (λ u. v == u) cs)) e ≡ true) i h)).0

  all_set : (root : Bool) (tests cs : List Expression) → ((e : Assignment) → all_met tests e ≡ true → all_met (scan_tests root (λ u. v == u) cs) e ≡ true) → AllByRecursion (Sets tests v k) (bounds_of v k cs)
  all_set root tests [] h = tt
  all_set root tests (c ∷ cs) h = by (all_set root tests cs (λ e m. rest_met root c cs e (h e m))) (bound_of v k c) refl where
    by : AllByRecursion (Sets tests v k) (bounds_of v k cs) → (b : Option Bound) → bound_of v k c ≡ b → AllByRecursion (Sets tests v k) (cons_option b (bounds_of v k cs))
    by rest None i = rest
    by rest (Some b) i = let s = sets c b i in ((λ e m. s.holds e (first_met root c cs e (s.alone root) (h e m))), rest)

  -- the bounds are set by the tests of the variable's scan
  pub bounds_set : (root : Bool) (cs : List Expression) → AllByRecursion (Sets (scan_tests root (λ u. v == u) cs) v k) (bounds_of v k cs)
  bounds_set root cs = all_set root (scan_tests root (λ u. v == u) cs) cs (λ e m. m)
