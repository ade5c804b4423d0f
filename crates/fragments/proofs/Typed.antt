-- The tests and keys of a tree have the types that its query gives them.
use Rattle.std.proofs.Common.{◌≡◌, ℕ, zero, suc, Bool, true, false, cond, ◌&&◌, ◌||◌, List, [], ◌∷◌, length, map, Option, Some, None, is_some, refl, sym, ap, ◌∙◌, subst, slice_get, arith}
use Rattle.std.specs.Prelude.{IsTrue, IsSome, ◌<◌, unwrap_or, option_and_then}
use Rattle.std.specs.List.{filter, AllByRecursion}
use Rattle.rows.specs.declared.field.ColType.{ColType}
use Rattle.rows.specs.declared.field.ColType.TheVariants as col
use Rattle.rows.specs.declared.plain.ColumnRef.{ColumnRef}
use Rattle.rows.specs.declared.plain.KeyPair.{KeyPair}
use Rattle.rows.specs.declared.plain.LayoutColumn.{LayoutColumn}
use Rattle.rows.specs.declared.plain.LayoutPart.{LayoutPart}
use Rattle.rows.specs.Layouts.{all_columns, column_place, column_type}
use Rattle.rel_meaning.specs.Expression as ex
use Rattle.rel_meaning.specs.Expression.{Expression, Output}
use Rattle.rel_meaning.specs.declared.expr.CompareOp.TheVariants as op
use Rattle.rel_meaning.specs.Typing.{type_of, compare_type, is_truth, same_type, truth_type}
use Rattle.plan_tree.specs.Conjuncts.{is_within}
use Rattle.plan_tree.specs.Keys.{Equality, column_ref, equality_of, key_of, keys_of, pair_if, pair_of, two_columns, with_key}
use Rattle.plan_tree.specs.Trees.{Shape, has}
use Rattle.plan_tree.specs.WellFormed.{AreTests, AreTargets, IsBelow, IsColumn, IsPair, sort_key, target_types, type_at}
use Rattle.plan_tree.proofs.Agreement.{first_of_both, second_of_both}
use Rattle.plan_tree.proofs.Typing.{type_is, part_type, type_agrees, typed_within}
use Rattle.plan_tree.proofs.TreeRows.{Once, laid, part_when}
use Rattle.fragments.specs.Cuts.{Facts, columns_for, tree_layout}

-- ---- what a key pair's columns are

same_turned : (a b : ColType) → same_type a b ≡ same_type b a
same_turned col.Int4 col.Int4 = refl
same_turned col.Int4 col.Text = refl
same_turned col.Int4 col.Bool = refl
same_turned col.Text col.Int4 = refl
same_turned col.Text col.Text = refl
same_turned col.Text col.Bool = refl
same_turned col.Bool col.Int4 = refl
same_turned col.Bool col.Text = refl
same_turned col.Bool col.Bool = refl

compare_turned : (o p : Option LayoutColumn) → compare_type o p ≡ compare_type p o
compare_turned None None = refl
compare_turned None (Some b) = refl
compare_turned (Some a) None = refl
compare_turned (Some a) (Some b) = ap (λ t. cond t (Some truth_type) None) (same_turned a.col_type b.col_type)

column_is : (t : Expression) (c : ColumnRef) → column_ref t ≡ Some c → t ≡ ex.column c.var c.col
column_is (ex.column var col) c h = let k : record { var = var; col = col } ≡ c = cc in ap (λ r. ex.column r.var r.col) k
column_is other c h = cc

abbrev equality : Equality → Expression
equality q = ex.compare op.Equal (ex.column q.left.var q.left.col) (ex.column q.right.var q.right.col)

columns_are : (s t : Expression) (q : Equality) → two_columns (column_ref s) (column_ref t) ≡ Some q → ex.compare op.Equal s t ≡ equality q
columns_are s t q h = by (column_ref s) (column_ref t) refl refl h where
  by : (c d : Option ColumnRef) → column_ref s ≡ c → column_ref t ≡ d → two_columns c d ≡ Some q → ex.compare op.Equal s t ≡ equality q
  by None d i j k = cc
  by (Some c) None i j k = cc
  by (Some c) (Some d) i j k =
      let l : record { left = c; right = d } ≡ q = cc in
      (λ n. ex.compare op.Equal (column_is s c i n) (column_is t d j n)) ∙ ap equality l

equality_is : (t : Expression) (q : Equality) → equality_of t ≡ Some q → t ≡ equality q
equality_is (ex.compare op.Equal s t) q h = columns_are s t q h
equality_is (ex.compare op.NotEqual s t) q h = cc
equality_is (ex.compare op.Less s t) q h = cc
equality_is (ex.compare op.AtMost s t) q h = cc
equality_is (ex.compare op.More s t) q h = cc
equality_is (ex.compare op.AtLeast s t) q h = cc
equality_is other q h = cc

module _ (f : ℕ → ℕ → Option LayoutColumn) (first second : ℕ → Bool) where
  pub record IsTypedPair (key : KeyPair) : Type 0 where
    pub build_in : first key.build.var ≡ true
    pub probe_in : second key.probe.var ≡ true
    pub typed : is_truth (compare_type (f key.build.var key.build.col) (f key.probe.var key.probe.col)) ≡ true

  pair_typed : (q : Equality) (key : KeyPair) → pair_of first second q.left q.right ≡ Some key → is_truth (type_of (equality q) f) ≡ true → IsTypedPair key
  pair_typed q key h typed = by (first q.left.var && second q.right.var) (first q.right.var && second q.left.var) refl refl h where
    by : (a b : Bool) → (first q.left.var && second q.right.var) ≡ a → (first q.right.var && second q.left.var) ≡ b →
        cond a (Some (record { build = q.left; probe = q.right })) (cond b (Some (record { build = q.right; probe = q.left })) None) ≡ Some key → IsTypedPair key
    by true b i j k =
        let l : record { build = q.left; probe = q.right } ≡ key = cc in
        subst IsTypedPair l (record {
          build_in = first_of_both (first q.left.var) (second q.right.var) i;
          probe_in = second_of_both (first q.left.var) (second q.right.var) i;
          typed = typed;
        })
    by false true i j k =
        let l : record { build = q.right; probe = q.left } ≡ key = cc in
        subst IsTypedPair l (record {
          build_in = first_of_both (first q.right.var) (second q.left.var) j;
          probe_in = second_of_both (first q.right.var) (second q.left.var) j;
          typed = ap is_truth (compare_turned (f q.right.var q.right.col) (f q.left.var q.left.col)) ∙ typed;
        })
    by false false i j k = cc

  key_typed : (c : Expression) (key : KeyPair) → key_of first second c ≡ Some key → is_truth (type_of c f) ≡ true → IsTypedPair key
  key_typed c key h typed = by (equality_of c) refl h where
    by : (o : Option Equality) → equality_of c ≡ o → pair_if first second o ≡ Some key → IsTypedPair key
    by None i k = cc
    by (Some q) i k = pair_typed q key k (sym (ap (λ t. is_truth (type_of t f)) (equality_is c q i)) ∙ typed)

  pub keys_typed : (cs : List Expression) → AllByRecursion (λ c. is_truth (type_of c f) ≡ true) cs → AllByRecursion IsTypedPair (keys_of first second cs)
  keys_typed [] all = tt
  keys_typed (c ∷ cs) all = by (keys_typed cs all.1) (key_of first second c) refl where
    by : AllByRecursion IsTypedPair (keys_of first second cs) → (o : Option KeyPair) → key_of first second c ≡ o → AllByRecursion IsTypedPair (with_key o (keys_of first second cs))
    by rest None h = rest
    by rest (Some key) h = (key_typed c key h all.0, rest)

-- ---- columns that a pair has

some_of : (o p : Option LayoutColumn) → IsTrue (is_truth (compare_type o p)) → IsSome o × IsSome p
some_of None p h = cc
some_of (Some a) None h = cc
some_of (Some a) (Some b) h = (refl, refl)

pub build_columns : (first second : List LayoutPart) (keys : List KeyPair) → AllByRecursion (IsPair first second) keys → AllByRecursion (IsColumn first) (map (λ key. key.build) keys)
build_columns first second [] all = tt
build_columns first second (key ∷ keys) all = ((some_of (column_type first key.build.var key.build.col) (column_type second key.probe.var key.probe.col) all.0).0, build_columns first second keys all.1)

pub probe_columns : (first second : List LayoutPart) (keys : List KeyPair) → AllByRecursion (IsPair first second) keys → AllByRecursion (IsColumn second) (map (λ key. key.probe) keys)
probe_columns first second [] all = tt
probe_columns first second (key ∷ keys) all = ((some_of (column_type first key.build.var key.build.col) (column_type second key.probe.var key.probe.col) all.0).1, probe_columns first second keys all.1)

is_within_list : (xs : List LayoutColumn) (i : ℕ) → IsSome (slice_get xs i) → i < length xs
is_within_list [] i h = cc
is_within_list (x ∷ xs) zero h = omega arith
is_within_list (x ∷ xs) (suc i) h = let k = is_within_list xs i h in omega (arith, k)

sort_below : (layout : List LayoutPart) (c : ColumnRef) → IsColumn layout c → IsBelow (length (all_columns layout)) (sort_key layout c)
sort_below layout c h = by (column_place layout c.var c.col) h where
  by : (o : Option ℕ) → IsSome (option_and_then (λ place. slice_get (all_columns layout) place) o) → unwrap_or o 0 < length (all_columns layout)
  by None h = cc
  by (Some place) h = is_within_list (all_columns layout) place h

pub sorts_below : (layout : List LayoutPart) (cs : List ColumnRef) → AllByRecursion (IsColumn layout) cs → AllByRecursion (IsBelow (length (all_columns layout))) (map (sort_key layout) cs)
sorts_below layout [] all = tt
sorts_below layout (c ∷ cs) all = (sort_below layout c all.0, sorts_below layout cs all.1)

-- ---- the layouts of trees

module _ (facts : Facts) (f : ℕ → ℕ → Option LayoutColumn) where
  -- a tree over variables whose columns have the types that f gives
  abbrev pub Columned : Shape → Type 0
  Columned t = (v : ℕ) → has t v ≡ true → (column : ℕ) → f v column ≡ slice_get (columns_for facts v) column

  pub tree_type : (t : Shape) → Once t → Columned t → (v : ℕ) → has t v ≡ true → (column : ℕ) → f v column ≡ column_type (tree_layout facts t) v column
  tree_type t once columned v h column =
      columned v h column ∙ sym (type_is (tree_layout facts t) v column ∙ ap (λ o. part_type o column) ((laid (columns_for facts) t once).parts v ∙ ap (λ b. part_when b (columns_for facts v)) h))

  pub kept_typed : (t : Shape) → Once t → Columned t → (p : Expression → Bool) → ((c : Expression) → p c ≡ true → is_within (has t) c ≡ true) → (cs : List Expression) →
      AllByRecursion (λ c. is_truth (type_of c f) ≡ true) cs → AreTests (tree_layout facts t) (filter p cs)
  kept_typed t once columned p within [] all = tt
  kept_typed t once columned p within (c ∷ cs) all = by (kept_typed t once columned p within cs all.1) (p c) refl where
    by : AreTests (tree_layout facts t) (filter p cs) → (b : Bool) → p c ≡ b → AreTests (tree_layout facts t) (cond b (c ∷ filter p cs) (filter p cs))
    by rest true h = (ap is_truth (sym (type_agrees (has t) f (column_type (tree_layout facts t)) (λ v k column. tree_type t once columned v k column) c (within c h))) ∙ all.0, rest)
    by rest false h = rest

  pub pairs_typed : (a b : Shape) → Once a → Once b → Columned a → Columned b → (keys : List KeyPair) → AllByRecursion (IsTypedPair f (has a) (has b)) keys → AllByRecursion (IsPair (tree_layout facts a) (tree_layout facts b)) keys
  pairs_typed a b oa ob ca cb [] all = tt
  pairs_typed a b oa ob ca cb (key ∷ keys) all = (
    (λ i. is_truth (compare_type (sym (tree_type a oa ca key.build.var all.0.build_in key.build.col) i) (sym (tree_type b ob cb key.probe.var all.0.probe_in key.probe.col) i))) ∙ all.0.typed,
    pairs_typed a b oa ob ca cb keys all.1,
  )

  -- targets of the tree's variables
  pub targets_typed : (t : Shape) → Once t → Columned t → ((v column : ℕ) → is_some (f v column) ≡ true → has t v ≡ true) → (targets : List Output) → AllByRecursion (λ (target : Output). IsSome (type_of target.expr f)) targets → AreTargets (tree_layout facts t) targets
  targets_typed t once columned known [] all = tt
  targets_typed t once columned known (target ∷ targets) all = (
    subst (λ o. IsSome o) (type_agrees (has t) f (column_type (tree_layout facts t)) (λ v k column. tree_type t once columned v k column) target.expr (typed_within (has t) f known target.expr (some_is (type_of target.expr f) all.0))) all.0,
    targets_typed t once columned known targets all.1,
  )
    where
      some_is : (o : Option LayoutColumn) → IsSome o → is_some o ≡ true
      some_is o h = h
