-- The rows of a tree of a query are the choices that its test keeps.
use Rattle.std.proofs.Common.{◌≡◌, ℕ, ◌+◌, ◌<◌, ◌≤◌, Bool, true, false, cond, not, ◌&&◌, ◌||◌, ◌==◌, nat_lt, List, [], ◌∷◌, ◌++◌, Option, Some, None, is_some, refl, sym, ap, ◌∙◌, subst, arith}
use Rattle.std.specs.List.{filter, AllByRecursion}
use Rattle.std.specs.Prelude.{⊤}
use Rattle.std.proofs.lemmas.Bool.Decides.{nat_tests}
use Rattle.std.specs.declared.cmp.Ordering.TheVariants.{Less, Equal, Greater}
use Rattle.std.specs.Ordering.{nat_cmp, is_eq}
use Rattle.lists.specs.Arranged.{one_if, occurrences}
use Rattle.rows.specs.declared.value.Value.{Value}
use Rattle.rows.specs.Values.{column_of}
use Rattle.rel_meaning.specs.Expression.{Expression}
use Rattle.rows.specs.declared.plain.LayoutColumn.{LayoutColumn}
use Rattle.rows.specs.Layouts.{FitsColumns, one_part}
use Rattle.rel_meaning.specs.Meaning.{is_true}
use Rattle.rows.specs.declared.plain.KeyPair.{KeyPair}
use Rattle.plan_tree.specs.declared.tree.Way.{Way}
use Rattle.plan_tree.specs.Assignments.{Assignment, blank, bind}
use Rattle.plan_tree.specs.Conjuncts.{is_within, names_none, is_met, all_met}
use Rattle.plan_tree.specs.declared.tree.Method.{Method}
use Rattle.plan_tree.specs.Keys.{key_of, keys_of, with_key, no_key}
use Rattle.plan_tree.specs.Trees.{Shape, one, scan, join, has, scans, is_inside, is_join_test, IsPlaced}
use Rattle.plan_tree.specs.Combining.{AreApart, IsOrdered, part_of, has_part}
use Rattle.plan_tree.specs.Rows.{kept, probed, layout_of_tree, tree_rows}
use Rattle.plan_tree.proofs.Sums.{Same}
use Rattle.plan_tree.proofs.Agreement.{Agree, eval_agrees, first_of_both, second_of_both}
use Rattle.plan_tree.proofs.Placement.{met_if, at_node, holds, placed_node, key_is, within_more, left_more, right_more}
use Rattle.plan_tree.proofs.Combined.{or_part, Distinct, part_of_merged, distinct_merged}
use Rattle.plan_tree.proofs.Ascending.{merged_ascends}
use Rattle.plan_tree.proofs.Elements.{all_append}
use Rattle.plan_tree.proofs.Joined.{Stands, KeysIn, stands_none, stands_scan, stands_join, stands_same}

-- the variables that a tree scans
abbrev pub leaves : Shape → List ℕ
leaves (one tests) = []
leaves (scan v way tests) = v ∷ []
leaves (join m a b keys tests) = leaves b ++ leaves a

abbrev pub Once : Shape → Type 0
Once t = (v : ℕ) → scans t v ≤ 1

pub eq_is : (v w : ℕ) → is_eq (nat_cmp v w) ≡ (v == w)
eq_is v w = by (nat_lt v w) (v == w) refl refl where
  by : (a b : Bool) → nat_lt v w ≡ a → (v == w) ≡ b → is_eq (cond a Less (cond b Equal Greater)) ≡ b
  by true true i j = let k : v < w = grind (arith, nat_tests) in let l : v ≡ w = grind (arith, nat_tests) in absurd (omega arith)
  by true false i j = refl
  by false true i j = refl
  by false false i j = refl

occurrences_append : (z : ℕ) (xs ys : List ℕ) → occurrences nat_cmp z (xs ++ ys) ≡ occurrences nat_cmp z xs + occurrences nat_cmp z ys
occurrences_append z [] ys = omega arith
occurrences_append z (x ∷ xs) ys = omega (arith, occurrences_append z xs ys)

pub leaves_count : (t : Shape) (v : ℕ) → occurrences nat_cmp v (leaves t) ≡ scans t v
leaves_count (one tests) v = refl
leaves_count (scan w way tests) v = ap (λ b. one_if b + 0) (eq_is v w) ∙ omega arith
leaves_count (join m a b keys tests) v = omega (arith, occurrences_append v (leaves b) (leaves a), leaves_count a v, leaves_count b v)

-- a variable is scanned where the tree has it
pub scans_some : (t : Shape) (v : ℕ) → has t v ≡ true → 0 < scans t v
scans_some (one tests) v h = cc
scans_some (scan w way tests) v h = let k : (v == w) ≡ true = grind (arith, nat_tests) in let l : one_if (v == w) ≡ 1 = ap one_if k in omega arith
scans_some (join m a b keys tests) v h = by (λ k. scans_some a v k) (λ k. scans_some b v k) (has a v) refl h where
  by : (has a v ≡ true → 0 < scans a v) → (has b v ≡ true → 0 < scans b v) → (c : Bool) → has a v ≡ c → (c || has b v) ≡ true → 0 < scans b v + scans a v
  by f g true i k = let l = f i in omega arith
  by f g false i k = let l = g k in omega arith

pub scans_none : (t : Shape) (v : ℕ) → has t v ≡ false → scans t v ≡ 0
scans_none (one tests) v h = refl
scans_none (scan w way tests) v h = let k : (v == w) ≡ false = grind (arith, nat_tests) in ap one_if k
scans_none (join m a b keys tests) v h = by (λ k. scans_none a v k) (λ k. scans_none b v k) (has a v) refl h where
  by : (has a v ≡ false → scans a v ≡ 0) → (has b v ≡ false → scans b v ≡ 0) → (c : Bool) → has a v ≡ c → (c || has b v) ≡ false → scans b v + scans a v ≡ 0
  by f g true i k = cc
  by f g false i k = let l = f i in let m = g k in omega arith

pub not_both : (m : Method) (a b : Shape) (keys : List KeyPair) (tests : List Expression) → Once (join m a b keys tests) → (v : ℕ) → has a v ≡ true → has b v ≡ false
not_both m a b keys tests once v h = by (has b v) refl where
  by : (c : Bool) → has b v ≡ c → c ≡ false
  by true k = absurd (let l = scans_some a v h in let n = scans_some b v k in let o = once v in omega arith)
  by false k = refl

-- every kept element has what the test shows
all_kept : {X : Type 0} (P : X → Type 0) (p : X → Bool) (xs : List X) → ((x : X) → p x ≡ true → P x) → AllByRecursion P (filter p xs)
all_kept P p [] h = tt
all_kept P p (x ∷ xs) h = by (all_kept P p xs h) (p x) refl where
  by : AllByRecursion P (filter p xs) → (b : Bool) → p x ≡ b → AllByRecursion P (cond b (x ∷ filter p xs) (filter p xs))
  by rest true k = (h x k, rest)
  by rest false k = rest

pub node_within : (root : Bool) (vars : ℕ → Bool) (c : Expression) → at_node root vars c ≡ true → is_within vars c ≡ true
node_within root vars c h = by (is_inside vars c) refl h where
  by : (b : Bool) → is_inside vars c ≡ b → (b || (root && names_none c)) ≡ true → is_within vars c ≡ true
  by true i k = first_of_both (is_within vars c) (not (names_none c)) i
  by false i k = within_more (λ v. false) vars (λ v l. cc) c (second_of_both root (names_none c) k)

pub join_within : (root : Bool) (first second : ℕ → Bool) (c : Expression) → is_join_test root first second c ≡ true → is_within (λ v. first v || second v) c ≡ true
join_within root first second c h = by (is_inside (λ v. first v || second v) c) refl h where
  by : (b : Bool) → is_inside (λ v. first v || second v) c ≡ b → ((b && not (is_inside first c) && not (is_inside second c) && no_key (key_of first second c)) || (root && names_none c)) ≡ true → is_within (λ v. first v || second v) c ≡ true
  by true i k = first_of_both (is_within (λ v. first v || second v) c) (not (names_none c)) i
  by false i k = within_more (λ v. false) (λ v. first v || second v) (λ v l. cc) c (second_of_both root (names_none c) k)

keys_within : (first second : ℕ → Bool) (cs : List Expression) → AllByRecursion (λ key. (first key.build.var ≡ true) × (second key.probe.var ≡ true)) (keys_of first second cs)
keys_within first second [] = tt
keys_within first second (c ∷ cs) = by (keys_within first second cs) (key_of first second c) refl where
  by : AllByRecursion (λ key. (first key.build.var ≡ true) × (second key.probe.var ≡ true)) (keys_of first second cs) → (o : Option KeyPair) → key_of first second c ≡ o →
      AllByRecursion (λ key. (first key.build.var ≡ true) × (second key.probe.var ≡ true)) (with_key o (keys_of first second cs))
  by rest None h = rest
  by rest (Some key) h = let k = key_is first second blank c key h in ((k.build_in, k.probe_in), rest)

-- the tests of a node are met alike where its variables have the same rows
met_if_agrees : (vars : ℕ → Bool) (cs : List Expression) (d e : Assignment) → Agree vars d e → met_if (at_node false vars) cs d ≡ met_if (at_node false vars) cs e
met_if_agrees vars [] d e agree = refl
met_if_agrees vars (c ∷ cs) d e agree = λ i. by (at_node false vars c) refl i && met_if_agrees vars cs d e agree i where
  by : (b : Bool) → at_node false vars c ≡ b → cond b (is_met d c) true ≡ cond b (is_met e c) true
  by true h = ap is_true (eval_agrees vars d e agree c (node_within false vars c h))
  by false h = refl

all_leaves : (P : ℕ → Type 0) (t : Shape) → ((v : ℕ) → has t v ≡ true → P v) → AllByRecursion P (leaves t)
all_leaves P (one tests) h = tt
all_leaves P (scan v w tests) h = (h v (let k : (v == v) ≡ true = grind (arith, nat_tests) in k), tt)
all_leaves P (join m a b keys tests) h = all_append P (leaves b) (leaves a) (all_leaves P b (λ v k. h v (right_more (has a v) (has b v) k))) (all_leaves P a (λ v k. h v (left_more (has a v) (has b v) k)))

pub once_right : (m : Method) (a b : Shape) (keys : List KeyPair) (tests : List Expression) → Once (join m a b keys tests) → Once b
once_right m a b keys tests once v = let h = once v in omega arith

pub once_left : (m : Method) (a b : Shape) (keys : List KeyPair) (tests : List Expression) → Once (join m a b keys tests) → Once a
once_left m a b keys tests once v = let h = once v in omega arith

abbrev pub part_when : Bool → List LayoutColumn → Option (List LayoutColumn)
part_when b columns = cond b (Some columns) None

some_when : (b : Bool) (columns : List LayoutColumn) → is_some (part_when b columns) ≡ b
some_when true columns = refl
some_when false columns = refl

module _ (columns : ℕ → List LayoutColumn) where
  -- the layout of a tree has the columns of its variables
  pub record Laid (t : Shape) : Type 0 where
    pub parts : (v : ℕ) → part_of (layout_of_tree columns t) v ≡ part_when (has t v) (columns v)
    pub distinct : Distinct (layout_of_tree columns t)
    pub ascends : IsOrdered (layout_of_tree columns t)

  pub has_is : (t : Shape) → Laid t → (v : ℕ) → has_part (layout_of_tree columns t) v ≡ has t v
  has_is t laid v = ap is_some (laid.parts v) ∙ some_when (has t v) (columns v)

  pub laid_apart : (a b : Shape) → ((v : ℕ) → has a v ≡ true → has b v ≡ false) → Laid a → Laid b → AreApart (layout_of_tree columns a) (layout_of_tree columns b)
  laid_apart a b other la lb v h = lb.parts v ∙ ap (λ c. part_when c (columns v)) (other v (sym (has_is a la v) ∙ h))

  laid_join : (m : Method) (a b : Shape) (keys : List KeyPair) (tests : List Expression) → ((v : ℕ) → has a v ≡ true → has b v ≡ false) → Laid a → Laid b → Laid (join m a b keys tests)
  laid_join m a b keys tests other la lb = record {
    parts = λ v. part_of_merged (layout_of_tree columns a) (layout_of_tree columns b) (laid_apart a b other la lb) la.distinct v
        ∙ (λ i. or_part (la.parts v i) (lb.parts v i)) ∙ by (has a v) (has b v) (columns v);
    distinct = distinct_merged (layout_of_tree columns a) (layout_of_tree columns b) (laid_apart a b other la lb) la.distinct lb.distinct;
    ascends = merged_ascends (layout_of_tree columns a) (layout_of_tree columns b) (laid_apart a b other la lb) la.distinct lb.ascends;
  }
    where
      by : (c d : Bool) (x : List LayoutColumn) → or_part (part_when c x) (part_when d x) ≡ part_when (c || d) x
      by true d x = refl
      by false d x = refl

  pub laid : (t : Shape) → Once t → Laid t
  laid (one tests) once = record { parts = λ v. refl; distinct = tt; ascends = tt }
  laid (scan w way tests) once = record { parts = λ v. by v (w == v) refl; distinct = (refl, tt); ascends = (tt, tt) } where
    by : (v : ℕ) (c : Bool) → (w == v) ≡ c → cond c (Some (columns w)) None ≡ part_when c (columns v)
    by v true h = let k : w ≡ v = grind (arith, nat_tests) in ap (λ x. Some (columns x)) k
    by v false h = refl
  laid (join m a b keys tests) once =
      laid_join m a b keys tests (not_both m a b keys tests once) (laid a (once_left m a b keys tests once)) (laid b (once_right m a b keys tests once))

  -- what holds within a tree's variables holds within its layout
  in_layout : (t : Shape) → Laid t → (tests : List Expression) → AllByRecursion (λ c. is_within (has t) c ≡ true) tests → AllByRecursion (λ c. is_within (has_part (layout_of_tree columns t)) c ≡ true) tests
  in_layout t laid tests all = subst (λ vars. AllByRecursion (λ c. is_within vars c ≡ true) tests) (λ i v. sym (has_is t laid v) i) all

  keys_in_layouts : (a b : Shape) → Laid a → Laid b → (keys : List KeyPair) → AllByRecursion (λ key. (has a key.build.var ≡ true) × (has b key.probe.var ≡ true)) keys → KeysIn (layout_of_tree columns a) (layout_of_tree columns b) keys
  keys_in_layouts a b la lb [] all = tt
  keys_in_layouts a b la lb (key ∷ keys) all = ((has_is a la key.build.var ∙ all.0.0, has_is b lb key.probe.var ∙ all.0.1), keys_in_layouts a b la lb keys all.1)

  module _ (rows : ℕ → List (List Value)) (fits : (v : ℕ) → AllByRecursion (FitsColumns (columns v)) (rows v)) (scanned : ℕ → Way → List (List Value)) where
    -- the rows that a scan reads are those of its variable, as far as its tests keep them
    abbrev pub Reads : Shape → Type 0
    Reads (one tests) = ⊤
    Reads (scan v way tests) = Same (kept (one_part v (columns v)) tests (scanned v way)) (kept (one_part v (columns v)) tests (rows v))
    Reads (join m a b keys tests) = Reads a × Reads b

    -- what a tree's nodes keep: tests and keys within their variables, and a probe side that doesn't read the build side
    abbrev pub Sound : Shape → Type 0
    Sound (one tests) = AllByRecursion (λ c. is_within (λ v. false) c ≡ true) tests
    Sound (scan v w tests) = AllByRecursion (λ c. is_within (λ x. v == x) c ≡ true) tests × Reads (scan v w tests)
    Sound (join m a b keys tests) = Sound a × Sound b × AllByRecursion (λ v. (d : Assignment) (row : List Value) → holds b (bind d v row) ≡ holds b d) (leaves a)
        × AllByRecursion (λ key. (has a key.build.var ≡ true) × (has b key.probe.var ≡ true)) keys × AllByRecursion (λ c. is_within (λ v. has a v || has b v) c ≡ true) tests

    -- a scan's list of variables that a test of others doesn't read
    free_of : (b : Shape) (cs : List Expression) → IsPlaced cs false b → (vs : List ℕ) → AllByRecursion (λ v. has b v ≡ false) vs → AllByRecursion (λ v. (d : Assignment) (row : List Value) → holds b (bind d v row) ≡ holds b d) vs
    free_of b cs placed [] all = tt
    free_of b cs placed (v ∷ vs) all = ((λ d row. placed_node cs (bind d v row) b placed ∙ met_if_agrees (has b) cs (bind d v row) d (same d row) ∙ sym (placed_node cs d b placed)), free_of b cs placed vs all.1) where
      same : (d : Assignment) (row : List Value) → Agree (has b) (bind d v row) d
      same d row var h column = here (v == var) refl where
        here : (c : Bool) → (v == var) ≡ c → cond c (column_of row column) (d var column) ≡ d var column
        here true k = let l : v ≡ var = grind (arith, nat_tests) in let n : has b var ≡ false = subst (λ x. has b x ≡ false) l all.0 in cc
        here false k = refl

    leaves_other : (a b : Shape) → ((v : ℕ) → has a v ≡ true → has b v ≡ false) → AllByRecursion (λ v. has b v ≡ false) (leaves a)
    leaves_other a b other = all_leaves (λ v. has b v ≡ false) a other

    tests_in : (root : Bool) (a b : Shape) (tests cs : List Expression) → tests ≡ filter (is_join_test root (has a) (has b)) cs → AllByRecursion (λ c. is_within (λ v. has a v || has b v) c ≡ true) tests
    tests_in root a b tests cs e = rw e (all_kept _ (is_join_test root (has a) (has b)) cs (join_within root (has a) (has b)))

    join_sound : (root : Bool) (m : Method) (a b : Shape) (keys : List KeyPair) (tests cs : List Expression) → Once (join m a b keys tests) → IsPlaced cs false b →
        keys ≡ keys_of (has a) (has b) cs → tests ≡ filter (is_join_test root (has a) (has b)) cs → Sound a → Sound b → Sound (join m a b keys tests)
    join_sound root m a b keys tests cs once placed k t sa sb =
        (sa, sb, free_of b cs placed (leaves a) (leaves_other a b (not_both m a b keys tests once)), rw k (keys_within (has a) (has b) cs), tests_in root a b tests cs t)

    node_sound : (cs : List Expression) (t : Shape) → Once t → IsPlaced cs false t → Reads t → Sound t
    node_sound cs (one tests) once placed reads = elim placed [ ]
    node_sound cs (scan v w tests) once placed reads = (rw placed (all_kept _ (at_node false (λ x. v == x)) cs (node_within false (λ x. v == x))), reads)
    node_sound cs (join m a b keys tests) once placed reads = join_sound false m a b keys tests cs once placed.1 placed.2 placed.3
        (node_sound cs a (once_left m a b keys tests once) placed.0 reads.0) (node_sound cs b (once_right m a b keys tests once) placed.1 reads.1)

    pub tree_sound : (cs : List Expression) (t : Shape) → Once t → IsPlaced cs true t → AllByRecursion (λ c. is_within (has t) c ≡ true) cs → Reads t → Sound t
    tree_sound cs (one tests) once placed within reads = rw placed within
    tree_sound cs (scan v w tests) once placed within reads = (rw placed (all_kept _ (at_node true (λ x. v == x)) cs (node_within true (λ x. v == x))), reads)
    tree_sound cs (join m a b keys tests) once placed within reads = join_sound true m a b keys tests cs once placed.1 placed.2 placed.3
        (node_sound cs a (once_left m a b keys tests once) placed.0 reads.0) (node_sound cs b (once_right m a b keys tests once) placed.1 reads.1)

    -- rows that stand for a tree
    abbrev pub StandFor : Shape → List (List Value) → Type 0
    StandFor t found = Stands rows (layout_of_tree columns t) found (leaves t) (holds t)

    pub one_stands : (tests : List Expression) → Sound (one tests) → StandFor (one tests) (kept [] tests ([] ∷ []))
    one_stands tests sound = stands_none rows tests sound

    pub scan_stands : (v : ℕ) (w : Way) (tests : List Expression) → Once (scan v w tests) → Sound (scan v w tests) → StandFor (scan v w tests) (kept (one_part v (columns v)) tests (scanned v w))
    scan_stands v w tests once sound =
        stands_same rows _ _ _ (v ∷ []) (all_met tests) sound.1 (stands_scan rows v (columns v) tests (fits v) (in_layout (scan v w tests) (laid (scan v w tests) once) tests sound.0))

    pub join_stands : (m : Method) (a b : Shape) (keys : List KeyPair) (tests : List Expression) → Once (join m a b keys tests) → Sound (join m a b keys tests) →
        (xs ys : List (List Value)) → StandFor a xs → StandFor b ys →
        StandFor (join m a b keys tests) (kept (layout_of_tree columns (join m a b keys tests)) tests (probed (layout_of_tree columns (join m a b keys tests)) (layout_of_tree columns a) (layout_of_tree columns b) keys xs ys))
    join_stands m a b keys tests once sound xs ys sa sb =
        let other = not_both m a b keys tests once in
        let la = laid a (once_left m a b keys tests once) in
        let lb = laid b (once_right m a b keys tests once) in
        let apart = laid_apart a b other la lb in
        stands_join rows (layout_of_tree columns (join m a b keys tests)) (layout_of_tree columns a) (layout_of_tree columns b)
        (part_of_merged (layout_of_tree columns a) (layout_of_tree columns b) apart la.distinct) apart
        keys (keys_in_layouts a b la lb keys sound.3)
        tests (in_layout (join m a b keys tests) (laid_join m a b keys tests other la lb) tests sound.4)
        xs ys (leaves a) (leaves b) (holds a) (holds b) sa sb sound.2

    -- the rows of a tree are the choices that its tests and keys keep
    pub tree_stands : (t : Shape) → Once t → Sound t → StandFor t (tree_rows columns scanned t)
    tree_stands (one tests) once sound = one_stands tests sound
    tree_stands (scan v w tests) once sound = scan_stands v w tests once sound
    tree_stands (join m a b keys tests) once sound = join_stands m a b keys tests once sound _ _
        (tree_stands a (once_left m a b keys tests once) sound.0) (tree_stands b (once_right m a b keys tests once) sound.1)
