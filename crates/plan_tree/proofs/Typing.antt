-- Rows, tests and keys are typed for the layouts of a tree's nodes.
use Rattle.std.proofs.Common.{◌≡◌, ℕ, ◌+◌, ◌<◌, ◌≤◌, suc, zero, Bool, true, false, cond, ◌&&◌, ◌==◌, nat_lt, List, [], ◌∷◌, ◌++◌, length, map, Option, Some, None, is_some, refl, sym, ap, ◌∙◌, subst, arith, slice_get}
use Rattle.std.specs.List.{filter, AllByRecursion}
use Rattle.std.specs.Option.{option_map, option_and_then}
use Rattle.std.proofs.lemmas.Bool.Decides.{nat_tests}
use Rattle.rows.specs.declared.value.Value.{Value}
use Rattle.rel_meaning.specs.Expression as ex
use Rattle.rel_meaning.specs.Expression.{Expression}
use Rattle.rows.specs.declared.plain.LayoutColumn.{LayoutColumn}
use Rattle.rows.specs.declared.plain.LayoutPart.{LayoutPart}
use Rattle.rel_meaning.specs.declared.expr.ArithOp.{ArithOp}
use Rattle.rows.specs.Layouts.{column_place, column_in, column_type, all_columns, FitsColumns, IsRowIn, HasType}
use Rattle.rel_meaning.specs.Typing.{type_of, integer_bound, negate_type, arith_type, compare_type, is_truth, truth_type}
use Rattle.rel_meaning.proofs.Typed.{column_typed}
use Rattle.rows.specs.declared.plain.KeyPair.{KeyPair}
use Rattle.plan_tree.specs.Assignments.{Assignment}
use Rattle.plan_tree.specs.Conjuncts.{is_within, operands, all_met}
use Rattle.plan_tree.specs.Combining.{part_of, values_of, row_in, over, combined}
use Rattle.plan_tree.specs.Rows.{kept, probed}
use Rattle.rows.specs.Keys.{keys_match}
use Rattle.plan_tree.proofs.Agreement.{first_of_both, second_of_both}
use Rattle.plan_tree.proofs.Combined.{or_part, Distinct}
use Rattle.plan_tree.proofs.Elements.{all_append, all_filter, all_flat, all_map}

abbrev pub part_type : Option (List LayoutColumn) → ℕ → Option LayoutColumn
part_type None column = None
part_type (Some columns) column = slice_get columns column

pub get_left : {X : Type 0} (xs ys : List X) (i : ℕ) → i < length xs → slice_get (xs ++ ys) i ≡ slice_get xs i
get_left [] ys i h = absurd (omega arith)
get_left (x ∷ xs) ys zero h = refl
get_left (x ∷ xs) ys (suc i) h = get_left xs ys i (omega arith)

pub get_right : {X : Type 0} (xs ys : List X) (i : ℕ) → slice_get (xs ++ ys) (length xs + i) ≡ slice_get ys i
get_right [] ys i = let k : 0 + i ≡ i = omega arith in rw k refl
get_right (x ∷ xs) ys i = let k : suc (length xs) + i ≡ suc (length xs + i) = omega arith in rw k (get_right xs ys i)

pub get_past : {X : Type 0} (xs : List X) (i : ℕ) → length xs ≤ i → slice_get xs i ≡ None
get_past [] i h = refl
get_past (x ∷ xs) zero h = absurd (omega arith)
get_past (x ∷ xs) (suc i) h = get_past xs i (omega arith)

-- the type of a column is that of its variable's part
pub type_is : (layout : List LayoutPart) (var column : ℕ) → column_type layout var column ≡ part_type (part_of layout var) column
type_is [] var column = refl
type_is (part ∷ parts) var column = by (type_is parts var column) (part.var == var) (nat_lt column (length part.columns)) refl where
  after : (o : Option ℕ) → option_and_then (λ p. slice_get (part.columns ++ all_columns parts) p) (option_map (λ p. length part.columns + p) o) ≡ option_and_then (λ p. slice_get (all_columns parts) p) o
  after None = refl
  after (Some p) = get_right part.columns (all_columns parts) p

  by : column_type parts var column ≡ part_type (part_of parts var) column → (b c : Bool) → nat_lt column (length part.columns) ≡ c →
      option_and_then (λ p. slice_get (part.columns ++ all_columns parts) p) (cond b (cond c (Some column) None) (option_map (λ p. length part.columns + p) (column_place parts var column)))
      ≡ part_type (cond b (Some part.columns) (part_of parts var)) column
  by rest true true h = get_left part.columns (all_columns parts) column (grind (arith, nat_tests))
  by rest true false h = sym (get_past part.columns column (grind (arith, nat_tests)))
  by rest false c h = after (column_place parts var column) ∙ rest

-- a row made of typed values is a row of the layout

abbrev pub IsTyped : List LayoutPart → Assignment → Type 0
IsTyped layout e = (var column : ℕ) (c : LayoutColumn) → part_type (part_of layout var) column ≡ Some c → HasType (e var column) c

pub row_is_typed : (layout : List LayoutPart) (row : List Value) → IsRowIn layout row → IsTyped layout (column_in layout row)
row_is_typed layout row fits var column c h = column_typed layout row fits var column c (type_is layout var column ∙ h)

fits_append : (cs ds : List LayoutColumn) (xs ys : List Value) → FitsColumns cs xs → FitsColumns ds ys → FitsColumns (cs ++ ds) (xs ++ ys)
fits_append [] ds [] ys h k = k
fits_append [] ds (x ∷ xs) ys h k = elim h [ ]
fits_append (c ∷ cs) ds [] ys h k = elim h [ ]
fits_append (c ∷ cs) ds (x ∷ xs) ys h k = (h.0, fits_append cs ds xs ys h.1 k)

values_fit : (e : Assignment) (var n : ℕ) (cs : List LayoutColumn) → ((k : ℕ) (c : LayoutColumn) → slice_get cs k ≡ Some c → HasType (e var (n + k)) c) → FitsColumns cs (values_of e var n cs)
values_fit e var n [] h = tt
values_fit e var n (c ∷ cs) h = (
  let i : n + 0 ≡ n = omega arith in subst (λ m. HasType (e var m) c) i (h 0 c refl),
  values_fit e var (n + 1) cs (λ k d s. let i : n + suc k ≡ (n + 1) + k = omega arith in subst (λ m. HasType (e var m) d) i (h (suc k) d s)),
)

pub made_row_fits : (layout : List LayoutPart) (e : Assignment) → Distinct layout → IsTyped layout e → IsRowIn layout (row_in layout e)
made_row_fits [] e d typed = tt
made_row_fits (part ∷ parts) e d typed =
    fits_append part.columns (all_columns parts) (values_of e part.var 0 part.columns) (row_in parts e)
    (values_fit e part.var 0 part.columns (λ k c h. let i : 0 + k ≡ k = omega arith in subst (λ m. HasType (e part.var m) c) (sym i) (typed part.var k c (ap (λ o. part_type o k) first ∙ h))))
    (made_row_fits parts e d.1 (λ var column c h. typed var column c (later var column c h)))
  where
    first : part_of (part ∷ parts) part.var ≡ Some part.columns
    first = let k : (part.var == part.var) ≡ true = grind (arith, nat_tests) in rw k refl

    later : (var column : ℕ) (c : LayoutColumn) → part_type (part_of parts var) column ≡ Some c → part_type (part_of (part ∷ parts) var) column ≡ Some c
    later var column c h = by (part.var == var) refl where
      by : (b : Bool) → (part.var == var) ≡ b → part_type (cond b (Some part.columns) (part_of parts var)) column ≡ Some c
      by true k = let l : part.var ≡ var = grind (arith, nat_tests) in let m : part_of parts var ≡ None = subst (λ v. part_of parts v ≡ None) l d.0 in let n : part_type None column ≡ Some c = (rw m at h) in cc
      by false k = h

module _ (layout first second : List LayoutPart) (parts : (var : ℕ) → part_of layout var ≡ or_part (part_of first var) (part_of second var)) (distinct : Distinct layout) where
  pub combined_fits : (a b : List Value) → IsRowIn first a → IsRowIn second b → IsRowIn layout (combined layout first second a b)
  combined_fits a b fa fb = made_row_fits layout (over first a (column_in second b)) distinct
      (λ var column c h. by var column c (part_of first var) refl (ap (λ o. part_type o column) (sym (parts var)) ∙ h)) where
        by : (var column : ℕ) (c : LayoutColumn) (p : Option (List LayoutColumn)) → part_of first var ≡ p → part_type (or_part p (part_of second var)) column ≡ Some c →
            HasType (cond (is_some p) (column_in first a var column) (column_in second b var column)) c
        by var column c None i h = row_is_typed second b fb var column c h
        by var column c (Some cs) i h = row_is_typed first a fa var column c (ap (λ o. part_type o column) i ∙ h)

  pub probed_fits : (keys : List KeyPair) (tests : List Expression) (xs ys : List (List Value)) → AllByRecursion (IsRowIn first) xs → AllByRecursion (IsRowIn second) ys →
      AllByRecursion (IsRowIn layout) (kept layout tests (probed layout first second keys xs ys))
  probed_fits keys tests xs ys fx fy =
      all_filter (IsRowIn layout) (λ row. all_met tests (column_in layout row)) _
      (all_flat (IsRowIn second) (IsRowIn layout) (λ row. map (λ b. combined layout first second b row) (filter (λ b. keys_match first second keys b row) xs))
      (λ row fr. all_map (IsRowIn first) (IsRowIn layout) (λ b. combined layout first second b row) (λ b fb. combined_fits b row fb fr) _ (all_filter (IsRowIn first) (λ b. keys_match first second keys b row) xs fx)) ys fy)

-- the type of an expression depends on the variables that it names alone

module _ (vars : ℕ → Bool) (f g : ℕ → ℕ → Option LayoutColumn) (agree : (var : ℕ) → vars var ≡ true → (column : ℕ) → f var column ≡ g var column) where
  pub type_agrees : (t : Expression) → is_within vars t ≡ true → type_of t f ≡ type_of t g
  type_agrees (ex.number n) h = refl
  type_agrees (ex.word w) h = refl
  type_agrees (ex.truth b) h = refl
  type_agrees (ex.column var column) h = agree var h column
  type_agrees (ex.negate t) h = ap (λ o. negate_type (integer_bound o)) (type_agrees t h)
  type_agrees (ex.opposite t) h = ap (λ o. cond (is_truth o) (Some truth_type) None) (type_agrees t h)
  type_agrees (ex.arith op s t) h = λ i. arith_type op (integer_bound (type_agrees s (first_of_both _ _ h) i)) (integer_bound (type_agrees t (second_of_both (is_within vars s) _ h) i))
  type_agrees (ex.compare op s t) h = λ i. compare_type (type_agrees s (first_of_both _ _ h) i) (type_agrees t (second_of_both (is_within vars s) _ h) i)
  type_agrees (ex.both s t) h = λ i. cond (is_truth (type_agrees s (first_of_both _ _ h) i) && is_truth (type_agrees t (second_of_both (is_within vars s) _ h) i)) (Some truth_type) None
  type_agrees (ex.either s t) h = λ i. cond (is_truth (type_agrees s (first_of_both _ _ h) i) && is_truth (type_agrees t (second_of_both (is_within vars s) _ h) i)) (Some truth_type) None
  type_agrees (ex.is_null t negated) h = ap (λ o. cond (is_some o) (Some truth_type) None) (type_agrees t h)

-- a typed expression names known variables alone

pick_some : (b : Bool) (c : LayoutColumn) → is_some (cond b (Some c) None) ≡ true → b ≡ true
pick_some true c h = refl
pick_some false c h = cc

truth_some : (o : Option LayoutColumn) → is_truth o ≡ true → is_some o ≡ true
truth_some None h = cc
truth_some (Some c) h = refl

bound_some : (o : Option LayoutColumn) → is_some (integer_bound o) ≡ true → is_some o ≡ true
bound_some None h = cc
bound_some (Some c) h = refl

negate_some : (o : Option ℕ) → is_some (negate_type o) ≡ true → is_some o ≡ true
negate_some None h = cc
negate_some (Some c) h = refl

arith_some : (op : ArithOp) (o p : Option ℕ) → is_some (arith_type op o p) ≡ true → (is_some o ≡ true) × (is_some p ≡ true)
arith_some op None p h = cc
arith_some op (Some a) None h = cc
arith_some op (Some a) (Some b) h = (refl, refl)

compare_some : (o p : Option LayoutColumn) → is_some (compare_type o p) ≡ true → (is_some o ≡ true) × (is_some p ≡ true)
compare_some None p h = cc
compare_some (Some a) None h = cc
compare_some (Some a) (Some b) h = (refl, refl)

and_if : (a b : Bool) → a ≡ true → b ≡ true → (a && b) ≡ true
and_if a b h k = rw (h, k) refl

module _ (vars : ℕ → Bool) (f : ℕ → ℕ → Option LayoutColumn) (known : (var column : ℕ) → is_some (f var column) ≡ true → vars var ≡ true) where
  pub typed_within : (t : Expression) → is_some (type_of t f) ≡ true → is_within vars t ≡ true
  typed_within (ex.number n) h = refl
  typed_within (ex.word w) h = refl
  typed_within (ex.truth b) h = refl
  typed_within (ex.column var column) h = known var column h
  typed_within (ex.negate t) h = typed_within t (bound_some _ (negate_some _ h))
  typed_within (ex.opposite t) h = typed_within t (truth_some _ (pick_some _ truth_type h))
  typed_within (ex.arith op s t) h = let k = arith_some op (integer_bound (type_of s f)) (integer_bound (type_of t f)) h in and_if _ _ (typed_within s (bound_some _ k.0)) (typed_within t (bound_some _ k.1))
  typed_within (ex.compare op s t) h = let k = compare_some (type_of s f) (type_of t f) h in and_if _ _ (typed_within s k.0) (typed_within t k.1)
  typed_within (ex.both s t) h = let k = pick_some _ truth_type h in and_if _ _ (typed_within s (truth_some _ (first_of_both _ _ k))) (typed_within t (truth_some _ (second_of_both (is_truth (type_of s f)) _ k)))
  typed_within (ex.either s t) h = let k = pick_some _ truth_type h in and_if _ _ (typed_within s (truth_some _ (first_of_both _ _ k))) (typed_within t (truth_some _ (second_of_both (is_truth (type_of s f)) _ k)))
  typed_within (ex.is_null t negated) h = typed_within t (pick_some _ truth_type h)

truth_pick : (b : Bool) → is_truth (cond b (Some truth_type) None) ≡ true → b ≡ true
truth_pick true h = refl
truth_pick false h = cc

-- each conjunct of a test is a truth value
pub operands_typed : (f : ℕ → ℕ → Option LayoutColumn) (t : Expression) → is_truth (type_of t f) ≡ true → AllByRecursion (λ c. is_truth (type_of c f) ≡ true) (operands t)
operands_typed f (ex.both s t) h =
    let k = truth_pick (is_truth (type_of s f) && is_truth (type_of t f)) h in
    all_append (λ c. is_truth (type_of c f) ≡ true) (operands s) (t ∷ []) (operands_typed f s (first_of_both _ _ k)) (second_of_both (is_truth (type_of s f)) _ k, tt)
operands_typed f (ex.number n) h = (h, tt)
operands_typed f (ex.word w) h = (h, tt)
operands_typed f (ex.truth b) h = (h, tt)
operands_typed f (ex.column var column) h = (h, tt)
operands_typed f (ex.negate t) h = (h, tt)
operands_typed f (ex.opposite t) h = (h, tt)
operands_typed f (ex.arith op s t) h = (h, tt)
operands_typed f (ex.compare op s t) h = (h, tt)
operands_typed f (ex.either s t) h = (h, tt)
operands_typed f (ex.is_null t negated) h = (h, tt)
