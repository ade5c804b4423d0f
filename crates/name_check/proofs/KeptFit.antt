-- What the statements of a script keep fits the queries of the script.
use Rattle.std.proofs.Common.{◌≡◌, ◌<◌, ◌≤◌, ◌==◌, ℕ, zero, suc, ◌+◌, Bool, true, false, List, []}
use Rattle.std.proofs.Common.{◌∷◌, ◌++◌, map, length, Option, Some, None, is_some, IfSome, IsSome}
use Rattle.std.proofs.Common.{All, refl, sym, ap, ◌∙◌, subst, arith, append_assoc, append-nil}
use Rattle.std.proofs.Common.{length-append, if◌then◌else◌, slice_get}
use Rattle.std.specs.List.{flat_map, list_any}
use Rattle.std.specs.Option.{option_map, option_or, unwrap_or}
use Rattle.std.proofs.lemmas.Bool.Decides.{nat_tests}
use Rattle.std.proofs.lemmas.List.{map-append}
use Rattle.std.proofs.lemmas.List.Elements.{All-nil, All-cons, All-append, All-head, All-tail}
use Rattle.std.proofs.lemmas.List.Elements.{All-weaker}
use Rattle.postquel_tokens.specs.declared.fault.What.TheVariants as what
use Rattle.postquel_tokens.specs.declared.fault.TextErr.{TextErr}
use Rattle.postquel_tokens.specs.declared.form.IntoForm.{IntoForm}
use Rattle.postquel_tokens.specs.Forms as phrase
use Rattle.postquel_tokens.specs.Forms.{Phrase, Sentence, Wish}
use Rattle.rows.specs.declared.plain.LayoutColumn.{LayoutColumn}
use Rattle.rows.specs.declared.plain.Relation.{Relation}
use Rattle.rows.specs.Layouts as layouts
use Rattle.rel_meaning.specs.declared.query.Var.{Var}
use Rattle.rel_meaning.specs.Expression as ex
use Rattle.rel_meaning.specs.Expression.{Output, Question}
use Rattle.rel_meaning.specs.Meaning.{layout_column, layout_over, listed}
use Rattle.rel_meaning.specs.Typing.{is_truth, type_of}
use Rattle.kept_relations.specs.declared.kept.Kept.{Kept}
use Rattle.kept_relations.specs.KeptColumns.{kept_columns}
use Rattle.kept_relations.specs.Fitting.{AscendFrom, FitKept, FitQueries, FitsTargets, IsResolvedIn}
use Rattle.kept_relations.specs.Fitting.{columns_behind, kept_of, layout_in}
use Rattle.name_check.specs.declared.heading.Heading.{Heading}
use Rattle.name_check.specs.declared.heading.HeadColumn.{HeadColumn}
use Rattle.name_check.specs.Bridge as bridge
use Rattle.name_check.specs.Faults.{NumbersFit, column_type, columns_at, columns_of, fault_in}
use Rattle.name_check.specs.Faults.{type_in, var_named}
use Rattle.name_check.specs.Headers.{kept_as, kept_column, kept_from, kept_in, kept_name}
use Rattle.name_check.specs.Listed.{kept_named}
use Rattle.name_check.specs.Resolved.{MayAsk}
use Rattle.name_check.specs.Sentences.{HasNoFault, HasNumbers, Shown, WishNumbers, all_shown}
use Rattle.name_check.specs.Sentences.{fold_outputs, has_fold, head_in, head_of, heading_of}
use Rattle.name_check.specs.Sentences.{headings_after, inner_fault, into_fault, is_fold}
use Rattle.name_check.specs.Sentences.{kept_heading, keys_fault, output_by, plain_outputs}
use Rattle.name_check.specs.Sentences.{question_in, questions_in, ranges_fault, script_fault}
use Rattle.name_check.specs.Sentences.{sentence_fault, shown, sum_fault, test_fault, vars_of}
use Rattle.name_check.specs.Sentences.{wish_shown, wishes_fault}
use Rattle.name_check.specs.Types.{at, truth}
use Rattle.name_check.proofs.Answered.{layouts_map, same_types, test_same}
use Rattle.name_check.proofs.Any.{length_map}
use Rattle.name_check.proofs.Bridge.{types_agree}
use Rattle.name_check.proofs.May.{at_end, inner_free, may_ask, split_any}
use Rattle.name_check.proofs.Sound.{both_none, typed}

-- ---- the columns of relations that a script may name

abbrev pub head_layouts : List HeadColumn → List LayoutColumn
head_layouts head = map (λ c. c.layout) head

abbrev pub heading_layouts : List Heading → List (List LayoutColumn)
heading_layouts hs = map (λ h. head_layouts h.columns) hs

listed_is : (hs : List Heading) (k : ℕ) →
    head_layouts (columns_at (slice_get hs k)) ≡ listed (heading_layouts hs) k
listed_is [] zero = refl
listed_is [] (suc k) = refl
listed_is (h ∷ hs) zero = refl
listed_is (h ∷ hs) (suc k) = listed_is hs k

layout_same : (hs : List Heading) (n : ℕ) (vs : List Var) →
    bridge.layout_from hs n vs ≡ layout_over (listed (heading_layouts hs)) n vs
layout_same hs n [] = refl
layout_same hs n (v ∷ vs) =
    ap (λ cs. record { var = n; columns = cs } ∷ bridge.layout_from hs (n + 1) vs)
    (listed_is hs v.relation)
    ∙ ap (λ ls. record { var = n; columns = listed (heading_layouts hs) v.relation } ∷ ls)
    (layout_same hs (n + 1) vs)

pub column_same : (hs : List Heading) (q : Question) (v c : ℕ) →
    column_type hs q.vars v c ≡ layouts.column_type (layout_in (heading_layouts hs) q) v c
column_same hs q v c = sym (types_agree hs q.vars v c)
    ∙ ap (λ l. layouts.column_type l v c) (layout_same hs 0 q.vars)

resolved_in : (hs : List Heading) (q : Question) → MayAsk hs q → IsResolvedIn (heading_layouts hs) q
resolved_in hs q m = record {
  few = omega (arith, m.few);
  relations =
      subst (λ n. All (λ v. v.relation < n) q.vars)
      (sym (length_map (λ (h : Heading). head_layouts h.columns) hs)) m.relations;
  targets =
      All-weaker (λ t. IsSome (type_of t.expr (column_type hs q.vars)))
      (λ t. IsSome (type_of t.expr (layouts.column_type (layout_in (heading_layouts hs) q))))
      (λ t k.
      subst IsSome
      (same_types t.expr (column_type hs q.vars)
      (layouts.column_type (layout_in (heading_layouts hs) q)) (column_same hs q)) k)
      q.targets m.targets;
  test = test_same (column_type hs q.vars) (layouts.column_type (layout_in (heading_layouts hs) q))
      (column_same hs q) q.test m.test;
}

-- ---- targets have the types of the header

abbrev pub type_by : List Heading → List Var → Output → Option LayoutColumn
type_by hs vars t = type_of t.expr (column_type hs vars)

abbrev pub some_layout : HeadColumn → Option LayoutColumn
some_layout c = Some c.layout

abbrev pub AreExact : List Heading → List Var → List Shown → Type 0
AreExact hs vars new = map (type_by hs vars) (map output_by new) ≡ map some_layout (map head_of new)

some_is : (o : Option LayoutColumn) (c : LayoutColumn) → o ≡ Some c →
    o ∷ [] ≡ Some (unwrap_or o truth) ∷ []
some_is o c e = rw e refl

one_exact : (hs : List Heading) (vars : List Var) (name : List ℕ) (e : Phrase) → NumbersFit e →
    fault_in hs vars e ≡ None → AreExact hs vars (shown hs vars name e ∷ [])
one_exact hs vars name e h f = let t = typed hs vars e h f in some_is (type_in hs vars e) t.0 t.1

all_exact : (hs : List Heading) (vars : List Var) (var : ℕ) (front cs : List HeadColumn) (k : ℕ) →
    columns_of hs vars var ≡ front ++ cs → k ≡ length front → AreExact hs vars (all_shown var k cs)
all_exact hs vars var front [] k e h = refl
all_exact hs vars var front (c ∷ cs) k e h =
    let there : slice_get (columns_of hs vars var) k ≡ Some c = rw (e, h) (at_end front c cs) in
    let first : column_type hs vars var k ≡ Some c.layout = ap (option_map (λ c. c.layout)) there in
    let others : map (type_by hs vars) (map output_by (all_shown var (k + 1) cs))
    ≡ map some_layout (map head_of (all_shown var (k + 1) cs)) =
    all_exact hs vars var (front ++ c ∷ []) cs (k + 1) (e ∙ sym (append_assoc front (c ∷ []) cs))
    (omega (arith, h, length-append front (c ∷ []))) in
    λ i. first i ∷ others i

wish_exact : (hs : List Heading) (vars : List Var) (w : Wish) → WishNumbers w →
    inner_fault hs vars w ≡ None → AreExact hs vars (wish_shown hs vars w)
wish_exact hs vars (phrase.Titled name e) h f = one_exact hs vars name.text e h f
wish_exact hs vars (phrase.Column v c) h f = one_exact hs vars c.text (phrase.Dotted v c) tt f
wish_exact hs vars (phrase.Folded name fold e) h f =
    one_exact hs vars name.text e h
    (both_none (fault_in hs vars e) (sum_fault fold (type_in hs vars e)) f).0
wish_exact hs vars (phrase.Every v) h f =
    all_exact hs vars (unwrap_or (var_named vars v.text) 0) []
    (columns_of hs vars (unwrap_or (var_named vars v.text) 0)) 0 refl refl

no_operands : (hs : List Heading) (vars : List Var) (ws : List Wish) → list_any is_fold ws ≡ false →
    flat_map (fold_outputs hs vars) ws ≡ []
no_operands hs vars [] e = refl
no_operands hs vars (w ∷ ws) e =
    let parts : (is_fold w ≡ false) × (list_any is_fold ws ≡ false) =
    split_any (is_fold w) (list_any is_fold ws) e in
    ap
    (λ b. (if b then map output_by (wish_shown hs vars w) else []) ++ flat_map
    (fold_outputs hs vars) ws) parts.0 ∙ no_operands hs vars ws parts.1

wishes_exact : (hs : List Heading) (vars : List Var) (ws : List Wish) →
    list_any is_fold ws ≡ false → All WishNumbers ws → All (λ w. inner_fault hs vars w ≡ None) ws →
    map (type_by hs vars) (flat_map (plain_outputs hs vars) ws)
    ≡ map some_layout (flat_map (λ w. map head_of (wish_shown hs vars w)) ws)
wishes_exact hs vars [] none h f = refl
wishes_exact hs vars (w ∷ ws) none h f =
    let parts : (is_fold w ≡ false) × (list_any is_fold ws ≡ false) =
    split_any (is_fold w) (list_any is_fold ws) none in
    let plain : plain_outputs hs vars w ≡ map output_by (wish_shown hs vars w) =
    ap (λ b. if b then [] else map output_by (wish_shown hs vars w)) parts.0 in
    let others : map (type_by hs vars) (flat_map (plain_outputs hs vars) ws)
    ≡ map some_layout (flat_map (λ w. map head_of (wish_shown hs vars w)) ws) =
    wishes_exact hs vars ws parts.1 (All-tail WishNumbers w ws h)
    (All-tail (λ w. inner_fault hs vars w ≡ None) w ws f) in
    map-append (type_by hs vars) (plain_outputs hs vars w) (flat_map (plain_outputs hs vars) ws)
    ∙ ap
    (λ ts. map (type_by hs vars) ts ++ map (type_by hs vars)
    (flat_map (plain_outputs hs vars) ws)) plain
    ∙
    (λ i. wish_exact hs vars w (All-head WishNumbers w ws h)
    (All-head (λ w. inner_fault hs vars w ≡ None) w ws f) i ++ others i)
    ∙ sym
    (map-append some_layout (map head_of (wish_shown hs vars w))
    (flat_map (λ w. map head_of (wish_shown hs vars w)) ws))

pub map_alike : {A B : Type 0} (f g : A → B) → ((x : A) → f x ≡ g x) →
    (xs : List A) → map f xs ≡ map g xs
map_alike f g h [] = refl
map_alike f g h (x ∷ xs) = λ i. h x i ∷ map_alike f g h xs i

-- ---- what a statement keeps

kept_layouts : (head : List HeadColumn) →
    kept_columns (map kept_column head) (map (λ c. c.layout.bound) head) ≡ head_layouts head
kept_layouts [] = refl
kept_layouts (c ∷ cs) = ap (λ ls. c.layout ∷ ls) (kept_layouts cs)

some_layouts : (head : List HeadColumn) →
    map some_layout head ≡ map (λ c. Some c) (head_layouts head)
some_layouts [] = refl
some_layouts (c ∷ cs) = ap (λ ls. Some c.layout ∷ ls) (some_layouts cs)

no_fold : (hs : List Heading) (folds : Bool) (into : IntoForm) →
    into_fault hs folds (Some into) ≡ None → folds ≡ false
no_fold hs true into e = absurd cc
no_fold hs false into e = refl

fits_targets : (hs : List Heading) (s : Sentence) (n : ℕ) (name : List ℕ) → has_fold s ≡ false →
    All WishNumbers s.wishes → All (λ w. inner_fault hs (vars_of hs s) w ≡ None) s.wishes →
    FitsTargets (heading_layouts hs) (question_in hs s) (kept_named (head_in hs s) n name)
fits_targets hs s n name none h f = record {
  each = length_map (λ (c : HeadColumn). c.layout.bound) (head_in hs s)
      ∙ sym (length_map kept_column (head_in hs s));
  types =
      map_alike
      (λ t.
      type_of t.expr
      (layouts.column_type (layout_in (heading_layouts hs) (question_in hs s))))
      (type_by hs (vars_of hs s))
      (λ t.
      sym
      (same_types t.expr (column_type hs (vars_of hs s))
      (layouts.column_type (layout_in (heading_layouts hs) (question_in hs s)))
      (column_same hs (question_in hs s)))) (question_in hs s).targets
      ∙ ap
      (λ folds. map (type_by hs (vars_of hs s))
      (flat_map (plain_outputs hs (vars_of hs s)) s.wishes ++ folds))
      (no_operands hs (vars_of hs s) s.wishes none)
      ∙ ap (map (type_by hs (vars_of hs s)))
      (append-nil (flat_map (plain_outputs hs (vars_of hs s)) s.wishes))
      ∙ wishes_exact hs (vars_of hs s) s.wishes none h f
      ∙ some_layouts (head_in hs s)
      ∙ ap (map (λ c. Some c)) (sym (kept_layouts (head_in hs s)));
}

-- ---- what is kept of each statement

pub found_behind : (front back : List Kept) (n : ℕ) → All (λ k. k.statement < n) front →
    kept_of (front ++ back) n ≡ kept_of back n
found_behind [] back n h = refl
found_behind (k ∷ ks) back n h =
    let low : k.statement < n = All-head (λ k. k.statement < n) k ks h in
    let no : (k.statement == n) ≡ false = grind (arith, nat_tests) in
    rw no (found_behind ks back n (All-tail (λ k. k.statement < n) k ks h))

pub none_there : (ks : List Kept) (n : ℕ) → All (λ k. n < k.statement) ks → kept_of ks n ≡ None
none_there [] n h = refl
none_there (k ∷ ks) n h =
    let high : n < k.statement = All-head (λ k. n < k.statement) k ks h in
    let no : (k.statement == n) ≡ false = grind (arith, nat_tests) in
    rw no (none_there ks n (All-tail (λ k. n < k.statement) k ks h))

-- a statement's number is one of these
abbrev pub Within : ℕ → ℕ → Kept → Type 0
Within low high k = (low ≤ k.statement) × (k.statement < high)

pub kept_within : (hs : List Heading) (n : ℕ) (ss : List Sentence) →
    All (Within n (n + length ss)) (kept_from hs n ss)
kept_within hs n [] = All-nil (Within n (n + 0))
kept_within hs n (s ∷ ss) =
    All-append (Within n (n + suc (length ss))) (kept_as (head_in hs s) n (kept_name s.kept))
    (kept_from (headings_after hs s) (n + 1) ss)
    (first s.kept)
    (All-weaker (Within (n + 1) ((n + 1) + length ss)) (Within n (n + suc (length ss)))
    (λ k w. (omega (arith, w.0), omega (arith, w.1)))
    (kept_from (headings_after hs s) (n + 1) ss)
    (kept_within (headings_after hs s) (n + 1) ss)) where
      first : (into : Option IntoForm) →
          All (Within n (n + suc (length ss))) (kept_as (head_in hs s) n (kept_name into))
      first None = All-nil (Within n (n + suc (length ss)))
      first (Some into) =
          All-cons (Within n (n + suc (length ss))) (kept_named (head_in hs s) n into.name.text) []
          (omega arith, omega arith) (All-nil (Within n (n + suc (length ss))))

pub kept_first : (head : List HeadColumn) (n : ℕ) (into : Option IntoForm) (others : List Kept) →
    All (λ k. n < k.statement) others →
    kept_of (kept_as head n (kept_name into) ++ others) n
    ≡ option_map (kept_named head n) (kept_name into)
kept_first head n None others h = none_there others n h
kept_first head n (Some into) others h = let same : (n == n) ≡ true = grind (arith, nat_tests) in
    rw same refl

ascend_earlier : (n m : ℕ) (ks : List Kept) → n ≤ m → AscendFrom m ks → AscendFrom n ks
ascend_earlier n m [] h a = tt
ascend_earlier n m (k ∷ ks) h a = (omega (arith, h, a.0), a.1)

kept_ascend : (hs : List Heading) (n : ℕ) (ss : List Sentence) → AscendFrom n (kept_from hs n ss)
kept_ascend hs n [] = tt
kept_ascend hs n (s ∷ ss) = first s.kept (kept_ascend (headings_after hs s) (n + 1) ss) where
  first : (into : Option IntoForm) →
      AscendFrom (n + 1) (kept_from (headings_after hs s) (n + 1) ss) →
      AscendFrom n
      (kept_as (head_in hs s) n (kept_name into) ++ kept_from (headings_after hs s)
      (n + 1) ss)
  first None rest =
      ascend_earlier n (n + 1) (kept_from (headings_after hs s) (n + 1) ss) (omega arith) rest
  first (Some into) rest = (omega arith, rest)

-- ---- the queries of a script

-- without a fault the targets' expressions have none
pub free_wishes : (hs : List Heading) (s : Sentence) → sentence_fault hs s ≡ None →
    All (λ w. inner_fault hs (vars_of hs s) w ≡ None) s.wishes
free_wishes hs s e =
    inner_free hs (is_some s.kept) (vars_of hs s) [] s.wishes
    (both_none (wishes_fault hs (is_some s.kept) (vars_of hs s) [] s.wishes) behind_wishes
    behind.1).0 where
      behind_wishes : Option TextErr
      behind_wishes = option_or (test_fault hs (vars_of hs s) s.test) (keys_fault (head_in hs s) s.keys)

      after_into : (into_fault hs (has_fold s) s.kept ≡ None) ×
          (option_or (ranges_fault hs [] s.ranges)
          (option_or (wishes_fault hs (is_some s.kept) (vars_of hs s) [] s.wishes) behind_wishes)
          ≡ None)
      after_into =
          both_none (into_fault hs (has_fold s) s.kept)
          (option_or (ranges_fault hs [] s.ranges)
          (option_or (wishes_fault hs (is_some s.kept) (vars_of hs s) [] s.wishes)
          behind_wishes)) e

      behind : (ranges_fault hs [] s.ranges ≡ None) ×
          (option_or (wishes_fault hs (is_some s.kept) (vars_of hs s) [] s.wishes) behind_wishes ≡ None)
      behind =
          both_none (ranges_fault hs [] s.ranges)
          (option_or (wishes_fault hs (is_some s.kept) (vars_of hs s) [] s.wishes) behind_wishes)
          after_into.1

-- nor has `into`
pub free_into : (hs : List Heading) (s : Sentence) → sentence_fault hs s ≡ None →
    into_fault hs (has_fold s) s.kept ≡ None
free_into hs s e =
    (both_none (into_fault hs (has_fold s) s.kept)
    (option_or (ranges_fault hs [] s.ranges)
    (option_or (wishes_fault hs (is_some s.kept) (vars_of hs s) [] s.wishes)
    (option_or (test_fault hs (vars_of hs s) s.test) (keys_fault (head_in hs s) s.keys)))) e).0

-- what is kept up to a statement has lower numbers
pub lower : (hs : List Heading) (front : List Kept) (n : ℕ) (s : Sentence) →
    All (λ k. k.statement < n) front →
    All (λ k. k.statement < n + 1) (front ++ kept_as (head_in hs s) n (kept_name s.kept))
lower hs front n s low =
    All-append (λ k. k.statement < n + 1) front (kept_as (head_in hs s) n (kept_name s.kept))
    (All-weaker (λ k. k.statement < n) (λ k. k.statement < n + 1)
    (λ k l. omega (arith, l)) front low) (one s.kept) where
      one : (into : Option IntoForm) →
          All (λ k. k.statement < n + 1) (kept_as (head_in hs s) n (kept_name into))
      one None = All-nil (λ k. k.statement < n + 1)
      one (Some into) =
          All-cons (λ k. k.statement < n + 1) (kept_named (head_in hs s) n into.name.text) []
          (omega arith) (All-nil (λ k. k.statement < n + 1))

pub kept_here : (hs : List Heading) (front : List Kept) (n : ℕ) (s : Sentence)
    (ss : List Sentence) → All (λ k. k.statement < n) front →
    kept_of (front ++ kept_from hs n (s ∷ ss)) n
    ≡ option_map (kept_named (head_in hs s) n) (kept_name s.kept)
kept_here hs front n s ss low = found_behind front (kept_from hs n (s ∷ ss)) n low
    ∙ kept_first (head_in hs s) n s.kept others higher where
      others : List Kept
      others = kept_from (headings_after hs s) (n + 1) ss

      higher : All (λ k. n < k.statement) others
      higher =
          All-weaker (Within (n + 1) ((n + 1) + length ss)) (λ k. n < k.statement)
          (λ k w. omega (arith, w.0)) others (kept_within (headings_after hs s) (n + 1) ss)

-- the columns of the relations behind a statement
pub columns_after : (hs : List Heading) (s : Sentence) (n : ℕ) (into : Option IntoForm)
    (o : Option Kept) → o ≡ option_map (kept_named (head_in hs s) n) (kept_name into) →
    heading_layouts (hs ++ kept_heading hs s into) ≡ columns_behind (heading_layouts hs) o
columns_after hs s n None o e = rw e (ap heading_layouts (append-nil hs))
columns_after hs s n (Some into) o e =
    rw e
    (map-append (λ (h : Heading). head_layouts h.columns) hs (kept_heading hs s (Some into))
    ∙ ap (λ ls. heading_layouts hs ++ ls ∷ []) (sym (kept_layouts (head_in hs s))))

fits_kept_here : (hs : List Heading) (s : Sentence) (n : ℕ) (into : Option IntoForm)
    (o : Option Kept) → o ≡ option_map (kept_named (head_in hs s) n) (kept_name into) →
    into_fault hs (has_fold s) into ≡ None →
    All WishNumbers s.wishes → All (λ w. inner_fault hs (vars_of hs s) w ≡ None) s.wishes →
    IfSome o (FitsTargets (heading_layouts hs) (question_in hs s))
fits_kept_here hs s n None o e free h f = rw e tt
fits_kept_here hs s n (Some into) o e free h f =
    rw e (fits_targets hs s n into.name.text (no_fold hs (has_fold s) into free) h f)

fit_queries : (hs : List Heading) (front : List Kept) (n : ℕ) (ss : List Sentence) →
    All (λ k. k.statement < n) front → All HasNumbers ss → script_fault hs ss ≡ None →
    FitQueries (heading_layouts hs) (front ++ kept_from hs n ss) n (questions_in hs ss)
fit_queries hs front n [] low h e = tt
fit_queries hs front n (s ∷ ss) low h e = (
  resolved_in hs (question_in hs s) (may_ask hs s numbers parts.0),
  fits_kept_here hs s n s.kept (kept_of kept n) here (free_into hs s parts.0) numbers.wishes
      (free_wishes hs s parts.0),
  subst (λ columns. FitQueries columns kept (n + 1) (questions_in (headings_after hs s) ss))
      (columns_after hs s n s.kept (kept_of kept n) here)
      (subst
      (λ ks. FitQueries (heading_layouts (headings_after hs s)) ks (n + 1)
      (questions_in (headings_after hs s) ss))
      (append_assoc front (kept_as (head_in hs s) n (kept_name s.kept))
      (kept_from (headings_after hs s) (n + 1) ss))
      (fit_queries (headings_after hs s) (front ++ kept_as (head_in hs s) n (kept_name s.kept))
      (n + 1) ss (lower hs front n s low) (All-tail HasNumbers s ss h) parts.1)),
) where
  kept : List Kept
  kept = front ++ kept_from hs n (s ∷ ss)

  parts : (sentence_fault hs s ≡ None) × (script_fault (headings_after hs s) ss ≡ None)
  parts = both_none (sentence_fault hs s) (script_fault (headings_after hs s) ss) e

  numbers : HasNumbers s
  numbers = All-head HasNumbers s ss h

  here : kept_of kept n ≡ option_map (kept_named (head_in hs s) n) (kept_name s.kept)
  here = kept_here hs front n s ss low

-- the columns of the relations of a catalogue
pub catalog_layouts : (catalog : List Relation) →
    heading_layouts (map heading_of catalog) ≡ map (λ r. map layout_column r.columns) catalog
catalog_layouts [] = refl
catalog_layouts (r ∷ rs) = λ i. layouts_map r.columns i ∷ catalog_layouts rs i

as_many : (hs : List Heading) (ss : List Sentence) → length (questions_in hs ss) ≡ length ss
as_many hs [] = refl
as_many hs (s ∷ ss) = ap suc (as_many (headings_after hs s) ss)

pub fits_kept : (catalog : List Relation) (ss : List Sentence) → All HasNumbers ss →
    HasNoFault catalog ss →
    FitKept (map (λ r. map layout_column r.columns) catalog) (kept_in (map heading_of catalog) ss)
    (questions_in (map heading_of catalog) ss)
fits_kept catalog ss h e = record {
  ascending = kept_ascend (map heading_of catalog) 0 ss;
  within =
      All-weaker (Within 0 (0 + length ss))
      (λ k. k.statement < length (questions_in (map heading_of catalog) ss))
      (λ k w. omega (arith, w.1, as_many (map heading_of catalog) ss))
      (kept_from (map heading_of catalog) 0 ss) (kept_within (map heading_of catalog) 0 ss);
  queries =
      subst
      (λ columns. FitQueries columns (kept_in (map heading_of catalog) ss) 0
      (questions_in (map heading_of catalog) ss)) (catalog_layouts catalog)
      (fit_queries (map heading_of catalog) [] 0 ss (All-nil (λ k. k.statement < 0)) h e);
}
