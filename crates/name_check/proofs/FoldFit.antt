-- The folds of a script without a fault fit its queries.
use Rattle.std.proofs.Common.{◌≡◌, ◌<◌, ℕ, zero, suc, ◌+◌, Bool, true, false, ◌&&◌, not, List, []}
use Rattle.std.proofs.Common.{◌∷◌, ◌++◌, map, length, drop, codes, Option, Some, None, is_some}
use Rattle.std.proofs.Common.{IfSome, IsSome, All, refl, sym, ap, ◌∙◌, subst, arith, append_assoc}
use Rattle.std.proofs.Common.{append-nil, length-append, if◌then◌else◌}
use Rattle.std.specs.List.{flat_map}
use Rattle.std.specs.Option.{option_map, option_or}
use Rattle.std.specs.Str.{bytes_eq}
use Rattle.std.proofs.lemmas.List.{map-append}
use Rattle.std.proofs.lemmas.List.Elements.{All-nil, All-append, All-head, All-tail, All-weaker}
use Rattle.postquel_tokens.specs.declared.fault.What.TheVariants as what
use Rattle.postquel_tokens.specs.declared.form.Ident.{Ident}
use Rattle.postquel_tokens.specs.declared.form.IntoForm.{IntoForm}
use Rattle.postquel_tokens.specs.Forms as phrase
use Rattle.postquel_tokens.specs.Forms.{Phrase, Sentence, Wish}
use Rattle.rows.specs.declared.field.ColType.{ColType}
use Rattle.rows.specs.declared.field.ColType.TheVariants as col
use Rattle.rows.specs.declared.plain.LayoutColumn.{LayoutColumn}
use Rattle.rows.specs.declared.plain.Relation.{Relation}
use Rattle.rows.specs.Layouts as layouts
use Rattle.rel_meaning.specs.declared.query.Var.{Var}
use Rattle.rel_meaning.specs.Expression.{Output, Question}
use Rattle.rel_meaning.specs.Meaning.{layout_column}
use Rattle.rel_meaning.specs.Typing.{bound_if, integer_bound, same_type, type_of}
use Rattle.aggregate_op.specs.declared.fold.FoldOp.{FoldOp}
use Rattle.aggregate_op.specs.declared.fold.FoldOp.TheVariants.{Count, Max, Min, Sum}
use Rattle.aggregate_op.specs.declared.fold.FoldPlan.{FoldPlan}
use Rattle.kept_relations.specs.declared.kept.Kept.{Kept}
use Rattle.kept_relations.specs.Fitting.{columns_behind, kept_of, layout_in}
use Rattle.name_check.specs.declared.heading.Heading.{Heading}
use Rattle.name_check.specs.Faults.{column_type, fault_in, type_in}
use Rattle.name_check.specs.FoldFit.{AreSummed, FitFolds, FitsFold}
use Rattle.name_check.specs.Folds.{column_ops, fold_of, groups_in, op_named, op_of, ops_in, plan_in}
use Rattle.name_check.specs.Folds.{plans_in, wish_ops}
use Rattle.name_check.specs.Headers.{kept_as, kept_from, kept_in, kept_name}
use Rattle.name_check.specs.Listed.{kept_named}
use Rattle.name_check.specs.Sentences.{HasNoFault, HasNumbers, Shown, WishNumbers, fold_outputs}
use Rattle.name_check.specs.Sentences.{has_fold, head_in, heading_of, headings_after, inner_fault}
use Rattle.name_check.specs.Sentences.{output_by, plain_outputs, question_in, questions_in}
use Rattle.name_check.specs.Sentences.{script_fault, sentence_fault, sort_key, sum_fault, vars_of}
use Rattle.name_check.specs.Sentences.{wish_shown}
use Rattle.name_check.specs.Types.{at, is}
use Rattle.name_check.proofs.Answered.{same_types}
use Rattle.name_check.proofs.Any.{length_map}
use Rattle.name_check.proofs.KeptFit.{catalog_layouts, column_same, columns_after, free_wishes}
use Rattle.name_check.proofs.KeptFit.{heading_layouts, kept_here, lower, map_alike, type_by}
use Rattle.name_check.proofs.May.{inner_free}
use Rattle.name_check.proofs.Sound.{both_none, typed}

-- ---- how many there are

groups_append : (xs ys : List (Option FoldOp)) → groups_in (xs ++ ys) ≡ groups_in xs + groups_in ys
groups_append [] ys = omega arith
groups_append (None ∷ xs) ys = let e = groups_append xs ys in omega (arith, e)
groups_append (Some op ∷ xs) ys = groups_append xs ys

ops_append : (xs ys : List (Option FoldOp)) → ops_in (xs ++ ys) ≡ ops_in xs ++ ops_in ys
ops_append [] ys = refl
ops_append (None ∷ xs) ys = ops_append xs ys
ops_append (Some op ∷ xs) ys = ap (λ ops. op ∷ ops) (ops_append xs ys)

abbrev pub no_op : Shown → Option FoldOp
no_op s = None

all_groups : (xs : List Shown) → groups_in (map no_op xs) ≡ length (map output_by xs)
all_groups [] = refl
all_groups (x ∷ xs) = let e = all_groups xs in omega (arith, e)

no_ops : (xs : List Shown) → ops_in (map no_op xs) ≡ []
no_ops [] = refl
no_ops (x ∷ xs) = no_ops xs

wish_groups : (hs : List Heading) (vars : List Var) (w : Wish) →
    groups_in (wish_ops hs vars w) ≡ length (plain_outputs hs vars w)
wish_groups hs vars (phrase.Titled name e) = refl
wish_groups hs vars (phrase.Column v c) = refl
wish_groups hs vars (phrase.Folded name fold e) = refl
wish_groups hs vars (phrase.Every v) = all_groups (wish_shown hs vars (phrase.Every v))

groups_are : (hs : List Heading) (vars : List Var) (ws : List Wish) →
    groups_in (flat_map (wish_ops hs vars) ws) ≡ length (flat_map (plain_outputs hs vars) ws)
groups_are hs vars [] = refl
groups_are hs vars (w ∷ ws) =
    let first = wish_groups hs vars w in
    let others = groups_are hs vars ws in
    omega (
      arith,
      first,
      others,
      groups_append (wish_ops hs vars w)
          (flat_map (wish_ops hs vars) ws),
      length-append (plain_outputs hs vars w)
          (flat_map (plain_outputs hs vars) ws),
    )

-- ---- the operands

summed_name : (text : List ℕ) → op_named text ≡ Sum → bytes_eq text (codes "sum") ≡ true
summed_name text e =
    by (bytes_eq text (codes "count")) (bytes_eq text (codes "sum"))
    (bytes_eq text (codes "min")) refl e where
      by : (a b c : Bool) → bytes_eq text (codes "sum") ≡ b →
          (if a then Count else if b then Sum else if c then Min else Max) ≡ Sum →
          bytes_eq text (codes "sum") ≡ true
      by true b c h e = absurd cc
      by false true c h e = h
      by false false true h e = absurd cc
      by false false false h e = absurd cc

integer_is : (t : ColType) (bound : ℕ) → same_type t col.Int4 ≡ true → IsSome (bound_if t bound)
integer_is col.Int4 bound e = refl
integer_is col.Text bound e = absurd cc
integer_is col.Bool bound e = absurd cc

sum_typed : (fold : Ident) (o : Option LayoutColumn) (c : LayoutColumn) → o ≡ Some c →
    sum_fault fold o ≡ None → bytes_eq fold.text (codes "sum") ≡ true → IsSome (integer_bound o)
sum_typed fold o c e f named =
    subst (λ o. IsSome (integer_bound o)) (sym e)
    (by (is c col.Int4) refl (subst (λ o. sum_fault fold o ≡ None) e f)) where
      by : (b : Bool) → is c col.Int4 ≡ b →
          (if bytes_eq fold.text (codes "sum") && not b then Some
          (at fold.spot what.TypeMismatch) else None) ≡ None → IsSome (integer_bound (Some c))
      by true h f = integer_is c.col_type c.bound h
      by false h f =
          absurd
          (let bad : (if true && not false then Some (at fold.spot what.TypeMismatch) else None)
          ≡ None =
          subst
          (λ b. (if b && not false then Some (at fold.spot what.TypeMismatch) else None)
          ≡ None) named f in cc)

-- an op and its operand's type, and then others
one_summed : (op : FoldOp) (type : Option LayoutColumn) (ops : List FoldOp)
    (types : List (Option LayoutColumn)) → (op ≡ Sum → IsSome (integer_bound type)) →
    AreSummed ops types → AreSummed (op ∷ ops) (type ∷ types)
one_summed Count type ops types h rest = rest
one_summed Min type ops types h rest = rest
one_summed Max type ops types h rest = rest
one_summed Sum type ops types h rest = (h refl, rest)

sums_are : (hs : List Heading) (vars : List Var) (ws : List Wish) → All WishNumbers ws →
    All (λ w. inner_fault hs vars w ≡ None) ws →
    AreSummed (ops_in (flat_map (wish_ops hs vars) ws))
    (map (type_by hs vars) (flat_map (fold_outputs hs vars) ws))
sums_are hs vars [] h f = tt
sums_are hs vars (w ∷ ws) h f =
    by w (All-head WishNumbers w ws h) (All-head (λ w. inner_fault hs vars w ≡ None) w ws f)
    (sums_are hs vars ws (All-tail WishNumbers w ws h)
    (All-tail (λ w. inner_fault hs vars w ≡ None) w ws f)) where
      by : (w : Wish) → WishNumbers w → inner_fault hs vars w ≡ None →
          AreSummed (ops_in (flat_map (wish_ops hs vars) ws))
          (map (type_by hs vars) (flat_map (fold_outputs hs vars) ws)) →
          AreSummed (ops_in (wish_ops hs vars w ++ flat_map (wish_ops hs vars) ws))
          (map (type_by hs vars)
          (fold_outputs hs vars w ++ flat_map (fold_outputs hs vars) ws))
      by (phrase.Titled name e) n free rest = rest
      by (phrase.Column v c) n free rest = rest
      by (phrase.Every v) n free rest =
          subst (λ ops. AreSummed ops (map (type_by hs vars) (flat_map (fold_outputs hs vars) ws)))
          (sym
          (ops_append (wish_ops hs vars (phrase.Every v)) (flat_map (wish_ops hs vars) ws)
          ∙ ap (λ ops. ops ++ ops_in (flat_map (wish_ops hs vars) ws))
          (no_ops (wish_shown hs vars (phrase.Every v))))) rest
      by (phrase.Folded name fold e) n free rest =
          let parts : (fault_in hs vars e ≡ None) × (sum_fault fold (type_in hs vars e) ≡ None) =
          both_none (fault_in hs vars e) (sum_fault fold (type_in hs vars e)) free in
          let t = typed hs vars e n parts.0 in
          one_summed (op_named fold.text) (type_in hs vars e)
          (ops_in (flat_map (wish_ops hs vars) ws))
          (map (type_by hs vars) (flat_map (fold_outputs hs vars) ws))
          (λ is. sum_typed fold (type_in hs vars e) t.0 t.1 parts.1 (summed_name fold.text is)) rest

ops_many : (hs : List Heading) (vars : List Var) (ws : List Wish) →
    length (ops_in (flat_map (wish_ops hs vars) ws)) ≡ length (flat_map (fold_outputs hs vars) ws)
ops_many hs vars [] = refl
ops_many hs vars (w ∷ ws) = by w (ops_many hs vars ws) where
  by : (w : Wish) →
      length (ops_in (flat_map (wish_ops hs vars) ws))
      ≡ length (flat_map (fold_outputs hs vars) ws) →
      length (ops_in (wish_ops hs vars w ++ flat_map (wish_ops hs vars) ws))
      ≡ length (fold_outputs hs vars w ++ flat_map (fold_outputs hs vars) ws)
  by (phrase.Titled name e) rest = rest
  by (phrase.Column v c) rest = rest
  by (phrase.Every v) rest =
      ap length
      (ops_append (wish_ops hs vars (phrase.Every v)) (flat_map (wish_ops hs vars) ws)
      ∙ ap (λ ops. ops ++ ops_in (flat_map (wish_ops hs vars) ws))
      (no_ops (wish_shown hs vars (phrase.Every v)))) ∙ rest
  by (phrase.Folded name fold e) rest = ap suc rest

behind_front : {A : Type 0} (xs ys : List A) (n : ℕ) → n ≡ length xs → drop n (xs ++ ys) ≡ ys
behind_front [] ys zero e = refl
behind_front [] ys (suc n) e = absurd (omega (arith, e))
behind_front (x ∷ xs) ys zero e = absurd (omega (arith, e))
behind_front (x ∷ xs) ys (suc n) e = behind_front xs ys n (omega (arith, e))

fits_fold : (hs : List Heading) (s : Sentence) → All WishNumbers s.wishes →
    All (λ w. inner_fault hs (vars_of hs s) w ≡ None) s.wishes →
    FitsFold (heading_layouts hs) (question_in hs s) (fold_of (column_ops hs s))
fits_fold hs s h f = record {
  width = length-append plain folds
      ∙
      (let g : groups_in (column_ops hs s) ≡ length plain = groups in
      let o : length (ops_in (column_ops hs s)) ≡ length folds =
      ops_many hs (vars_of hs s) s.wishes in omega (arith, g, o));
  sums =
      subst (AreSummed (ops_in (column_ops hs s))) (sym types)
      (sums_are hs (vars_of hs s) s.wishes h f);
} where
  plain : List Output
  plain = flat_map (plain_outputs hs (vars_of hs s)) s.wishes

  folds : List Output
  folds = flat_map (fold_outputs hs (vars_of hs s)) s.wishes

  groups : groups_in (column_ops hs s) ≡ length plain
  groups = groups_are hs (vars_of hs s) s.wishes

  types : drop (groups_in (column_ops hs s))
      (map
      (λ target. type_of target.expr
      (layouts.column_type (layout_in (heading_layouts hs) (question_in hs s))))
      (plain ++ folds)) ≡ map (type_by hs (vars_of hs s)) folds
  types =
      ap (drop (groups_in (column_ops hs s)))
      (map_alike
      (λ t.
      type_of t.expr
      (layouts.column_type (layout_in (heading_layouts hs) (question_in hs s))))
      (type_by hs (vars_of hs s))
      (λ t.
      sym
      (same_types t.expr (column_type hs (vars_of hs s))
      (layouts.column_type (layout_in (heading_layouts hs) (question_in hs s)))
      (column_same hs (question_in hs s)))) (plain ++ folds)
      ∙ map-append (type_by hs (vars_of hs s)) plain folds)
      ∙ behind_front (map (type_by hs (vars_of hs s)) plain) (map (type_by hs (vars_of hs s)) folds)
      (groups_in (column_ops hs s))
      (groups ∙ sym (length_map (type_by hs (vars_of hs s)) plain))

abbrev pub plan_if : List Heading → Sentence → Bool → Option FoldPlan
plan_if hs s b =
    if b then Some
    (record { fold = fold_of (column_ops hs s); keys = map (sort_key (head_in hs s)) s.keys })
    else None

fits_plan : (hs : List Heading) (s : Sentence) → All WishNumbers s.wishes →
    All (λ w. inner_fault hs (vars_of hs s) w ≡ None) s.wishes →
    IfSome (plan_in hs s) (λ plan. FitsFold (heading_layouts hs) (question_in hs s) plan.fold)
fits_plan hs s h f =
    elim (has_fold s) as
    (λ b. IfSome (plan_if hs s b)
    (λ plan. FitsFold (heading_layouts hs) (question_in hs s) plan.fold)) [
      | true ↦ fits_fold hs s h f
      | false ↦ tt
    ]

-- ---- the statements of a script

fit_folds : (hs : List Heading) (front : List Kept) (n : ℕ) (ss : List Sentence) →
    All (λ k. k.statement < n) front → All HasNumbers ss → script_fault hs ss ≡ None →
    FitFolds (heading_layouts hs) (front ++ kept_from hs n ss) n (questions_in hs ss)
    (plans_in hs ss)
fit_folds hs front n [] low h e = tt
fit_folds hs front n (s ∷ ss) low h e = (
  fits_plan hs s (All-head HasNumbers s ss h).wishes inner,
  subst
      (λ columns. FitFolds columns (front ++ (mine ++ others)) (n + 1)
      (questions_in (headings_after hs s) ss) (plans_in (headings_after hs s) ss))
      (columns_after hs s n s.kept (kept_of (front ++ (mine ++ others)) n)
      (kept_here hs front n s ss low))
      (subst
      (λ ks. FitFolds (heading_layouts (headings_after hs s)) ks (n + 1)
      (questions_in (headings_after hs s) ss) (plans_in (headings_after hs s) ss))
      (append_assoc front mine others)
      (fit_folds (headings_after hs s) (front ++ mine) (n + 1) ss (lower hs front n s low)
      (All-tail HasNumbers s ss h) parts.1)),
) where
  mine : List Kept
  mine = kept_as (head_in hs s) n (kept_name s.kept)

  others : List Kept
  others = kept_from (headings_after hs s) (n + 1) ss

  parts : (sentence_fault hs s ≡ None) × (script_fault (headings_after hs s) ss ≡ None)
  parts = both_none (sentence_fault hs s) (script_fault (headings_after hs s) ss) e

  inner : All (λ w. inner_fault hs (vars_of hs s) w ≡ None) s.wishes
  inner = free_wishes hs s parts.0

pub fits_folds : (catalog : List Relation) (ss : List Sentence) → All HasNumbers ss →
    HasNoFault catalog ss →
    FitFolds (map (λ r. map layout_column r.columns) catalog)
    (kept_in (map heading_of catalog) ss) 0 (questions_in (map heading_of catalog) ss)
    (plans_in (map heading_of catalog) ss)
fits_folds catalog ss h e =
    subst
    (λ columns. FitFolds columns (kept_in (map heading_of catalog) ss) 0
    (questions_in (map heading_of catalog) ss) (plans_in (map heading_of catalog) ss))
    (catalog_layouts catalog)
    (fit_folds (map heading_of catalog) [] 0 ss (All-nil (λ k. k.statement < 0)) h e)
