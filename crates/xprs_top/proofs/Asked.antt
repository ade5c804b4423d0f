-- Queries of a script that passed its checks may be planned, and answered with their folds.
use Rattle.std.proofs.Common.{All, Bool, IfSome, IsSome, List, None, Ok, Option, Some, [], ap, append_assoc, ap₂, arith, drop, false, flat_map, if◌then◌else◌, is_some, length, length-append, map, nat_lt, refl, subst, suc, sym, take, true, zero, ℕ, ◌&&◌, ◌++◌, ◌+◌, ◌<◌, ◌∙◌, ◌∷◌, ◌≡◌, ◌≤◌}
use Rattle.std.specs.List.{AllByRecursion, list_any}
use Rattle.std.specs.Option.{option_or}
use Rattle.std.proofs.lemmas.List.{length-map, length-take-le}
use Rattle.std.proofs.lemmas.List.Elements.{All-cons, All-from_recursion, All-head, All-nil, All-tail}
use Rattle.std.proofs.lemmas.Bool.Decides.{nat_tests}
use Rattle.aggregate_op.specs.declared.fold.Fold.{Fold}
use Rattle.aggregate_op.specs.declared.fold.FoldOp.{FoldOp}
use Rattle.aggregate_op.specs.declared.fold.FoldOp.TheVariants.{Count, Min, Max, Sum}
use Rattle.aggregate_op.specs.declared.fold.FoldPlan.{FoldPlan}
use Rattle.kept_relations.specs.declared.kept.Kept.{Kept}
use Rattle.kept_relations.specs.Fitting.{FitQueries, IsResolvedIn, columns_behind, kept_of, layout_in}
use Rattle.kept_answers.specs.FoldedAnswers.{AreOpColumns, FoldQueriesFrom, FoldsTargets, plan_at}
use Rattle.kept_answers.specs.KeptAnswers.{database_columns}
use Rattle.rows.specs.declared.field.ColType.{ColType}
use Rattle.rows.specs.declared.field.ColType.TheVariants as col
use Rattle.rows.specs.declared.plain.LayoutColumn.{LayoutColumn}
use Rattle.rows.specs.declared.plain.Relation.{Relation}
use Rattle.rows.specs.Layouts as layouts
use Rattle.rel_meaning.specs.declared.query.Table.{Table}
use Rattle.rel_meaning.specs.Expression.{Output, Question}
use Rattle.rel_meaning.specs.Meaning.{layout_column}
use Rattle.rel_meaning.specs.Typing.{bound_if, type_of}
use Rattle.postquel_tokens.specs.declared.fault.TextErr.{TextErr}
use Rattle.postquel_tokens.specs.declared.fault.What.TheVariants as what
use Rattle.postquel_tokens.specs.declared.form.IntoForm.{IntoForm}
use Rattle.postquel_tokens.specs.Forms.{Sentence, Wish}
use Rattle.rel_meaning.specs.declared.query.Var.{Var}
use Rattle.name_check.specs.Faults.{column_named}
use Rattle.name_check.specs.FoldFit.{AreSummed, FitFolds, FitsFold, catalog_columns}
use Rattle.name_check.specs.Headers.{headers_in, kept_as, kept_column, kept_from, kept_in, kept_name}
use Rattle.name_check.specs.Resolved.{MayAskEach}
use Rattle.name_check.specs.Sentences.{columns_fault, has_fold, head_in, head_of, headings_after, inner_fault, into_fault, or_fault, queries_of, question_in, questions_in, ranges_fault, script_fault, sentence_fault, vars_of, wish_shown, wish_spot, wishes_fault}
use Rattle.name_check.specs.Types.{at}
use Rattle.fragments.specs.Premises.{IsKept}

-- ---- what may be planned and cut

pub few_each : (hs : _) (ss : List Sentence) → MayAskEach hs ss → All (λ (q : Question). length q.vars ≤ 6) (questions_in hs ss)
few_each hs [] m = All-nil (λ (q : Question). length q.vars ≤ 6)
few_each hs (s ∷ ss) m =
    All-cons (λ (q : Question). length q.vars ≤ 6) (question_in hs s) (questions_in (headings_after hs s) ss) m.0.few (few_each (headings_after hs s) ss m.1)

abbrev pub HasKeys : Question → Type 0
HasKeys q = All (λ key. key.column < length q.targets) q.keys

pub keys_each : (hs : _) (ss : List Sentence) → MayAskEach hs ss → All HasKeys (questions_in hs ss)
keys_each hs [] m = All-nil HasKeys
keys_each hs (s ∷ ss) m = All-cons HasKeys (question_in hs s) (questions_in (headings_after hs s) ss) m.0.keys (keys_each (headings_after hs s) ss m.1)

both_none : (a b : Option TextErr) → option_or a b ≡ None → (a ≡ None) × (b ≡ None)
both_none None b e = (refl, e)
both_none (Some f) b e = absurd cc

narrow : (twice wide : Bool) (n : ℕ) (first second : TextErr) → nat_lt 32 n ≡ wide → ◌≡◌ {A = Option TextErr} (if twice then Some first else if true && wide then Some second else None) None → n ≤ 32
narrow true wide n first second f e = absurd cc
narrow false true n first second f e = absurd cc
narrow false false n first second f e = grind (arith, nat_tests)

-- the targets of a statement that keeps its answer are at most 32 columns
narrow_head : (hs : _) (vars : List Var) (before : _) (ws : List Wish) → length before ≤ 32 → wishes_fault hs true vars before ws ≡ None →
    length (before ++ flat_map (λ w. map head_of (wish_shown hs vars w)) ws) ≤ 32
narrow_head hs vars before [] few e = let same = length-append before [] in omega (arith, few, same)
narrow_head hs vars before (w ∷ ws) few e =
    let new = wish_shown hs vars w in
    let behind = both_none (inner_fault hs vars w) (option_or (columns_fault true (wish_spot w) before new) (wishes_fault hs true vars (before ++ map head_of new) ws)) e in
    let here = both_none (columns_fault true (wish_spot w) before new) (wishes_fault hs true vars (before ++ map head_of new) ws) behind.1 in
    let most : length before + length new ≤ 32 =
    narrow (list_any (λ s. is_some (column_named before s.name)) new) (nat_lt 32 (length before + length new)) (length before + length new) (at (wish_spot w) what.DoubleTarget) (at (wish_spot w) what.TooManyColumns) refl here.0 in
    let together = length-append before (map head_of new) in
    let as_many = length-map new head_of in
    subst (λ columns. length columns ≤ 32) (append_assoc before (map head_of new) (flat_map (λ w. map head_of (wish_shown hs vars w)) ws))
    (narrow_head hs vars (before ++ map head_of new) ws (omega (arith, most, together, as_many)) here.1)

kept_narrow : (hs : _) (n : ℕ) (ss : List Sentence) → script_fault hs ss ≡ None → AllByRecursion IsKept (kept_from hs n ss)
kept_narrow hs n [] e = tt
kept_narrow hs n (s ∷ ss) e =
    let parts = both_none (sentence_fault hs s) (script_fault (headings_after hs s) ss) e in
    let ranges = both_none (into_fault hs (has_fold s) s.kept) _ parts.0 in
    let wishes = both_none (ranges_fault hs [] s.ranges) _ ranges.1 in
    let test = both_none (wishes_fault hs (is_some s.kept) (vars_of hs s) [] s.wishes) _ wishes.1 in
    by s.kept test.0 (kept_narrow (headings_after hs s) (n + 1) ss parts.1) where
      by : (into : Option IntoForm) → wishes_fault hs (is_some into) (vars_of hs s) [] s.wishes ≡ None → AllByRecursion IsKept (kept_from (headings_after hs s) (n + 1) ss) →
          AllByRecursion IsKept (kept_as (head_in hs s) n (kept_name into) ++ kept_from (headings_after hs s) (n + 1) ss)
      by None f others = others
      by (Some into) f others =
          let few = narrow_head hs (vars_of hs s) [] s.wishes (omega arith) f in
          let columns = length-map (head_in hs s) kept_column in
          let bounds = length-map (head_in hs s) (λ c. c.layout.bound) in
          (record { narrow = omega (arith, few, columns); each = omega (arith, columns, bounds) }, others)

-- what the statements of a script without a fault keep is narrow
pub all_narrow : (hs : _) (ss : List Sentence) → script_fault hs ss ≡ None → All IsKept (kept_in hs ss)
all_narrow hs ss e = All-from_recursion IsKept (kept_in hs ss) (kept_narrow hs 0 ss e)

-- ---- how many there are

ok_same : {A : Type 0} (a b : A) (o : Option TextErr) → or_fault a o ≡ Ok b → a ≡ b
ok_same a b None e = cc
ok_same a b (Some f) e = absurd cc

-- the queries of a script without a fault
pub found_questions : (headings : _) (ss : List Sentence) (qs : List Question) → queries_of headings ss ≡ Ok qs → questions_in headings ss ≡ qs
found_questions headings ss qs e = ok_same (questions_in headings ss) qs (script_fault headings ss) e

pub question_each : (headings : _) (ss : List Sentence) → length (questions_in headings ss) ≡ length ss
question_each headings [] = refl
question_each headings (s ∷ ss) = ap suc (question_each (headings_after headings s) ss)

pub header_each : (headings : _) (ss : List Sentence) → length (headers_in headings ss) ≡ length ss
header_each headings [] = refl
header_each headings (s ∷ ss) = ap suc (header_each (headings_after headings s) ss)

-- ---- folds

-- the types of targets that all have one
found_types : (type : Output → Option LayoutColumn) (ts : List Output) → All (λ t. IsSome (type t)) ts → (cs : List LayoutColumn) × (map type ts ≡ map (λ c. Some c) cs)
found_types type [] all = ([], refl)
found_types type (t ∷ ts) all =
    by (type t) refl (All-head (λ t. IsSome (type t)) t ts all) (found_types type ts (All-tail (λ t. IsSome (type t)) t ts all)) where
      by : (o : Option LayoutColumn) → type t ≡ o → IsSome o → (cs : List LayoutColumn) × (map type ts ≡ map (λ c. Some c) cs) → (cs : List LayoutColumn) × (map type (t ∷ ts) ≡ map (λ c. Some c) cs)
      by None e some rest = absurd cc
      by (Some c) e some rest = (c ∷ rest.0, ap₂ (λ (x : Option LayoutColumn) (xs : List (Option LayoutColumn)). x ∷ xs) e rest.1)

drop_map : (n : ℕ) (cs : List LayoutColumn) → drop n (map (λ c. Some c) cs) ≡ map (λ c. Some c) (drop n cs)
drop_map zero cs = refl
drop_map (suc n) [] = refl
drop_map (suc n) (c ∷ cs) = drop_map n cs

integer_type : (t : ColType) (bound : ℕ) → IsSome (bound_if t bound) → t ≡ col.Int4
integer_type col.Int4 bound h = refl
integer_type col.Text bound h = absurd cc
integer_type col.Bool bound h = absurd cc

op_columns : (ops : List FoldOp) (cs : List LayoutColumn) → AreSummed ops (map (λ c. Some c) cs) → length cs ≡ length ops → AreOpColumns ops cs
op_columns [] [] sums same = tt
op_columns [] (c ∷ cs) sums same = absurd (omega (arith, same))
op_columns (op ∷ ops) [] sums same = absurd (omega (arith, same))
op_columns (Count ∷ ops) (c ∷ cs) sums same = op_columns ops cs sums (omega (arith, same))
op_columns (Min ∷ ops) (c ∷ cs) sums same = op_columns ops cs sums (omega (arith, same))
op_columns (Max ∷ ops) (c ∷ cs) sums same = op_columns ops cs sums (omega (arith, same))
op_columns (Sum ∷ ops) (c ∷ cs) sums same = (integer_type c.col_type c.bound sums.0, op_columns ops cs sums.1 (omega (arith, same)))

parts : {X : Type 0} (n : ℕ) (xs : List X) → take n xs ++ drop n xs ≡ xs
parts zero xs = refl
parts (suc n) [] = refl
parts {X} (suc n) (x ∷ xs) = ap (λ (ys : List X). x ∷ ys) (parts n xs)

many_left : {X : Type 0} (n k : ℕ) (xs : List X) → length xs ≡ n + k → length (drop n xs) ≡ k
many_left zero k xs e = omega (arith, e)
many_left (suc n) k [] e = absurd (omega (arith, e))
many_left (suc n) k (x ∷ xs) e = many_left n k xs (omega (arith, e))

-- a fold that fits a query whose targets have types
fold_targets : (columns : List (List LayoutColumn)) (q : Question) (fold : Fold) → IsResolvedIn columns q → FitsFold columns q fold → FoldsTargets columns q fold
fold_targets columns q fold resolved fits =
    let type : Output → Option LayoutColumn = λ target. type_of target.expr (layouts.column_type (layout_in columns q)) in
    let found = found_types type q.targets resolved.targets in
    let many : length found.0 ≡ fold.groups + length fold.ops =
    sym (length-map found.0 (λ c. Some c)) ∙ (ap length (sym found.1) ∙ (length-map q.targets type ∙ fits.width)) in
    record {
      groups = take fold.groups found.0;
      values = drop fold.groups found.0;
      width = length-take-le fold.groups found.0 (omega (arith, many));
      types = found.1 ∙ ap (λ (cs : List LayoutColumn). map (λ c. Some c) cs) (sym (parts fold.groups found.0));
      ops = op_columns fold.ops (drop fold.groups found.0)
          (subst (AreSummed fold.ops) (ap (drop fold.groups) found.1 ∙ drop_map fold.groups found.0) fits.sums)
          (many_left fold.groups (length fold.ops) found.0 many);
    }

plan_targets : (columns : List (List LayoutColumn)) (q : Question) (p : Option FoldPlan) → IsResolvedIn columns q → IfSome p (λ plan. FitsFold columns q plan.fold) → IfSome p (λ plan. FoldsTargets columns q plan.fold)
plan_targets columns q None resolved fits = tt
plan_targets columns q (Some plan) resolved fits = fold_targets columns q plan.fold resolved fits

plan_there : (front : List (Option FoldPlan)) (p : Option FoldPlan) (ps : List (Option FoldPlan)) (n : ℕ) → length front ≡ n → plan_at (front ++ p ∷ ps) n ≡ p
plan_there [] None ps zero e = refl
plan_there [] (Some plan) ps zero e = refl
plan_there [] p ps (suc n) e = absurd (omega (arith, e))
plan_there (f ∷ front) p ps zero e = absurd (omega (arith, e))
plan_there (f ∷ front) p ps (suc n) e = plan_there front p ps n (omega (arith, e))

folds_from : (columns : List (List LayoutColumn)) (kept : List Kept) (front ps : List (Option FoldPlan)) (n : ℕ) (qs : List Question) → length front ≡ n → FitQueries columns kept n qs → FitFolds columns kept n qs ps →
    FoldQueriesFrom columns kept (front ++ ps) n qs
folds_from columns kept front ps n [] e queries fits = tt
folds_from columns kept front [] n (q ∷ qs) e queries fits = absurd fits
folds_from columns kept front (p ∷ ps) n (q ∷ qs) e queries fits = (
  subst (λ plan. IfSome plan (λ plan. FoldsTargets columns q plan.fold)) (sym (plan_there front p ps n e)) (plan_targets columns q p queries.0 fits.0),
  subst (λ folds. FoldQueriesFrom (columns_behind columns (kept_of kept n)) kept folds (n + 1) qs) (append_assoc front (p ∷ []) ps)
      (folds_from (columns_behind columns (kept_of kept n)) kept (front ++ p ∷ []) ps (n + 1) qs (length-append front (p ∷ []) ∙ ap (λ (k : ℕ). k + 1) e) queries.2 fits.1),
)

-- folds that fit the queries of a script, each by its place
pub fold_queries : (columns : List (List LayoutColumn)) (kept : List Kept) (folds : List (Option FoldPlan)) (qs : List Question) → FitQueries columns kept 0 qs → FitFolds columns kept 0 qs folds → FoldQueriesFrom columns kept folds 0 qs
fold_queries columns kept folds qs queries fits = folds_from columns kept [] folds 0 qs refl queries fits

-- ---- tables

-- tables with the columns of the relations of a catalogue
pub same_columns : (catalog : List Relation) (db : List Table) → map (λ (t : Table). t.columns) db ≡ map (λ (r : Relation). r.columns) catalog → catalog_columns catalog ≡ database_columns db
same_columns [] [] e = refl
same_columns [] (t ∷ ts) e = absurd cc
same_columns (r ∷ rs) [] e = absurd cc
same_columns (r ∷ rs) (t ∷ ts) e =
    let first : t.columns ≡ r.columns = cc in
    let others : map (λ (t : Table). t.columns) ts ≡ map (λ (r : Relation). r.columns) rs = cc in
    ap₂ (λ (c : List LayoutColumn) (cs : List (List LayoutColumn)). c ∷ cs) (ap (map layout_column) (sym first)) (same_columns rs ts others)
