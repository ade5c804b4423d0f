-- The fragments of a script are well formed.
use Rattle.std.proofs.Common.{◌≡◌, ℕ, zero, suc, ◌+◌, ◌-◌, ◌*◌, ◌^◌, ◌<◌, ◌≤◌, Bool, true, false, cond, ◌==◌, nat_lt, is_some, List, [], ◌∷◌, ◌++◌, length, map, take, Option, Some, None, refl, sym, ap, ◌∙◌, subst, arith, lit≤, append_assoc, length-append, slice_get, inl, inr}
use Rattle.std.specs.Prelude.{⊤, IsTrue, IsSome, IfSome, All, ◌⊎◌, slice_index_or}
use Rattle.std.specs.List.{AllByRecursion}
use Rattle.std.specs.Ordering.{nat_cmp, is_gt}
use Rattle.std.specs.declared.cmp.Ordering.TheVariants.{Less, Equal, Greater}
use Rattle.std.proofs.lemmas.Bool.{cases_lt}
use Rattle.std.proofs.lemmas.Bool.Decides.{nat_tests}
use Rattle.std.proofs.lemmas.List.{append-nil}
use Rattle.std.proofs.lemmas.List.Elements.{recursion_from_All}
use Rattle.lists.specs.Arranged.{Ascends, one_if}
use Rattle.rows.specs.declared.plain.LayoutColumn.{LayoutColumn}
use Rattle.rows.specs.declared.plain.LayoutPart.{LayoutPart}
use Rattle.rows.specs.declared.plain.KeyIndex.{KeyIndex}
use Rattle.rows.specs.declared.plain.KeyPair.{KeyPair}
use Rattle.rows.specs.declared.plain.Relation.{Relation}
use Rattle.rows.specs.Layouts.{all_columns, column_type}
use Rattle.rel_meaning.specs.declared.query.Var.{Var}
use Rattle.rel_meaning.specs.Expression.{Expression, Output, Question}
use Rattle.rel_meaning.specs.Meaning.{layout_over, listed}
use Rattle.rel_meaning.specs.Typing.{type_of, is_truth}
use Rattle.heap_page.specs.declared.map.PageFile.{PageFile}
use Rattle.heap_page.specs.declared.head.FileKind.TheVariants as kind
use Rattle.plan_tree.specs.declared.tree.Method.TheVariants.{Hash, Merge}
use Rattle.plan_tree.specs.Combining.{part_of}
use Rattle.plan_tree.specs.Conjuncts.{conjuncts, is_within}
use Rattle.plan_tree.specs.Pieces.{Ending, Piece, answering, building}
use Rattle.plan_tree.specs.Trees.{Shape, one, scan, join, has, scans}
use Rattle.plan_tree.specs.Views.{Planned}
use Rattle.plan_tree.specs.WellFormed.{AnswersColumns, AreTests, AreTargets, AreWellFormed, HasInput, IsBelow, IsEnd, IsPiece, target_types, type_at}
use Rattle.plan_tree.proofs.TreeRows.{Once, scans_none}
use Rattle.plan_tree.proofs.Typing.{get_left, get_right, type_is, part_type, operands_typed, type_agrees, typed_within}
use Rattle.seq_optimizer.specs.declared.stats.VarStats.{VarStats}
use Rattle.kept_relations.specs.declared.kept.Kept.{Kept}
use Rattle.kept_answers.specs.KeptAnswers.{AscendFrom, FitsTargets, columns_behind, columns_kept, kept_of, layout_in}
use Rattle.fragments.specs.Homes.{Home, Known, Store, columns_in, heap_file, home_for, home_if, home_of, kept_home, made, made_by, nowhere, stored, stored_if}
use Rattle.fragments.specs.Cuts.{Cut, Facts, closed, columns_for, cut_query, cut_tree, left_sort, right_sort, tree_layout}
use Rattle.fragments.specs.Premises.{HasFiles, MayCut, catalog_columns}
use Rattle.fragments.specs.Scripts.{cut_from, cut_plans, facts_next, last_next}
use Rattle.fragments.proofs.Counts.{cut_length}
use Rattle.fragments.proofs.Formed.{AreFew, AreFormed, AreMade, formed_append, has_more, less_of, piece_formed, tree_formed}
use Rattle.fragments.proofs.Sizes.{has_below}
use Rattle.fragments.proofs.Standing.{all_at, home_there, some_at}
use Rattle.fragments.proofs.Steps.{AreReady, Ready, all_ready, few_fragments, may_scan}
use Rattle.fragments.proofs.Typed.{Columned, targets_typed, tree_type}

-- ---- the layout of a query's variables

part_at : (columns : ℕ → List LayoutColumn) (n : ℕ) (vars : List Var) (i : ℕ) (var : Var) → slice_get vars i ≡ Some var → part_of (layout_over columns n vars) (n + i) ≡ Some (columns var.relation)
part_at columns n [] i var h = cc
part_at columns n (x ∷ xs) zero var h =
    let same : x ≡ var = cc in
    let here : (n == n + 0) ≡ true = grind (arith, nat_tests) in
    ap (λ b. cond b (Some (columns x.relation)) (part_of (layout_over columns (n + 1) xs) (n + 0))) here ∙ ap (λ (v : Var). Some (columns v.relation)) same
part_at columns n (x ∷ xs) (suc i) var h =
    let other : (n == n + suc i) ≡ false = grind (arith, nat_tests) in
    let next : n + suc i ≡ (n + 1) + i = omega arith in
    ap (λ b. cond b (Some (columns x.relation)) (part_of (layout_over columns (n + 1) xs) (n + suc i))) other
    ∙ ap (part_of (layout_over columns (n + 1) xs)) next ∙ part_at columns (n + 1) xs i var h

part_within : (columns : ℕ → List LayoutColumn) (n : ℕ) (vars : List Var) (v : ℕ) → is_some (part_of (layout_over columns n vars) v) ≡ true → v < n + length vars
part_within columns n [] v h = cc
part_within columns n (x ∷ xs) v h = by (part_within columns (n + 1) xs v) (n == v) refl h where
  by : (is_some (part_of (layout_over columns (n + 1) xs) v) ≡ true → v < (n + 1) + length xs) → (b : Bool) → (n == v) ≡ b → is_some (cond b (Some (columns x.relation)) (part_of (layout_over columns (n + 1) xs) v)) ≡ true → v < n + suc (length xs)
  by rest true e k = let l : n ≡ v = grind (arith, nat_tests) in omega arith
  by rest false e k = let l = rest k in omega (arith, l)

type_some : (o : Option (List LayoutColumn)) (column : ℕ) → is_some (part_type o column) ≡ true → is_some o ≡ true
type_some None column h = cc
type_some (Some x) column h = refl

truths : (test : Option Expression) (f : ℕ → ℕ → Option LayoutColumn) → IfSome test (λ t. IsTrue (is_truth (type_of t f))) → AllByRecursion (λ c. is_truth (type_of c f) ≡ true) (conjuncts test)
truths None f h = tt
truths (Some t) f h = operands_typed f t h

-- ---- lists of fragments

formed_each : (before ps : List Piece) (i : ℕ) (p : Piece) → AreFormed before ps → slice_get ps i ≡ Some p → IsPiece (before ++ take i ps) p
formed_each before [] i p all h = cc
formed_each before (x ∷ xs) zero p all h = let e : x ≡ p = cc in subst (λ y. IsPiece (before ++ []) y) e (subst (λ bs. IsPiece bs x) (sym (append-nil before)) all.0)
formed_each before (x ∷ xs) (suc i) p all h = subst (λ bs. IsPiece bs p) (append_assoc before (x ∷ []) (take i xs)) (formed_each (before ++ x ∷ []) xs i p all.1 h)

abbrev AreOf : ℕ → List Piece → Type 0
AreOf s ps = AllByRecursion (λ (p : Piece). p.statement ≡ s) ps

of_append : (s : ℕ) (xs ys : List Piece) → AreOf s xs → AreOf s ys → AreOf s (xs ++ ys)
of_append s [] ys a b = b
of_append s (x ∷ xs) ys a b = (a.0, of_append s xs ys a.1 b)

tree_of : (facts : Facts) (n : ℕ) (t : Shape) → AreOf facts.statement (cut_tree facts n t).before
tree_of facts n (one tests) = tt
tree_of facts n (scan v how tests) = tt
tree_of facts n (join Hash a b keys tests) = of_append facts.statement (cut_tree facts n a).before _ (tree_of facts n a) (refl, tree_of facts (n + length (cut_tree facts n a).before + 1) b)
tree_of facts n (join Merge a b keys tests) =
    of_append facts.statement (cut_tree facts n a).before _ (tree_of facts n a)
    (refl, of_append facts.statement (cut_tree facts (n + length (cut_tree facts n a).before + 1) b).before _ (tree_of facts (n + length (cut_tree facts n a).before + 1) b) (refl, tt))

query_of : (facts : Facts) (n : ℕ) (q : Question) (t : Shape) → AreOf facts.statement (cut_query facts n q t)
query_of facts n q t = of_append facts.statement (cut_tree facts n t).before _ (tree_of facts n t) (refl, tt)

abbrev AreFrom : ℕ → List Piece → Type 0
AreFrom s ps = AllByRecursion (λ (p : Piece). s ≤ p.statement) ps

from_less : (s t : ℕ) (ps : List Piece) → s ≤ t → AreFrom t ps → AreFrom s ps
from_less s t [] less all = tt
from_less s t (p ∷ ps) less all = (let a = all.0 in omega (arith, a, less), from_less s t ps less all.1)

from_append : (s : ℕ) (xs ys : List Piece) → AreOf s xs → AreFrom s ys → AreFrom s (xs ++ ys)
from_append s [] ys a b = b
from_append s (x ∷ xs) ys a b = (let e = a.0 in omega (arith, e), from_append s xs ys a.1 b)

abbrev Up : List Piece → Type 0
Up ps = Ascends nat_cmp (map (λ (p : Piece). p.statement) ps)

not_above : (x y : ℕ) → x ≤ y → is_gt (nat_cmp x y) ≡ false
not_above x y h = by (nat_lt x y) (x == y) refl refl where
  by : (a b : Bool) → nat_lt x y ≡ a → (x == y) ≡ b → is_gt (cond a Less (cond b Equal Greater)) ≡ false
  by true b i j = refl
  by false true i j = refl
  by false false i j = absurd (let k : x < y → ⊥ = grind (arith, nat_tests) in let l : x ≡ y → ⊥ = grind (arith, nat_tests) in omega (arith, h, k, l))

below_all : (s x : ℕ) → x ≡ s → (ps : List Piece) → AreFrom s ps → AllByRecursion (λ y. is_gt (nat_cmp x y) ≡ false) (map (λ (p : Piece). p.statement) ps)
below_all s x e [] all = tt
below_all s x e (p ∷ ps) all = (not_above x p.statement (let a = all.0 in omega (arith, a, e)), below_all s x e ps all.1)

up_append : (s : ℕ) (xs ys : List Piece) → AreOf s xs → AreFrom s ys → Up ys → Up (xs ++ ys)
up_append s [] ys a b up = up
up_append s (x ∷ xs) ys a b up = (below_all s x.statement a.0 (xs ++ ys) (from_append s xs ys a.1 b), up_append s xs ys a.1 b up)

module _ (known : Known) (table : List (List VarStats)) where
  script_from : (ps : List Planned) (lasts : List ℕ) (n : ℕ) → AreFrom (length lasts) (cut_from known table lasts n ps)
  script_from [] lasts n = tt
  script_from (p ∷ ps) lasts n =
      let last = last_next known table lasts n p in
      let long = length-append lasts (last ∷ []) in
      from_append (length lasts) (cut_query (facts_next known table lasts p) n p.query p.tree) (cut_from known table (lasts ++ last ∷ []) (last + 1) ps) (query_of (facts_next known table lasts p) n p.query p.tree)
      (from_less (length lasts) (length (lasts ++ last ∷ [])) (cut_from known table (lasts ++ last ∷ []) (last + 1) ps) (omega (arith, long)) (script_from ps (lasts ++ last ∷ []) (last + 1)))

  pub script_up : (ps : List Planned) (lasts : List ℕ) (n : ℕ) → Ascends nat_cmp (map (λ (p : Piece). p.statement) (cut_from known table lasts n ps))
  script_up [] lasts n = tt
  script_up (p ∷ ps) lasts n =
      let last = last_next known table lasts n p in
      let long = length-append lasts (last ∷ []) in
      let rest = cut_from known table (lasts ++ last ∷ []) (last + 1) ps in
      up_append (length lasts) (cut_query (facts_next known table lasts p) n p.query p.tree) rest (query_of (facts_next known table lasts p) n p.query p.tree)
      (from_less (length lasts) (length (lasts ++ last ∷ [])) rest (omega (arith, long)) (script_from ps (lasts ++ last ∷ []) (last + 1)))
      (script_up ps (lasts ++ last ∷ []) (last + 1))

-- ---- one statement

pub at_least : (n i : ℕ) (ks : List Kept) (k : Kept) → AscendFrom n ks → slice_get ks i ≡ Some k → n ≤ k.statement
at_least n i [] k up h = cc
at_least n zero (x ∷ xs) k up h = let e : x ≡ k = cc in subst (λ (y : Kept). n ≤ y.statement) e up.0
at_least n (suc i) (x ∷ xs) k up h = (let a = at_least (x.statement + 1) i xs k up.1 h in let b = up.0 in omega (arith, a, b))

-- what is kept by a statement
pub kept_is : (n i : ℕ) (ks : List Kept) (k : Kept) → AscendFrom n ks → slice_get ks i ≡ Some k → kept_of ks k.statement ≡ Some k
kept_is n i [] k up h = cc
kept_is n zero (x ∷ xs) k up h =
    let e : x ≡ k = cc in
    let same : (x.statement == k.statement) ≡ true = (let s = ap (λ (y : Kept). y.statement) e in grind (arith, nat_tests)) in
    ap (λ b. cond b (Some x) (kept_of xs k.statement)) same ∙ ap (λ y. Some y) e
kept_is n (suc i) (x ∷ xs) k up h =
    let a = at_least (x.statement + 1) i xs k up.1 h in
    let other : (x.statement == k.statement) ≡ false = grind (arith, nat_tests) in
    ap (λ b. cond b (Some x) (kept_of xs k.statement)) other ∙ kept_is (x.statement + 1) i xs k up.1 h

module _ (known : Known) (table : List (List VarStats)) (files : (relation : ℕ) (here : Relation) → slice_get known.relations relation ≡ Some here → HasFiles known relation here) where
  -- each kept relation of an earlier statement is the answer of its last fragment
  abbrev pub AreAnswers : List Piece → List ℕ → Type 0
  AreAnswers before lasts = (k : Kept) (place number : ℕ) → slice_get known.kept place ≡ Some k → slice_get lasts k.statement ≡ Some number →
      HasInput before number (λ piece. AnswersColumns (columns_kept k) piece.layout piece.end)

  home_pages : (lasts : List ℕ) (relation : ℕ) (store : Store) → home_of known lasts relation ≡ stored store → store.pages ≤ 2 ^ 40
  home_pages lasts relation store = by (slice_get known.relations relation) refl where
    in_file : (here : Relation) (pages : ℕ) → pages < 2 ^ 32 → (o : Option PageFile) → ((file : PageFile) → o ≡ Some file → file.pages ≡ pages) → stored_if known relation here o ≡ stored store → store.pages ≤ 2 ^ 40
    in_file here pages few None h e = cc
    in_file here pages few (Some file) h e =
        let is : file.pages ≡ pages = h file refl in
        let same : file.pages ≡ store.pages = cc in
        omega (arith, few, is, same)

    by_number : (kept : Kept) (o : Option ℕ) → made_by kept o ≡ stored store → store.pages ≤ 2 ^ 40
    by_number kept None e = cc
    by_number kept (Some number) e = cc

    by_kept : (o : Option Kept) → kept_home lasts o ≡ stored store → store.pages ≤ 2 ^ 40
    by_kept None e = cc
    by_kept (Some kept) e = by_number kept (slice_get lasts kept.statement) e

    by : (o : Option Relation) → slice_get known.relations relation ≡ o → home_if known lasts relation o ≡ stored store → store.pages ≤ 2 ^ 40
    by None h e = by_kept (slice_get known.kept (relation - length known.relations)) e
    by (Some here) h e =
        let f = files relation here h in
        in_file here f.heap_pages f.few (slice_get known.files (heap_file known.relations relation)) (λ file k. let same : record { kind = kind.Heap; pages = f.heap_pages } ≡ file = (let s : ◌≡◌ {A = Option PageFile} (Some (record { kind = kind.Heap; pages = f.heap_pages })) (Some file) = sym f.heap ∙ k in cc) in sym (ap (λ (x : PageFile). x.pages) same)) e

  home_made : (before : List Piece) (lasts : List ℕ) (relation number : ℕ) (columns : List LayoutColumn) → AreAnswers before lasts → home_of known lasts relation ≡ made number columns → HasInput before number (λ piece. AnswersColumns columns piece.layout piece.end)
  home_made before lasts relation number columns answers = by (slice_get known.relations relation) where
    in_file : (here : Relation) (o : Option PageFile) → stored_if known relation here o ≡ made number columns → HasInput before number (λ piece. AnswersColumns columns piece.layout piece.end)
    in_file here None e = cc
    in_file here (Some file) e = cc

    by_number : (kept : Kept) (place : ℕ) → slice_get known.kept place ≡ Some kept → (o : Option ℕ) → slice_get lasts kept.statement ≡ o → made_by kept o ≡ made number columns → HasInput before number (λ piece. AnswersColumns columns piece.layout piece.end)
    by_number kept place h None k e = cc
    by_number kept place h (Some m) k e =
        let same : m ≡ number = cc in
        let cols : columns_kept kept ≡ columns = cc in
        subst (λ c. HasInput before number (λ piece. AnswersColumns c piece.layout piece.end)) cols (answers kept place number h (k ∙ ap (λ x. Some x) same))

    by_kept : (o : Option Kept) → slice_get known.kept (relation - length known.relations) ≡ o → kept_home lasts o ≡ made number columns → HasInput before number (λ piece. AnswersColumns columns piece.layout piece.end)
    by_kept None h e = cc
    by_kept (Some kept) h e = by_number kept (relation - length known.relations) h (slice_get lasts kept.statement) refl e

    by : (o : Option Relation) → home_if known lasts relation o ≡ made number columns → HasInput before number (λ piece. AnswersColumns columns piece.layout piece.end)
    by None e = by_kept (slice_get known.kept (relation - length known.relations)) refl e
    by (Some here) e = in_file here (slice_get known.files (heap_file known.relations relation)) e

  module _ (lasts : List ℕ) (columns : List (List LayoutColumn)) (p : Planned) (ready : Ready known table lasts columns p) where
    abbrev facts : Facts
    facts = facts_next known table lasts p

    abbrev types : ℕ → ℕ → Option LayoutColumn
    types = column_type (layout_in columns p.query)

    once : Once p.tree
    once v = (let e = ready.plan.tree.1.once v in let s = small (nat_lt v (length p.query.vars)) in omega (arith, e, s)) where
      small : (b : Bool) → one_if b ≤ 1
      small true = lit≤ tt
      small false = lit≤ tt

    below : (v : ℕ) → has p.tree v ≡ true → v < length p.query.vars
    below = has_below p.query ready.plan.tree.0 p.tree ready.plan.tree.1

    pub columned : Columned facts types p.tree
    columned v h column =
        let var = some_at p.query.vars v (below v h) in
        let there = home_there known files lasts columns ready.standing var.0.relation (all_at (λ (x : Var). x.relation < length columns) p.query.vars v var.0 (recursion_from_All (λ (x : Var). x.relation < length columns) p.query.vars ready.resolved.relations) var.1) in
        let z : 0 + v ≡ v = omega arith in
        type_is (layout_in columns p.query) v column
        ∙ ap (λ o. part_type o column) (sym (ap (part_of (layout_in columns p.query)) z) ∙ part_at (listed columns) 0 p.query.vars v var.0 var.1)
        ∙ ap (λ cs. slice_get cs column) (sym there.are)
        ∙ ap (λ o. slice_get (columns_in (home_for known lasts o)) column) (sym var.1)

    known_has : (v column : ℕ) → is_some (types v column) ≡ true → has p.tree v ≡ true
    known_has v column h = by (has p.tree v) refl where
      below_it : v < length p.query.vars
      below_it = (let k = part_within (listed columns) 0 p.query.vars v (type_some (part_of (layout_in columns p.query) v) column (sym (ap is_some (type_is (layout_in columns p.query) v column)) ∙ h)) in omega (arith, k))

      by : (b : Bool) → has p.tree v ≡ b → b ≡ true
      by true e = refl
      by false e = absurd (let none = scans_none p.tree v e in let less = below_it in let t : nat_lt v (length p.query.vars) ≡ true = grind (arith, nat_tests) in let some : scans p.tree v ≡ 1 = ready.plan.tree.1.once v ∙ ap one_if t in omega (arith, none, some))

    known_below : (v column : ℕ) → is_some (types v column) ≡ true → nat_lt v (length p.query.vars) ≡ true
    known_below v column h =
        let k = part_within (listed columns) 0 p.query.vars v (type_some (part_of (layout_in columns p.query) v) column (sym (ap is_some (type_is (layout_in columns p.query) v column)) ∙ h)) in
        let less : v < length p.query.vars = omega (arith, k) in
        grind (arith, nat_tests)

    no_vars : (tests : List Expression) → p.tree ≡ one tests → p.query.vars ≡ []
    no_vars tests e = by p.query.vars (subst (λ t. scans t 0 ≡ one_if (nat_lt 0 (length p.query.vars))) e (ready.plan.tree.1.once 0)) where
      by : (vars : List Var) → 0 ≡ one_if (nat_lt 0 (length vars)) → vars ≡ []
      by [] h = refl
      by (v ∷ vs) h = absurd (let t : nat_lt 0 (length (v ∷ vs)) ≡ true = grind (arith, nat_tests) in let k : 0 ≡ 1 = h ∙ ap one_if t in omega (arith, k))

    typed : AllByRecursion (λ c. is_truth (type_of c types) ≡ true) (conjuncts p.query.test)
    typed = truths p.query.test types ready.resolved.test

    -- the conjuncts name variables of the query alone
    pub names_own : AllByRecursion (λ c. is_within (λ v. nat_lt v (length p.query.vars)) c ≡ true) (conjuncts p.query.test)
    names_own = each (conjuncts p.query.test) typed where
      truth_some : (o : Option LayoutColumn) → is_truth o ≡ true → is_some o ≡ true
      truth_some None h = cc
      truth_some (Some c) h = refl

      each : (cs : List Expression) → AllByRecursion (λ c. is_truth (type_of c types) ≡ true) cs → AllByRecursion (λ c. is_within (λ v. nat_lt v (length p.query.vars)) c ≡ true) cs
      each [] all = tt
      each (c ∷ cs) all = (typed_within (λ v. nat_lt v (length p.query.vars)) types known_below c (truth_some (type_of c types) all.0), each cs all.1)

    alone : (tests : List Expression) → p.tree ≡ one tests → AreTests [] (conjuncts p.query.test)
    alone tests e = subst (λ vars. AllByRecursion (λ c. is_truth (type_of c (column_type (layout_over (listed columns) 0 vars))) ≡ true) (conjuncts p.query.test)) (no_vars tests e) typed

    few : AreFew facts types (length p.query.vars) (conjuncts p.query.test) typed
    few v store = by (slice_get p.query.vars v) where
      by : (o : Option Var) → home_for known lasts o ≡ stored store → store.pages ≤ 2 ^ 40
      by None e = cc
      by (Some var) e = home_pages lasts var.relation store e

    made_before : (before : List Piece) → AreAnswers before lasts → AreMade facts types (length p.query.vars) (conjuncts p.query.test) typed before
    made_before before answers v number cs = by (slice_get p.query.vars v) where
      by : (o : Option Var) → home_for known lasts o ≡ made number cs → HasInput before number (λ piece. AnswersColumns cs piece.layout piece.end)
      by None e = cc
      by (Some var) e = home_made before lasts var.relation number cs answers e

    targets : AreTargets (tree_layout facts p.tree) p.query.targets
    targets = targets_typed facts types p.tree once columned known_has p.query.targets (recursion_from_All _ p.query.targets ready.resolved.targets)

    -- the fragments of a statement, the last of which has this end
    pub statement_ends : (before : List Piece) (n : ℕ) → length before ≡ n → AreAnswers before lasts → (ending : Ending) → IsEnd (tree_layout facts p.tree) ending →
        AreFormed before ((cut_tree facts n p.tree).before ++ closed facts p.tree (cut_tree facts n p.tree).last ending ∷ [])
    statement_ends before n size answers ending end =
        let is = tree_formed facts types (length p.query.vars) (conjuncts p.query.test) typed few before n p.tree size once columned (made_before before answers) (may_scan known table lasts columns p files ready) ready.plan.tree.1.placed alone in
        let c = cut_tree facts n p.tree in
        formed_append before c.before _ is.pieces (piece_formed (before ++ c.before) facts.statement (tree_layout facts p.tree) c.last ending is.last end, tt)

    pub answer_ends : IsEnd (tree_layout facts p.tree) (answering p.query.targets p.query.unique p.query.keys)
    answer_ends = (targets, recursion_from_All _ p.query.keys ready.plan.keys)

    pub statement_formed : (before : List Piece) (n : ℕ) → length before ≡ n → AreAnswers before lasts → AreFormed before (cut_query facts n p.query p.tree)
    statement_formed before n size answers = statement_ends before n size answers (answering p.query.targets p.query.unique p.query.keys) answer_ends

    -- the types of the targets, in the layout of the tree
    pub same_types : (ts : List Output) → AllByRecursion (λ (target : Output). IsSome (type_of target.expr types)) ts → target_types (tree_layout facts p.tree) ts ≡ map (λ (target : Output). type_of target.expr types) ts
    same_types [] all = refl
    same_types (t ∷ ts) all =
        let e = sym (type_agrees (has p.tree) types (column_type (tree_layout facts p.tree)) (λ v h column. tree_type facts types p.tree once columned v h column) t.expr (typed_within (has p.tree) types known_has t.expr all.0)) in
        λ i. e i ∷ same_types ts all.1 i

    pub target_types_here : target_types (tree_layout facts p.tree) p.query.targets ≡ map (λ (target : Output). type_of target.expr types) p.query.targets
    target_types_here = same_types p.query.targets (recursion_from_All _ p.query.targets ready.resolved.targets)

    kept_here : (k : Kept) (place : ℕ) → AscendFrom 0 known.kept → slice_get known.kept place ≡ Some k → k.statement ≡ length lasts → target_types (tree_layout facts p.tree) p.query.targets ≡ map Some (columns_kept k)
    kept_here k place up at e =
        let found : kept_of known.kept (length lasts) ≡ Some k = ap (kept_of known.kept) (sym e) ∙ kept_is 0 place known.kept k up at in
        let fits : FitsTargets columns p.query k = subst (λ o. IfSome o (FitsTargets columns p.query)) found ready.keeps in
        same_types p.query.targets (recursion_from_All _ p.query.targets ready.resolved.targets) ∙ fits.types

    -- the last fragment of a statement, with this end, has the number that the cut says
    pub last_piece : (before : List Piece) (n number : ℕ) (ending : Ending) (P : Piece → Type 0) → length before ≡ n → number ≡ last_next known table lasts n p →
        P (closed facts p.tree (cut_tree facts n p.tree).last ending) →
        HasInput (before ++ ((cut_tree facts n p.tree).before ++ closed facts p.tree (cut_tree facts n p.tree).last ending ∷ [])) number P
    last_piece before n number ending P size e holds =
        let c = cut_tree facts n p.tree in
        let pa = closed facts p.tree c.last ending in
        let z : number ≡ length before + length c.before = omega (arith, e, size) in
        let y : length c.before ≡ length c.before + 0 = omega arith in (
          pa,
          ap (slice_get (before ++ (c.before ++ pa ∷ []))) z ∙ get_right before (c.before ++ pa ∷ []) (length c.before)
              ∙ ap (slice_get (c.before ++ pa ∷ [])) y ∙ get_right c.before (pa ∷ []) 0,
          holds,
        )

    -- a last fragment with this end answers what the statement keeps, if it keeps its answer
    pub answers_ends : (before : List Piece) (n : ℕ) → length before ≡ n → AscendFrom 0 known.kept → AreAnswers before lasts → (ending : Ending) →
        ((k : Kept) → kept_of known.kept (length lasts) ≡ Some k → ending ≡ answering p.query.targets p.query.unique p.query.keys) →
        AreAnswers (before ++ ((cut_tree facts n p.tree).before ++ closed facts p.tree (cut_tree facts n p.tree).last ending ∷ [])) (lasts ++ last_next known table lasts n p ∷ [])
    answers_ends before n size up answers ending answered k place number at is =
        let last = last_next known table lasts n p in
        let P = λ (piece : Piece). AnswersColumns (columns_kept k) piece.layout piece.end in
        elim (cases_lt k.statement (length lasts)) [
          | inl earlier ↦ has_more before ((cut_tree facts n p.tree).before ++ closed facts p.tree (cut_tree facts n p.tree).last ending ∷ []) number P (answers k place number at (sym (get_left lasts (last ∷ []) k.statement earlier) ∙ is))
          | inr later ↦
              let l = less_of (lasts ++ last ∷ []) k.statement number is in
              let m = length-append lasts (last ∷ []) in
              let e : k.statement ≡ length lasts = omega (arith, l, m, later) in
              let e0 : k.statement ≡ length lasts + 0 = omega (arith, e) in
              let found : Some last ≡ Some number = sym (get_right lasts (last ∷ []) 0) ∙ ap (slice_get (lasts ++ last ∷ [])) (sym e0) ∙ is in
              let same : number ≡ last = cc in
              let end = answered k (ap (kept_of known.kept) (sym e) ∙ kept_is 0 place known.kept k up at) in
              last_piece before n number ending P size same (subst (λ (x : Ending). AnswersColumns (columns_kept k) (tree_layout facts p.tree) x) (sym end) (kept_here k place up at e))
        ]

    pub answers_next : (before : List Piece) (n : ℕ) → length before ≡ n → AscendFrom 0 known.kept → AreAnswers before lasts →
        AreAnswers (before ++ cut_query facts n p.query p.tree) (lasts ++ last_next known table lasts n p ∷ [])
    answers_next before n size up answers = answers_ends before n size up answers (answering p.query.targets p.query.unique p.query.keys) (λ k h. refl)

  script_formed : AscendFrom 0 known.kept → (ps : List Planned) (lasts : List ℕ) (columns : List (List LayoutColumn)) (n : ℕ) (before : List Piece) → length before ≡ n → AreReady known table lasts columns n ps → AreAnswers before lasts →
      AreFormed before (cut_from known table lasts n ps)
  script_formed up [] lasts columns n before size ready answers = tt
  script_formed up (p ∷ ps) lasts columns n before size ready answers =
      let f = facts_next known table lasts p in
      let cut = cut_query f n p.query p.tree in
      let last = last_next known table lasts n p in
      let longer = length-append before cut in
      let long = length-append (cut_tree f n p.tree).before (closed f p.tree (cut_tree f n p.tree).last (answering p.query.targets p.query.unique p.query.keys) ∷ []) in
      formed_append before cut (cut_from known table (lasts ++ last ∷ []) (last + 1) ps) (statement_formed lasts columns p ready.0 before n size answers)
      (script_formed up ps (lasts ++ last ∷ []) (columns_behind columns (kept_of known.kept (length lasts))) (last + 1) (before ++ cut) (omega (arith, longer, long, size)) ready.1
      (answers_next lasts columns p ready.0 before n size up answers))

  script_long : (ps : List Planned) (lasts : List ℕ) (columns : List (List LayoutColumn)) (n : ℕ) → AreReady known table lasts columns n ps → length (cut_from known table lasts n ps) ≤ 11 * length ps
  script_long [] lasts columns n ready = lit≤ tt
  script_long (p ∷ ps) lasts columns n ready =
      let f = facts_next known table lasts p in
      let cut = cut_query f n p.query p.tree in
      let last = last_next known table lasts n p in
      let rest = script_long ps (lasts ++ last ∷ []) (columns_behind columns (kept_of known.kept (length lasts))) (last + 1) ready.1 in
      let few = few_fragments known table lasts columns p files ready.0 in
      let long = length-append (cut_tree f n p.tree).before (closed f p.tree (cut_tree f n p.tree).last (answering p.query.targets p.query.unique p.query.keys) ∷ []) in
      let count = cut_length f n p.tree in
      let all = length-append cut (cut_from known table (lasts ++ last ∷ []) (last + 1) ps) in
      omega (arith, rest, few, long, count, all)

-- the fragments of a script that may be cut
pub all_formed : (known : Known) (table : List (List VarStats)) (ps : List Planned) → MayCut known table ps → AreWellFormed (cut_plans known table ps)
all_formed known table ps may =
    let ready = all_ready known table ps may in
    let long = script_long known table may.files ps [] (catalog_columns known) 0 ready in
    let formed = script_formed known table may.files may.kept.ascending ps [] (catalog_columns known) 0 [] refl ready (λ k place number at is. cc) in
    record {
      few = (let w = may.few in omega (arith, long, w));
      statements = script_up known table ps [] 0;
      each = λ number piece h. formed_each [] (cut_plans known table ps) number piece formed h;
    }
