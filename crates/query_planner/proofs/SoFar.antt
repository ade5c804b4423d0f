-- What was counted and planned so far.
use Rattle.std.proofs.Common.{◌≡◌, ℕ, ◌<◌, ◌≤◌, ◌-◌, List, [], ◌∷◌, ◌++◌, length, Option, Some, sym, ap, subst, ◌∙◌, arith, inl, inr}
use Rattle.std.specs.Prelude.{slice_get}
use Rattle.heap_page.proofs.Found.{get_below, one_at}
use Rattle.kept_relations.specs.declared.kept.Kept.{Kept}
use Rattle.plan_tree.specs.declared.tree.Method.{Method}
use Rattle.plan_tree.specs.Views.{Planned}
use Rattle.rel_meaning.specs.declared.query.Var.{Var}
use Rattle.rel_meaning.specs.Expression.{Question}
use Rattle.rows.specs.declared.plain.Relation.{Relation}
use Rattle.seq_optimizer.specs.declared.stats.VarStats.{VarStats}
use Rattle.seq_optimizer.specs.Costs.{CanPlan}
use Rattle.table_store.specs.declared.database.Laid.{Laid}
use Rattle.table_store.specs.declared.files.StoredTable.{StoredTable}
use Rattle.table_store.proofs.Pages.{get_last}
use Rattle.query_planner.specs.Counted.{AreStats, CountAllKept, CountTables, CountsKept, stats_in}
use Rattle.query_planner.specs.Plans.{AreFound, AreLeft, IsPlanBy}
use Rattle.query_planner.specs.Steps.{IsKeptBefore, MayPlanAt}

-- ---- the variables of one query

-- one more variable, whose relation may have a table
pub one_counted : (relations : List Relation) (tables : List StoredTable) (q : Question)
    (stats : List VarStats) (n : ℕ) (s : VarStats) → length stats ≡ n →
    CountTables relations tables q stats →
    ((var : Var) (relation : Relation) (table : StoredTable) → slice_get q.vars n ≡ Some var →
    slice_get relations var.relation ≡ Some relation →
    slice_get tables var.relation ≡ Some table → s ≡ stats_in q n relation table) →
    CountTables relations tables q (stats ++ s ∷ [])
one_counted relations tables q stats n s count h one v var relation table x at_v at_r at_t e = elim
    (get_last stats s v x e) [
      | inl k ↦ h v var relation table x at_v at_r at_t k
      | inr k ↦ (
          let here : v ≡ n = k.0 ∙ count in
          sym k.1 ∙ (one var relation table (subst (λ (m : ℕ). slice_get q.vars m ≡ Some var) here at_v)
          at_r at_t ∙ ap (λ (m : ℕ). stats_in q m relation table) (sym here)))
    ]

-- or may be kept
pub one_kept : (relations : ℕ) (kept : List Kept) (qs : List Question)
    (table : List (List VarStats)) (q : Question) (stats : List VarStats) (n : ℕ) (s : VarStats) →
    length stats ≡ n → CountAllKept relations kept qs table q stats →
    ((var : Var) → slice_get q.vars n ≡ Some var → relations ≤ var.relation →
    CountsKept kept qs table (var.relation - relations) s) →
    CountAllKept relations kept qs table q (stats ++ s ∷ [])
one_kept relations kept qs table q stats n s count h one v var x at_v behind e = elim
    (get_last stats s v x e) [
      | inl k ↦ h v var x at_v behind k
      | inr k ↦ (
          let here : v ≡ n = k.0 ∙ count in
          subst (λ (y : VarStats). CountsKept kept qs table (var.relation - relations) y) k.1
          (one var (subst (λ (m : ℕ). slice_get q.vars m ≡ Some var) here at_v) behind))
    ]

-- ---- the queries of a script

-- the first queries and their stats are such
abbrev pub EachFirst : (Question → List VarStats → Type 0) → List Question → List (List VarStats) →
    Type 0
EachFirst P qs table = (i : ℕ) (q : Question) (stats : List VarStats) → slice_get qs i ≡ Some q →
    slice_get table i ≡ Some stats → P q stats

pub one_first : (P : Question → List VarStats → Type 0) (qs : List Question)
    (table : List (List VarStats)) (n : ℕ) (q : Question) (stats : List VarStats) →
    length table ≡ n → EachFirst P qs table → slice_get qs n ≡ Some q → P q stats →
    EachFirst P qs (table ++ stats ∷ [])
one_first P qs table n q stats count h at is i other x at_q e = elim (get_last table stats i x e) [
  | inl k ↦ h i other x at_q k
  | inr k ↦ (
      let here : i ≡ n = k.0 ∙ count in
      let same : q ≡ other = one_at qs n q other at
      (subst (λ (m : ℕ). slice_get qs m ≡ Some other) here at_q) in
      subst (λ (y : List VarStats). P other y) k.1 (subst (λ (y : Question). P y stats) same is))
]

-- what is counted of a kept relation stays so where one more query is counted
grown : (kept : List Kept) (qs : List Question) (table : List (List VarStats))
    (more : List VarStats) (place statement : ℕ) (s : VarStats) → statement ≤ length table →
    IsKeptBefore kept statement place → CountsKept kept qs table place s →
    CountsKept kept qs (table ++ more ∷ []) place s
grown kept qs table more place statement s low known h = record {
  pages = h.pages;
  rows = λ here q stats at_k at_q at_t.
      let same : here ≡ known.here = one_at kept place here known.here at_k known.at in
      let before : here.statement < length table =
      (let b = known.before in let e : here.statement ≡ known.here.statement = ap
      (λ (k : Kept). k.statement) same in omega (arith, b, e, low)) in
      elim (get_last table more here.statement stats at_t) [
        | inl k ↦ h.rows here q stats at_k at_q k
        | inr k ↦ absurd (let e = k.0 in omega (arith, e, before))
      ];
  interval = h.interval;
  height = h.height;
}

pub kept_grows : (relations : ℕ) (kept : List Kept) (qs : List Question)
    (table : List (List VarStats)) (more : List VarStats) (i : ℕ) (q : Question)
    (stats : List VarStats) → i ≤ length table → MayPlanAt relations kept i q →
    CountAllKept relations kept qs table q stats →
    CountAllKept relations kept qs (table ++ more ∷ []) q stats
kept_grows relations kept qs table more i q stats low may h v var s at_v behind e =
    grown kept qs table more (var.relation - relations) i s low (may.there v var at_v behind)
    (h v var s at_v behind e)

-- the same of all first queries, and of one more
pub one_more_kept : (relations : ℕ) (kept : List Kept) (qs : List Question)
    (table : List (List VarStats)) (n : ℕ) (q : Question) (stats : List VarStats) →
    length table ≡ n → ((i : ℕ) (q : Question) → slice_get qs i ≡ Some q →
    MayPlanAt relations kept i q) →
    EachFirst (CountAllKept relations kept qs table) qs table → slice_get qs n ≡ Some q →
    CountAllKept relations kept qs table q stats →
    EachFirst (CountAllKept relations kept qs (table ++ stats ∷ [])) qs (table ++ stats ∷ [])
one_more_kept relations kept qs table n q stats count may h at is =
    one_first (CountAllKept relations kept qs (table ++ stats ∷ [])) qs table n q stats count
    (λ i other x at_q e. kept_grows relations kept qs table stats i other x
    (let low = get_below table i x e in omega (arith, low)) (may i other at_q)
    (h i other x at_q e))
    at (kept_grows relations kept qs table stats n q stats (omega (arith, count)) (may n q at) is)

-- the first plans
abbrev pub PlansFirst : Method → List Question → List (List VarStats) → List Planned → Type 0
PlansFirst m qs table ps = (i : ℕ) (q : Question) (stats : List VarStats) (p : Planned) →
    slice_get qs i ≡ Some q → slice_get table i ≡ Some stats → slice_get ps i ≡ Some p →
    IsPlanBy m q stats p

pub one_planned : (m : Method) (qs : List Question) (table : List (List VarStats))
    (ps : List Planned) (n : ℕ) (q : Question) (stats : List VarStats) (p : Planned) →
    length table ≡ n → length ps ≡ n → PlansFirst m qs table ps → slice_get qs n ≡ Some q →
    IsPlanBy m q stats p → PlansFirst m qs (table ++ stats ∷ []) (ps ++ p ∷ [])
one_planned m qs table ps n q stats p count plans h at is i other x y at_q at_t at_p = elim
    (get_last ps p i y at_p) [
      | inl k ↦ elim (get_last table stats i x at_t) [
        | inl l ↦ h i other x y at_q l k
        | inr l ↦ absurd (let low = get_below ps i y k in let e = l.0 in omega
            (arith, low, e, count, plans))
      ]
      | inr k ↦ elim (get_last table stats i x at_t) [
        | inl l ↦ absurd (let low = get_below table i x l in let e = k.0 in omega
            (arith, low, e, count, plans))
        | inr l ↦ (
            let here : i ≡ n = k.0 ∙ plans in
            let same : q ≡ other = one_at qs n q other at
            (subst (λ (m : ℕ). slice_get qs m ≡ Some other) here at_q) in
            subst (λ (z : Planned). IsPlanBy m other x z) k.1
            (subst (λ (z : List VarStats). IsPlanBy m other z p) l.1
            (subst (λ (z : Question). IsPlanBy m z stats p) same is)))
      ]
    ]

-- ---- all queries

pub all_found : (relations : List Relation) (laid : Laid) (image : Option (ℕ → ℕ → List ℕ))
    (kept : List Kept) (qs : List Question) (table : List (List VarStats)) →
    length table ≡ length qs → EachFirst CanPlan qs table →
    EachFirst (AreLeft relations laid image) qs table →
    EachFirst (CountAllKept (length relations) kept qs table) qs table →
    AreFound relations laid image kept qs table
all_found relations laid image kept qs table count can left of_kept = record {
  count = count;
  queries = λ i q stats at_q at_t. record {
    each = (can i q stats at_q at_t).each;
    left = left i q stats at_q at_t;
    of_kept = of_kept i
        q stats at_q at_t;
  };
}

pub all_stats : (relations : List Relation) (tables : List StoredTable) (kept : List Kept)
    (qs : List Question) (table : List (List VarStats)) → length table ≡ length qs →
    EachFirst CanPlan qs table → EachFirst (CountTables relations tables) qs table →
    EachFirst (CountAllKept (length relations) kept qs table) qs table →
    AreStats relations tables kept qs table
all_stats relations tables kept qs table count can told of_kept = record {
  count = count;
  queries = λ i q stats at_q at_t. record {
    each = (can i q stats at_q at_t).each;
    of_tables = told i q stats at_q at_t;
    of_kept =
        of_kept i q stats at_q at_t;
  };
}
