-- Each query of a script that may be planned may be planned at its statement.
use Rattle.std.proofs.Common.{◌≡◌, ℕ, zero, suc, ◌+◌, ◌-◌, ◌<◌, ◌≤◌, Bool, true, false, cond, ◌==◌, List, [], ◌∷◌, ◌++◌, length, map, Option, Some, None, refl, sym, ap, ◌∙◌, subst, arith, append_assoc, length-append}
use Rattle.std.specs.Prelude.{IfSome, IsSome, IsTrue, slice_get}
use Rattle.std.specs.List.{AllByRecursion}
use Rattle.std.proofs.lemmas.Bool.Decides.{nat_tests}
use Rattle.std.proofs.lemmas.List.{length-map}
use Rattle.heap_page.proofs.Found.{there}
use Rattle.kept_relations.specs.declared.kept.Kept.{Kept}
use Rattle.kept_relations.specs.Fitting.{AscendFrom, FitQueries, IsResolvedIn, columns_behind, columns_kept, kept_of, layout_in}
use Rattle.rel_meaning.specs.declared.query.Var.{Var}
use Rattle.rel_meaning.specs.Expression.{Expression, Question}
use Rattle.rel_meaning.specs.Meaning.{layout_column}
use Rattle.rel_meaning.specs.Typing.{is_truth, type_of}
use Rattle.rows.specs.declared.plain.LayoutColumn.{LayoutColumn}
use Rattle.rows.specs.declared.plain.Relation.{Relation}
use Rattle.rows.specs.Layouts.{column_type}
use Rattle.table_store.proofs.Filed.{all_at}
use Rattle.query_planner.specs.Plans.{MayPlan, relation_columns}
use Rattle.query_planner.specs.Steps.{IsKeptBefore, MayPlanAt}

-- the kept relations before a statement, and those from it on
record Standing (relations : ℕ) (kept : List Kept) (n : ℕ) (columns : List (List LayoutColumn)) :
    Type 0 where
  done : List Kept
  todo : List Kept
  split : kept ≡ done ++ todo
  before : AllByRecursion (λ (k : Kept). k.statement < n) done
  behind : AscendFrom n todo
  long : length columns ≡ relations + length done

kept_behind : (statement n : ℕ) (ks : List Kept) → AscendFrom n ks → statement < n →
    kept_of ks statement ≡ None
kept_behind statement n [] h less = refl
kept_behind statement n (k ∷ ks) h less =
    let differ : (k.statement == statement) ≡ false = (let a = h.0 in grind (arith, nat_tests)) in
    ap (λ b. cond b (Some k) (kept_of ks statement)) differ ∙
    kept_behind statement (k.statement + 1) ks h.1 (let a = h.0 in omega (arith, a))

kept_done : (statement : ℕ) (done todo : List Kept) →
    AllByRecursion (λ (k : Kept). k.statement < statement) done →
    kept_of (done ++ todo) statement ≡ kept_of todo statement
kept_done statement [] todo all = refl
kept_done statement (k ∷ ks) todo all =
    let differ : (k.statement == statement) ≡ false = (let a = all.0 in grind (arith, nat_tests)) in
    ap (λ b. cond b (Some k) (kept_of (ks ++ todo) statement)) differ ∙
    kept_done statement ks todo all.1

more_before : (n : ℕ) (done : List Kept) → AllByRecursion (λ (k : Kept). k.statement < n) done →
    AllByRecursion (λ (k : Kept). k.statement < n + 1) done
more_before n [] all = tt
more_before n (k ∷ ks) all = (let a = all.0 in omega (arith, a), more_before n ks all.1)

before_end : (n : ℕ) (done : List Kept) (k : Kept) →
    AllByRecursion (λ (k : Kept). k.statement < n) done → k.statement < n →
    AllByRecursion (λ (k : Kept). k.statement < n) (done ++ k ∷ [])
before_end n [] k all h = (h, tt)
before_end n (x ∷ xs) k all h = (all.0, before_end n xs k all.1 h)

module _ (relations : ℕ) (kept : List Kept) (n : ℕ) (columns : List (List LayoutColumn))
    (standing : Standing relations kept n columns) where
  abbrev Next : Option Kept → Type 0
  Next o = Standing relations kept (n + 1) (columns_behind columns o)

  same : AscendFrom (n + 1) standing.todo → Next None
  same behind = record {
    done = standing.done;
    todo = standing.todo;
    split = standing.split;
    before = more_before n standing.done standing.before;
    behind = behind;
    long = standing.long;
  }

  one_more : (k : Kept) (ks : List Kept) → standing.todo ≡ k ∷ ks → k.statement ≡ n →
      AscendFrom (k.statement + 1) ks → Next (Some k)
  one_more k ks e at behind = record {
    done = standing.done ++ k ∷ [];
    todo = ks;
    split = standing.split ∙ ap (λ ts. standing.done ++ ts) e ∙
        sym (append_assoc standing.done (k ∷ []) ks);
    before = before_end (n + 1) standing.done k (more_before n standing.done standing.before)
        (omega (arith, at));
    behind = subst (λ m. AscendFrom m ks) (ap (λ m. m + 1) at) behind;
    long = omega (
      arith,
      length-append columns (columns_kept k ∷ []),
      length-append standing.done
          (k ∷ []),
      standing.long,
    );
  }

  -- the columns behind a statement
  next : Standing relations kept (n + 1) (columns_behind columns (kept_of kept n))
  next = subst Next (sym (ap (λ ks. kept_of ks n) standing.split ∙
      kept_done n standing.done standing.todo standing.before))
      (by standing.todo refl standing.behind) where
        by : (ts : List Kept) → standing.todo ≡ ts → AscendFrom n ts → Next (kept_of ts n)
        by [] e h = same (subst (AscendFrom (n + 1)) (sym e) tt)
        by (k ∷ ks) e h = here (k.statement == n) refl where
          here : (b : Bool) → (k.statement == n) ≡ b → Next (cond b (Some k) (kept_of ks n))
          here true t = one_more k ks e (let w : k.statement ≡ n = grind (arith, nat_tests) in w) h.1
          here false f =
              let other : k.statement ≡ n → ⊥ = grind (arith, nat_tests) in
              let more : n + 1 ≤ k.statement = (let a = h.0 in omega (arith, a, other)) in
              subst Next (sym (kept_behind n (k.statement + 1) ks h.1 (omega (arith, more))))
              (same (subst (AscendFrom (n + 1)) (sym e) (more, h.1)))

  -- what an earlier statement keeps
  kept_before : (relation : ℕ) → relations ≤ relation → relation < length columns →
      IsKeptBefore kept n (relation - relations)
  kept_before relation behind less =
      let place = relation - relations in
      let k = there standing.done place (omega (arith, standing.long)) in
      record {
        here = k.0;
        at = ap (λ ks. slice_get ks place) standing.split ∙
            left standing.done standing.todo place k.0 k.1;
        before = all standing.done place k.0 standing.before k.1;
      }
    where
      left : (xs ys : List Kept) (i : ℕ) (x : Kept) → slice_get xs i ≡ Some x →
          slice_get (xs ++ ys) i ≡ Some x
      left [] ys i x e = absurd cc
      left (z ∷ zs) ys zero x e = e
      left (z ∷ zs) ys (suc i) x e = left zs ys i x e

      all : (ks : List Kept) (i : ℕ) (k : Kept) →
          AllByRecursion (λ (k : Kept). k.statement < n) ks → slice_get ks i ≡ Some k →
          k.statement < n
      all [] i k h e = absurd cc
      all (z ∷ zs) zero k h e = let same : z ≡ k = cc in subst (λ (y : Kept). y.statement < n) same
          h.0
      all (z ∷ zs) (suc i) k h e = all zs i k h.1 e

-- the relations that stand before a query
record StandsAt (relations : ℕ) (kept : List Kept) (n : ℕ) (q : Question) : Type 0 where
  columns : List (List LayoutColumn)
  standing : Standing relations kept n columns
  resolved : IsResolvedIn columns q

stands_at : (relations : ℕ) (kept : List Kept) (qs : List Question) (n : ℕ)
    (columns : List (List LayoutColumn)) → Standing relations kept n columns →
    FitQueries columns kept n qs → (i : ℕ) (q : Question) → slice_get qs i ≡ Some q →
    StandsAt relations kept (n + i) q
stands_at relations kept [] n columns standing fits i q e = absurd cc
stands_at relations kept (x ∷ qs) n columns standing fits zero q e =
    let same : x ≡ q = cc in
    let number : n ≡ n + 0 = omega arith in
    subst (λ m. StandsAt relations kept m q) number
    (subst (λ (y : Question). StandsAt relations kept n y) same
    (record { columns = columns; standing = standing; resolved = fits.0 }))
stands_at relations kept (x ∷ qs) n columns standing fits (suc i) q e =
    let number : n + 1 + i ≡ n + suc i = omega arith in
    subst (λ m. StandsAt relations kept m q) number
    (stands_at relations kept qs (n + 1) (columns_behind columns (kept_of kept n))
    (next relations kept n columns standing) fits.2 i q e)

is_typed : (o : Option LayoutColumn) → IsTrue (is_truth o) → IsSome o
is_typed None h = absurd cc
is_typed (Some c) h = refl

test_typed : (columns : ℕ → ℕ → Option LayoutColumn) (test : Option Expression) →
    IfSome test (λ t. IsTrue (is_truth (type_of t columns))) →
    IfSome test (λ t. IsSome (type_of t columns))
test_typed columns None h = tt
test_typed columns (Some t) h = is_typed (type_of t columns) h

pub plan_at : (relations : List Relation) (kept : List Kept) (qs : List Question) →
    MayPlan relations kept qs → (i : ℕ) (q : Question) → slice_get qs i ≡ Some q →
    MayPlanAt (length relations) kept i q
plan_at relations kept qs may i q e =
    let start : Standing (length relations) kept 0 (relation_columns relations) = record {
      done = [];
      todo = kept;
      split = refl;
      before = tt;
      behind = may.fits.ascending;
      long = omega (arith, length-map relations (λ (r : Relation). map layout_column r.columns));
    } in
    let from : 0 + i ≡ i = omega arith in
    let at : StandsAt (length relations) kept i q = subst
    (λ m. StandsAt (length relations) kept m q) from
    (stands_at (length relations) kept qs 0 (relation_columns relations) start may.fits.queries
    i q e) in
    record {
      few = all_at (λ (x : Question). length x.vars ≤ 6) qs i q may.few e;
      test = (
        column_type (layout_in at.columns q),
        test_typed
            (column_type (layout_in at.columns q)) q.test at.resolved.test,
      );
      there = λ v var at_v behind. kept_before (length relations) kept i at.columns at.standing
          var.relation behind
          (all_at (λ (u : Var). u.relation < length at.columns) q.vars v var at.resolved.relations
          at_v);
    }
