-- A resolved query's conjuncts name its variables alone, and each is a truth value.
use Rattle.std.proofs.Common.{◌≡◌, ℕ, ◌+◌, ◌<◌, suc, Bool, true, false, cond, ◌==◌, nat_lt, is_some, List, [], ◌∷◌, length, Option, Some, None, refl, sym, ap, ◌∙◌, arith}
use Rattle.std.specs.List.{AllByRecursion}
use Rattle.std.specs.Prelude.{IsTrue, IfSome}
use Rattle.std.proofs.lemmas.Bool.Decides.{nat_tests}
use Rattle.rel_meaning.specs.Expression.{Expression, Question}
use Rattle.rel_meaning.specs.declared.query.Table.{Table}
use Rattle.rel_meaning.specs.declared.query.Var.{Var}
use Rattle.rows.specs.declared.plain.LayoutColumn.{LayoutColumn}
use Rattle.rows.specs.Layouts.{column_type}
use Rattle.rel_meaning.specs.Typing.{type_of, is_truth}
use Rattle.rel_meaning.specs.Meaning.{IsResolved, layout_of, layout_from, columns_of}
use Rattle.plan_tree.specs.Conjuncts.{is_within, conjuncts}
use Rattle.plan_tree.specs.Trees.{is_variable}
use Rattle.plan_tree.specs.Combining.{part_of}
use Rattle.plan_tree.proofs.Typing.{typed_within, operands_typed, type_is, part_type}

part_within : (db : List Table) (n : ℕ) (vars : List Var) (var : ℕ) → is_some (part_of (layout_from db n vars) var) ≡ true → var < n + length vars
part_within db n [] var h = cc
part_within db n (v ∷ vs) var h = by (part_within db (n + 1) vs var) (n == var) refl h where
  by : (is_some (part_of (layout_from db (n + 1) vs) var) ≡ true → var < (n + 1) + length vs) → (b : Bool) → (n == var) ≡ b → is_some (cond b (Some (columns_of db v.relation)) (part_of (layout_from db (n + 1) vs) var)) ≡ true → var < n + suc (length vs)
  by rest true e k = let l : n ≡ var = grind (arith, nat_tests) in omega arith
  by rest false e k = let l = rest k in omega (arith, l)

type_some : (o : Option (List LayoutColumn)) (column : ℕ) → is_some (part_type o column) ≡ true → is_some o ≡ true
type_some None column h = cc
type_some (Some x) column h = refl

module _ (db : List Table) (q : Question) (ok : IsResolved db q) where
  known : (var column : ℕ) → is_some (column_type (layout_of db q.vars) var column) ≡ true → nat_lt var (length q.vars) ≡ true
  known var column h =
      let k = part_within db 0 q.vars var (type_some (part_of (layout_of db q.vars) var) column (sym (ap is_some (type_is (layout_of db q.vars) var column)) ∙ h)) in
      let l : var < length q.vars = omega (arith, k) in
      grind (arith, nat_tests)

  truth_some : (o : Option LayoutColumn) → is_truth o ≡ true → is_some o ≡ true
  truth_some None h = cc
  truth_some (Some c) h = refl

  each : (cs : List Expression) → AllByRecursion (λ c. is_truth (type_of c (column_type (layout_of db q.vars))) ≡ true) cs → AllByRecursion (λ c. is_within (λ v. nat_lt v (length q.vars)) c ≡ true) cs
  each [] all = tt
  each (c ∷ cs) all = (typed_within (λ v. nat_lt v (length q.vars)) (column_type (layout_of db q.vars)) known c (truth_some _ all.0), each cs all.1)

  pub resolved_typed : AllByRecursion (λ c. is_truth (type_of c (column_type (layout_of db q.vars))) ≡ true) (conjuncts q.test)
  resolved_typed = by q.test ok.test where
    by : (test : Option Expression) → IfSome test (λ t. IsTrue (is_truth (type_of t (column_type (layout_of db q.vars))))) → AllByRecursion (λ c. is_truth (type_of c (column_type (layout_of db q.vars))) ≡ true) (conjuncts test)
    by None h = tt
    by (Some t) h = operands_typed (column_type (layout_of db q.vars)) t h

  pub resolved_names : AllByRecursion (λ c. is_within (is_variable q) c ≡ true) (conjuncts q.test)
  resolved_names = each (conjuncts q.test) resolved_typed
