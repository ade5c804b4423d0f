-- A column's type by the layout of the range variables.
use Rattle.std.proofs.Common.{◌≡◌, ◌<◌, ℕ, zero, suc, ◌+◌, ◌==◌, Bool, true, false, nat_lt, List, [], ◌∷◌, ◌++◌, map, length, Option, Some, None, refl, ap, ◌∙◌, arith, if◌then◌else◌, slice_get}
use Rattle.std.specs.Option.{option_map, option_and_then}
use Rattle.std.proofs.lemmas.Bool.Decides.{nat_tests}
use Rattle.rel_meaning.specs.declared.query.Var.{Var}
use Rattle.rows.specs.Layouts as layouts
use Rattle.name_check.specs.declared.heading.Heading.{Heading}
use Rattle.name_check.specs.declared.heading.HeadColumn.{HeadColumn}
use Rattle.name_check.specs.Faults.{var_columns, column_type}
use Rattle.name_check.specs.Bridge.{layouts_of, layout_from}

front : {A : Type 0} (xs ys : List A) (k : ℕ) (b : Bool) → nat_lt k (length xs) ≡ b → option_and_then (λ p. slice_get (xs ++ ys) p) (if b then Some k else None) ≡ slice_get xs k
front [] ys k true e = let no : k < 0 = grind (arith, nat_tests) in absurd (omega arith)
front [] ys k false e = refl
front (x ∷ xs) ys zero true e = refl
front (x ∷ xs) ys zero false e = let no : nat_lt 0 (suc (length xs)) ≡ true = grind (arith, nat_tests) in absurd cc
front (x ∷ xs) ys (suc k) true e = let less : nat_lt k (length xs) ≡ true = grind (arith, nat_tests) in front xs ys k true less
front (x ∷ xs) ys (suc k) false e = let less : nat_lt k (length xs) ≡ false = grind (arith, nat_tests) in front xs ys k false less

behind : {A : Type 0} (xs ys : List A) (k : ℕ) → slice_get (xs ++ ys) (length xs + k) ≡ slice_get ys k
behind [] ys k = ap (slice_get ys) (omega arith)
behind (x ∷ xs) ys k = ap (slice_get (x ∷ (xs ++ ys))) (let e : suc (length xs) + k ≡ suc (length xs + k) = omega arith in e) ∙ behind xs ys k

behind_all : {A : Type 0} (xs ys : List A) (o : Option ℕ) → option_and_then (λ p. slice_get (xs ++ ys) p) (option_map (λ k. length xs + k) o) ≡ option_and_then (λ p. slice_get ys p) o
behind_all xs ys None = refl
behind_all xs ys (Some k) = behind xs ys k

layout_typed : (hs : List Heading) (k : ℕ) (vars : List Var) (n col : ℕ) → layouts.column_type (layout_from hs k vars) (k + n) col ≡ option_and_then (λ v. slice_get (layouts_of hs v) col) (slice_get vars n)
layout_typed hs k [] n col = refl
layout_typed hs k (v ∷ vs) zero col =
    let e : (k == (k + 0)) ≡ true = grind (arith, nat_tests) in
    rw e (front (layouts_of hs v) (layouts.all_columns (layout_from hs (k + 1) vs)) col (nat_lt col (length (layouts_of hs v))) refl)
layout_typed hs k (v ∷ vs) (suc n) col =
    let e : (k == (k + suc n)) ≡ false = grind (arith, nat_tests) in
    let i : k + suc n ≡ (k + 1) + n = omega arith in
    rw e (behind_all (layouts_of hs v) (layouts.all_columns (layout_from hs (k + 1) vs)) (layouts.column_place (layout_from hs (k + 1) vs) (k + suc n) col) ∙
    (ap (λ m. layouts.column_type (layout_from hs (k + 1) vs) m col) i ∙ layout_typed hs (k + 1) vs n col))

pub mapped : {A B : Type 0} (f : A → B) (xs : List A) (k : ℕ) → slice_get (map f xs) k ≡ option_map f (slice_get xs k)
mapped f [] k = refl
mapped f (x ∷ xs) zero = refl
mapped f (x ∷ xs) (suc k) = mapped f xs k

-- the type by the layout is the type by the relation
pub types_agree : (hs : List Heading) (vars : List Var) (var col : ℕ) → layouts.column_type (layout_from hs 0 vars) var col ≡ column_type hs vars var col
types_agree hs vars var col = ap (λ n. layouts.column_type (layout_from hs 0 vars) n col) (let e : var ≡ 0 + var = omega arith in e) ∙ (layout_typed hs 0 vars var col ∙ by (slice_get vars var)) where
  by : (o : Option Var) → option_and_then (λ v. slice_get (layouts_of hs v) col) o ≡ option_map (λ c. c.layout) (slice_get (var_columns hs o) col)
  by None = refl
  by (Some v) = mapped (λ (c : HeadColumn). c.layout) (var_columns hs (Some v)) col
