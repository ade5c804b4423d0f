-- The rows that the code finds are the choices of the meaning.
use Rattle.std.proofs.Common.{◌≡◌, ℕ, ◌+◌, ◌-◌, ◌<◌, ◌≤◌, suc, zero, Bool, true, false, cond, ◌==◌, nat_lt, List, [], ◌∷◌, ◌++◌, length, map, Option, Some, None, refl, sym, ap, ◌∙◌, subst, arith, append_assoc, get_or, slice_get}
use Rattle.std.specs.Prelude.{⊤}
use Rattle.std.specs.List.{flat_map, filter, All, AllByRecursion}
use Rattle.std.specs.Option.{option_map}
use Rattle.std.proofs.lemmas.Bool.Decides.{nat_tests}
use Rattle.std.proofs.lemmas.List.{append-nil, get_or_append_left, get_or-append-add, get_or_past, map-append}
use Rattle.std.proofs.lemmas.List.Elements.{All-from_recursion, recursion_from_All}
use Rattle.rows.specs.declared.value.Value.{Value}
use Rattle.rows.specs.declared.value.Value.TheVariants.{Null}
use Rattle.rows.specs.Values.{column_of}
use Rattle.rel_meaning.specs.declared.query.Var.{Var}
use Rattle.rel_meaning.specs.Expression.{Question}
use Rattle.rel_meaning.specs.declared.query.Table.{Table}
use Rattle.rows.specs.declared.plain.LayoutColumn.{LayoutColumn}
use Rattle.rows.specs.Layouts.{column_place, column_in, value_at, FitsColumns, IsRowIn, all_columns}
use Rattle.rel_meaning.specs.Meaning.{rows_at, rows_of, columns_at, columns_of, layout_column, layout_over, listed, combos, value_in, passes, project, CanBeAsked, IsResolved, IsTable}
use Rattle.rel_meaning.specs.Joined.{joined, answers}
use Rattle.rel_meaning.proofs.Typed.{fits_length}

-- a choice as one row
abbrev pub flat : List (List Value) → List Value
flat [] = []
flat (row ∷ rows) = row ++ flat rows

all_append : {X : Type 0} (P : X → Type 0) (xs ys : List X) → AllByRecursion P xs → AllByRecursion P ys → AllByRecursion P (xs ++ ys)
all_append P [] ys a b = b
all_append P (x ∷ xs) ys a b = (a.0, all_append P xs ys a.1 b)

first_part : {X : Type 0} (P : X → Type 0) (xs ys : List X) → AllByRecursion P (xs ++ ys) → AllByRecursion P xs
first_part P [] ys a = tt
first_part P (x ∷ xs) ys a = (a.0, first_part P xs ys a.1)

second_part : {X : Type 0} (P : X → Type 0) (xs ys : List X) → AllByRecursion P (xs ++ ys) → AllByRecursion P ys
second_part P [] ys a = a
second_part P (x ∷ xs) ys a = second_part P xs ys a.1

all_map : {X Y : Type 0} (P : Y → Type 0) (f : X → Y) (Q : X → Type 0) (step : (x : X) → Q x → P (f x)) (xs : List X) → AllByRecursion Q xs → AllByRecursion P (map f xs)
all_map P f Q step [] a = tt
all_map P f Q step (x ∷ xs) a = (step x a.0, all_map P f Q step xs a.1)

map_cond : {X Y : Type 0} (f : X → Y) (b : Bool) (x : X) (xs : List X) → map f (cond b (x ∷ xs) xs) ≡ cond b (f x ∷ map f xs) (map f xs)
map_cond f true x xs = refl
map_cond f false x xs = refl

pick : {Y : Type 0} {b c : Bool} {x y : Y} {xs ys : List Y} → b ≡ c → x ≡ y → xs ≡ ys → cond b (x ∷ xs) xs ≡ cond c (y ∷ ys) ys
pick e f g = λ i. cond (e i) (f i ∷ g i) (g i)

unmapped : {X Y : Type 0} (P : Y → Type 0) (f : X → Y) (xs : List X) → AllByRecursion P (map f xs) → AllByRecursion (λ x. P (f x)) xs
unmapped P f [] a = tt
unmapped P f (x ∷ xs) a = (a.0, unmapped P f xs a.1)

pub all_from_map : {X Y : Type 0} (P : Y → Type 0) (f : X → Y) (xs : List X) → All P (map f xs) → All (λ x. P (f x)) xs
all_from_map P f xs a = All-from_recursion (λ x. P (f x)) xs (unmapped P f xs (recursion_from_All P (map f xs) a))

-- the rows of each relation fit its columns
abbrev pub FitTables : List Table → (ℕ → List LayoutColumn) → Type 0
FitTables db columns = (relation : ℕ) → All (FitsColumns (columns relation)) (rows_of db relation)

module _ (db : List Table) (columns : ℕ → List LayoutColumn) where
  -- each row of the choice is a row of its variable's relation
  abbrev pub FitsVars : List Var → List (List Value) → Type 0
  FitsVars [] [] = ⊤
  FitsVars [] (row ∷ rows) = ⊥
  FitsVars (v ∷ vs) [] = ⊥
  FitsVars (v ∷ vs) (row ∷ rows) = FitsColumns (columns v.relation) row × FitsVars vs rows

  each : (v : Var) (vs : List Var) (choices : List (List (List Value))) (rows : List (List Value)) → AllByRecursion (FitsColumns (columns v.relation)) rows → AllByRecursion (FitsVars vs) choices →
      AllByRecursion (FitsVars (v ∷ vs)) (flat_map (λ row. map (λ rest. row ∷ rest) choices) rows)
  each v vs choices [] a b = tt
  each v vs choices (row ∷ rows) a b = all_append (FitsVars (v ∷ vs)) _ _ (all_map (FitsVars (v ∷ vs)) (λ rest. row ∷ rest) (FitsVars vs) (λ rest h. (a.0, h)) choices b) (each v vs choices rows a.1 b)

  combos_fit : (vs : List Var) → FitTables db columns → AllByRecursion (FitsVars vs) (combos db vs)
  combos_fit [] tables = (tt, tt)
  combos_fit (v ∷ vs) tables = each v vs (combos db vs) (rows_of db v.relation) (recursion_from_All (FitsColumns (columns v.relation)) (rows_of db v.relation) (tables v.relation)) (combos_fit vs tables)

  shifted : (front row : List Value) (choices : List (List (List Value))) → map (λ choice. (front ++ row) ++ flat choice) choices ≡ map (λ choice. front ++ flat choice) (map (λ rest. row ∷ rest) choices)
  shifted front row [] = refl
  shifted front row (choice ∷ choices) =
      ap (λ x. x ∷ map (λ c. (front ++ row) ++ flat c) choices) (append_assoc front row (flat choice))
      ∙ ap (λ xs. (front ++ (row ++ flat choice)) ∷ xs) (shifted front row choices)

  behind : (front : List Value) (vs : List Var) (rows : List (List Value)) → ((row : List Value) → joined db (front ++ row) vs ≡ map (λ choice. (front ++ row) ++ flat choice) (combos db vs)) →
      flat_map (λ row. joined db (front ++ row) vs) rows ≡ map (λ choice. front ++ flat choice) (flat_map (λ row. map (λ rest. row ∷ rest) (combos db vs)) rows)
  behind front vs [] told = refl
  behind front vs (row ∷ rows) told =
      ap (λ xs. xs ++ flat_map (λ next. joined db (front ++ next) vs) rows) (told row ∙ shifted front row (combos db vs))
      ∙ ap (λ ys. map (λ choice. front ++ flat choice) (map (λ rest. row ∷ rest) (combos db vs)) ++ ys) (behind front vs rows told)
      ∙ sym (map-append (λ choice. front ++ flat choice) (map (λ rest. row ∷ rest) (combos db vs)) (flat_map (λ next. map (λ rest. next ∷ rest) (combos db vs)) rows))

  joined_is : (front : List Value) (vs : List Var) → joined db front vs ≡ map (λ choice. front ++ flat choice) (combos db vs)
  joined_is front [] = ap (λ row. row ∷ []) (sym (append-nil front))
  joined_is front (v ∷ vs) = behind front vs (rows_of db v.relation) (λ row. joined_is (front ++ row) vs)

  fits_append : (cs ds : List LayoutColumn) (xs ys : List Value) → FitsColumns cs xs → FitsColumns ds ys → FitsColumns (cs ++ ds) (xs ++ ys)
  fits_append [] ds [] ys h k = k
  fits_append [] ds (x ∷ xs) ys h k = elim h [ ]
  fits_append (c ∷ cs) ds [] ys h k = elim h [ ]
  fits_append (c ∷ cs) ds (x ∷ xs) ys h k = (h.0, fits_append cs ds xs ys h.1 k)

  flat_fits : (number : ℕ) (vs : List Var) (choice : List (List Value)) → FitsVars vs choice → IsRowIn (layout_over columns number vs) (flat choice)
  flat_fits number [] [] h = tt
  flat_fits number [] (row ∷ rows) h = elim h [ ]
  flat_fits number (v ∷ vs) [] h = elim h [ ]
  flat_fits number (v ∷ vs) (row ∷ rows) h = fits_append (columns v.relation) (all_columns (layout_over columns (number + 1) vs)) row (flat rows) h.0 (flat_fits (number + 1) vs rows h.1)

  -- the value of a column, by variables numbered from a number on
  abbrev value_from : ℕ → List (List Value) → ℕ → ℕ → Value
  value_from number [] var column = Null
  value_from number (row ∷ rows) var column = cond (number == var) (column_of row column) (value_from (number + 1) rows var column)

  value_from_is : (number : ℕ) (choice : List (List Value)) (var column : ℕ) → number ≤ var → value_from number choice var column ≡ column_of (get_or choice (var - number) []) column
  value_from_is number [] var column h = refl
  value_from_is number (row ∷ rows) var column h = by (value_from_is (number + 1) rows var column) (number == var) refl where
    by : (number + 1 ≤ var → value_from (number + 1) rows var column ≡ column_of (get_or rows (var - (number + 1)) []) column) → (b : Bool) → (number == var) ≡ b →
        cond b (column_of row column) (value_from (number + 1) rows var column) ≡ column_of (get_or (row ∷ rows) (var - number) []) column
    by rest true e = let k : var - number ≡ 0 = grind (arith, nat_tests) in rw k refl
    by rest false e =
        let more : number + 1 ≤ var = grind (arith, nat_tests) in
        let k : var - number ≡ suc (var - (number + 1)) = omega arith in
        rw k (rest more)

  in_front : (row rest : List Value) (column : ℕ) → column < length row → column_of (row ++ rest) column ≡ column_of row column
  in_front row rest column h = get_or_append_left row rest Null column h

  at_back : (row rest : List Value) (width : ℕ) (place : Option ℕ) → length row ≡ width → value_at (row ++ rest) (option_map (λ p. width + p) place) ≡ value_at rest place
  at_back row rest width None e = refl
  at_back row rest width (Some place) e = rw (← e) (get_or-append-add row rest place Null)

  column_is : (number : ℕ) (vs : List Var) (choice : List (List Value)) → FitsVars vs choice → (var column : ℕ) → column_in (layout_over columns number vs) (flat choice) var column ≡ value_from number choice var column
  column_is number [] [] h var column = refl
  column_is number [] (row ∷ rows) h var column = elim h [ ]
  column_is number (v ∷ vs) [] h var column = elim h [ ]
  column_is number (v ∷ vs) (row ∷ rows) h var column = by (column_is (number + 1) vs rows h.1 var column) (number == var) (nat_lt column (length (columns v.relation))) refl where
    width : length row ≡ length (columns v.relation)
    width = fits_length (columns v.relation) row h.0

    by : column_in (layout_over columns (number + 1) vs) (flat rows) var column ≡ value_from (number + 1) rows var column →
        (b s : Bool) → nat_lt column (length (columns v.relation)) ≡ s →
        value_at (row ++ flat rows) (cond b (cond s (Some column) None) (option_map (λ place. length (columns v.relation) + place) (column_place (layout_over columns (number + 1) vs) var column)))
        ≡ cond b (column_of row column) (value_from (number + 1) rows var column)
    by rest true true e = in_front row (flat rows) column (let k : column < length (columns v.relation) = grind (arith, nat_tests) in omega (arith, width))
    by rest true false e = sym (get_or_past row column Null (let k : length (columns v.relation) ≤ column = grind (arith, nat_tests) in omega (arith, width)))
    by rest false s e = at_back row (flat rows) (length (columns v.relation)) (column_place (layout_over columns (number + 1) vs) var column) width ∙ rest

  value_is : (vs : List Var) (choice : List (List Value)) → FitsVars vs choice → (var column : ℕ) → column_in (layout_over columns 0 vs) (flat choice) var column ≡ value_in choice var column
  value_is vs choice h var column =
      let k : var - 0 ≡ var = omega arith in
      column_is 0 vs choice h var column ∙ value_from_is 0 choice var column (omega arith) ∙ ap (λ n. column_of (get_or choice n []) column) k

  values_are : (vs : List Var) (choice : List (List Value)) → FitsVars vs choice → column_in (layout_over columns 0 vs) (flat choice) ≡ value_in choice
  values_are vs choice h = λ i var column. value_is vs choice h var column i

  module _ (q : Question) where
    same_answers : (choices : List (List (List Value))) → AllByRecursion (FitsVars q.vars) choices →
        answers q (layout_over columns 0 q.vars) (map flat choices) ≡ map (λ choice. project q.targets (value_in choice)) (filter (λ choice. passes q.test (value_in choice)) choices)
    same_answers [] all = refl
    same_answers (choice ∷ choices) all = by (values_are q.vars choice all.0) (same_answers choices all.1) where
      by : column_in (layout_over columns 0 q.vars) (flat choice) ≡ value_in choice →
          answers q (layout_over columns 0 q.vars) (map flat choices) ≡ map (λ choice. project q.targets (value_in choice)) (filter (λ choice. passes q.test (value_in choice)) choices) →
          answers q (layout_over columns 0 q.vars) (map flat (choice ∷ choices)) ≡ map (λ choice. project q.targets (value_in choice)) (filter (λ choice. passes q.test (value_in choice)) (choice ∷ choices))
      by e rest =
          map_cond (λ row. project q.targets (column_in (layout_over columns 0 q.vars) row)) (passes q.test (column_in (layout_over columns 0 q.vars) (flat choice))) (flat choice) _
          ∙ pick (ap (passes q.test) e) (ap (project q.targets) e) rest
          ∙ sym (map_cond (λ c. project q.targets (value_in c)) (passes q.test (value_in choice)) choice _)

    pub answers_are : FitTables db columns → answers q (layout_over columns 0 q.vars) (joined db [] q.vars) ≡ map (λ choice. project q.targets (value_in choice)) (filter (λ choice. passes q.test (value_in choice)) (combos db q.vars))
    answers_are tables = rw (joined_is [] q.vars) (same_answers (combos db q.vars) (combos_fit q.vars tables))

  pub joined_fit : (vs : List Var) → FitTables db columns → All (IsRowIn (layout_over columns 0 vs)) (joined db [] vs)
  joined_fit vs tables = rw (joined_is [] vs) (All-from_recursion (IsRowIn (layout_over columns 0 vs)) _ (all_map (IsRowIn (layout_over columns 0 vs)) flat (FitsVars vs) (flat_fits 0 vs) (combos db vs) (combos_fit vs tables)))

  -- the rows behind one row of the first variable
  pub joined_part : (P : List Value → Type 0) (front : List Value) (v : Var) (vs : List Var) (rows : List (List Value)) (place : ℕ) (row : List Value) →
      slice_get rows place ≡ Some row → AllByRecursion P (flat_map (λ next. joined db (front ++ next) vs) rows) → AllByRecursion P (joined db (front ++ row) vs)
  joined_part P front v vs [] place row e all = cc
  joined_part P front v vs (next ∷ rows) zero row e all = subst (λ r. AllByRecursion P (joined db (front ++ r) vs)) (let i : next ≡ row = cc in i) (first_part P _ _ all)
  joined_part P front v vs (next ∷ rows) (suc place) row e all = joined_part P front v vs rows place row e (second_part P (joined db (front ++ next) vs) _ all)

-- what holds of tables whose layouts are those of their own columns
module _ (db : List Table) where
  table_there : (tables : List Table) (place : ℕ) (table : Table) → AllByRecursion IsTable tables → slice_get tables place ≡ Some table → IsTable table
  table_there [] place table all e = cc
  table_there (t ∷ ts) zero table all e = subst IsTable (let i : t ≡ table = cc in i) all.0
  table_there (t ∷ ts) (suc place) table all e = table_there ts place table all.1 e

  table_fits : (relation : ℕ) (tables : All IsTable db) → AllByRecursion (FitsColumns (columns_of db relation)) (rows_of db relation)
  table_fits relation tables = by (slice_get db relation) refl where
    by : (t : Option Table) → slice_get db relation ≡ t → AllByRecursion (FitsColumns (columns_at t)) (rows_at t)
    by None e = tt
    by (Some table) e = recursion_from_All (FitsColumns (columns_at (Some table))) table.rows (table_there db relation table (recursion_from_All IsTable db tables) e)

  pub tables_fit : All IsTable db → FitTables db (columns_of db)
  tables_fit tables relation = All-from_recursion (FitsColumns (columns_of db relation)) (rows_of db relation) (table_fits relation tables)

  pub listed_are : listed (map (λ t. map layout_column t.columns) db) ≡ columns_of db
  listed_are = λ i relation. same db relation i where
    same : (ts : List Table) (relation : ℕ) → listed (map (λ t. map layout_column t.columns) ts) relation ≡ columns_of ts relation
    same [] relation = refl
    same (t ∷ ts) zero = refl
    same (t ∷ ts) (suc relation) = same ts relation

  -- a query of the tables may be asked over the columns of the tables
  pub resolved_can : (q : Question) → IsResolved db q → CanBeAsked (columns_of db) db q
  resolved_can q ok = record { few = ok.few; relations = ok.relations; targets = ok.targets; test = ok.test; tables = tables_fit ok.tables }
