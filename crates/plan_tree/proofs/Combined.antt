-- Rows of two layouts as one.
use Rattle.std.proofs.Common.{◌≡◌, ℕ, ◌+◌, ◌<◌, ◌≤◌, suc, zero, Bool, true, false, cond, ◌||◌, ◌==◌, nat_lt, List, [], ◌∷◌, ◌++◌, length, Option, Some, None, is_some, refl, sym, ap, ◌∙◌, arith}
use Rattle.std.specs.Option.{option_map}
use Rattle.std.specs.Prelude.{⊤}
use Rattle.std.proofs.lemmas.Bool.Decides.{nat_tests}
use Rattle.std.proofs.lemmas.List.{get_or_append_left, get_or-append-add, get_or_past}
use Rattle.rows.specs.declared.value.Value.{Value}
use Rattle.rows.specs.declared.value.Value.TheVariants.{Null}
use Rattle.rows.specs.Values.{column_of}
use Rattle.rows.specs.declared.plain.LayoutColumn.{LayoutColumn}
use Rattle.rows.specs.declared.plain.LayoutPart.{LayoutPart}
use Rattle.rows.specs.Layouts.{column_place, column_in, value_at, FitsColumns, one_part}
use Rattle.rel_meaning.proofs.Typed.{fits_length}
use Rattle.plan_tree.specs.Assignments.{Assignment, blank, bind}
use Rattle.plan_tree.specs.Combining.{AreApart, part_of, has_part, insert_part, merged, values_of, row_in, over, combined}

abbrev pub value_when : Bool → Value → Value
value_when true v = v
value_when false v = Null

-- whether the columns have this one
abbrev pub in_part : Option (List LayoutColumn) → ℕ → Bool
in_part None column = false
in_part (Some columns) column = nat_lt column (length columns)

abbrev pub or_part : Option (List LayoutColumn) → Option (List LayoutColumn) → Option (List LayoutColumn)
or_part None q = q
or_part (Some p) q = Some p

some_map : (n : ℕ) (o : Option ℕ) → is_some (option_map (λ p. n + p) o) ≡ is_some o
some_map n None = refl
some_map n (Some p) = refl

some_cond : (b : Bool) (n : ℕ) → is_some (cond b (Some n) None) ≡ b
some_cond true n = refl
some_cond false n = refl

place_there : (layout : List LayoutPart) (var column : ℕ) → is_some (column_place layout var column) ≡ in_part (part_of layout var) column
place_there [] var column = refl
place_there (part ∷ parts) var column = elim (part.var == var) as (λ b. is_some (cond b (cond (nat_lt column (length part.columns)) (Some column) None) (option_map (λ p. length part.columns + p) (column_place parts var column))) ≡ in_part (cond b (Some part.columns) (part_of parts var)) column) [
  | true ↦ some_cond (nat_lt column (length part.columns)) column
  | false ↦ some_map (length part.columns) (column_place parts var column) ∙ place_there parts var column
]

-- a row of a layout has no value for other columns
pub column_when : (layout : List LayoutPart) (row : List Value) (var column : ℕ) → column_in layout row var column ≡ value_when (in_part (part_of layout var) column) (column_in layout row var column)
column_when layout row var column = by (column_place layout var column) ∙ ap (λ b. value_when b (column_in layout row var column)) (place_there layout var column) where
  by : (o : Option ℕ) → value_at row o ≡ value_when (is_some o) (value_at row o)
  by None = refl
  by (Some p) = refl

values_length : (e : Assignment) (var n : ℕ) (cs : List LayoutColumn) → length (values_of e var n cs) ≡ length cs
values_length e var n [] = refl
values_length e var n (c ∷ cs) = ap suc (values_length e var (n + 1) cs)

values_at : (e : Assignment) (var n : ℕ) (cs : List LayoutColumn) (k : ℕ) → k < length cs → column_of (values_of e var n cs) k ≡ e var (n + k)
values_at e var n [] k h = absurd (omega arith)
values_at e var n (c ∷ cs) zero h = ap (e var) (omega arith)
values_at e var n (c ∷ cs) (suc k) h = values_at e var (n + 1) cs k (omega arith) ∙ ap (e var) (omega arith)

-- the values of a made row
pub row_in_column : (layout : List LayoutPart) (e : Assignment) (var column : ℕ) → column_in layout (row_in layout e) var column ≡ value_when (in_part (part_of layout var) column) (e var column)
row_in_column [] e var column = refl
row_in_column (part ∷ parts) e var column = by (row_in_column parts e var column) (part.var == var) (nat_lt column (length part.columns)) refl refl where
  front : List Value
  front = values_of e part.var 0 part.columns

  shifted : (o : Option ℕ) → value_at (front ++ row_in parts e) (option_map (λ p. length part.columns + p) o) ≡ value_at (row_in parts e) o
  shifted None = refl
  shifted (Some p) = rw (← values_length e part.var 0 part.columns) (get_or-append-add front (row_in parts e) p Null)

  by : column_in parts (row_in parts e) var column ≡ value_when (in_part (part_of parts var) column) (e var column) → (b c : Bool) → (part.var == var) ≡ b → nat_lt column (length part.columns) ≡ c →
      value_at (front ++ row_in parts e) (cond b (cond c (Some column) None) (option_map (λ p. length part.columns + p) (column_place parts var column)))
      ≡ value_when (in_part (cond b (Some part.columns) (part_of parts var)) column) (e var column)
  by rest true true i j =
      let k : column < length part.columns = grind (arith, nat_tests) in
      let l : part.var ≡ var = grind (arith, nat_tests) in
      get_or_append_left front (row_in parts e) Null column (omega (arith, k, values_length e part.var 0 part.columns)) ∙ values_at e part.var 0 part.columns column k
      ∙ ap (λ v. e v (0 + column)) l ∙ ap (e var) (omega arith) ∙ ap (λ b. value_when b (e var column)) (sym j)
  by rest true false i j = ap (λ b. value_when b (e var column)) (sym j)
  by rest false c i j = shifted (column_place parts var column) ∙ rest

-- merged layouts

-- no part has the variable of an earlier one
abbrev pub Distinct : List LayoutPart → Type 0
Distinct [] = ⊤
Distinct (p ∷ ps) = (part_of ps p.var ≡ None) × Distinct ps

part_of_insert : (p : LayoutPart) (layout : List LayoutPart) (var : ℕ) → part_of layout p.var ≡ None → part_of (insert_part p layout) var ≡ cond (p.var == var) (Some p.columns) (part_of layout var)
part_of_insert p [] var h = refl
part_of_insert p (q ∷ qs) var h = by (part_of_insert p qs var) (q.var == p.var) refl h where
  swapped : (q.var == p.var) ≡ false → (c d : Bool) → (q.var == var) ≡ c → (p.var == var) ≡ d →
      cond c (Some q.columns) (cond d (Some p.columns) (part_of qs var)) ≡ cond d (Some p.columns) (cond c (Some q.columns) (part_of qs var))
  swapped i true true j k = let same : (q.var == p.var) ≡ true = grind (arith, nat_tests) in cc
  swapped i true false j k = refl
  swapped i false d j k = refl

  by : (part_of qs p.var ≡ None → part_of (insert_part p qs) var ≡ cond (p.var == var) (Some p.columns) (part_of qs var)) → (b : Bool) → (q.var == p.var) ≡ b → cond b (Some q.columns) (part_of qs p.var) ≡ None →
      part_of (cond (nat_lt p.var q.var) (p ∷ q ∷ qs) (q ∷ insert_part p qs)) var ≡ cond (p.var == var) (Some p.columns) (cond (q.var == var) (Some q.columns) (part_of qs var))
  by rest true i n = cc
  by rest false i n = elim (nat_lt p.var q.var) as (λ l. part_of (cond l (p ∷ q ∷ qs) (q ∷ insert_part p qs)) var ≡ cond (p.var == var) (Some p.columns) (cond (q.var == var) (Some q.columns) (part_of qs var))) [
    | true ↦ refl
    | false ↦ ap (λ o. cond (q.var == var) (Some q.columns) o) (rest n) ∙ swapped i (q.var == var) (p.var == var) refl refl
  ]

distinct_insert : (p : LayoutPart) (layout : List LayoutPart) → part_of layout p.var ≡ None → Distinct layout → Distinct (insert_part p layout)
distinct_insert p [] h d = (refl, tt)
distinct_insert p (q ∷ qs) h d = by (λ n. distinct_insert p qs n d.1) (q.var == p.var) refl h where
  by : (part_of qs p.var ≡ None → Distinct (insert_part p qs)) → (b : Bool) → (q.var == p.var) ≡ b → cond b (Some q.columns) (part_of qs p.var) ≡ None → Distinct (cond (nat_lt p.var q.var) (p ∷ q ∷ qs) (q ∷ insert_part p qs))
  by rest true i n = cc
  by rest false i n =
      let k : (p.var == q.var) ≡ false = grind (arith, nat_tests) in
      elim (nat_lt p.var q.var) as (λ l. Distinct (cond l (p ∷ q ∷ qs) (q ∷ insert_part p qs))) [
        | true ↦ (h, d)
        | false ↦ (part_of_insert p qs q.var n ∙ ap (λ b. cond b (Some p.columns) (part_of qs q.var)) k ∙ d.0, rest n)
      ]

pub part_some : (o : Option (List LayoutColumn)) → is_some o ≡ false → o ≡ None
part_some None h = refl
part_some (Some x) h = cc

pub apart_tail : (p : LayoutPart) (ps second : List LayoutPart) → AreApart (p ∷ ps) second → AreApart ps second
apart_tail p ps second apart var h = apart var (elim (p.var == var) as (λ b. is_some (cond b (Some p.columns) (part_of ps var)) ≡ true) [ true ↦ refl | false ↦ h ])

pub apart_head : (p : LayoutPart) (ps second : List LayoutPart) → AreApart (p ∷ ps) second → part_of second p.var ≡ None
apart_head p ps second apart = apart p.var (let k : (p.var == p.var) ≡ true = grind (arith, nat_tests) in rw k refl)

pub part_of_merged : (first second : List LayoutPart) → AreApart first second → Distinct first → (var : ℕ) → part_of (merged first second) var ≡ or_part (part_of first var) (part_of second var)
part_of_merged [] second apart d var = refl
part_of_merged (p ∷ ps) second apart d var = by (part_of_merged ps second (apart_tail p ps second apart) d.1) where
  by : ((w : ℕ) → part_of (merged ps second) w ≡ or_part (part_of ps w) (part_of second w)) → part_of (insert_part p (merged ps second)) var ≡ or_part (cond (p.var == var) (Some p.columns) (part_of ps var)) (part_of second var)
  by rest =
      part_of_insert p (merged ps second) var (rest p.var ∙ ap (λ o. or_part o (part_of second p.var)) d.0 ∙ apart_head p ps second apart)
      ∙ elim (p.var == var) as (λ b. cond b (Some p.columns) (part_of (merged ps second) var) ≡ or_part (cond b (Some p.columns) (part_of ps var)) (part_of second var)) [ true ↦ refl | false ↦ rest var ]

pub distinct_merged : (first second : List LayoutPart) → AreApart first second → Distinct first → Distinct second → Distinct (merged first second)
distinct_merged [] second apart d e = e
distinct_merged (p ∷ ps) second apart d e =
    distinct_insert p (merged ps second)
    (part_of_merged ps second (apart_tail p ps second apart) d.1 p.var ∙ ap (λ o. or_part o (part_of second p.var)) d.0 ∙ apart_head p ps second apart)
    (distinct_merged ps second (apart_tail p ps second apart) d.1 e)

-- two rows of layouts that are apart, as one row of both

module _ (layout first second : List LayoutPart) (parts : (var : ℕ) → part_of layout var ≡ or_part (part_of first var) (part_of second var)) where
  has_merged : (var : ℕ) → has_part layout var ≡ (has_part first var || has_part second var)
  has_merged var = ap is_some (parts var) ∙ by (part_of first var) (part_of second var) where
    by : (p q : Option (List LayoutColumn)) → is_some (or_part p q) ≡ (is_some p || is_some q)
    by None q = refl
    by (Some p) q = refl

  -- the combined row stands for both rows
  pub over_combined : (a b : List Value) (e : Assignment) → over layout (combined layout first second a b) e ≡ over first a (over second b e)
  over_combined a b e = λ i var column. by var column i where
    made : Assignment
    made = over first a (column_in second b)

    by : (var column : ℕ) → over layout (row_in layout made) e var column ≡ over first a (over second b e) var column
    by var column =
        (λ i. cond (is_some (parts var i)) (row_in_column layout made var column i) (e var column))
        ∙ (λ i. cond (is_some (or_part (part_of first var) (part_of second var))) (value_when (in_part (parts var i) column) (made var column)) (e var column))
        ∙ cases (part_of first var) (part_of second var) refl refl
      where
        cases : (p q : Option (List LayoutColumn)) → part_of first var ≡ p → part_of second var ≡ q →
            cond (is_some (or_part p q)) (value_when (in_part (or_part p q) column) (cond (is_some p) (column_in first a var column) (column_in second b var column))) (e var column)
            ≡ cond (is_some p) (column_in first a var column) (cond (is_some q) (column_in second b var column) (e var column))
        cases None None i j = refl
        cases None (Some q) i j = sym (column_when second b var column ∙ ap (λ o. value_when (in_part o column) (column_in second b var column)) j)
        cases (Some p) q i j = sym (column_when first a var column ∙ ap (λ o. value_when (in_part o column) (column_in first a var column)) i)

-- a row for no variable, and for one

pub over_blank : (layout : List LayoutPart) (row : List Value) → over layout row blank ≡ column_in layout row
over_blank layout row = λ i var column. by var column (part_of layout var) refl i where
  by : (var column : ℕ) (p : Option (List LayoutColumn)) → part_of layout var ≡ p → cond (is_some p) (column_in layout row var column) Null ≡ column_in layout row var column
  by var column None h = sym (column_when layout row var column ∙ ap (λ o. value_when (in_part o column) (column_in layout row var column)) h)
  by var column (Some p) h = refl

column_past : (row : List Value) (n : ℕ) → length row ≤ n → column_of row n ≡ Null
column_past row n h = get_or_past row n Null h

pub over_one : (v : ℕ) (columns : List LayoutColumn) (row : List Value) (e : Assignment) → FitsColumns columns row → over (one_part v columns) row e ≡ bind e v row
over_one v columns row e fits = λ i var column. by var column (v == var) (nat_lt column (length columns)) refl i where
  width : length row ≡ length columns
  width = fits_length columns row fits

  by : (var column : ℕ) (b c : Bool) → nat_lt column (length columns) ≡ c →
      cond (is_some (cond b (Some columns) None)) (value_at row (cond b (cond c (Some column) None) None)) (e var column) ≡ cond b (column_of row column) (e var column)
  by var column true true i = refl
  by var column true false i = sym (column_past row column (let k : length columns ≤ column = grind (arith, nat_tests) in omega (arith, k, width)))
  by var column false c i = refl
