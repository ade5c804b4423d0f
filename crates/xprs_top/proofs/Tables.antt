-- Tables that are read one after another.
use Rattle.std.proofs.Common.{◌≡◌, ◌≤◌, List, [], ◌∷◌, ◌++◌, get_or, map, refl, sym, ◌∙◌, Ok, Err, Result, nat_abs, ℤ, pos, negsuc, arith, ap₂}
use Rattle.std.specs.List.{All}
use Rattle.std.proofs.lemmas.List.{map-append}
use Rattle.std.proofs.lemmas.List.Elements.{All-push}
use Rattle.name_check.specs.Resolved.{AreTables}
use Rattle.rows.specs.declared.plain.Relation.{Relation}
use Rattle.rows.specs.declared.plain.Column.{Column}
use Rattle.rows.specs.declared.field.ColType.{ColType}
use Rattle.rows.specs.declared.field.ColType.TheVariants as col
use Rattle.rows.specs.declared.value.Value.{Value}
use Rattle.rows.specs.declared.value.Value.TheVariants.{Null, Number, Word, Truth}
use Rattle.rows.specs.RowBytes.{IsRowOf, IsValueOf, IsOfType}
use Rattle.rel_meaning.specs.declared.query.Table.{Table}
use Rattle.rows.specs.Layouts.{FitsColumns, HasType}
use Rattle.rel_meaning.specs.Meaning.{IsTable, layout_column, bound_at}
use Rattle.std.specs.Int.{w32}
use Rattle.std.proofs.Common.{FitsSigned}
use Rattle.xprs_top.specs.declared.status.Status.{Status}
use Rattle.xprs_top.specs.Readings.{Files, bind, table_of, tables_of}

abbrev pub table_with : Relation → List (List Value) → Table
table_with relation rows = record { columns = relation.columns; rows = rows }

-- one table more
pub one_more : (files : Files) (xs : List Relation) (r : Relation) (ts : List Table) (rows : List (List Value)) → tables_of files xs ≡ Ok ts → table_of files r ≡ Ok rows →
    tables_of files (xs ++ r ∷ []) ≡ Ok (ts ++ table_with r rows ∷ [])
one_more files [] r ts rows e f = nothing ts e where
  Outcome : Type 0
  Outcome = Result (List Table) Status

  nothing : (us : List Table) → ◌≡◌ {A = Outcome} (Ok []) (Ok us) → bind (table_of files r) (λ (found : List (List Value)). Ok (record { columns = r.columns; rows = found } ∷ [])) ≡ Ok (us ++ table_with r rows ∷ [])
  nothing us k = let none : [] ≡ us = cc in rw (f, ← none) refl
one_more files (x ∷ xs) r ts rows e f = by (table_of files x) refl e (λ us k. one_more files xs r us rows k f) where
  Again : Type 0
  Again = (us : List Table) → tables_of files xs ≡ Ok us → tables_of files (xs ++ r ∷ []) ≡ Ok (us ++ table_with r rows ∷ [])

  rest : (found : List (List Value)) → table_of files x ≡ Ok found → (left : Result (List Table) Status) → tables_of files xs ≡ left → bind left (λ (tables : List Table). Ok (table_with x found ∷ tables)) ≡ Ok ts → Again →
      tables_of files ((x ∷ xs) ++ r ∷ []) ≡ Ok (ts ++ table_with r rows ∷ [])
  rest found g (Ok us) k h again = let all : table_with x found ∷ us ≡ ts = cc in rw (g, again us k, ← all) refl
  rest found g (Err s) k h again = absurd cc

  by : (found : Result (List (List Value)) Status) → table_of files x ≡ found → bind found (λ (rs : List (List Value)). bind (tables_of files xs) (λ (tables : List Table). Ok (table_with x rs ∷ tables))) ≡ Ok ts → Again →
      tables_of files ((x ∷ xs) ++ r ∷ []) ≡ Ok (ts ++ table_with r rows ∷ [])
  by (Ok found) g h again = rest found g (tables_of files xs) refl h again
  by (Err s) g h again = absurd cc

-- a table that has a fault
pub faulty : (files : Files) (xs ys : List Relation) (r : Relation) (ts : List Table) (s : Status) → tables_of files xs ≡ Ok ts → table_of files r ≡ Err s → tables_of files (xs ++ r ∷ ys) ≡ Err s
faulty files [] ys r ts s e f = rw f refl
faulty files (x ∷ xs) ys r ts s e f = by (table_of files x) refl e (λ us k. faulty files xs ys r us s k f) where
  Again : Type 0
  Again = (us : List Table) → tables_of files xs ≡ Ok us → tables_of files (xs ++ r ∷ ys) ≡ Err s

  rest : (found : List (List Value)) → table_of files x ≡ Ok found → (left : Result (List Table) Status) → tables_of files xs ≡ left → bind left (λ (tables : List Table). Ok (table_with x found ∷ tables)) ≡ Ok ts → Again → tables_of files ((x ∷ xs) ++ r ∷ ys) ≡ Err s
  rest found g (Ok us) k h again = rw (g, again us k) refl
  rest found g (Err t) k h again = absurd cc

  by : (found : Result (List (List Value)) Status) → table_of files x ≡ found → bind found (λ (rs : List (List Value)). bind (tables_of files xs) (λ (tables : List Table). Ok (table_with x rs ∷ tables))) ≡ Ok ts → Again → tables_of files ((x ∷ xs) ++ r ∷ ys) ≡ Err s
  by (Ok found) g h again = rest found g (tables_of files xs) refl h again
  by (Err t) g h again = absurd cc

small : (n : ℤ) → FitsSigned w32 n → nat_abs n ≤ 2147483648
small (pos n) fits = omega (arith, fits)
small (negsuc n) fits = omega (arith, fits)

of_type : (t : ColType) (v : Value) → IsOfType t v → HasType v (record { col_type = t; bound = bound_at t })
of_type t Null h = tt
of_type col.Int4 (Number n) h = (refl, small n h)
of_type col.Int4 (Word w) h = elim h [ ]
of_type col.Int4 (Truth b) h = elim h [ ]
of_type col.Text (Number n) h = elim h [ ]
of_type col.Text (Word w) h = refl
of_type col.Text (Truth b) h = elim h [ ]
of_type col.Bool (Number n) h = elim h [ ]
of_type col.Bool (Word w) h = elim h [ ]
of_type col.Bool (Truth b) h = refl

of_column : (c : Column) (v : Value) → IsValueOf c v → HasType v (layout_column c)
of_column c Null h = tt
of_column c (Number n) h = of_type c.col_type (Number n) h
of_column c (Word w) h = of_type c.col_type (Word w) h
of_column c (Truth b) h = of_type c.col_type (Truth b) h

fits : (cs : List Column) (vs : List Value) → IsRowOf cs vs → FitsColumns (map layout_column cs) vs
fits [] [] h = tt
fits [] (v ∷ vs) h = elim h [ ]
fits (c ∷ cs) [] h = elim h [ ]
fits (c ∷ cs) (v ∷ vs) h = (of_column c v h.0, fits cs vs h.1)

-- rows of the columns are those of a table
pub is_table : (cs : List Column) (rows : List (List Value)) → All (IsRowOf cs) rows → IsTable (record { columns = cs; rows = rows })
is_table cs rows h k d lt = fits cs (get_or rows k d) (h k d lt)

-- the tables and one more
pub more_tables : (xs : List Relation) (ts : List Table) (r : Relation) (t : Table) → AreTables xs ts → t.columns ≡ r.columns → IsTable t → AreTables (xs ++ r ∷ []) (ts ++ t ∷ [])
more_tables xs ts r t are same table = record {
  columns = map-append (λ (u : Table). u.columns) ts (t ∷ []) ∙ (ap₂ (λ (before : List (List Column)) (b : List Column). before ++ b ∷ []) are.columns same ∙ sym (map-append (λ (u : Relation). u.columns) xs (r ∷ [])));
  tables = All-push IsTable ts t are.tables table;
}
