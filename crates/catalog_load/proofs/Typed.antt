-- The rows that a text writes are rows of the columns.
use Rattle.std.proofs.Common.{◌≡◌, ℕ, zero, suc, ℤ, pos, neg_ℤ, ◌<◌, ◌≤◌, ◌+◌, ◌==◌, ◌&&◌, Bool, true, false, cond, List, [], ◌∷◌, length, Option, Some, None, Result, Ok, Err, refl, ap, subst, arith, nat_lt, nat_le, codes, ◌||◌, All, FitsSigned}
use Rattle.std.specs.Int.{w32}
use Rattle.std.specs.List.{AllByRecursion}
use Rattle.std.specs.Str.{is_utf8, bytes_eq}
use Rattle.std.specs.Str.Parse.{starts_with_minus, without_leading_sign, digits_value}
use Rattle.std.proofs.lemmas.Bool.Decides.{nat_tests}
use Rattle.std.proofs.lemmas.List.Elements.{All-from_recursion}
use Rattle.rows.specs.declared.value.Value.{Value}
use Rattle.rows.specs.declared.value.Value.TheVariants as value
use Rattle.rows.specs.declared.plain.Column.{Column}
use Rattle.rows.specs.declared.field.ColType.{ColType}
use Rattle.rows.specs.declared.field.ColType.TheVariants as col
use Rattle.rows.specs.declared.field.FieldErr.{FieldErr}
use Rattle.rows.specs.declared.field.FieldErr.TheVariants as err
use Rattle.rows.specs.Fields.{field_value, int4_of, is_integer_text, number_or_out}
use Rattle.rows.specs.RowBytes.{IsOfType, IsRowOf, IsValueOf, row_bytes}
use Rattle.catalog_load.specs.declared.fault.LoadErr.{LoadErr}
use Rattle.catalog_load.specs.declared.fault.LoadErr.TheVariants.{Fault}
use Rattle.catalog_load.specs.declared.fault.TableWhat.TheVariants as what
use Rattle.catalog_load.specs.Tables.{Record, all_or_first, behind, cells, counted_row, if_short, placed, row_of, rows_from, value_of}

if_true : {A E : Type 0} (b : Bool) (x : Result A E) (e : E) (y : A) → cond b x (Err e) ≡ Ok y → (b ≡ true) × (x ≡ Ok y)
if_true true x e y h = (refl, h)
if_true false x e y h = cc

fits_negative : (size : ℕ) → size ≤ 2147483648 → FitsSigned w32 (neg_ℤ (pos size))
fits_negative zero h = let below : 0 < 2147483648 = omega arith in record { sfits = below }
fits_negative (suc k) h = let below : k < 2147483648 = omega arith in record { sfits = below }

fits_positive : (size : ℕ) → size ≤ 2147483647 → FitsSigned w32 (pos size)
fits_positive size h = let below : size < 2147483648 = omega arith in record { sfits = below }

int4_range : (minus : Bool) (size : ℕ) (n : ℤ) → cond minus (cond (nat_le size 2147483648) (Some (neg_ℤ (pos size))) None) (cond (nat_lt size 2147483648) (Some (pos size)) None) ≡ Some n → FitsSigned w32 n
int4_range true size n e = low (nat_le size 2147483648) refl e where
  low : (b : Bool) → nat_le size 2147483648 ≡ b → cond b (Some (neg_ℤ (pos size))) None ≡ Some n → FitsSigned w32 n
  low true t h =
      let small : size ≤ 2147483648 = grind (arith, nat_tests) in
      let same : neg_ℤ (pos size) ≡ n = cc in
      subst (λ m. FitsSigned w32 m) same (fits_negative size small)
  low false t h = cc
int4_range false size n e = high (nat_lt size 2147483648) refl e where
  high : (b : Bool) → nat_lt size 2147483648 ≡ b → cond b (Some (pos size)) None ≡ Some n → FitsSigned w32 n
  high true t h =
      let small : size ≤ 2147483647 = grind (arith, nat_tests) in
      let same : pos size ≡ n = cc in
      subst (λ m. FitsSigned w32 m) same (fits_positive size small)
  high false t h = cc

integer_typed : (is : Bool) (n : Option ℤ) (v : Value) → ((m : ℤ) → n ≡ Some m → FitsSigned w32 m) → cond is (number_or_out n) (Err err.NotInt4) ≡ Ok v → IsOfType col.Int4 v
integer_typed true None v h e = cc
integer_typed true (Some n) v h e = subst (IsOfType col.Int4) (let same : value.Number n ≡ v = cc in same) (h n refl)
integer_typed false n v h e = cc

text_typed : (is short : Bool) (field : List ℕ) (v : Value) → is_utf8 field ≡ is → nat_le (length field) 2000 ≡ short → cond is (cond short (Ok (value.Word field)) (Err err.TextTooLong)) (Err err.NotUtf8) ≡ Ok v → IsOfType col.Text v
text_typed true true field v u s e = let same : value.Word field ≡ v = cc in subst (IsOfType col.Text) same (u, grind (arith, nat_tests))
text_typed true false field v u s e = cc
text_typed false short field v u s e = cc

truth_typed : (is not_so : Bool) (v : Value) → cond is (Ok (value.Truth true)) (cond not_so (Ok (value.Truth false)) (Err err.NotBool)) ≡ Ok v → IsOfType col.Bool v
truth_typed true other v e = let same : value.Truth true ≡ v = cc in subst (IsOfType col.Bool) same tt
truth_typed false true v e = let same : value.Truth false ≡ v = cc in subst (IsOfType col.Bool) same tt
truth_typed false false v e = cc

field_typed : (k : ColType) (field : List ℕ) (v : Value) → field_value k field ≡ Ok v → IsOfType k v
field_typed col.Int4 field v e = integer_typed (is_integer_text field) (int4_of field) v (int4_range (starts_with_minus field) (digits_value 10 (without_leading_sign field))) e
field_typed col.Text field v e = text_typed (is_utf8 field) (nat_le (length field) 2000) field v refl refl e
field_typed col.Bool field v e = truth_typed (bytes_eq field (codes "t") || bytes_eq field (codes "true")) (bytes_eq field (codes "f") || bytes_eq field (codes "false")) v e

no_null : (c : Column) (v : Value) → IsOfType c.col_type v → IsValueOf c v
no_null c value.Null h = absurd (none c.col_type h) where
  none : (k : ColType) → IsOfType k value.Null → ⊥
  none col.Int4 h = h
  none col.Text h = h
  none col.Bool h = h
no_null c (value.Number n) h = h
no_null c (value.Word w) h = h
no_null c (value.Truth b) h = h

value_typed : (nullable empty : Bool) (c : Column) (field : List ℕ) (v : Value) → c.nullable ≡ nullable → cond (nullable && empty) (Ok value.Null) (field_value c.col_type field) ≡ Ok v → IsValueOf c v
value_typed true true c field v n e = let same : value.Null ≡ v = cc in subst (IsValueOf c) same n
value_typed true false c field v n e = no_null c v (field_typed c.col_type field v e)
value_typed false empty c field v n e = no_null c v (field_typed c.col_type field v e)

unplaced : (number column : ℕ) (x : Result Value FieldErr) (v : Value) → placed number column x ≡ Ok v → x ≡ Ok v
unplaced number column (Ok w) v e = let same : w ≡ v = cc in rw same refl
unplaced number column (Err f) v e = cc

-- where all are values, the first is one, and all the others are
split_by : {A : Type 0} (v : A) (rest : List (Result A LoadErr)) (all : List A) (r : Result (List A) LoadErr) → all_or_first rest ≡ r → behind v r ≡ Ok all → (w : A) × (vs : List A) × (v ≡ w) × (all_or_first rest ≡ Ok vs) × (w ∷ vs ≡ all)
split_by v rest all (Ok vs) is h = (v, vs, refl, is, (let same : v ∷ vs ≡ all = cc in same))
split_by v rest all (Err f) is h = cc

pub split : {A : Type 0} (x : Result A LoadErr) (rest : List (Result A LoadErr)) (all : List A) → all_or_first (x ∷ rest) ≡ Ok all → (v : A) × (vs : List A) × (x ≡ Ok v) × (all_or_first rest ≡ Ok vs) × (v ∷ vs ≡ all)
split (Ok v) rest all e = let s = split_by v rest all (all_or_first rest) refl e in (s.0, s.1, ap Ok s.2, s.3, s.4)
split (Err f) rest all e = cc

pub cells_typed : (number place : ℕ) (columns : List Column) (fields : Record) (row : List Value) → length fields ≡ length columns → all_or_first (cells number place columns fields) ≡ Ok row → IsRowOf columns row
cells_typed number place [] fields row n e = let none : [] ≡ row = cc in subst (IsRowOf []) none tt
cells_typed number place (c ∷ columns) [] row n e = absurd (omega arith)
cells_typed number place (c ∷ columns) (field ∷ fields) row n e =
    let s = split (placed number place (value_of c field)) (cells number (place + 1) columns fields) row e in
    let one = value_typed c.nullable (length field == 0) c field s.0 refl (unplaced number place (value_of c field) s.0 s.2) in
    subst (IsRowOf (c ∷ columns)) s.4 (one, cells_typed number (place + 1) columns fields s.1 (omega arith) s.3)

short : (number : ℕ) (columns : List Column) (x : Result (List Value) LoadErr) (row : List Value) → if_short number columns x ≡ Ok row → x ≡ Ok row
short number columns (Ok r) row e = (if_true (nat_le (length (row_bytes columns r)) 8168) (Ok r) (Fault number 0 what.RowTooLong) row e).1
short number columns (Err f) row e = cc

row_typed : (columns : List Column) (number : ℕ) (fields : Record) (row : List Value) → row_of columns number fields ≡ Ok row → IsRowOf columns row
row_typed columns number fields row e =
    let few = if_true (nat_le number 1000001) (counted_row columns number fields) (Fault number 0 what.TooManyRows) row e in
    let whole = if_true (length fields == length columns) (if_short number columns (all_or_first (cells number 1 columns fields))) (Fault number 0 what.FieldCount) row few.1 in
    let same : length fields ≡ length columns = grind (arith, nat_tests) in
    cells_typed number 1 columns fields row same (short number columns (all_or_first (cells number 1 columns fields)) row whole.1)

others_typed : (number : ℕ) (columns : List Column) (records : List Record) (rows : List (List Value)) → all_or_first (rows_from number columns records) ≡ Ok rows → AllByRecursion (IsRowOf columns) rows
others_typed number columns [] rows e = let none : [] ≡ rows = cc in subst (AllByRecursion (IsRowOf columns)) none tt
others_typed number columns (fields ∷ others) rows e =
    let s = split (row_of columns number fields) (rows_from (number + 1) columns others) rows e in
    subst (AllByRecursion (IsRowOf columns)) s.4 (row_typed columns number fields s.0 s.2, others_typed (number + 1) columns others s.1 s.3)

pub rows_typed : (columns : List Column) (left : List Record) (rows : List (List Value)) → all_or_first (rows_from 2 columns left) ≡ Ok rows → All (IsRowOf columns) rows
rows_typed columns left rows e = All-from_recursion (IsRowOf columns) rows (others_typed 2 columns left rows e)
