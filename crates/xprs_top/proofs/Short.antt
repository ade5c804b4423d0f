-- The rows that a file writes can be stored.
use Rattle.std.proofs.Common.{◌≡◌, ◌≤◌, ℕ, ◌+◌, Bool, true, false, List, [], ◌∷◌, length, if◌then◌else◌, refl, arith, Ok, Err, Result, Option, Some, None}
use Rattle.std.specs.Prelude.{nat_le, All, ◌==◌}
use Rattle.std.proofs.lemmas.Bool.{leb-true}
use Rattle.std.proofs.lemmas.List.Elements.{All-cons}
use Rattle.rows.specs.declared.value.Value.{Value}
use Rattle.rows.specs.declared.plain.Column.{Column}
use Rattle.rows.specs.RowBytes.{row_bytes}
use Rattle.catalog_load.specs.declared.fault.LoadErr.{LoadErr}
use Rattle.catalog_load.specs.Tables.{Record, all_or_first, behind, behind_header, cells, counted_row, first_difference, if_short, row_of, rows_from, rows_of, rows_of_records, records_of}
use Rattle.table_store.specs.Databases.{AreShort}

abbrev Rows : Type 0
Rows = Result (List (List Value)) LoadErr

abbrev Row : Type 0
Row = Result (List Value) LoadErr

pick : {A : Type 0} (b : Bool) (r : Result A LoadErr) (e : LoadErr) (v : A) → (if b then r else Err e) ≡ Ok v → (b ≡ true) × (r ≡ Ok v)
pick true r e v h = (refl, h)
pick false r e v h = absurd cc

short_enough : (number : ℕ) (columns : List Column) (r : Row) (row : List Value) → if_short number columns r ≡ Ok row → length (row_bytes columns row) ≤ 8168
short_enough number columns (Ok found) row h =
    let p = pick (nat_le (length (row_bytes columns found)) 8168) (Ok found) _ row h in
    let same : found ≡ row = cc in
    rw (← same) (leb-true (length (row_bytes columns found)) 8168 p.0)
short_enough number columns (Err e) row h = absurd cc

row_short : (columns : List Column) (number : ℕ) (fields : Record) (row : List Value) → row_of columns number fields ≡ Ok row → (number ≤ 1000001) × (length (row_bytes columns row) ≤ 8168)
row_short columns number fields row h =
    let p = pick (nat_le number 1000001) (counted_row columns number fields) _ row h in
    let q = pick (length fields == length columns) (if_short number columns (all_or_first (cells number 1 columns fields))) _ row p.1 in
    (leb-true number 1000001 p.0, short_enough number columns (all_or_first (cells number 1 columns fields)) row q.1)

abbrev Few : List Column → ℕ → List (List Value) → Type 0
Few columns number rows = (length rows + number ≤ 1000002) × All (λ row. length (row_bytes columns row) ≤ 8168) rows

few : (columns : List Column) (number : ℕ) (records : List Record) (rows : List (List Value)) → number ≤ 1000002 → all_or_first (rows_from number columns records) ≡ Ok rows → Few columns number rows
few columns number [] rows le h = let none : [] ≡ rows = cc in rw (← none) (omega (arith, le), λ k d lt. absurd (omega (arith, lt)))
few columns number (fields ∷ others) rows le h = by (row_of columns number fields) refl h (λ more small k. few columns (number + 1) others more small k) where
  Again : Type 0
  Again = (more : List (List Value)) → number + 1 ≤ 1000002 → all_or_first (rows_from (number + 1) columns others) ≡ Ok more → Few columns (number + 1) more

  rest : (row : List Value) → row_of columns number fields ≡ Ok row → (left : Rows) → all_or_first (rows_from (number + 1) columns others) ≡ left → behind row left ≡ Ok rows → Again → Few columns number rows
  rest row e (Ok more) k g again =
      let same : row ∷ more ≡ rows = cc in
      let one = row_short columns number fields row e in
      let all = again more (omega (arith, one.0)) k in
      rw (← same) (omega (arith, all.0), All-cons (λ r. length (row_bytes columns r) ≤ 8168) row more one.1 all.1)
  rest row e (Err f) k g again = absurd cc

  by : (found : Row) → row_of columns number fields ≡ found → all_or_first (found ∷ rows_from (number + 1) columns others) ≡ Ok rows → Again → Few columns number rows
  by (Ok row) e g again = rest row e (all_or_first (rows_from (number + 1) columns others)) refl g again
  by (Err f) e g again = absurd cc

pub short_rows : (columns : List Column) (text : List ℕ) (rows : List (List Value)) → rows_of columns text ≡ Ok rows → AreShort columns rows
short_rows columns text rows h = by (records_of text) h where
  headed : (others : List Record) (place : Option ℕ) → behind_header columns others place ≡ Ok rows → AreShort columns rows
  headed others None g = let f = few columns 2 others rows (omega arith) g in (omega (arith, f.0), f.1)
  headed others (Some place) g = absurd cc

  by : (records : List Record) → rows_of_records columns records ≡ Ok rows → AreShort columns rows
  by [] g = absurd cc
  by (header ∷ others) g = headed others (first_difference 1 columns header) g
