-- One field more, and one record more.
use Rattle.std.proofs.Common.{◌≡◌, ℕ, ◌+◌, ◌<◌, suc, zero, List, [], ◌∷◌, ◌++◌, length, drop, get_or, true, false, ◌≤◌, Option, Some, None, Result, Ok, Err, refl, sym, ap, ◌∙◌, arith, append_assoc}
use Rattle.std.proofs.lemmas.List.{drop_more, append-nil, length-drop}
use Rattle.std.proofs.Math.ListN.{drop_of_length-le}
use Rattle.csv.specs.Records.{field_at}
use Rattle.rows.specs.declared.plain.Column.{Column}
use Rattle.rows.specs.declared.value.Value.{Value}
use Rattle.catalog_load.specs.declared.fault.LoadErr.{LoadErr}
use Rattle.catalog_load.specs.declared.fault.LoadErr.TheVariants.{Fault, NoMemory}
use Rattle.catalog_load.specs.Tables.{Loads, Record, all_or_first, behind, cells, first_difference, is_named, placed, row_of, rows_from, value_of}

-- these before what the rest comes to
abbrev pub before : {A : Type 0} → List A → Result (List A) LoadErr → Result (List A) LoadErr
before front (Ok rest) = Ok (front ++ rest)
before front (Err e) = Err e

pub before_one : {A : Type 0} (front : List A) (x : A) (rest : Result (List A) LoadErr) → before front (behind x rest) ≡ before (front ++ x ∷ []) rest
before_one front x (Ok rest) = ap Ok (sym (append_assoc front (x ∷ []) rest))
before_one front x (Err e) = refl

pub field_there : (fields : Record) (i : ℕ) (field : List ℕ) → Some field ≡ field_at fields i → drop i fields ≡ field ∷ drop (i + 1) fields
unfolding field_at
field_there [] i field e = cc
field_there (f ∷ fields) zero field e = let same : field ≡ f = cc in rw same refl
field_there (f ∷ fields) (suc i) field e =
    let more : suc i + 1 ≡ suc (i + 1) = omega arith in
    rw more (field_there fields i field e)

pub no_field : (fields : Record) (i : ℕ) → None ≡ field_at fields i → drop i fields ≡ []
unfolding field_at
no_field [] zero e = refl
no_field [] (suc i) e = refl
no_field (f ∷ fields) zero e = cc
no_field (f ∷ fields) (suc i) e = no_field fields i e

pub no_field_past : (fields : Record) (i : ℕ) → None ≡ field_at fields i → i < length fields → ⊥
unfolding field_at
no_field_past [] i e h = omega arith
no_field_past (f ∷ fields) zero e h = cc
no_field_past (f ∷ fields) (suc i) e h = no_field_past fields i e (omega arith)

module _ (columns : List Column) (fields : Record) (i : ℕ) (c : Column) (there : i < length columns) (is : c ≡ get_or columns i c) where
  column_there : drop i columns ≡ c ∷ drop (i + 1) columns
  column_there = drop_more columns i c there ∙ ap (λ x. x ∷ drop (i + 1) columns) (sym is)

  pub cells_step : (number : ℕ) (field : List ℕ) → Some field ≡ field_at fields i
      → cells number (i + 1) (drop i columns) (drop i fields) ≡ placed number (i + 1) (value_of c field) ∷ cells number (i + 1 + 1) (drop (i + 1) columns) (drop (i + 1) fields)
  cells_step number field e = rw (column_there, field_there fields i field e) refl

  pub same_name : (o : Option (List ℕ)) → o ≡ field_at fields i → is_named o c ≡ true
      → first_difference (i + 1) (drop i columns) (drop i fields) ≡ first_difference (i + 1 + 1) (drop (i + 1) columns) (drop (i + 1) fields)
  same_name None e h = cc
  same_name (Some field) e h = rw (column_there, field_there fields i field e, h) refl

  pub other_name : (o : Option (List ℕ)) → o ≡ field_at fields i → is_named o c ≡ false → first_difference (i + 1) (drop i columns) (drop i fields) ≡ Some (i + 1)
  other_name None e h = rw (column_there, no_field fields i e) refl
  other_name (Some field) e h = rw (column_there, field_there fields i field e, h) refl

-- behind the last name
pub names_end : (columns : List Column) (fields : Record) (i : ℕ) → length columns ≤ i → i < length fields → first_difference (i + 1) (drop i columns) (drop i fields) ≡ Some (i + 1)
names_end columns fields i past more = rw (drop_of_length-le columns past) (some (drop i fields) (omega (arith, length-drop i fields))) where
  some : (rest : Record) → 0 < length rest → first_difference (i + 1) [] rest ≡ Some (i + 1)
  some [] h = absurd (omega arith)
  some (f ∷ rest) h = refl

pub names_all : (columns : List Column) (fields : Record) (i : ℕ) → length columns ≤ i → length fields ≤ i → first_difference (i + 1) (drop i columns) (drop i fields) ≡ None
names_all columns fields i past over = rw (drop_of_length-le columns past, drop_of_length-le fields over) refl

-- a value found, and a fault found
pub value_more : {A : Type 0} (front : List A) (x : Result A LoadErr) (v : A) (rest : List (Result A LoadErr)) → x ≡ Ok v → before front (all_or_first (x ∷ rest)) ≡ before (front ++ v ∷ []) (all_or_first rest)
value_more front x v rest e = rw e (before_one front v (all_or_first rest))

pub fault_here : {A : Type 0} (front : List A) (x : Result A LoadErr) (e : LoadErr) (rest : List (Result A LoadErr)) → x ≡ Err e → before front (all_or_first (x ∷ rest)) ≡ Err e
fault_here front x e rest is = rw is refl

pub none_more : {A : Type 0} (front : List A) → before front (all_or_first []) ≡ Ok front
none_more front = ap Ok (append-nil front)

-- a fault that is passed on
pub passed : {A B C D : Type 0} (f : A → B) (g : C → D) (e : LoadErr) (x : Result B LoadErr) (y : Result D LoadErr) → Loads f (Err e) x → (x ≡ Err e → y ≡ Err e) → Loads g (Err e) y
passed f g (Fault n c w) x y h more = more h
passed f g NoMemory x y h more = tt

module _ (number i : ℕ) (columns : List Column) (fields : Record) (c : Column) (field : List ℕ) (front : List Value) (all : Result (List Value) LoadErr)
    (inv : before front (all_or_first (cells number (i + 1) (drop i columns) (drop i fields))) ≡ all)
    (there : i < length columns) (is : c ≡ get_or columns i c) (found : Some field ≡ field_at fields i) where
  so_far : before front (all_or_first (placed number (i + 1) (value_of c field) ∷ cells number (i + 1 + 1) (drop (i + 1) columns) (drop (i + 1) fields))) ≡ all
  so_far = ap (λ l. before front (all_or_first l)) (sym (cells_step columns fields i c there is number field found)) ∙ inv

  pub value_found : (v : Value) → placed number (i + 1) (value_of c field) ≡ Ok v → before (front ++ v ∷ []) (all_or_first (cells number (i + 1 + 1) (drop (i + 1) columns) (drop (i + 1) fields))) ≡ all
  value_found v e = sym (value_more front _ v _ e) ∙ so_far

  pub fault_found : {B : Type 0} (f : Value → Value) (g : B → List Value) (e : LoadErr) → Loads f (Err e) (placed number (i + 1) (value_of c field)) → Loads g (Err e) all
  fault_found f g e h = passed f g e _ _ h (λ is. sym so_far ∙ fault_here front _ e _ is)

module _ (number : ℕ) (columns : List Column) (old new : List Record) (fields : Record) (front : List (List Value)) (all : Result (List (List Value)) LoadErr)
    (inv : before front (all_or_first (rows_from number columns old)) ≡ all) (pops : old ≡ fields ∷ new) where
  rows_so_far : before front (all_or_first (row_of columns number fields ∷ rows_from (number + 1) columns new)) ≡ all
  rows_so_far = ap (λ l. before front (all_or_first (rows_from number columns l))) (sym pops) ∙ inv

  pub row_found : (row : List Value) → row_of columns number fields ≡ Ok row → before (front ++ row ∷ []) (all_or_first (rows_from (number + 1) columns new)) ≡ all
  row_found row e = sym (value_more front _ row _ e) ∙ rows_so_far

pub rows_found : (number : ℕ) (columns : List Column) (old : List Record) (front : List (List Value)) (all : Result (List (List Value)) LoadErr)
    → before front (all_or_first (rows_from number columns old)) ≡ all → old ≡ [] → all ≡ Ok front
rows_found number columns old front all inv none = sym inv ∙ rw none (ap Ok (append-nil front))

pub all_found : (number i : ℕ) (columns : List Column) (fields : Record) (front : List Value) (all : Result (List Value) LoadErr)
    → before front (all_or_first (cells number (i + 1) (drop i columns) (drop i fields))) ≡ all → length columns ≤ i → all ≡ Ok front
all_found number i columns fields front all inv past = sym inv ∙ rw (drop_of_length-le columns past) (ap Ok (append-nil front))

pub names_longer : (columns : List Column) (fields : Record) (i : ℕ) (all : Option ℕ) → first_difference (i + 1) (drop i columns) (drop i fields) ≡ all → length columns ≤ i → i ≤ length columns → length columns < length fields → Some (length columns + 1) ≡ all
names_longer columns fields i all inv past within more =
    let same : length columns ≡ i = omega arith in
    ap (λ n. Some (n + 1)) same ∙ sym (names_end columns fields i past (omega arith)) ∙ inv
