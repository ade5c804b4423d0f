-- Where the files and the indexes of laid tables stand.
use Rattle.std.proofs.Common.{◌≡◌, ℕ, zero, suc, ◌+◌, ◌<◌, Bool, true, false, cond, List, [], ◌∷◌, length, take, Option, Some, None, refl, sym, ap, ◌∙◌, arith, slice_get}
use Rattle.std.specs.Prelude.{is_some}
use Rattle.std.specs.List.{filter, filter_map}
use Rattle.std.proofs.lemmas.List.{length-append}
use Rattle.rows.specs.declared.plain.KeyIndex.{KeyIndex}
use Rattle.rows.specs.declared.plain.Relation.{Relation}
use Rattle.table_store.specs.declared.files.StoredIndex.{StoredIndex}
use Rattle.table_store.specs.declared.files.StoredTable.{StoredTable}
use Rattle.table_store.specs.Files.{file_number, files_of, files_of_table, index_files}
use Rattle.fragments.specs.Homes.{heap_file, indexes_before}

abbrev has_index : Relation → Bool
has_index r = is_some r.index

more_if : (b : Bool) (r : Relation) (rs : List Relation) → has_index r ≡ b →
    length (filter has_index (r ∷ rs)) ≡ cond b 1 0 + length (filter has_index rs)
more_if true r rs e = ap (λ c. length (cond c (r ∷ filter has_index rs) (filter has_index rs))) e ∙
    omega arith
more_if false r rs e = ap (λ c. length (cond c (r ∷ filter has_index rs) (filter has_index rs))) e ∙
    omega arith

files_if : (o : Option StoredIndex) → length (index_files o) ≡ cond (is_some o) 1 0
files_if None = refl
files_if (Some index) = refl

pub same_number : (relations : List Relation) (tables : List StoredTable) →
    length tables ≡ length relations → ((i : ℕ) (r : Relation) (t : StoredTable) →
    slice_get relations i ≡ Some r → slice_get tables i ≡ Some t →
    is_some t.index ≡ is_some r.index) →
    (i : ℕ) → i < length relations → heap_file relations i ≡ file_number tables i
same_number [] tables count each i low = absurd (omega (arith, low))
same_number (r ∷ rs) [] count each i low = absurd (omega (arith, count))
same_number (r ∷ rs) (t ∷ ts) count each zero low = refl
same_number (r ∷ rs) (t ∷ ts) count each (suc i) low =
    let again = same_number rs ts (omega (arith, count))
    (λ j u v at_u at_v. each (suc j) u v at_u at_v) i (omega (arith, low)) in
    let step = more_if (is_some t.index) r (take i rs) (sym (each 0 r t refl refl)) in
    omega (
      arith,
      again,
      step,
      files_if t.index,
      length-append (files_of_table t)
          (files_of (take i ts)),
    )

pub index_place : (relations : List Relation) (os : List (Option KeyIndex)) →
    ((i : ℕ) (r : Relation) (o : Option KeyIndex) → slice_get relations i ≡ Some r →
    slice_get os i ≡ Some o → is_some o ≡ is_some r.index) →
    (i : ℕ) (r : Relation) (index : KeyIndex) → slice_get relations i ≡ Some r →
    slice_get os i ≡ Some (Some index) →
    slice_get (filter_map (λ (o : Option KeyIndex). o) os) (indexes_before relations i) ≡ Some
    index
index_place [] os each i r index at_r at_o = absurd cc
index_place (x ∷ xs) [] each i r index at_r at_o = absurd cc
index_place (x ∷ xs) (o ∷ os) each zero r index at_r at_o =
    let e : o ≡ Some index = cc in
    rw e refl
index_place (x ∷ xs) (None ∷ os) each (suc i) r index at_r at_o =
    let step = more_if false x (take i xs) (sym (each 0 x None refl refl)) in
    let place : indexes_before (x ∷ xs) (suc i) ≡ indexes_before xs i = omega (arith, step) in
    rw place (index_place xs os (λ j u v at_u at_v. each (suc j) u v at_u at_v) i r index at_r at_o)
index_place (x ∷ xs) (Some first ∷ os) each (suc i) r index at_r at_o =
    let step = more_if true x (take i xs) (sym (each 0 x (Some first) refl refl)) in
    let place : indexes_before (x ∷ xs) (suc i) ≡ suc (indexes_before xs i) = omega (arith, step) in
    rw place (index_place xs os (λ j u v at_u at_v. each (suc j) u v at_u at_v) i r index at_r at_o)
