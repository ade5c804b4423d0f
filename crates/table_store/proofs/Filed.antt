-- Where the heap file of a table stands in the files of tables.
use Rattle.std.proofs.Common.{◌≡◌, ℕ, zero, suc, ◌+◌, ◌*◌, ◌<◌, ◌≤◌, Option, Some, None, List, [], ◌∷◌, ◌++◌, length, take, refl, sym, ap, ◌∙◌, arith, inl, inr}
use Rattle.std.specs.Prelude.{slice_get, ◌⊎◌}
use Rattle.std.specs.List.{All}
use Rattle.std.proofs.lemmas.Bool.{cases_lt}
use Rattle.std.proofs.lemmas.List.{length-append, take_all}
use Rattle.heap_page.specs.declared.map.PageFile.{PageFile}
use Rattle.heap_page.specs.Blocks.{ArePages}
use Rattle.heap_page.specs.Maps.{HasPages}
use Rattle.key_index.specs.Files.{index_pages}
use Rattle.table_store.specs.declared.files.StoredIndex.{StoredIndex}
use Rattle.table_store.specs.declared.files.StoredTable.{StoredTable}
use Rattle.table_store.specs.Files.{IsStorable, heap_file, index_file, index_files, files_of_table, files_of, file_number}
use Rattle.table_store.proofs.Cut.{only_pages}
use Rattle.table_store.proofs.IndexPages.{same_count}

pub all_at : {X : Type 0} (P : X → Type 0) (xs : List X) (i : ℕ) (x : X) → All P xs → slice_get xs i ≡ Some x → P x
all_at P [] i x h e = absurd cc
all_at P (y ∷ xs) zero x h e = let k : x ≡ y = cc in rw k (h 0 y (omega arith))
all_at P (y ∷ xs) (suc i) x h e = all_at P xs i x (λ k d lt. h (suc k) d (omega arith)) e

get_behind : {X : Type 0} (xs ys zs : List X) → slice_get (xs ++ ys) (length (xs ++ zs)) ≡ slice_get ys (length zs)
get_behind [] ys zs = refl
get_behind (x ∷ xs) ys zs = get_behind xs ys zs

pub file_there : (tables : List StoredTable) (number : ℕ) (table : StoredTable) → slice_get tables number ≡ Some table → slice_get (files_of tables) (file_number tables number) ≡ Some (heap_file table)
file_there [] number table e = absurd cc
file_there (t ∷ ts) zero table e = let h : t ≡ table = cc in ap (λ (u : StoredTable). Some (heap_file u)) h
file_there (t ∷ ts) (suc number) table e = get_behind (files_of_table t) (files_of ts) (files_of (take number ts)) ∙ file_there ts number table e

-- as many pages as its items need
pub pages_there : (tables : List StoredTable) (files : List PageFile) (number file : ℕ) (table : StoredTable) (blocks : List (List (List ℕ))) →
    files ≡ files_of tables → file ≡ file_number tables number → All IsStorable tables → slice_get tables number ≡ Some table → ArePages table.items blocks → HasPages files file (length blocks)
pages_there tables files number file table blocks f n each at cut =
    (heap_file table, rw (f, n) (file_there tables number table at), sym (ap length (only_pages table.items blocks (all_at IsStorable tables number table each at).fit cut)))

get_next : {X : Type 0} (xs ys zs : List X) → slice_get (xs ++ ys) (suc (length (xs ++ zs))) ≡ slice_get ys (suc (length zs))
get_next [] ys zs = refl
get_next (x ∷ xs) ys zs = get_next xs ys zs

pub index_there : (tables : List StoredTable) (number : ℕ) (table : StoredTable) (index : StoredIndex) → slice_get tables number ≡ Some table → table.index ≡ Some index →
    slice_get (files_of tables) (suc (file_number tables number)) ≡ Some (index_file index)
index_there [] number table index e has = absurd cc
index_there (t ∷ ts) zero table index e has =
    let h : t ≡ table = cc in
    let k : t.index ≡ Some index = ap (λ (u : StoredTable). u.index) h ∙ has in
    ap (λ (o : Option StoredIndex). slice_get (index_files o ++ files_of ts) 0) k
index_there (t ∷ ts) (suc number) table index e has = get_next (files_of_table t) (files_of ts) (files_of (take number ts)) ∙ index_there ts number table index e has

-- as many pages as its entries need
pub index_pages_there : (tables : List StoredTable) (files : List PageFile) (number file : ℕ) (table : StoredTable) (index : StoredIndex) →
    files ≡ files_of tables → file ≡ file_number tables number + 1 → slice_get tables number ≡ Some table → table.index ≡ Some index → HasPages files file (length (index_pages file index.entries))
index_pages_there tables files number file table index f n at has =
    let next : file ≡ suc (file_number tables number) = n ∙ omega arith in
    (index_file index, rw (f, next) (index_there tables number table index at has), same_count 0 file index.entries)

-- a file is one of the tables' files
pub file_below : (tables : List StoredTable) (files : List PageFile) (file : ℕ) (f : PageFile) → files ≡ files_of tables → slice_get files file ≡ Some f → file < length (files_of tables)
file_below tables files file f e at = below (files_of tables) file (ap (λ (fs : List PageFile). slice_get fs file) (sym e) ∙ at) where
  below : (fs : List PageFile) (i : ℕ) → slice_get fs i ≡ Some f → i < length fs
  below [] i k = absurd cc
  below (x ∷ fs) zero k = omega arith
  below (x ∷ fs) (suc i) k = omega (arith, below fs i k)

pub next_number : (tables : List StoredTable) (number : ℕ) (table : StoredTable) → slice_get tables number ≡ Some table →
    file_number tables (number + 1) ≡ file_number tables number + length (files_of_table table)
next_number [] number table e = absurd cc
next_number (t ∷ ts) zero table e = let h : t ≡ table = cc in rw h (length-append (files_of_table table) [] ∙ omega arith)
next_number (t ∷ ts) (suc number) table e =
    let k : suc number + 1 ≡ suc (number + 1) = omega arith in
    rw k (omega (arith, length-append (files_of_table t) (files_of (take (number + 1) ts)), length-append (files_of_table t) (files_of (take number ts)), next_number ts number table e))

pub number_grows : (tables : List StoredTable) (one two : ℕ) → one < two → two ≤ length tables → file_number tables one < file_number tables two
number_grows [] one two lt le = absurd (omega arith)
number_grows (t ∷ ts) one zero lt le = absurd (omega arith)
number_grows (t ∷ ts) zero (suc two) lt le = omega (arith, length-append (files_of_table t) (files_of (take two ts)))
number_grows (t ∷ ts) (suc one) (suc two) lt le =
    omega (arith, length-append (files_of_table t) (files_of (take one ts)), length-append (files_of_table t) (files_of (take two ts)), number_grows ts one two (omega arith) (omega arith))

two_at_most : (table : StoredTable) → length (files_of_table table) ≤ 2
two_at_most table = by table.index where
  by : (index : Option StoredIndex) → suc (length (index_files index)) ≤ 2
  by (Some index) = omega arith
  by None = omega arith

pub number_small : (tables : List StoredTable) (number : ℕ) → file_number tables number ≤ 2 * length tables
number_small [] zero = omega arith
number_small [] (suc number) = omega arith
number_small (t ∷ ts) zero = omega arith
number_small (t ∷ ts) (suc number) = omega (arith, length-append (files_of_table t) (files_of (take number ts)), two_at_most t, number_small ts number)

pub number_within : (tables : List StoredTable) (number : ℕ) → number < length tables → file_number tables number < length (files_of tables)
number_within tables number lt =
    let all : file_number tables (length tables) ≡ length (files_of tables) = ap (λ (ts : List StoredTable). length (files_of ts)) (take_all (length tables) tables (omega arith)) in
    omega (arith, all, number_grows tables number (length tables) lt (omega arith))

pub some_files : (table : StoredTable) → 0 < length (files_of_table table)
some_files table = omega arith

pub two_files : (table : StoredTable) (index : StoredIndex) → table.index ≡ Some index → length (files_of_table table) ≡ 2
two_files table index has = ap (λ (o : Option StoredIndex). suc (length (index_files o))) has

-- the files of an earlier table come before those of a later one
pub up_to : (tables : List StoredTable) (one two : ℕ) → one < two → two < length tables → file_number tables (one + 1) ≤ file_number tables two
up_to tables one two lt below = by (cases_lt (one + 1) two) where
  by : (one + 1 < two) ⊎ (two ≤ one + 1) → file_number tables (one + 1) ≤ file_number tables two
  by (inl less) = omega (arith, number_grows tables (one + 1) two less (omega arith))
  by (inr ge) = let e : one + 1 ≡ two = omega arith in omega (arith, ap (file_number tables) e)
