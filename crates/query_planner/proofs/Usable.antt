-- An index that has entries has a page and a level.
use Rattle.std.proofs.Common.{◌≡◌, ℕ, suc, ◌<◌, Bool, true, false, cond, leb, List, [], ◌∷◌, ◌++◌, length, refl, ap, arith}
use Rattle.heap_page.specs.Blocks.{laid, weight_of}
use Rattle.key_index.specs.Entries.{Item, items_from}
use Rattle.key_index.specs.Bytes.{weight}
use Rattle.key_index.specs.Files.{index_of, index_pages, level_pages}
use Rattle.key_index.specs.Levels.{levels_from, levels_of}
use Rattle.key_index.specs.Searches.{IsUsable}
use Rattle.rows.specs.declared.plain.KeyEntry.{KeyEntry}
use Rattle.table_store.specs.declared.files.StoredIndex.{StoredIndex}

some_laid : {X : Type 0} (w : X → ℕ) (limit : ℕ) (part xs : List X) → 0 < length (laid w limit part xs)
unfolding laid
some_laid w limit part [] = omega arith
some_laid w limit part (x ∷ xs) = by (leb (weight_of w (part ++ x ∷ [])) limit) (some_laid w limit (part ++ x ∷ []) xs) where
  by : (b : Bool) → 0 < length (laid w limit (part ++ x ∷ []) xs) → 0 < length (cond b (laid w limit (part ++ x ∷ []) xs) (part ∷ laid w limit (x ∷ []) xs))
  by true h = h
  by false h = omega arith

some_level_pages : (file level number : ℕ) (b : List (List Item)) → length (level_pages file level number b) ≡ length b
some_level_pages file level number [] = refl
some_level_pages file level number (p ∷ ps) = ap suc (some_level_pages file level (suc number) ps)

some_level : (entries : List KeyEntry) → 0 < length entries → 0 < length (levels_of entries)
unfolding levels_from
some_level [] some = absurd (omega arith)
some_level (e ∷ es) some = omega arith

longer : {X : Type 0} (xs ys : List X) → 0 < length xs → 0 < length (xs ++ ys)
longer [] ys some = absurd (omega arith)
longer (x ∷ xs) ys some = omega arith

some_page : (file : ℕ) (entries : List KeyEntry) → 0 < length entries → 0 < length (index_pages file entries)
unfolding levels_from
some_page file [] some = absurd (omega arith)
some_page file (e ∷ es) some =
    let first : Item = record { key = e.key; page = e.page; slot = e.slot; left = 0 } in
    let b = laid (weight 0) 8172 (first ∷ []) (items_from 1 es) in
    longer (level_pages file 0 0 b) _ (omega (arith, some_level_pages file 0 0 b, some_laid (weight 0) 8172 (first ∷ []) (items_from 1 es)))

pub usable : (file : ℕ) (stored : StoredIndex) (heap_pages : ℕ) → IsUsable (index_of file stored.key_type heap_pages stored.entries)
usable file stored heap_pages = λ some. (some_page file stored.entries some, some_level stored.entries some)
