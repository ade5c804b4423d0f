-- The definitions of an index's entries at five rows on two pages.
use Rattle.std.proofs.Common.{◌≡◌, ℕ, List, [], ◌∷◌, refl, pos}
use Rattle.rows.specs.declared.plain.KeyEntry.{KeyEntry}
use Rattle.rows.specs.declared.value.Value.{Value}
use Rattle.rows.specs.declared.value.Value.TheVariants.{Null, Number}
use Rattle.table_store.specs.Entries.{Place, placed, places_of}

abbrev item : List ℕ
item = 0 ∷ []

abbrev pages : List (List (List ℕ))
pages = (item ∷ item ∷ item ∷ []) ∷ (item ∷ item ∷ []) ∷ []

abbrev at : ℕ → ℕ → Place
at page slot = record { page = page; slot = slot }

places : places_of pages ≡ at 0 0 ∷ at 0 1 ∷ at 0 2 ∷ at 1 0 ∷ at 1 1 ∷ []
places = refl

-- the key is the second column
abbrev rows : List (List Value)
rows = (Null ∷ Number (pos 7) ∷ []) ∷ (Number (pos 1) ∷ Null ∷ []) ∷ (Null ∷ Number (pos 5) ∷ []) ∷ (Null ∷ Number (pos 7) ∷ []) ∷ (Null ∷ Null ∷ []) ∷ []

abbrev entry : ℕ → ℕ → ℕ → KeyEntry
entry key page slot = record { key = Number (pos key); page = page; slot = slot }

entries : placed 1 rows pages ≡ entry 7 0 0 ∷ entry 5 0 2 ∷ entry 7 1 0 ∷ []
entries = refl
