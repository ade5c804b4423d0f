-- What a push does.
use Rattle.std.specs.Prelude.{◌≡◌, ◌+◌, ◌<◌, ℕ, List, [], ◌∷◌, ◌++◌, length}
use Rattle.heap_page.specs.declared.page.Push.{Push}
use Rattle.heap_page.specs.declared.page.Push.TheVariants.{Pushed, NoRoom}
use Rattle.heap_page.specs.Pages.{free_bytes, page_of, items_of, file_of, number_of}

-- an item and its line pointer exceed the free bytes
abbrev pub Exceeds : List (List ℕ) → List ℕ → Type 0
Exceeds items item = free_bytes items < length item + 4

-- the page has the item behind the others, or it is as it was
abbrev pub Pushes : Push → List ℕ → List ℕ → List ℕ → Type 0
Pushes Pushed old item new = (Exceeds (items_of old) item → ⊥) × (new ≡ page_of (file_of old) (number_of old) (items_of old ++ item ∷ []))
Pushes NoRoom old item new = Exceeds (items_of old) item × (new ≡ old)
