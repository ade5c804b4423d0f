-- The items that the bytes of an index page hold, and what is wrong with other bytes.
use Rattle.std.specs.Prelude.{ℕ, zero, suc, ◌==◌, nat_lt, not, List, [], ◌∷◌, ◌++◌, length, drop, if◌then◌else◌, Option, Some, None}
use Rattle.std.specs.Option.{option_and_then}
use Rattle.std.specs.List.{list_all}
use Rattle.heap_page.specs.Fields.{short_at, long_at}
use Rattle.rows.specs.declared.field.ColType.{ColType}
use Rattle.rows.specs.declared.value.Value.{Value}
use Rattle.rows.specs.RowFields.{typed_front}
use Rattle.key_index.specs.Entries.{Item}

-- what follows a key, and the bytes behind it
abbrev pub tail_front : ℕ → ℕ → Value → List ℕ → Option (Item × List ℕ)
tail_front zero number key bytes =
    if nat_lt (length bytes) 6 then None else Some (record { key = key; page = long_at bytes 0; slot = short_at bytes 4; left = number }, drop 6 bytes)
tail_front (suc level) number key bytes =
    if nat_lt (length bytes) 8 then None else Some (record { key = key; page = long_at bytes 0; slot = 0; left = long_at bytes 4 }, drop 8 bytes)

-- the first item of some bytes, where this number of entries stand left of it, and the bytes behind it
abbrev pub item_front : ColType → ℕ → ℕ → List ℕ → Option (Item × List ℕ)
item_front t level number bytes = option_and_then (λ front. tail_front level number front.0 front.1) (typed_front t bytes)

abbrev pub prepend : List Item → Option (List Item × List ℕ) → Option (List Item × List ℕ)
prepend done None = None
prepend done (Some r) = Some (done ++ r.0, r.1)

-- n items, where this number of entries stand left of the first one, and the bytes behind them
abbrev pub items_in : ColType → ℕ → ℕ → ℕ → List ℕ → Option (List Item × List ℕ)
items_in t level number zero bytes = Some ([], bytes)
items_in t level number (suc n) bytes = option_and_then (λ front. prepend (front.0 ∷ []) (items_in t level (suc number) n front.1)) (item_front t level number bytes)

-- the items of a page
abbrev pub page_items : ColType → ℕ → ℕ → List ℕ → Option (List Item × List ℕ)
page_items t level number bytes = items_in t level number (short_at bytes 6) (drop 20 bytes)

-- rule 7, that the items are there in whole with keys of the type, and rule 8, that the rest is zero
abbrev pub rest_fault : Option (List Item × List ℕ) → Option ℕ
rest_fault None = Some 7
rest_fault (Some r) = if list_all (λ b. b == 0) r.1 then None else Some 8

-- The first broken rule behind the head: 6 the level, 7 there is an item and all are there in whole, each key of the type, 8 the rest is
-- zero.
unfoldable pub page_fault : ColType → ℕ → ℕ → List ℕ → Option ℕ
page_fault t level number bytes =
    if not (short_at bytes 16 == level) then Some 6
    else if short_at bytes 6 == 0 then Some 7
    else rest_fault (page_items t level number bytes)
