-- The items of a level as the code keeps them: each names the entry that has its key.
use Rattle.std.specs.Prelude.{◌≡◌, ℕ, zero, suc, ◌+◌, ◌<◌, ◌≤◌, List, [], ◌∷◌, length, map, drop, All}
use Rattle.heap_page.specs.Blocks.{blocks_of}
use Rattle.rows.specs.declared.plain.KeyEntry.{KeyEntry}
use Rattle.rows.specs.declared.value.Value.{Value}
use Rattle.rows.specs.declared.value.Value.TheVariants.{Null}
use Rattle.rows.specs.RowFields.{IsStorable}
use Rattle.key_index.specs.Bytes.{weight}
use Rattle.key_index.specs.Entries.{Item}
use Rattle.key_index.specs.Files.{index_pages, pages_of_levels}
use Rattle.key_index.specs.Levels.{levels_from, levels_of}
use Rattle.key_index.specs.declared.node.Node.{Node}
use Rattle.key_index.specs.declared.node.Level.{Level}

abbrev pub key_at : List KeyEntry → ℕ → Value
key_at [] place = Null
key_at (e ∷ es) zero = e.key
key_at (e ∷ es) (suc place) = key_at es place

abbrev pub node_item : List KeyEntry → Node → Item
node_item entries n = record { key = key_at entries n.place; page = n.page; slot = n.slot; left = n.place }

abbrev pub node_items : List KeyEntry → List Node → List Item
node_items entries nodes = map (node_item entries) nodes

-- it names an entry, and its slot has two bytes
abbrev pub IsNode : List KeyEntry → Node → Type 0
IsNode entries n = (n.place < length entries) × (n.slot < 65536)

-- each key has bytes
abbrev pub AreKeys : List KeyEntry → Type 0
AreKeys entries = All (λ e. IsStorable e.key) entries

-- a node for each entry
abbrev pub leaf_nodes : ℕ → List KeyEntry → List Node
leaf_nodes place [] = []
leaf_nodes place (e ∷ es) = record { place = place; page = e.page; slot = e.slot } ∷ leaf_nodes (suc place) es

abbrev pub place_at : List Node → ℕ → ℕ
place_at [] start = 0
place_at (n ∷ ns) zero = n.place
place_at (n ∷ ns) (suc start) = place_at ns start

-- a node for each page, where these are the places of their first nodes
abbrev pub nodes_over : ℕ → List Node → List ℕ → List Node
nodes_over base nodes [] = []
nodes_over base nodes (start ∷ starts) = record { place = place_at nodes start; page = base; slot = 0 } ∷ nodes_over (suc base) nodes starts

-- the place at which each page begins
abbrev pub starts_of : ℕ → List (List Item) → List ℕ
starts_of start [] = []
starts_of start (b ∷ pages) = start ∷ starts_of (start + length b) pages

-- the pages of a level
abbrev pub level_blocks : List KeyEntry → List Node → ℕ → List (List Item)
level_blocks entries nodes level = blocks_of (weight level) 8172 (node_items entries nodes)

-- One of the levels of the index over the entries. The levels from here on follow those below it.
pub record IsLevel (entries : List KeyEntry) (level : Level) : Type 0 where
  pub most : ℕ
  pub some : 0 < length level.nodes.items
  pub enough : length level.nodes.items ≤ most
  pub nodes : All (IsNode entries) level.nodes.items
  pub starts : level.starts.items ≡ starts_of 0 (level_blocks entries level.nodes.items level.number)
  pub height : length (levels_of entries) ≡ level.number + length (levels_from most level.number level.base (node_items entries level.nodes.items))
  pub count : (file : ℕ) → level.base + length (pages_of_levels file level.number level.base (levels_from most level.number level.base (node_items entries level.nodes.items))) ≡ length (index_pages file entries)
  pub pages : (file : ℕ) → drop level.base (index_pages file entries) ≡ pages_of_levels file level.number level.base (levels_from most level.number level.base (node_items entries level.nodes.items))
