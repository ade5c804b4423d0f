-- A list that is cut into blocks, each as long as may be. Every item has a weight, and a block has a limit.
use Rattle.std.specs.Prelude.{◌≡◌, ℕ, ◌+◌, ◌<◌, ◌≤◌, nat_le, List, [], ◌∷◌, ◌++◌, length, take, if◌then◌else◌, ⊤}
use Rattle.std.specs.List.{AllByRecursion}

abbrev pub weight_of : {X : Type 0} → (X → ℕ) → List X → ℕ
weight_of weight [] = 0
weight_of weight (x ∷ xs) = weight x + weight_of weight xs

-- the items of all blocks in turn
abbrev pub joined : {X : Type 0} → List (List X) → List X
joined [] = []
joined (b ∷ bs) = b ++ joined bs

-- the first item of each later block exceeds the limit of the block before it
abbrev pub AreFull : {X : Type 0} → (X → ℕ) → ℕ → List (List X) → Type 0
AreFull weight limit [] = ⊤
AreFull weight limit (b ∷ []) = ⊤
AreFull weight limit (b ∷ c ∷ bs) = (limit < weight_of weight (b ++ take 1 c)) × AreFull weight limit (c ∷ bs)

-- The blocks of some items: they are the items in turn, none is empty, each is within the limit, and the first item of each later one
-- doesn't fit the one before it.
pub record AreBlocks {X : Type 0} (weight : X → ℕ) (limit : ℕ) (items : List X) (blocks : List (List X)) : Type 0 where
  pub same : joined blocks ≡ items
  pub fit : AllByRecursion (λ b. (0 < length b) × (weight_of weight b ≤ limit)) blocks
  pub full : AreFull weight limit blocks

-- the blocks, where one is begun already
unfoldable pub laid : {X : Type 0} → (X → ℕ) → ℕ → List X → List X → List (List X)
laid weight limit part [] = part ∷ []
laid weight limit part (x ∷ xs) = if nat_le (weight_of weight (part ++ x ∷ [])) limit then laid weight limit (part ++ x ∷ []) xs else part ∷ laid weight limit (x ∷ []) xs

-- the blocks as a function
abbrev pub blocks_of : {X : Type 0} → (X → ℕ) → ℕ → List X → List (List X)
blocks_of weight limit [] = []
blocks_of weight limit (x ∷ xs) = laid weight limit (x ∷ []) xs

-- ---- the items of a table's pages

-- an item's bytes and its line pointer
abbrev pub item_weight : List ℕ → ℕ
item_weight item = 4 + length item

-- the pages of a table: a page has room for 8,172 bytes behind its head
abbrev pub ArePages : List (List ℕ) → List (List (List ℕ)) → Type 0
ArePages items blocks = AreBlocks item_weight 8172 items blocks

-- an item that fits an empty page
abbrev pub FitsAlone : List ℕ → Type 0
FitsAlone item = length item ≤ 8168
