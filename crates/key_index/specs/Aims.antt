-- What a search counts.
use Rattle.std.specs.Prelude.{◌≡◌, ℕ, ◌+◌, nat_le, Bool, false, List, [], ◌∷◌, slice_index_or, slice_get, Some, None, if◌then◌else◌, ⊤}
use Rattle.std.specs.Borrow.{Bor}
use Rattle.std.specs.List.{AllByRecursion}
use Rattle.std.specs.Ordering.{is_lt, is_le}
use Rattle.lists.specs.Arranged.{one_if}
use Rattle.rows.specs.declared.field.ColType.{ColType}
use Rattle.rows.specs.declared.value.Value.{Value}
use Rattle.rows.specs.RowSeen.{seen}
use Rattle.rows.specs.Values.{value_cmp}
use Rattle.key_index.specs.Entries.{Item, blank}
use Rattle.key_index.specs.Readings.{page_fault, page_items}
use Rattle.key_index.specs.declared.aim.Aim.{Aim}
use Rattle.key_index.specs.declared.aim.Aim.TheVariants.{Below, UpTo, Number}
use Rattle.key_index.specs.declared.page_entry.Entry.{Entry}
use Rattle.key_index.specs.declared.page_entry.Step.{Step}

module _ {X : Type 0} where
  abbrev pub count : (X → Bool) → List X → ℕ
  count p [] = 0
  count p (x ∷ xs) = one_if (p x) + count p xs

  abbrev pub NonePass : (X → Bool) → List X → Type 0
  NonePass p xs = AllByRecursion (λ x. p x ≡ false) xs

  -- what passes stands in front of what doesn't
  abbrev pub IsFront : (X → Bool) → List X → Type 0
  IsFront p [] = ⊤
  IsFront p (x ∷ xs) = (p x ≡ false → NonePass p xs) × IsFront p xs

  -- the last one that passes, or this one
  abbrev pub chosen : (X → Bool) → X → List X → X
  chosen p d [] = d
  chosen p d (x ∷ xs) = chosen p (if p x then x else d) xs

-- the items up to a number
abbrev pub upto_number : ℕ → Item → Bool
upto_number n e = nat_le e.left n

-- the items with a smaller key
abbrev pub below_key : Value → Item → Bool
below_key key e = is_lt (value_cmp e.key key)

-- those with a key up to this one
abbrev pub upto_key : Value → Item → Bool
upto_key key e = is_le (value_cmp e.key key)

-- the items with a key below the one searched for, those with a key up to it, or those up to a number
abbrev pub passes : Aim → Item → Bool
passes (Below key) = below_key key.now
passes (UpTo key) = upto_key key.now
passes (Number n) = upto_number n

-- the item that is seen where its bytes lie
abbrev pub seen_item : Entry → Item
seen_item e = record { key = seen e.key; page = e.page; slot = e.slot; left = e.left }

abbrev pub seen_item_front : Entry × Bor (List ℕ) → Item × List ℕ
seen_item_front f = (seen_item f.0, f.1.now)

abbrev pub first_of : List Item → Item
first_of items = slice_index_or items 0 blank

-- The page breaks none of rules 6 to 8. The entry is one of its items. Where what passes stands in front, so many items pass, and the
-- entry is the last of them, or the first item where none passes.
pub record Scans (t : ColType) (level number : ℕ) (aim : Aim) (bytes : List ℕ) (step : Step) : Type 0 where
  pub fine : page_fault t level number bytes ≡ None
  pub items : List Item
  pub rest : List ℕ
  pub holds : page_items t level number bytes ≡ Some (items, rest)
  pub place : ℕ
  pub here : slice_get items place ≡ Some (seen_item step.entry)
  pub counts : IsFront (passes aim) items → step.count ≡ count (passes aim) items
  pub last : IsFront (passes aim) items → seen_item step.entry ≡ chosen (passes aim) (first_of items) items
