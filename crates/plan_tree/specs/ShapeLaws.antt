-- What the shape of a fragment's rows rests on.
use Rattle.std.specs.Prelude.{◌≡◌, ◌<◌, ℕ, Some, List, slice_get}
use Rattle.std.specs.List.{AllByRecursion}
use Rattle.rows.specs.declared.value.Value.{Value}
use Rattle.plan_tree.specs.Pieces.{Piece}
use Rattle.plan_tree.specs.Fragments.{Stored, page_items, value_at}
use Rattle.plan_tree.specs.WellFormed.{HasShape}

-- every item of every page is of bytes, whatever they are
abbrev pub HoldsBytes : Stored → Type 0
HoldsBytes stored = (file page : ℕ) → AllByRecursion (AllByRecursion (λ byte. byte < 256)) (page_items stored file page)

-- each value has the shape that its fragment's end asks for
abbrev pub HaveShapes : List Piece → List (List (List Value)) → Type 0
HaveShapes pieces values = (number : ℕ) (piece : Piece) → slice_get pieces number ≡ Some piece → HasShape piece.layout piece.end (value_at values number)
