-- Which of two lists, of rows in ascending order of their groups, the next merged row comes from.
use Rattle.std.specs.Prelude.{◌≡◌, ◌+◌, ◌<◌, List, [], ◌∷◌, length, reverse, Option, Some, None}
use Rattle.rows.specs.declared.value.Value.{Value}
use Rattle.aggregate_op.specs.declared.fold.Fold.{Fold}
use Rattle.aggregate_op.specs.declared.merging.Side.{Side}
use Rattle.aggregate_op.specs.declared.merging.Side.TheVariants.{Left, Right, Both, Neither}
use Rattle.aggregate_op.specs.Joined.{joined, merged}

pub record TakesLeft (fold : Fold) (left right : List (List Value)) : Type 0 where
  pub first : List Value
  pub rest : List (List Value)
  pub begins : left ≡ first ∷ rest
  pub takes : merged fold left right ≡ first ∷ merged fold rest right

pub record TakesRight (fold : Fold) (left right : List (List Value)) : Type 0 where
  pub first : List Value
  pub rest : List (List Value)
  pub begins : right ≡ first ∷ rest
  pub takes : merged fold left right ≡ first ∷ merged fold left rest

pub record TakesBoth (fold : Fold) (left right : List (List Value)) : Type 0 where
  pub first : List Value
  pub rest : List (List Value)
  pub other : List Value
  pub others : List (List Value)
  pub begins : left ≡ first ∷ rest
  pub begins_too : right ≡ other ∷ others
  pub takes : merged fold left right ≡ joined fold first other ∷ merged fold rest others

abbrev pub IsNextSide : Fold → List (List Value) → List (List Value) → Side → Type 0
IsNextSide fold left right Neither = (left ≡ []) × (right ≡ [])
IsNextSide fold left right Left = TakesLeft fold left right
IsNextSide fold left right Right = TakesRight fold left right
IsNextSide fold left right Both = TakesBoth fold left right

-- what a step makes of two lists whose first rows stand last: it gives the next merged row, or nothing where both are empty
abbrev pub IsTaken : Fold → List (List Value) → List (List Value) → List (List Value) → List (List Value) → Option (List Value) → Type 0
IsTaken fold left right left_rest right_rest None = merged fold (reverse left) (reverse right) ≡ []
IsTaken fold left right left_rest right_rest (Some row) =
    (merged fold (reverse left) (reverse right) ≡ row ∷ merged fold (reverse left_rest) (reverse right_rest))
    × (length left_rest + length right_rest < length left + length right)
