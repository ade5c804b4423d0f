-- Rows that may be folded, of numbers as they are stored.
use Rattle.std.specs.Prelude.{◌≡◌, List, [], ◌∷◌, drop, ⊤}
use Rattle.std.specs.Int.{w64}
use Rattle.std.specs.Int.RustNames.{FitsSigned}
use Rattle.std.specs.List.{AllByRecursion, AllZip, flat_map}
use Rattle.rows.specs.declared.value.Value.{Value}
use Rattle.rows.specs.declared.value.Value.TheVariants.{Number}
use Rattle.rows.specs.Values.{column_of}
use Rattle.aggregate_op.specs.declared.fold.Fold.{Fold}
use Rattle.aggregate_op.specs.declared.fold.FoldOp.{FoldOp}
use Rattle.aggregate_op.specs.declared.fold.FoldOp.TheVariants.{Sum}
use Rattle.aggregate_op.specs.Partials.{IsFoldRow, partial}

-- a number has 64 bits
abbrev pub IsStored : Value → Type 0
IsStored (Number n) = FitsSigned w64 n
IsStored other = ⊤

-- the numbers that are added up have
abbrev pub AreStored : List FoldOp → List Value → Type 0
AreStored [] values = ⊤
AreStored (Sum ∷ ops) values = IsStored (column_of values 0) × AreStored ops (drop 1 values)
AreStored (other ∷ ops) values = AreStored ops (drop 1 values)

abbrev pub IsStoredRow : Fold → List Value → Type 0
IsStoredRow fold row = AreStored fold.ops (drop fold.groups row)

-- rows that may be folded
pub record AreFoldRows (fold : Fold) (rows : List (List Value)) : Type 0 where
  pub fit : AllByRecursion (IsFoldRow fold) rows
  pub stored : AllByRecursion (IsStoredRow fold) rows

-- the partial of rows that may be folded
pub record IsPartialOf (fold : Fold) (rows found : List (List Value)) : Type 0 where
  pub may : AreFoldRows fold rows
  pub is : found ≡ partial fold rows

-- the partials of lists of rows, one for each
abbrev pub ArePartialsOf : Fold → List (List (List Value)) → List (List (List Value)) → Type 0
ArePartialsOf fold lists found = AllZip (IsPartialOf fold) lists found

-- the rows of several lists, in order
abbrev pub all_rows : List (List (List Value)) → List (List Value)
all_rows lists = flat_map (λ rows. rows) lists
