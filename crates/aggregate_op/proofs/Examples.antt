-- Partials of a few rows, computed.
use Rattle.std.proofs.Common.{◌≡◌, pos, negsuc, List, [], ◌∷◌, refl}
use Rattle.std.specs.Prelude.{codes}
use Rattle.rows.specs.declared.value.Value.{Value}
use Rattle.rows.specs.declared.value.Value.TheVariants.{Null, Number, Word}
use Rattle.aggregate_op.specs.declared.fold.Fold.{Fold}
use Rattle.aggregate_op.specs.declared.fold.FoldOp.TheVariants.{Count, Min, Max, Sum}
use Rattle.aggregate_op.specs.declared.fold.FoldPlace.TheVariants.{Group, Op}
use Rattle.aggregate_op.specs.Partials.{partial}

abbrev by_department : Fold
by_department = record { groups = 1; ops = Count ∷ Sum ∷ Min ∷ []; places = Group 0 ∷ Op 0 ∷ Op 1 ∷ Op 2 ∷ [] }

abbrev row : Value → Value → Value → List Value
row department name salary = department ∷ name ∷ salary ∷ salary ∷ []

-- two departments, in ascending order; the greatest sum of a group is far below 2^62
by_department_is :
    partial by_department (row (Word (codes "toy")) (Word (codes "Ann")) (Number (pos 1200)) ∷ row (Word (codes "toy")) (Word (codes "Bob")) (Number (pos 900)) ∷ row (Word (codes "shoe")) (Word (codes "Cid")) (Number (pos 1500)) ∷ [])
    ≡ (Word (codes "shoe") ∷ Number (pos 1) ∷ Number (pos 1) ∷ Number (pos 1) ∷ Number (pos 0) ∷ Number (pos 1500) ∷ Number (pos 1500) ∷ [])
    ∷ (Word (codes "toy") ∷ Number (pos 2) ∷ Number (pos 2) ∷ Number (pos 2) ∷ Number (pos 0) ∷ Number (pos 2100) ∷ Number (pos 900) ∷ []) ∷ []
by_department_is = refl

-- null is passed over, and a sum below 0 has a part below 0 and a rest that isn't
with_nulls : partial (record { groups = 0; ops = Sum ∷ Max ∷ []; places = [] }) ((Null ∷ Number (pos 3) ∷ []) ∷ (Number (negsuc 4) ∷ Null ∷ []) ∷ [])
    ≡ (Number (pos 2) ∷ Number (pos 1) ∷ Number (negsuc 0) ∷ Number (pos 4611686018427387899) ∷ Number (pos 3) ∷ []) ∷ []
with_nulls = refl

-- no row, no group
of_nothing : partial by_department [] ≡ []
of_nothing = refl
