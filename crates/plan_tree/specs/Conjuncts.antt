-- The conjuncts of a test, and the variables that an expression names.
use Rattle.std.specs.Prelude.{ℕ, Bool, true, false, ◌&&◌, List, [], ◌∷◌, ◌++◌, Option, Some, None}
use Rattle.rel_meaning.specs.Expression as ex
use Rattle.rel_meaning.specs.Expression.{Expression}
use Rattle.rel_meaning.specs.Eval.{eval}
use Rattle.rel_meaning.specs.Meaning.{is_true}
use Rattle.plan_tree.specs.Assignments.{Assignment}

-- all variables that it names are among these
abbrev pub is_within : (ℕ → Bool) → Expression → Bool
is_within vars (ex.number n) = true
is_within vars (ex.word w) = true
is_within vars (ex.truth b) = true
is_within vars (ex.column var column) = vars var
is_within vars (ex.negate e) = is_within vars e
is_within vars (ex.opposite e) = is_within vars e
is_within vars (ex.arith op left right) = is_within vars left && is_within vars right
is_within vars (ex.compare op left right) = is_within vars left && is_within vars right
is_within vars (ex.both left right) = is_within vars left && is_within vars right
is_within vars (ex.either left right) = is_within vars left && is_within vars right
is_within vars (ex.is_null e negated) = is_within vars e

abbrev pub names_none : Expression → Bool
names_none e = is_within (λ v. false) e

-- the operands of the topmost chain of `and`, which groups to the left: `a and (b and c)` has two
abbrev pub operands : Expression → List Expression
operands (ex.both left right) = operands left ++ right ∷ []
operands (ex.number n) = ex.number n ∷ []
operands (ex.word w) = ex.word w ∷ []
operands (ex.truth b) = ex.truth b ∷ []
operands (ex.column var column) = ex.column var column ∷ []
operands (ex.negate e) = ex.negate e ∷ []
operands (ex.opposite e) = ex.opposite e ∷ []
operands (ex.arith op left right) = ex.arith op left right ∷ []
operands (ex.compare op left right) = ex.compare op left right ∷ []
operands (ex.either left right) = ex.either left right ∷ []
operands (ex.is_null e negated) = ex.is_null e negated ∷ []

abbrev pub conjuncts : Option Expression → List Expression
conjuncts None = []
conjuncts (Some test) = operands test

-- null is not met
abbrev pub is_met : Assignment → Expression → Bool
is_met e test = is_true (eval test e)

abbrev pub all_met : List Expression → Assignment → Bool
all_met [] e = true
all_met (test ∷ tests) e = is_met e test && all_met tests e
