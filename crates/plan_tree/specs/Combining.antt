-- Layouts of rows of several variables, and how two rows are combined.
use Rattle.std.specs.Prelude.{◌≡◌, ◌<◌, ℕ, ◌+◌, Bool, true, ◌==◌, nat_lt, List, [], ◌∷◌, ◌++◌, Option, Some, None, is_some, if◌then◌else◌, ⊤}
use Rattle.std.specs.List.{AllByRecursion}
use Rattle.rows.specs.declared.value.Value.{Value}
use Rattle.rows.specs.declared.plain.LayoutColumn.{LayoutColumn}
use Rattle.rows.specs.declared.plain.LayoutPart.{LayoutPart}
use Rattle.rows.specs.Layouts.{column_in}
use Rattle.plan_tree.specs.Assignments.{Assignment}

-- the variable of the part is below those of the others
abbrev pub ComesFirst : LayoutPart → List LayoutPart → Type 0
ComesFirst p ps = AllByRecursion (λ (q : LayoutPart). p.var < q.var) ps

-- each variable has one part, in ascending order
abbrev pub IsOrdered : List LayoutPart → Type 0
IsOrdered [] = ⊤
IsOrdered (p ∷ ps) = ComesFirst p ps × IsOrdered ps

-- the columns of a variable
abbrev pub part_of : List LayoutPart → ℕ → Option (List LayoutColumn)
part_of [] var = None
part_of (part ∷ parts) var = if part.var == var then Some part.columns else part_of parts var

abbrev pub has_part : List LayoutPart → ℕ → Bool
has_part layout var = is_some (part_of layout var)

-- no variable has a part in both
abbrev pub AreApart : List LayoutPart → List LayoutPart → Type 0
AreApart first second = (var : ℕ) → has_part first var ≡ true → part_of second var ≡ None

abbrev pub insert_part : LayoutPart → List LayoutPart → List LayoutPart
insert_part p [] = p ∷ []
insert_part p (q ∷ qs) = if nat_lt p.var q.var then p ∷ q ∷ qs else q ∷ insert_part p qs

-- the parts of two layouts, in ascending order of variable
abbrev pub merged : List LayoutPart → List LayoutPart → List LayoutPart
merged [] layout = layout
merged (p ∷ ps) layout = insert_part p (merged ps layout)

abbrev pub values_of : Assignment → ℕ → ℕ → List LayoutColumn → List Value
values_of e var column [] = []
values_of e var column (c ∷ cs) = e var column ∷ values_of e var (column + 1) cs

-- the row of a layout with the values of an assignment
abbrev pub row_in : List LayoutPart → Assignment → List Value
row_in [] e = []
row_in (part ∷ parts) e = values_of e part.var 0 part.columns ++ row_in parts e

-- a row of a layout, and for all other variables an assignment
abbrev pub over : List LayoutPart → List Value → Assignment → Assignment
over layout row e var column = if has_part layout var then column_in layout row var column else e var column

-- two rows as one of a layout
abbrev pub combined : List LayoutPart → List LayoutPart → List LayoutPart → List Value → List Value → List Value
combined layout first second a b = row_in layout (over first a (column_in second b))
