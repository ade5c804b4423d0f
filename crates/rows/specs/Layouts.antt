-- Where the columns of range variables stand in a row, and what values they have.
use Rattle.std.specs.Prelude.{◌≡◌, ◌≤◌, ℕ, ◌+◌, nat_abs, ◌==◌, nat_lt, List, [], ◌∷◌, length, if◌then◌else◌, Option, Some, None, slice_get, ⊤}
use Rattle.std.specs.List.{flat_map}
use Rattle.std.specs.Option.{option_map, option_and_then}
use Rattle.rows.specs.declared.value.Value.{Value}
use Rattle.rows.specs.declared.value.Value.TheVariants as value
use Rattle.rows.specs.declared.field.ColType.TheVariants as col
use Rattle.rows.specs.Values.{column_of}
use Rattle.rows.specs.declared.plain.LayoutColumn.{LayoutColumn}
use Rattle.rows.specs.declared.plain.LayoutPart.{LayoutPart}

-- the columns of a layout, from left to right
abbrev pub all_columns : List LayoutPart → List LayoutColumn
all_columns layout = flat_map (λ part. part.columns) layout

-- the place of a variable's column in a row of the layout
abbrev pub column_place : List LayoutPart → ℕ → ℕ → Option ℕ
column_place [] var column = None
column_place (part ∷ parts) var column =
    if part.var == var then (if nat_lt column (length part.columns) then Some column else None)
    else option_map (λ place. length part.columns + place) (column_place parts var column)

-- the type of a variable's column
abbrev pub column_type : List LayoutPart → ℕ → ℕ → Option LayoutColumn
column_type layout var column = option_and_then (λ place. slice_get (all_columns layout) place) (column_place layout var column)

-- the value at a place, and null where there is none
abbrev pub value_at : List Value → Option ℕ → Value
value_at row None = value.Null
value_at row (Some place) = column_of row place

-- the value of a variable's column in a row of the layout
abbrev pub column_in : List LayoutPart → List Value → ℕ → ℕ → Value
column_in layout row var column = value_at row (column_place layout var column)

-- the layout of one variable
abbrev pub one_part : ℕ → List LayoutColumn → List LayoutPart
one_part var columns = record { var = var; columns = columns } ∷ []

-- null, or of the type and within the bound
abbrev pub HasType : Value → LayoutColumn → Type 0
HasType value.Null c = ⊤
HasType (value.Number n) c = (c.col_type ≡ col.Int4) × (nat_abs n ≤ c.bound)
HasType (value.Word w) c = c.col_type ≡ col.Text
HasType (value.Truth b) c = c.col_type ≡ col.Bool

abbrev pub FitsColumns : List LayoutColumn → List Value → Type 0
FitsColumns [] [] = ⊤
FitsColumns [] (v ∷ vs) = ⊥
FitsColumns (c ∷ cs) [] = ⊥
FitsColumns (c ∷ cs) (v ∷ vs) = HasType v c × FitsColumns cs vs

-- a row of the layout
abbrev pub IsRowIn : List LayoutPart → List Value → Type 0
IsRowIn layout row = FitsColumns (all_columns layout) row
