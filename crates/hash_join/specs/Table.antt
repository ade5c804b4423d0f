-- Rows by position, their keys, and the places of the rows with a key.
use Rattle.std.specs.Prelude.{◌≡◌, ℕ, ◌<◌, IsSome, Bool, not, ◌&&◌, List, [], map, filter, length, slice_index_or}
use Rattle.std.specs.List.{flat_map, list_any, range_with_len}
use Rattle.std.specs.Option.{option_to_list}
use Rattle.std.specs.Ordering.{is_eq}
use Rattle.std.specs.Cmp.Lexicographic.{slice_cmp}
use Rattle.rows.specs.declared.value.Value.{Value}
use Rattle.rows.specs.declared.plain.ColumnRef.{ColumnRef}
use Rattle.rows.specs.declared.plain.LayoutPart.{LayoutPart}
use Rattle.rows.specs.Values.{column_of, value_cmp, is_null}
use Rattle.rows.specs.Layouts.{column_place, column_in}
use Rattle.hash_join.specs.declared.table.RowPlace.{RowPlace}

-- a list of rows for each position, and the columns of the key by their places in a row
pub record Table : Type 0 where
  pub lists : List (List (List Value))
  pub columns : List ℕ

-- the places of columns in a row of the layout
abbrev pub places_of : List LayoutPart → List ColumnRef → List ℕ
places_of layout keys = flat_map (λ key. option_to_list (column_place layout key.var key.col)) keys

-- all rows, by position
abbrev pub rows_of : List (List (List Value)) → List (List Value)
rows_of lists = flat_map (λ rows. rows) lists

-- the row at a place
abbrev pub row_at : List (List (List Value)) → RowPlace → List Value
row_at lists at = slice_index_or (slice_index_or lists at.position []) at.place []

-- there is such a place
abbrev pub IsPlace : List (List (List Value)) → RowPlace → Type 0
IsPlace lists at = (at.position < length lists) × (at.place < length (slice_index_or lists at.position []))

-- a row's values in the columns of the key
abbrev pub key_of : List ℕ → List Value → List Value
key_of columns row = map (column_of row) columns

abbrev pub place_at : ℕ → ℕ → RowPlace
place_at position place = record { position = position; place = place }

-- a column of the layout
abbrev pub IsColumn : List LayoutPart → ColumnRef → Type 0
IsColumn layout key = IsSome (column_place layout key.var key.col)

-- a row's values in columns of the layout
abbrev pub row_key : List LayoutPart → List ColumnRef → List Value → List Value
row_key layout keys row = map (λ key. column_in layout row key.var key.col) keys

-- the keys of rows by their places are those by the layout
abbrev pub HasKeys : List LayoutPart → List ColumnRef → Table → Type 0
HasKeys layout keys table = (row : List Value) → key_of table.columns row ≡ row_key layout keys row

-- the places of the rows of one position, in order
abbrev pub places_in : ℕ → List (List Value) → List RowPlace
places_in position rows = map (place_at position) (range_with_len 0 (length rows))

-- the places of all rows, in order of position and then of place
abbrev pub places : List (List (List Value)) → List RowPlace
places lists = flat_map (λ position. places_in position (slice_index_or lists position [])) (range_with_len 0 (length lists))

-- whether the row at a place has the key
abbrev pub has_key : Table → List Value → RowPlace → Bool
has_key table key at = is_eq (slice_cmp value_cmp (key_of table.columns (row_at table.lists at)) key)

-- the places, in order, of the rows with a key, and none where the key holds null
abbrev pub matching : Table → List Value → List RowPlace
matching table key = filter (λ at. not (list_any is_null key) && has_key table key at) (places table.lists)
