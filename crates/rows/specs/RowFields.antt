-- A row read from its bytes, value by value, as the code does.
use Rattle.std.specs.Prelude.{◌≡◌, ℕ, FitsSigned, ◌≤◌, ⊤, ◌+◌, ◌*◌, ◌/◌, ◌%◌, ◌&&◌, ◌||◌, ◌==◌, nat_lt, nat_le, Bool, true, false, List, [], ◌∷◌, length, take, drop, if◌then◌else◌, Option, Some, None}
use Rattle.std.specs.Option.{option_map, option_and_then}
use Rattle.std.specs.Int.{w16, w32, from_be_bytes, cast_signed}
use Rattle.std.specs.Str.{is_utf8}
use Rattle.rows.specs.declared.value.Value.{Value}
use Rattle.rows.specs.declared.value.Value.TheVariants.{Null, Number, Word, Truth}
use Rattle.rows.specs.declared.plain.Column.{Column}
use Rattle.rows.specs.declared.field.ColType.{ColType}
use Rattle.rows.specs.declared.field.ColType.TheVariants as col
use Rattle.rows.specs.RowBytes.{bit_bytes}

-- a value that has bytes
abbrev pub IsStorable : Value → Type 0
IsStorable Null = ⊤
IsStorable (Number n) = FitsSigned w32 n
IsStorable (Word w) = length w ≤ 2000
IsStorable (Truth b) = ⊤

-- the second list begins with the first
abbrev pub IsFront : List ℕ → List ℕ → Type 0
IsFront front bytes = take (length front) bytes ≡ front

-- the number that bytes write, the lowest first
abbrev pub low_number : List ℕ → ℕ
low_number [] = 0
low_number (b ∷ bs) = b + 256 * low_number bs

-- a value and the bytes behind it
abbrev pub Front : Type 0
Front = Value × List ℕ

abbrev pub integer_front : List ℕ → Option Front
integer_front bytes = if nat_lt (length bytes) 4 then None else Some (Number (cast_signed w32 (from_be_bytes w32 (take 4 bytes))), drop 4 bytes)

abbrev pub text_of_size : ℕ → List ℕ → Option Front
text_of_size size rest = if nat_lt 2000 size || nat_lt (length rest) size then None else if is_utf8 (take size rest) then Some (Word (take size rest), drop size rest) else None

abbrev pub text_front : List ℕ → Option Front
text_front bytes = if nat_lt (length bytes) 2 then None else text_of_size (from_be_bytes w16 (take 2 bytes)) (drop 2 bytes)

abbrev pub truth_front : List ℕ → Option Front
truth_front [] = None
truth_front (b ∷ rest) = if b == 0 then Some (Truth false, rest) else if b == 1 then Some (Truth true, rest) else None

abbrev pub typed_front : ColType → List ℕ → Option Front
typed_front col.Int4 bytes = integer_front bytes
typed_front col.Text bytes = text_front bytes
typed_front col.Bool bytes = truth_front bytes

-- the bits behind those of a column
abbrev pub bits_behind : Column → ℕ → ℕ
bits_behind c bits = if c.nullable then bits / 2 else bits

-- the value of the first column, and the bytes behind it
abbrev pub value_front : Column → ℕ → List ℕ → Option Front
value_front c bits bytes = if c.nullable && (bits % 2 == 1) then Some (Null, bytes) else typed_front c.col_type bytes

-- the bits and the bytes behind the columns
abbrev pub behind : List Column → ℕ → List ℕ → Option (ℕ × List ℕ)
behind [] bits bytes = Some (bits, bytes)
behind (c ∷ cs) bits bytes = option_and_then (λ front. behind cs (bits_behind c bits) front.1) (value_front c bits bytes)

-- whether there is nothing left over
abbrev pub ends : Option (ℕ × List ℕ) → Bool
ends None = false
ends (Some left) = left.0 == 0 && length left.1 == 0

-- the values of the columns, where no bit and no byte is left over
abbrev pub values_in : List Column → ℕ → List ℕ → Option (List Value)
values_in [] bits bytes = if bits == 0 && length bytes == 0 then Some [] else None
values_in (c ∷ cs) bits bytes = option_and_then (λ front. option_map (λ vs. front.0 ∷ vs) (values_in cs (bits_behind c bits) front.1)) (value_front c bits bytes)

-- the row that bytes encode
abbrev pub row_in : List Column → List ℕ → Option (List Value)
row_in columns bytes =
    if nat_le (length columns) 32 && nat_le (bit_bytes columns) (length bytes)
    then values_in columns (low_number (take (bit_bytes columns) bytes)) (drop (bit_bytes columns) bytes)
    else None

abbrev pub row_or_none : Option (List Value) → List Value
row_or_none None = []
row_or_none (Some row) = row
