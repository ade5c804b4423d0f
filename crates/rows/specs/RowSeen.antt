-- What is seen of a row where its bytes lie, as plain values and lists.
use Rattle.std.specs.Prelude.{ℕ, List}
use Rattle.rows.specs.declared.value.Value.{Value}
use Rattle.rows.specs.declared.value.Value.TheVariants as value
use Rattle.std.specs.Borrow.{Bor}
use Rattle.rows.specs.RowFields.{Front}
use Rattle.rows.specs.declared.row_view.ValueView.{ValueView}
use Rattle.rows.specs.declared.row_view.ValueView.TheVariants.{Null, Number, Word, Truth}

abbrev pub seen : ValueView → Value
seen Null = value.Null
seen (Number n) = value.Number n
seen (Word w) = value.Word w.now
seen (Truth b) = value.Truth b

abbrev pub seen_front : ValueView × Bor (List ℕ) → Front
seen_front p = (seen p.0, p.1.now)

abbrev pub seen_rest : ℕ × Bor (List ℕ) → ℕ × List ℕ
seen_rest p = (p.0, p.1.now)
