-- The row that is read from bytes.
use Rattle.std.proofs.Common.{◌≡◌, ℕ, List, map, Option, Some, None, sym, subst}
use Rattle.std.specs.Prelude.{IfSome}
use Rattle.rows.specs.declared.value.Value.{Value}
use Rattle.rows.specs.declared.plain.Column.{Column}
use Rattle.rows.specs.RowBytes.{Encodes}
use Rattle.rows.specs.RowFields.{row_in}
use Rattle.rows.proofs.RowBits.{IsBytes}
use Rattle.rows.proofs.RowWhole.{decodes}
use Rattle.rows.specs.Layouts.{FitsColumns}
use Rattle.rel_meaning.specs.Meaning.{layout_column}
use Rattle.plan_tree.proofs.Shapes.{row_fits}

pub read_fits : (columns : List Column) (bytes : List ℕ) (found : Option (List Value)) → IsBytes bytes → found ≡ row_in columns bytes → IfSome found (FitsColumns (map layout_column columns))
read_fits columns bytes None small e = tt
read_fits columns bytes (Some row) small e =
    let encodes : IfSome (Some row) (λ r. Encodes columns r bytes) = subst (λ o. IfSome o (λ r. Encodes columns r bytes)) (sym e) (decodes columns bytes small).sound in
    row_fits columns row encodes.is_row
