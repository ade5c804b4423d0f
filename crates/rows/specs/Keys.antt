-- Whether two values, and the keys of two rows, match.
use Rattle.std.specs.Prelude.{Bool, true, not, ◌&&◌, List, [], ◌∷◌}
use Rattle.std.specs.Ordering.{is_eq}
use Rattle.rows.specs.declared.value.Value.{Value}
use Rattle.rows.specs.declared.plain.KeyPair.{KeyPair}
use Rattle.rows.specs.declared.plain.LayoutPart.{LayoutPart}
use Rattle.rows.specs.Values.{value_cmp, is_null}
use Rattle.rows.specs.Layouts.{column_in}

-- equal values of which none is null
abbrev pub values_match : Value → Value → Bool
values_match a b = not (is_null a) && not (is_null b) && is_eq (value_cmp a b)

-- whether the keys of two rows are equal and hold no null
abbrev pub keys_match : List LayoutPart → List LayoutPart → List KeyPair → List Value → List Value → Bool
keys_match first second [] a b = true
keys_match first second (key ∷ keys) a b =
    values_match (column_in first a key.build.var key.build.col)
    (column_in second b key.probe.var key.probe.col)
    && keys_match first second keys a b
