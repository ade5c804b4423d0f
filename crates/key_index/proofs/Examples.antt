-- The definitions at an index over the keys 5, 5, 7 and 9.
use Rattle.std.proofs.Common.{◌≡◌, List, [], ◌∷◌, refl, pos}
use Rattle.rows.specs.declared.plain.Bound.{Bound}
use Rattle.rows.specs.declared.plain.BoundOp.TheVariants.{Less, AtMost, More}
use Rattle.rows.specs.declared.plain.KeyEntry.{KeyEntry}
use Rattle.rows.specs.declared.value.Value.TheVariants.{Number}
use Rattle.key_index.specs.Entries.{number_below, number_upto}
use Rattle.key_index.specs.Intervals.{interval_of}

abbrev four : List KeyEntry
four =
    record { key = Number (pos 5); page = 0; slot = 0 }
    ∷ record { key = Number (pos 5); page = 0; slot = 2 }
    ∷ record { key = Number (pos 7); page = 1; slot = 0 }
    ∷ record { key = Number (pos 9); page = 0; slot = 1 }
    ∷ []

below : (number_below (Number (pos 5)) four ≡ 0) × (number_below (Number (pos 6)) four ≡ 2) × (number_below (Number (pos 10)) four ≡ 4)
below = (refl, refl, refl)

upto : (number_upto (Number (pos 5)) four ≡ 2) × (number_upto (Number (pos 9)) four ≡ 4)
upto = (refl, refl)

abbrev bounds : List Bound
bounds = record { op = More; value = Number (pos 5) } ∷ record { op = AtMost; value = Number (pos 7) } ∷ []

between : interval_of bounds four ≡ record { from = 2; upto = 3 }
between = refl

crossed : interval_of (record { op = More; value = Number (pos 9) } ∷ record { op = Less; value = Number (pos 5) } ∷ []) four ≡ record { from = 4; upto = 4 }
crossed = refl
