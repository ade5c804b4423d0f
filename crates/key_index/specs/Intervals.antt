-- The interval of entry numbers that a list of bounds leaves.
use Rattle.std.specs.Prelude.{ℕ, max, min, List, [], ◌∷◌, length}
use Rattle.rows.specs.declared.plain.Bound.{Bound}
use Rattle.rows.specs.declared.plain.BoundOp.{BoundOp}
use Rattle.rows.specs.declared.plain.BoundOp.TheVariants.{Equal, Less, AtMost, More, AtLeast}
use Rattle.rows.specs.declared.plain.Interval.{Interval}
use Rattle.rows.specs.declared.plain.KeyEntry.{KeyEntry}
use Rattle.rows.specs.declared.value.Value.{Value}
use Rattle.key_index.specs.Entries.{number_below, number_upto}

-- the first entry that the comparison with a constant leaves
abbrev pub lower_end : BoundOp → Value → List KeyEntry → ℕ
lower_end Equal c entries = number_below c entries
lower_end AtLeast c entries = number_below c entries
lower_end More c entries = number_upto c entries
lower_end Less c entries = 0
lower_end AtMost c entries = 0

-- the first entry behind those that it leaves
abbrev pub upper_end : BoundOp → Value → List KeyEntry → ℕ
upper_end Equal c entries = number_upto c entries
upper_end AtMost c entries = number_upto c entries
upper_end Less c entries = number_below c entries
upper_end More c entries = length entries
upper_end AtLeast c entries = length entries

-- the greatest lower end, at least 0
abbrev pub lower_of : List Bound → List KeyEntry → ℕ
lower_of [] entries = 0
lower_of (b ∷ bs) entries = max (lower_end b.op b.value entries) (lower_of bs entries)

-- the least upper end, at most the number of entries
abbrev pub upper_of : List Bound → List KeyEntry → ℕ
upper_of [] entries = length entries
upper_of (b ∷ bs) entries = min (upper_end b.op b.value entries) (upper_of bs entries)

-- From the greatest lower end up to the least upper end. Where that one is smaller, both ends are the lower one.
abbrev pub interval_of : List Bound → List KeyEntry → Interval
interval_of bounds entries = record { from = lower_of bounds entries; upto = max (lower_of bounds entries) (upper_of bounds entries) }
