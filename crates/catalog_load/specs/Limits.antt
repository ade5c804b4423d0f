-- How large a catalogue is.
use Rattle.std.specs.Prelude.{◌<◌, ◌≤◌, List, length, All}
use Rattle.rows.specs.declared.plain.Relation.{Relation}

-- 16 relations at most, and in each of them 1 to 32 columns
pub record HasLimits (catalog : List Relation) : Type 0 where
  pub relations : length catalog ≤ 16
  pub some : All (λ r. 0 < length r.columns) catalog
  pub few : All (λ r. length r.columns ≤ 32) catalog
