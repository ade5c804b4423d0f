-- What a probe reads and gives.
use Rattle.std.specs.Prelude.{◌≡◌, ℕ, List, [], ◌∷◌, map, filter, ⊤}
use Rattle.std.specs.List.{AllByRecursion}
use Rattle.rows.specs.declared.value.Value.{Value}
use Rattle.rows.specs.declared.plain.KeyPair.{KeyPair}
use Rattle.rows.specs.declared.plain.LayoutPart.{LayoutPart}
use Rattle.rows.specs.Keys.{keys_match}
use Rattle.rows.specs.Layouts.{IsRowIn}
use Rattle.plan_tree.specs.Combining.{IsOrdered, combined, merged}
use Rattle.plan_tree.specs.Rows.{kept}
use Rattle.plan_tree.specs.Pieces.{Probing}
use Rattle.plan_tree.specs.Fragments.{added, value_at}
use Rattle.plan_tree.specs.WellFormed.{AreTests, IsPair}
use Rattle.hash_join.specs.Table.{HasKeys, Table, row_key, rows_of}

-- the key by which a row is looked up
abbrev pub probe_key : List LayoutPart → List KeyPair → List Value → List Value
probe_key layout keys row = row_key layout (map (λ key. key.probe) keys) row

-- a row with the rows that have its keys, where the tests are true
abbrev pub joined : List LayoutPart → Probing → List (List Value) → List Value → List (List Value)
joined before p built row =
    kept p.layout p.tests (map (λ b. combined p.layout (added before p.layout) before b row) (filter (λ b. keys_match (added before p.layout) before p.keys b row) built))

-- a table whose rows are of the columns that the probe adds, found by the build sides of its keys
pub record FitsProbe (before : List LayoutPart) (p : Probing) (table : Table) : Type 0 where
  pub keys : HasKeys (added before p.layout) (map (λ key. key.build) p.keys) table
  pub rows : AllByRecursion (IsRowIn (added before p.layout)) (rows_of table.lists)

-- a probe that leads on from rows of a layout, and such a table for it
pub record CanProbe (before : List LayoutPart) (p : Probing) (table : Table) : Type 0 where
  pub layouts : p.layout ≡ merged (added before p.layout) before
  pub ordered : IsOrdered p.layout
  pub tests : AreTests p.layout p.tests
  pub pairs : AllByRecursion (IsPair (added before p.layout) before) p.keys
  pub fits : FitsProbe before p table

-- the same of each probe in turn
abbrev pub CanProbeAll : List LayoutPart → List Probing → List Table → Type 0
CanProbeAll before [] tables = ⊤
CanProbeAll before (p ∷ ps) [] = ⊥
CanProbeAll before (p ∷ ps) (t ∷ ts) = CanProbe before p t × CanProbeAll p.layout ps ts

-- a table that fits each probe, in order
abbrev pub FitProbes : List LayoutPart → List Probing → List Table → Type 0
FitProbes before [] tables = tables ≡ []
FitProbes before (p ∷ ps) [] = ⊥
FitProbes before (p ∷ ps) (t ∷ ts) = FitsProbe before p t × FitProbes p.layout ps ts

-- the tables have the rows of the probes' inputs
abbrev pub AreValues : List (List (List Value)) → List Probing → List Table → Type 0
AreValues values [] tables = ⊤
AreValues values (p ∷ ps) [] = ⊥
AreValues values (p ∷ ps) (t ∷ ts) = (value_at values p.input ≡ rows_of t.lists) × AreValues values ps ts

-- the layout of the rows after all probes
abbrev pub last_layout : List LayoutPart → List Probing → List LayoutPart
last_layout before [] = before
last_layout before (p ∷ ps) = last_layout p.layout ps
