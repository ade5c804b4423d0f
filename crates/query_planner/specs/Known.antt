-- What is known of the tables and of a script, without where it lies in memory.
use Rattle.std.specs.Prelude.{ℕ, List, map, Option}
use Rattle.rel_meaning.specs.Expression.{Question, question_of}
use Rattle.table_store.specs.declared.files.StoredTable.{StoredTable}
use Rattle.query_planner.specs.declared.known.Known.{Known}
use Rattle.query_planner.specs.Stored.{AreOf, Stands}
use Rattle.query_planner.specs.Told.{AreTold}

-- the queries of the script
abbrev pub questions_in : Known → List Question
questions_in known = map question_of known.queries.now

-- these are the tables
abbrev pub AreKnown : Known → List StoredTable → Type 0
AreKnown known tables = AreOf known.relations.now known.rows.now known.laid.now known.laid.now.map.drives tables

-- there are such tables
abbrev pub IsKnown : Known → Type 0
IsKnown known = Stands known.relations.now known.rows.now known.laid.now known.laid.now.map.drives

-- these are the tables, and the source tells the pages of their indexes
abbrev pub Tells : Known → List StoredTable → Option (ℕ → ℕ → List ℕ) → Type 0
Tells known tables image = AreTold known.relations.now known.rows.now known.laid.now tables image
