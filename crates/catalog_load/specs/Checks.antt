-- The relations of a catalogue's entries, or the first fault of these.
use Rattle.std.specs.Prelude.{◌≡◌, List, map, Option, Some, None, Result, Ok, Err}
use Rattle.postquel_tokens.specs.declared.fault.TextErr.{TextErr}
use Rattle.postquel_tokens.specs.declared.fault.TextErr.TheVariants as text_err
use Rattle.rows.specs.declared.plain.Relation.{Relation}
use Rattle.catalog_load.specs.declared.form.RelationForm.{RelationForm}
use Rattle.catalog_load.specs.declared.form.Flaw.{Flaw}
use Rattle.catalog_load.specs.Catalogs.{catalog_checks, first_of, relation_of}

abbrev pub unless : {A : Type 0} → Option Flaw → A → Result A Flaw
unless None x = Ok x
unless (Some flaw) x = Err flaw

-- the relations of the entries behind the earlier ones, unless one of them has a fault
abbrev pub catalog_from : List RelationForm → List RelationForm → Result (List Relation) Flaw
catalog_from earlier entries = unless (first_of (catalog_checks earlier entries)) (map relation_of entries)

-- what was read is that, unless memory ran out
abbrev pub Checked : {A B : Type 0} → (A → B) → Result A TextErr → Result B Flaw → Type 0
Checked view (Ok x) read = read ≡ Ok (view x)
Checked view (Err (text_err.Fault line col what)) read = read ≡ Err (record { what = what; spot = record { line = line; col = col } })
Checked view (Err text_err.NoMemory) read = Unit {0}
