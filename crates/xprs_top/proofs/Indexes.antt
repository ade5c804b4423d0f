-- The index of a relation that was read is on one of its columns.
use Rattle.std.proofs.Common.{◌≡◌, ◌<◌, ℕ, List, [], ◌∷◌, length, map, Option, Some, None, Ok, refl, sym, subst}
use Rattle.std.specs.Prelude.{IfSome}
use Rattle.std.specs.List.{All, AllByRecursion, position}
use Rattle.std.specs.Str.{bytes_eq}
use Rattle.std.proofs.lemmas.List.{length-map}
use Rattle.std.proofs.lemmas.List.Elements.{All-from_recursion}
use Rattle.std.proofs.lemmas.List.Quantifiers.{position-Some}
use Rattle.postquel_tokens.specs.declared.form.Ident.{Ident}
use Rattle.rows.specs.declared.plain.Relation.{Relation}
use Rattle.catalog_load.specs.declared.form.ColumnForm.{ColumnForm}
use Rattle.catalog_load.specs.declared.form.RelationForm.{RelationForm}
use Rattle.catalog_load.specs.Catalogs.{column_of, index_of, relation_of}
use Rattle.catalog_load.specs.Readings.{IsReading}
use Rattle.xprs_top.specs.Tasks.{HasIndexColumn}

within : (columns : List ColumnForm) (name : Ident) → IfSome (position (λ c. bytes_eq c.name.text name.text) columns) (λ place. place < length columns)
within [] name = tt
within (first ∷ rest) name = by (position (λ c. bytes_eq c.name.text name.text) (first ∷ rest)) refl where
  by : (found : Option ℕ) → position (λ c. bytes_eq c.name.text name.text) (first ∷ rest) ≡ found → IfSome found (λ place. place < length (first ∷ rest))
  by None e = tt
  by (Some place) e = (position-Some (λ c. bytes_eq c.name.text name.text) (first ∷ rest) place first e).0

on_column : (columns : List ColumnForm) (index : Option Ident) → IfSome (index_of columns index) (λ place. place < length (map column_of columns))
on_column columns None = tt
on_column columns (Some name) = subst (λ (n : ℕ). IfSome (index_of columns (Some name)) (λ place. place < n)) (sym (length-map columns column_of)) (within columns name)

each : (entries : List RelationForm) → AllByRecursion HasIndexColumn (map relation_of entries)
each [] = tt
each (entry ∷ entries) = (on_column entry.columns entry.index, each entries)

pub indexed : (text : List ℕ) (catalog : List Relation) → IsReading text (Ok catalog) → All HasIndexColumn catalog
indexed text catalog (entries, writes, none, is) = subst (All HasIndexColumn) (sym is) (All-from_recursion HasIndexColumn (map relation_of entries) (each entries))
