-- The names that head the answers of a script, and the relations that its statements keep.
use Rattle.std.specs.Prelude.{ℕ, ◌+◌, true, List, [], ◌∷◌, ◌++◌, map, Option, Some, None}
use Rattle.std.specs.Option.{option_map}
use Rattle.postquel_tokens.specs.declared.form.IntoForm.{IntoForm}
use Rattle.postquel_tokens.specs.Forms.{Sentence}
use Rattle.rows.specs.declared.plain.Column.{Column}
use Rattle.rows.specs.declared.plain.Relation.{Relation}
use Rattle.kept_relations.specs.declared.kept.Kept.{Kept}
use Rattle.name_check.specs.declared.heading.HeadColumn.{HeadColumn}
use Rattle.name_check.specs.declared.heading.Heading.{Heading}
use Rattle.name_check.specs.Sentences.{head_in, heading_of, headings_after}

-- the names of a statement's targets, of which `v.all` has one for each column
abbrev pub header_in : List Heading → Sentence → List (List ℕ)
header_in headings s = map (λ c. c.name) (head_in headings s)

-- for each statement of a script
abbrev pub headers_in : List Heading → List Sentence → List (List (List ℕ))
headers_in headings [] = []
headers_in headings (s ∷ ss) = header_in headings s ∷ headers_in (headings_after headings s) ss

-- a target as a column of a kept relation
abbrev pub kept_column : HeadColumn → Column
kept_column c = record { name = c.name; col_type = c.layout.col_type; nullable = true }

-- the name after `into`
abbrev pub kept_name : Option IntoForm → Option (List ℕ)
kept_name into = option_map (λ i. i.name.text) into

-- what a statement keeps, where it has such a name; a text's bound and a truth's are 0
abbrev pub kept_as : List HeadColumn → ℕ → Option (List ℕ) → List Kept
kept_as head statement None = []
kept_as head statement (Some name) =
    record {
      name = name;
      statement = statement;
      columns = map kept_column head;
      bounds =
          map (λ c. c.layout.bound) head;
    } ∷ []

-- what the statements from this number on keep
abbrev pub kept_from : List Heading → ℕ → List Sentence → List Kept
kept_from headings statement [] = []
kept_from headings statement (s ∷ ss) =
    kept_as (head_in headings s) statement (kept_name s.kept) ++ kept_from
    (headings_after headings s) (statement + 1) ss

-- what the statements of a script keep
abbrev pub kept_in : List Heading → List Sentence → List Kept
kept_in headings script = kept_from headings 0 script

-- of a script over a catalogue
abbrev pub headers_of : List Relation → List Sentence → List (List (List ℕ))
headers_of catalog script = headers_in (map heading_of catalog) script

abbrev pub kept_of : List Relation → List Sentence → List Kept
kept_of catalog script = kept_in (map heading_of catalog) script
