-- Where the rows of a relation are found: in the pages of its files, or in the value of the fragment
-- that made it.
use Rattle.std.specs.Prelude.{ℕ, ◌+◌, ◌-◌, List, [], map, length, take, filter, is_some, Option, Some, None, slice_get}
use Rattle.rows.specs.declared.plain.Column.{Column}
use Rattle.rows.specs.declared.plain.KeyIndex.{KeyIndex}
use Rattle.rows.specs.declared.plain.LayoutColumn.{LayoutColumn}
use Rattle.rows.specs.declared.plain.Relation.{Relation}
use Rattle.rel_meaning.specs.declared.query.Var.{Var}
use Rattle.rel_meaning.specs.Meaning.{layout_column}
use Rattle.heap_page.specs.declared.map.FileMap.{FileMap}
use Rattle.heap_page.specs.declared.map.PageFile.{PageFile}
use Rattle.kept_relations.specs.declared.kept.Kept.{Kept}
use Rattle.kept_answers.specs.KeptAnswers.{columns_kept}

-- a stored relation: its columns, its heap file with so many pages, and its index
pub record Store : Type 0 where
  pub columns : List Column
  pub heap_file : ℕ
  pub pages : ℕ
  pub index : Option KeyIndex

-- a relation that is stored, or that the fragment of this number makes
pub data Home : Type 0 where
  nowhere : Home
  stored : Store → Home
  made : ℕ → List LayoutColumn → Home

abbrev pub columns_in : Home → List LayoutColumn
columns_in nowhere = []
columns_in (stored store) = map layout_column store.columns
columns_in (made number columns) = columns

-- what is known of the relations: those of the catalogue, their files, their indexes in the order of
-- the index files, and what statements keep
pub record Known : Type 0 where
  pub relations : List Relation
  pub files : List PageFile
  pub indexes : List KeyIndex
  pub kept : List Kept

abbrev pub files_known : List Relation → FileMap → List KeyIndex → List Kept → Known
files_known relations files indexes kept = record {
  relations = relations;
  files = files.files.items;
  indexes = indexes;
  kept = kept;
}

-- how many relations before this one have an index
abbrev pub indexes_before : List Relation → ℕ → ℕ
indexes_before relations relation = length (filter (λ r. is_some r.index) (take relation relations))

-- a relation's heap file stands behind the heap files and the index files of those before it
abbrev pub heap_file : List Relation → ℕ → ℕ
heap_file relations relation = relation + indexes_before relations relation

-- the index of a relation that has one
abbrev pub index_if : List KeyIndex → ℕ → Option ℕ → Option KeyIndex
index_if indexes place None = None
index_if indexes place (Some column) = slice_get indexes place

abbrev pub stored_if : Known → ℕ → Relation → Option PageFile → Home
stored_if known relation here None = nowhere
stored_if known relation here (Some file) = stored (record {
  columns = here.columns;
  heap_file = heap_file known.relations relation;
  pages = file.pages;
  index = index_if known.indexes (indexes_before known.relations relation) here.index;
})

-- a relation of the catalogue
abbrev pub stored_home : Known → ℕ → Relation → Home
stored_home known relation here =
    stored_if known relation here (slice_get known.files (heap_file known.relations relation))

abbrev pub made_by : Kept → Option ℕ → Home
made_by kept None = nowhere
made_by kept (Some number) = made number (columns_kept kept)

-- a kept relation, where the last fragments of the statements so far have these numbers
abbrev pub kept_home : List ℕ → Option Kept → Home
kept_home lasts None = nowhere
kept_home lasts (Some kept) = made_by kept (slice_get lasts kept.statement)

-- kept relations are numbered behind those of the catalogue
abbrev pub home_if : Known → List ℕ → ℕ → Option Relation → Home
home_if known lasts relation (Some here) = stored_home known relation here
home_if known lasts relation None =
    kept_home lasts (slice_get known.kept (relation - length known.relations))

abbrev pub home_of : Known → List ℕ → ℕ → Home
home_of known lasts relation = home_if known lasts relation (slice_get known.relations relation)

-- the relation of a range variable
abbrev pub home_for : Known → List ℕ → Option Var → Home
home_for known lasts None = nowhere
home_for known lasts (Some var) = home_of known lasts var.relation
