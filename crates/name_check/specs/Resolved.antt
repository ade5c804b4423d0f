-- A query that may be asked of relations.
use Rattle.std.specs.Prelude.{◌≡◌, ◌<◌, ◌≤◌, false, List, [], ◌∷◌, length, map, IsSome, IfSome, IsTrue, All}
use Rattle.std.specs.List.{list_any}
use Rattle.rows.specs.declared.plain.Relation.{Relation}
use Rattle.rel_meaning.specs.declared.query.Table.{Table}
use Rattle.rel_meaning.specs.declared.query.Query.{Query}
use Rattle.rel_meaning.specs.Expression.{Question, question_of}
use Rattle.rel_meaning.specs.Meaning.{IsTable, IsResolved}
use Rattle.rel_meaning.specs.Typing.{type_of, is_truth}
use Rattle.name_check.specs.declared.heading.Heading.{Heading}
use Rattle.name_check.specs.Faults.{column_type}
use Rattle.postquel_tokens.specs.Forms.{Sentence}
use Rattle.name_check.specs.Sentences.{is_kept, question_in, headings_after}

-- at most six range variables over relations that are there, targets that are well typed and bounded,
-- a test that is a truth value, and keys that are targets
pub record MayAsk (headings : List Heading) (q : Question) : Type 0 where
  pub few : length q.vars ≤ 6
  pub relations : All (λ v. v.relation < length headings) q.vars
  pub targets : All (λ t. IsSome (type_of t.expr (column_type headings q.vars))) q.targets
  pub test : IfSome q.test (λ t. IsTrue (is_truth (type_of t (column_type headings q.vars))))
  pub keys : All (λ k. k.column < length q.targets) q.keys

-- each statement's query may be asked of the relations before it
abbrev pub MayAskEach : List Heading → List Sentence → Type 0
MayAskEach headings [] = Unit {0}
MayAskEach headings (s ∷ ss) = MayAsk headings (question_in headings s) × MayAskEach (headings_after headings s) ss

-- tables of the relations of a catalogue, in its order: each has its relation's columns
pub record AreTables (catalog : List Relation) (db : List Table) : Type 0 where
  pub columns : map (λ t. t.columns) db ≡ map (λ r. r.columns) catalog
  pub tables : All IsTable db

-- where no statement keeps its answer, each query may be asked of any such tables
abbrev pub Answerable : List Relation → List Sentence → List Query → Type 0
Answerable catalog sentences queries = (db : List Table) → AreTables catalog db → list_any is_kept sentences ≡ false → All (λ q. IsResolved db (question_of q)) queries
