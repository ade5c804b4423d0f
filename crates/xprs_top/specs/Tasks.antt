-- What is known of a task before it is done.
use Rattle.std.specs.Prelude.{◌≡◌, ℕ, ◌<◌, ◌≤◌, List, All, IfSome, length, map, ⊤}
use Rattle.rows.specs.declared.plain.Relation.{Relation}
use Rattle.rel_meaning.specs.declared.query.Table.{Table}
use Rattle.rel_meaning.specs.Expression.{Question, question_of}
use Rattle.kept_answers.specs.FoldedAnswers.{FoldQueries}
use Rattle.fragments.specs.Premises.{IsKept}
use Rattle.name_check.specs.FoldFit.{catalog_columns}
use Rattle.name_check.specs.Folds.{plans_of}
use Rattle.name_check.specs.Headers.{headers_of, kept_of}
use Rattle.postquel.specs.Program.{program_of}
use Rattle.table_store.specs.Databases.{MayStore}
use Rattle.query_planner.specs.Plans.{MayPlan}
use Rattle.xprs_top.specs.declared.input.Checked.{Checked as Input}
use Rattle.xprs_top.specs.declared.goal.Aim.TheVariants.{Make}
use Rattle.xprs_top.specs.declared.script.ReadScript.{ReadScript}
use Rattle.xprs_top.specs.declared.task.Task.{Task}
use Rattle.xprs_top.specs.declared.task.Task.TheVariants.{Print, Over}
use Rattle.xprs_top.specs.Requests.{HasMachine}

-- its index is on one of its columns
abbrev pub HasIndexColumn : Relation → Type 0
HasIndexColumn relation = IfSome relation.index (λ column. column < length relation.columns)

-- What was read of a script over a catalogue: its headers, its kept relations and its folds are those
-- of its statements and fit its queries. The queries, at most 16, may be planned, and their plans may be
-- cut: their keys are among their targets, and what is kept has at most 32 columns.
pub record MayServe (catalog : List Relation) (read : ReadScript) : Type 0 where
  pub headers : read.headers ≡ headers_of catalog (program_of read.script).sentences
  pub kept : read.kept ≡ kept_of catalog (program_of read.script).sentences
  pub folds : read.folds ≡ plans_of catalog (program_of read.script).sentences
  pub plan : MayPlan catalog read.kept (map question_of read.queries)
  pub fit_folds : FoldQueries (catalog_columns catalog) read.kept read.folds (map question_of read.queries)
  pub many : length read.headers ≡ length read.queries
  pub few : length read.queries ≤ 16
  pub bounds : All IsKept read.kept
  pub keys : All (λ (q : Question). All (λ key. key.column < length q.targets) q.keys) (map question_of read.queries)

-- what was read of a script serves tables of the columns of the catalogue
pub record AreOver (checked : Input) (db : List Table) : Type 0 where
  pub serve : MayServe checked.catalog checked.read
  pub columns : map (λ (t : Table). t.columns) db ≡ map (λ (r : Relation). r.columns) checked.catalog

-- the tables can be stored, and the script serves them
pub record IsAnswerable (checked : Input) (db : List Table) : Type 0 where
  pub stored : MayStore checked.catalog db
  pub serve : MayServe checked.catalog checked.read

-- how many drives are mounted for a task
abbrev pub task_drives : Task → ℕ
task_drives (Print text) = 0
task_drives (Over goal machine checked db) = machine.drives

abbrev pub IsReady : Task → Type 0
IsReady (Print text) = ⊤
IsReady (Over goal machine checked db) = HasMachine (Make goal machine) × IsAnswerable checked db

abbrev pub IsPrint : Task → Type 0
IsPrint (Print text) = ⊤
IsPrint (Over goal machine checked db) = ⊥
