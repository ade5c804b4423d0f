-- The text of a job.
use Rattle.std.specs.Prelude.{◌≡◌, ◌+◌, ℕ, List, map, Option, Some, Result, Ok, Err, ⊤}
use Rattle.std.specs.Global.{Vec}
use Rattle.aggregate_op.specs.declared.fold.FoldPlan.{FoldPlan}
use Rattle.heap_page.specs.declared.errors.FetchErr.{FetchErr}
use Rattle.kept_answers.specs.FoldedAnswers.{IsFirstTooLarge, script_answers}
use Rattle.kept_relations.specs.declared.kept.Kept.{Kept}
use Rattle.name_check.specs.Folds.{plans_of}
use Rattle.name_check.specs.Headers.{headers_of, kept_of}
use Rattle.rows.specs.declared.plain.Machine.{Machine}
use Rattle.rows.specs.declared.value.Value.{Value}
use Rattle.rel_meaning.specs.declared.query.Table.{Table}
use Rattle.table_store.specs.declared.database.Laid.{Laid}
use Rattle.table_store.specs.declared.files.StoredTable.{StoredTable}
use Rattle.table_store.specs.Databases.{AreStored, IsLaid}
use Rattle.plan_tree.specs.declared.tree.Method.{Method}
use Rattle.plan_tree.specs.Explained.{explained}
use Rattle.plan_tree.specs.Pieces.{Piece}
use Rattle.plan_tree.specs.Views.{Planned, planned_of}
use Rattle.query_planner.specs.declared.planning.PlansAndStats.{PlansAndStats}
use Rattle.query_planner.specs.Plans.{AreBestPlans}
use Rattle.query_planner.specs.Stored.{laid_indexes}
use Rattle.fragments.specs.Folds.{folded}
use Rattle.fragments.specs.Homes.{Known, files_known}
use Rattle.fragments.specs.Scripts.{cut_plans}
use Rattle.seq_optimizer.specs.declared.stats.VarStats.{VarStats}
use Rattle.xprs_top.specs.declared.status.Status.{Status}
use Rattle.xprs_top.specs.declared.status.Status.TheVariants.{NoMemory, TooLarge}
use Rattle.xprs_top.specs.Statuses.{of_fetch}
use Rattle.xprs_top.specs.declared.goal.Goal.TheVariants.{Answers, Plans}
use Rattle.xprs_top.specs.Answers.{answers_bytes, shown}
use Rattle.xprs_top.specs.Readings.{Checked, Job, write, over}

-- what the statements of a script keep, the fold of each, and the names that head its answers
abbrev pub kept_by : Checked → List Kept
kept_by checked = kept_of checked.catalog checked.program.sentences

abbrev pub folds_by : Checked → List (Option FoldPlan)
folds_by checked = plans_of checked.catalog checked.program.sentences

abbrev pub headers_by : Checked → List (List (List ℕ))
headers_by checked = headers_of checked.catalog checked.program.sentences

-- the answer of each statement, over the tables and what earlier statements keep, and none where it
-- is too large
abbrev pub answers_over : Checked → List Table → List (Option (List (List Value)))
answers_over checked db = script_answers db (kept_by checked) (folds_by checked) checked.questions

-- no answer is too large, and the text has those of the statements that don't keep theirs
pub record IsAnswered (checked : Checked) (db : List Table) (text : List ℕ) : Type 0 where
  pub answers : List (List (List Value))
  pub are : answers_over checked db ≡ map (λ rows. Some rows) answers
  pub is : text ≡ answers_bytes (shown (kept_by checked) (headers_by checked) answers)

-- the answer of the statement of this number, counted from 1, is the first one that is too large
pub record IsLarge (checked : Checked) (db : List Table) (number : ℕ) : Type 0 where
  pub statement : ℕ
  pub first : IsFirstTooLarge (answers_over checked db) statement
  pub is : number ≡ statement + 1

-- what is known of the relations of a script, where their tables are laid so
abbrev pub known_by : Checked → Laid → Known
known_by checked laid = files_known checked.catalog laid.map (laid_indexes laid) (kept_by checked)

-- the fragments that plans are cut into, each statement's answer with its fold
abbrev pub pieces_over : Checked → Laid → List (List VarStats) → List Planned → List Piece
pieces_over checked laid stats plans = map (folded (folds_by checked)) (cut_plans (known_by checked laid) stats plans)

-- For each question the lines of its best plan under a method, by what is counted of the tables as they
-- are stored and of what is kept, and of the fragments that the plans are cut into.
pub record IsExplained (m : Method) (machine : Machine) (checked : Checked) (db : List Table) (text : List ℕ) : Type 0 where
  pub tables : List StoredTable
  pub stored : AreStored checked.catalog db tables
  pub laid : Laid
  pub are_laid : IsLaid tables machine.drives laid
  pub stats : List (List VarStats)
  pub plans : List Planned
  pub best : AreBestPlans checked.catalog tables (kept_by checked) m checked.questions stats plans
  pub is : text ≡ explained machine (pieces_over checked laid stats plans) 0 plans

-- the text that is to be written, the answers of the questions, or their plans
abbrev pub IsText : Job → List ℕ → Type 0
IsText (write bytes) text = text ≡ bytes
IsText (over Answers machine checked db) text = IsAnswered checked db text
IsText (over (Plans m) machine checked db) text = IsExplained m machine checked db text

-- the statement that is too large; no plan is
abbrev pub IsTooLarge : Job → ℕ → Type 0
IsTooLarge (write bytes) number = ⊥
IsTooLarge (over Answers machine checked db) number = IsLarge checked db number
IsTooLarge (over (Plans m) machine checked db) number = ⊥

-- the text of answers that were made, or the statement that is too large
abbrev pub Answered : Checked → List Table → Result (Vec ℕ) Status → Type 0
Answered checked db (Ok text) = IsAnswered checked db text.items
Answered checked db (Err (TooLarge number)) = IsLarge checked db number
Answered checked db (Err NoMemory) = ⊤
Answered checked db (Err other) = ⊥

-- the text of plans that were made and of their fragments, or why there is none
abbrev pub Explains : Checked → Laid → Machine → Result PlansAndStats FetchErr → Result (Vec ℕ) Status → Type 0
Explains checked laid machine (Ok made) (Ok text) =
    text.items ≡ explained machine (pieces_over checked laid made.stats (map planned_of made.plans)) 0 (map planned_of made.plans)
Explains checked laid machine (Ok made) (Err NoMemory) = ⊤
Explains checked laid machine (Ok made) (Err other) = ⊥
Explains checked laid machine (Err e) result = result ≡ Err (of_fetch e)
