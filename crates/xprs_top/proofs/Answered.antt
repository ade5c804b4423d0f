-- The answers of a script over tables that were read.
use Rattle.std.proofs.Common.{◌≡◌, ◌<◌, ◌≤◌, ◌+◌, ℕ, List, [], ◌∷◌, length, map, Option, Some, None, refl, sym, ap, ap₂, subst, ◌∙◌, arith, suc, length-append}
use Rattle.std.proofs.lemmas.List.{length-map}
use Rattle.aggregate_op.specs.declared.fold.FoldPlan.{FoldPlan}
use Rattle.kept_relations.specs.declared.kept.Kept.{Kept}
use Rattle.kept_relations.specs.Fitting.{FitKept}
use Rattle.kept_answers.specs.declared.folding.FoldedAnswers.{FoldedAnswers}
use Rattle.kept_answers.specs.declared.folding.FoldedAnswers.TheVariants as answered
use Rattle.kept_answers.specs.FoldedAnswers.{AreAnswers, FoldQueries, IsFirstTooLarge, folded_from, script_answers}
use Rattle.kept_answers.specs.KeptAnswers.{answers_from, database_columns, kept_of, tables_behind}
use Rattle.rows.specs.declared.value.Value.{Value}
use Rattle.rel_meaning.specs.declared.query.Table.{Table}
use Rattle.rel_meaning.specs.Expression.{Question, question_of}
use Rattle.rel_meaning.specs.Meaning.{meaning}
use Rattle.xprs_top.specs.declared.input.Checked.{Checked as Input}
use Rattle.xprs_top.specs.Answers.{answers_bytes, shown}
use Rattle.xprs_top.specs.Inputs.{read_of}
use Rattle.xprs_top.specs.Tasks.{AreOver}
use Rattle.xprs_top.specs.Texts.{IsAnswered, IsLarge, answers_over}
use Rattle.xprs_top.proofs.Asked.{same_columns}

-- ---- what is asked

pub kept_fit : (checked : Input) (db : List Table) → AreOver checked db → FitKept (database_columns db) checked.read.kept (map question_of checked.read.queries)
kept_fit checked db over =
    subst (λ columns. FitKept columns checked.read.kept (map question_of checked.read.queries)) (same_columns checked.catalog db over.columns) over.serve.plan.fits

pub folds_fit : (checked : Input) (db : List Table) → AreOver checked db → FoldQueries (database_columns db) checked.read.kept checked.read.folds (map question_of checked.read.queries)
folds_fit checked db over =
    subst (λ columns. FoldQueries columns checked.read.kept checked.read.folds (map question_of checked.read.queries)) (same_columns checked.catalog db over.columns) over.serve.fit_folds

-- ---- what is answered

pub as_rows : (wanted : List (Option (List (List Value)))) (a : FoldedAnswers) (answers : List (List (List Value))) → a ≡ answered.Rows answers → AreAnswers wanted a → wanted ≡ map (λ rows. Some rows) answers
as_rows wanted a answers e are = subst (AreAnswers wanted) e are

pub as_large : (wanted : List (Option (List (List Value)))) (a : FoldedAnswers) (statement : ℕ) → a ≡ answered.TooLarge statement → AreAnswers wanted a → IsFirstTooLarge wanted statement
as_large wanted a statement e are = subst (AreAnswers wanted) e are

over_read : (checked : Input) (db : List Table) → AreOver checked db →
    answers_over (read_of checked) db ≡ script_answers db checked.read.kept checked.read.folds (map question_of checked.read.queries)
over_read checked db over =
    ap₂ (λ (kept : List Kept) (folds : List (Option FoldPlan)). script_answers db kept folds (map question_of checked.read.queries)) (sym over.serve.kept) (sym over.serve.folds)

pub are_answered : (checked : Input) (db : List Table) (answers : List (List (List Value))) (text : List ℕ) → AreOver checked db →
    script_answers db checked.read.kept checked.read.folds (map question_of checked.read.queries) ≡ map (λ rows. Some rows) answers →
    text ≡ answers_bytes (shown checked.read.kept checked.read.headers answers) → IsAnswered (read_of checked) db text
are_answered checked db answers text over are is = record {
  answers = answers;
  are = over_read checked db over ∙ are;
  is = is ∙ ap₂ (λ (kept : List Kept) (headers : List (List (List ℕ))). answers_bytes (shown kept headers answers)) over.serve.kept over.serve.headers;
}

pub is_large : (checked : Input) (db : List Table) (statement : ℕ) → AreOver checked db →
    IsFirstTooLarge (script_answers db checked.read.kept checked.read.folds (map question_of checked.read.queries)) statement → IsLarge (read_of checked) db (statement + 1)
is_large checked db statement over first = record {
  statement = statement;
  first = subst (λ wanted. IsFirstTooLarge wanted statement) (sym (over_read checked db over)) first;
  is = refl;
}

-- ---- how many there are

folded_each : (folds : List (Option FoldPlan)) (n : ℕ) (answers : List (List (List Value))) → length (folded_from folds n answers) ≡ length answers
folded_each folds n [] = refl
folded_each folds n (rows ∷ answers) = ap suc (folded_each folds (n + 1) answers)

answer_each : (db : List Table) (kept : List Kept) (n : ℕ) (qs : List Question) → length (answers_from db kept n qs) ≡ length qs
answer_each db kept n [] = refl
answer_each db kept n (q ∷ qs) = ap suc (answer_each (tables_behind db (kept_of kept n) (meaning db q)) kept (n + 1) qs)

wanted_each : (checked : Input) (db : List Table) → length (script_answers db checked.read.kept checked.read.folds (map question_of checked.read.queries)) ≡ length checked.read.queries
wanted_each checked db =
    folded_each checked.read.folds 0 (answers_from db checked.read.kept 0 (map question_of checked.read.queries))
    ∙ (answer_each db checked.read.kept 0 (map question_of checked.read.queries) ∙ length-map checked.read.queries question_of)

pub answers_few : (checked : Input) (db : List Table) (answers : List (List (List Value))) → AreOver checked db →
    script_answers db checked.read.kept checked.read.folds (map question_of checked.read.queries) ≡ map (λ rows. Some rows) answers → length answers ≤ length checked.read.headers
answers_few checked db answers over are =
    let same : length answers ≡ length checked.read.queries = sym (length-map answers (λ rows. Some rows)) ∙ (ap length (sym are) ∙ wanted_each checked db) in
    let many = over.serve.many in
    omega (arith, same, many)

-- a statement that is too large is one of the first 16
pub large_few : (checked : Input) (db : List Table) (statement : ℕ) → AreOver checked db →
    IsFirstTooLarge (script_answers db checked.read.kept checked.read.folds (map question_of checked.read.queries)) statement → statement < 16
large_few checked db statement over first =
    let few = over.serve.few in
    let front : length (map (λ rows. Some rows) first.before) ≡ length first.before = length-map first.before (λ rows. Some rows) in
    let whole = ap length first.whole ∙ length-append (map (λ rows. Some rows) first.before) (None ∷ first.behind) in
    let many = wanted_each checked db in
    let place = first.place in
    omega (arith, few, front, whole, many, place)
