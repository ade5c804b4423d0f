-- The rows of queries whose targets fit a fold may be folded; and the steps of a loop over the answers of statements.
use Rattle.std.proofs.Common.{◌≡◌, ℕ, ◌+◌, suc, List, [], ◌∷◌, ◌++◌, length, Option, Some, None, refl, ap, ◌∙◌}
use Rattle.std.specs.List.{All, AllByRecursion}
use Rattle.std.specs.Prelude.{IfSome}
use Rattle.rows.specs.declared.value.Value.{Value}
use Rattle.rows.specs.declared.value.Value.TheVariants as value
use Rattle.rows.specs.declared.field.ColType.TheVariants as col
use Rattle.rows.specs.declared.plain.LayoutColumn.{LayoutColumn}
use Rattle.rows.specs.Layouts.{FitsColumns, HasType}
use Rattle.rel_meaning.specs.Expression.{Question}
use Rattle.rel_meaning.specs.declared.query.Table.{Table}
use Rattle.rel_meaning.specs.Meaning.{meaning, IsTable}
use Rattle.aggregate_op.specs.declared.fold.Fold.{Fold}
use Rattle.aggregate_op.specs.declared.fold.FoldOp.{FoldOp}
use Rattle.aggregate_op.specs.declared.fold.FoldOp.TheVariants.{Count, Min, Max, Sum}
use Rattle.aggregate_op.specs.declared.fold.FoldPlan.{FoldPlan}
use Rattle.aggregate_op.specs.Partials.{AreOpValues, IsFoldRow, IsInteger}
use Rattle.kept_relations.specs.declared.kept.Kept.{Kept}
use Rattle.kept_answers.specs.FoldedAnswers.{plan_at, AreOpColumns, FitFolds, FitFoldsFrom, FoldQueries, FoldQueriesFrom, FoldsTargets}
use Rattle.kept_answers.specs.KeptAnswers.{answers_from, answers_of, columns_behind, database_columns, kept_of, tables_behind, FitColumns, FitKept, FitQueries, FitsTargets}
use Rattle.kept_answers.proofs.Fitting.{database_fits, fit_behind, fit_tables, meaning_typed}

-- ---- rows of the types of a fold

integer_typed : (v : Value) (c : LayoutColumn) → c.col_type ≡ col.Int4 → HasType v c → IsInteger v
integer_typed value.Null c e h = tt
integer_typed (value.Number n) c e h = tt
integer_typed (value.Word w) c e h = cc
integer_typed (value.Truth b) c e h = cc

ops_typed : (ops : List FoldOp) (cs : List LayoutColumn) (vs : List Value) → AreOpColumns ops cs → FitsColumns cs vs → AreOpValues ops vs
ops_typed [] [] [] are fit = tt
ops_typed [] [] (v ∷ vs) are fit = absurd fit
ops_typed [] (c ∷ cs) vs are fit = absurd are
ops_typed (op ∷ ops) [] vs are fit = absurd (none op are) where
  none : (op : FoldOp) → AreOpColumns (op ∷ ops) [] → ⊥
  none Count h = h
  none Min h = h
  none Max h = h
  none Sum h = h
ops_typed (op ∷ ops) (c ∷ cs) [] are fit = absurd fit
ops_typed (Count ∷ ops) (c ∷ cs) (v ∷ vs) are fit = (tt, ops_typed ops cs vs are fit.1)
ops_typed (Min ∷ ops) (c ∷ cs) (v ∷ vs) are fit = (tt, ops_typed ops cs vs are fit.1)
ops_typed (Max ∷ ops) (c ∷ cs) (v ∷ vs) are fit = (tt, ops_typed ops cs vs are fit.1)
ops_typed (Sum ∷ ops) (c ∷ cs) (v ∷ vs) are fit = (integer_typed v c are.0 fit.0, ops_typed ops cs vs are.1 fit.1)

-- a row's values in the first columns, and those behind them
record IsCut (groups values : List LayoutColumn) (row : List Value) : Type 0 where
  front : List Value
  back : List Value
  whole : row ≡ front ++ back
  size : length front ≡ length groups
  fit : FitsColumns values back

cut : (groups values : List LayoutColumn) (row : List Value) → FitsColumns (groups ++ values) row → IsCut groups values row
cut [] values row fit = record { front = []; back = row; whole = refl; size = refl; fit = fit }
cut (c ∷ cs) values [] fit = absurd fit
cut (c ∷ cs) values (v ∷ vs) fit =
    let rest = cut cs values vs fit.1 in
    record { front = v ∷ rest.front; back = rest.back; whole = ap (λ l. v ∷ l) rest.whole; size = ap suc rest.size; fit = rest.fit }

fold_row : (columns : List (List LayoutColumn)) (q : Question) (fold : Fold) (t : FoldsTargets columns q fold) (row : List Value) → FitsColumns (t.groups ++ t.values) row → IsFoldRow fold row
fold_row columns q fold t row fit =
    let parts = cut t.groups t.values row fit in
    record { groups = parts.front; values = parts.back; width = parts.size ∙ t.width; whole = parts.whole; ops = ops_typed fold.ops t.values parts.back t.ops parts.fit }

all_rows_fold : (columns : List (List LayoutColumn)) (q : Question) (fold : Fold) (t : FoldsTargets columns q fold) (rows : List (List Value)) → AllByRecursion (FitsColumns (t.groups ++ t.values)) rows → AllByRecursion (IsFoldRow fold) rows
all_rows_fold columns q fold t [] all = tt
all_rows_fold columns q fold t (row ∷ rows) all = (fold_row columns q fold t row all.0, all_rows_fold columns q fold t rows all.1)

answer_folds : (columns : List (List LayoutColumn)) (db : List Table) (q : Question) (plan : Option FoldPlan) → FitColumns columns db → IfSome plan (λ p. FoldsTargets columns q p.fold) → IfSome plan (λ p. AllByRecursion (IsFoldRow p.fold) (meaning db q))
answer_folds columns db q None fit t = tt
answer_folds columns db q (Some p) fit t = all_rows_fold columns q p.fold t (meaning db q) (meaning_typed columns db q (t.groups ++ t.values) (fit_tables columns db fit) t.types)

fit_kept : (columns : List (List LayoutColumn)) (db : List Table) (q : Question) (kept : Option Kept) → FitColumns columns db → IfSome kept (FitsTargets columns q) → FitColumns (columns_behind columns kept) (tables_behind db kept (meaning db q))
fit_kept columns db q None fit fits = fit
fit_kept columns db q (Some k) fit fits = fit_behind columns db q k fit fits

answers_fold : (columns : List (List LayoutColumn)) (db : List Table) (kept : List Kept) (folds : List (Option FoldPlan)) (statement : ℕ) (qs : List Question) → FitColumns columns db → FitQueries columns kept statement qs → FoldQueriesFrom columns kept folds statement qs
    → FitFoldsFrom folds statement (answers_from db kept statement qs)
answers_fold columns db kept folds statement [] fit queries targets = tt
answers_fold columns db kept folds statement (q ∷ qs) fit queries targets = (
  answer_folds columns db q (plan_at folds statement) fit targets.0,
  answers_fold (columns_behind columns (kept_of kept statement)) (tables_behind db (kept_of kept statement) (meaning db q)) kept folds (statement + 1) qs
      (fit_kept columns db q (kept_of kept statement) fit queries.1) queries.2 targets.1,
)

-- the rows of a script's queries may be folded
pub script_folds : (db : List Table) (kept : List Kept) (folds : List (Option FoldPlan)) (qs : List Question) → All IsTable db → FitKept (database_columns db) kept qs → FoldQueries (database_columns db) kept folds qs → FitFolds folds (answers_of db kept qs)
script_folds db kept folds qs tables fit targets = answers_fold (database_columns db) db kept folds 0 qs (database_fits db tables) fit.queries targets
