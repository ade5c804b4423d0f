-- The rows of a query fit the columns of what is kept of it, and tables that fit stay so.
use Rattle.std.proofs.Common.{◌≡◌, ℕ, ◌<◌, suc, zero, Bool, true, false, cond, List, [], ◌∷◌, ◌++◌, length, map, Option, Some, None, refl, ap, subst}
use Rattle.std.specs.List.{All, AllByRecursion, filter, list_any}
use Rattle.std.specs.Prelude.{IfSome}
use Rattle.std.specs.Borrow.{Bor}
use Rattle.std.specs.Option.{option_map}
use Rattle.std.specs.Ordering.{is_eq, is_gt}
use Rattle.std.specs.declared.cmp.Ordering.{Ordering}
use Rattle.std.proofs.lemmas.List.Elements.{All-from_recursion, recursion_from_All}
use Rattle.lists.specs.Arranged.{distinct_by, insert_by, sort_by}
use Rattle.rows.specs.declared.value.Value.{Value}
use Rattle.rows.specs.declared.order.SortKey.{SortKey}
use Rattle.rows.specs.declared.plain.LayoutColumn.{LayoutColumn}
use Rattle.rows.specs.declared.plain.LayoutPart.{LayoutPart}
use Rattle.rows.specs.Layouts.{column_in, column_type, FitsColumns, IsRowIn}
use Rattle.rows.specs.Values.{arranged, row_cmp}
use Rattle.rel_meaning.specs.Expression.{Output, Question}
use Rattle.rel_meaning.specs.declared.query.Table.{Table}
use Rattle.rel_meaning.specs.Joined.{joined}
use Rattle.rel_meaning.specs.Meaning.{layout_column, listed, meaning, passes, project, rows_of, CanBeAsked, IsTable}
use Rattle.rel_meaning.specs.Typing.{type_of}
use Rattle.rel_meaning.proofs.Choices.{answers_are, joined_fit}
use Rattle.rel_meaning.proofs.Typed.{column_typed, eval_typed}
use Rattle.kept_relations.specs.declared.kept.Kept.{Kept}
use Rattle.kept_answers.specs.KeptAnswers.{columns_behind, columns_kept, database_columns, layout_in, tables_behind, FitColumns, FitsTargets, IsResolvedIn}

-- what all rows have, all arranged rows have

module _ {K : Type 0} (P : K → Type 0) (cmp : K → K → Ordering) where
  all_insert : (x : K) (xs : List K) → P x → AllByRecursion P xs → AllByRecursion P (insert_by cmp x xs)
  all_insert x [] p all = (p, tt)
  all_insert x (y ∷ ys) p all = elim (is_gt (cmp x y)) as (λ b. AllByRecursion P (cond b (y ∷ insert_by cmp x ys) (x ∷ y ∷ ys))) [
    | true ↦ (all.0, all_insert x ys p all.1)
    | false ↦ (p, all)
  ]

  all_sort : (xs : List K) → AllByRecursion P xs → AllByRecursion P (sort_by cmp xs)
  all_sort [] all = tt
  all_sort (x ∷ xs) all = all_insert x (sort_by cmp xs) all.0 (all_sort xs all.1)

  all_distinct : (xs : List K) → AllByRecursion P xs → AllByRecursion P (distinct_by cmp xs)
  all_distinct [] all = tt
  all_distinct (x ∷ xs) all = elim (list_any (λ y. is_eq (cmp x y)) xs) as (λ b. AllByRecursion P (cond b (distinct_by cmp xs) (x ∷ distinct_by cmp xs))) [
    | true ↦ all_distinct xs all.1
    | false ↦ (all.0, all_distinct xs all.1)
  ]

all_arranged : (P : List Value → Type 0) (unique : Bool) (keys : List SortKey) (rows : List (List Value)) → AllByRecursion P rows → AllByRecursion P (arranged unique keys rows)
all_arranged P true keys rows all = all_sort P (row_cmp keys) (distinct_by (row_cmp keys) rows) (all_distinct P (row_cmp keys) rows all)
all_arranged P false keys rows all = all_sort P (row_cmp keys) rows all

all_passing : {X Y : Type 0} (P : Y → Type 0) (f : X → Y) (Q : X → Type 0) (step : (x : X) → Q x → P (f x)) (test : X → Bool) (xs : List X) → AllByRecursion Q xs → AllByRecursion P (map f (filter test xs))
all_passing P f Q step test [] all = tt
all_passing P f Q step test (x ∷ xs) all = elim (test x) as (λ b. AllByRecursion P (map f (cond b (x ∷ filter test xs) (filter test xs)))) [
  | true ↦ (step x all.0, all_passing P f Q step test xs all.1)
  | false ↦ all_passing P f Q step test xs all.1
]

-- the targets under a row of the layout fit columns of their types
targets_fit : (layout : List LayoutPart) (row : List Value) → IsRowIn layout row → (targets : List Output) (columns : List LayoutColumn) →
    map (λ target. type_of target.expr (column_type layout)) targets ≡ map (λ c. Some c) columns → FitsColumns columns (project targets (column_in layout row))
targets_fit layout row fits [] [] types = tt
targets_fit layout row fits [] (c ∷ cs) types = cc
targets_fit layout row fits (target ∷ targets) [] types = cc
targets_fit layout row fits (target ∷ targets) (c ∷ cs) types = (
  eval_typed (column_type layout) (column_in layout row) (column_typed layout row fits) target.expr c (let i : type_of target.expr (column_type layout) ≡ Some c = cc in i),
  targets_fit layout row fits targets cs (let i : map (λ target. type_of target.expr (column_type layout)) targets ≡ map (λ c. Some c) cs = cc in i),
)

pub meaning_typed : (columns : List (List LayoutColumn)) (db : List Table) (q : Question) (types : List LayoutColumn) → ((relation : ℕ) → All (FitsColumns (listed columns relation)) (rows_of db relation)) →
    map (λ target. type_of target.expr (column_type (layout_in columns q))) q.targets ≡ map (λ c. Some c) types → AllByRecursion (FitsColumns types) (meaning db q)
meaning_typed columns db q types tables typed =
    let layout = layout_in columns q in
    let P = FitsColumns types in
    let rows = recursion_from_All (IsRowIn layout) (joined db [] q.vars) (joined_fit db (listed columns) q.vars tables) in
    let all = all_passing P (λ row. project q.targets (column_in layout row)) (IsRowIn layout)
    (λ row h. targets_fit layout row h q.targets types typed) (λ row. passes q.test (column_in layout row)) (joined db [] q.vars) rows in
    all_arranged P q.unique q.keys _ (subst (AllByRecursion P) (answers_are db (listed columns) q tables) all)

meaning_fits : (columns : List (List LayoutColumn)) (db : List Table) (q : Question) (kept : Kept) → ((relation : ℕ) → All (FitsColumns (listed columns relation)) (rows_of db relation)) → FitsTargets columns q kept →
    AllByRecursion (FitsColumns (columns_kept kept)) (meaning db q)
meaning_fits columns db q kept tables fits = meaning_typed columns db q (columns_kept kept) tables fits.types

-- tables that fit their columns

pub fit_length : (columns : List (List LayoutColumn)) (db : List Table) → FitColumns columns db → length columns ≡ length db
fit_length [] [] fit = refl
fit_length [] (table ∷ tables) fit = elim fit [ ]
fit_length (c ∷ cs) [] fit = elim fit [ ]
fit_length (c ∷ cs) (table ∷ tables) fit = ap suc (fit_length cs tables fit.1)

fit_rows : (columns : List (List LayoutColumn)) (db : List Table) → FitColumns columns db → (relation : ℕ) → AllByRecursion (FitsColumns (listed columns relation)) (rows_of db relation)
fit_rows [] [] fit relation = tt
fit_rows [] (table ∷ tables) fit relation = elim fit [ ]
fit_rows (c ∷ cs) [] fit relation = elim fit [ ]
fit_rows (c ∷ cs) (table ∷ tables) fit zero = fit.0
fit_rows (c ∷ cs) (table ∷ tables) fit (suc relation) = fit_rows cs tables fit.1 relation

pub fit_tables : (columns : List (List LayoutColumn)) (db : List Table) → FitColumns columns db → (relation : ℕ) → All (FitsColumns (listed columns relation)) (rows_of db relation)
fit_tables columns db fit relation = All-from_recursion (FitsColumns (listed columns relation)) (rows_of db relation) (fit_rows columns db fit relation)

pub can_be_asked : (columns : List (List LayoutColumn)) (db : List Table) (q : Question) → FitColumns columns db → IsResolvedIn columns q → CanBeAsked (listed columns) db q
can_be_asked columns db q fit ok = record {
  few = ok.few;
  relations = subst (λ n. All (λ v. v.relation < n) q.vars) (fit_length columns db fit) ok.relations;
  targets = ok.targets;
  test = ok.test;
  tables = fit_tables columns db fit;
}

fit_more : (columns : List (List LayoutColumn)) (db : List Table) (c : List LayoutColumn) (table : Table) → FitColumns columns db → AllByRecursion (FitsColumns c) table.rows → FitColumns (columns ++ c ∷ []) (db ++ table ∷ [])
fit_more [] [] c table fit all = (all, tt)
fit_more [] (t ∷ ts) c table fit all = elim fit [ ]
fit_more (d ∷ ds) [] c table fit all = elim fit [ ]
fit_more (d ∷ ds) (t ∷ ts) c table fit all = (fit.0, fit_more ds ts c table fit.1 all)

-- they fit behind a statement
pub fit_behind : (columns : List (List LayoutColumn)) (db : List Table) (q : Question) (kept : Kept) → FitColumns columns db → FitsTargets columns q kept →
    FitColumns (columns_behind columns (Some kept)) (tables_behind db (Some kept) (meaning db q))
fit_behind columns db q kept fit fits =
    fit_more columns db (columns_kept kept) (record { columns = kept.columns; rows = meaning db q }) fit (meaning_fits columns db q kept (fit_tables columns db fit) fits)

database_rows : (db : List Table) → AllByRecursion IsTable db → FitColumns (database_columns db) db
database_rows [] all = tt
database_rows (table ∷ tables) all = (recursion_from_All (FitsColumns (map layout_column table.columns)) table.rows all.0, database_rows tables all.1)

-- the tables of a database fit their own columns
pub database_fits : (db : List Table) → All IsTable db → FitColumns (database_columns db) db
database_fits db all = database_rows db (recursion_from_All IsTable db all)

abbrev kept_at : Option (Bor Kept) → Option Kept
kept_at kept = option_map (λ k. k.now) kept

pub fit_next : (columns : List (List LayoutColumn)) (db : List Table) (q : Question) (kept : Option (Bor Kept)) → FitColumns columns db → IfSome kept (λ k. FitsTargets columns q k.now) →
    FitColumns (columns_behind columns (kept_at kept)) (tables_behind db (kept_at kept) (meaning db q))
fit_next columns db q None fit fits = fit
fit_next columns db q (Some k) fit fits = fit_behind columns db q k.now fit fits
