-- A job that files give has one text.
use Rattle.std.proofs.Common.{◌≡◌, ◌∙◌, sym, refl, ap, ap₂, subst, arith, ℕ, suc, List, [], ◌∷◌, length, map, slice_get, Option, Some, None, Result, Ok, Err}
use Rattle.std.specs.Prelude.{All}
use Rattle.std.specs.List.{filter_map}
use Rattle.rows.specs.declared.plain.Machine.{Machine}
use Rattle.rows.specs.declared.plain.Relation.{Relation}
use Rattle.rows.specs.declared.value.Value.{Value}
use Rattle.rel_meaning.specs.declared.query.Table.{Table}
use Rattle.rel_meaning.specs.Expression.{Question}
use Rattle.plan_tree.specs.Explained.{explained}
use Rattle.plan_tree.specs.Views.{Planned}
use Rattle.postquel_tokens.specs.declared.fault.TextErr.{TextErr}
use Rattle.postquel_tokens.specs.declared.fault.TextErr.TheVariants as text_err
use Rattle.postquel_tokens.specs.Forms.{Sentence}
use Rattle.postquel.specs.Program.{Program}
use Rattle.name_check.specs.Headers.{kept_of}
use Rattle.name_check.specs.Sentences.{HasNumbers, heading_of, or_fault, queries_of, questions_in, script_fault}
use Rattle.name_check.proofs.KeptFit.{fits_kept}
use Rattle.name_check.proofs.May.{answered_may}
use Rattle.name_check.proofs.Numbers.{read_numbers}
use Rattle.query_planner.specs.Plans.{MayPlan}
use Rattle.query_planner.proofs.OneList.{one_database, one_list}
use Rattle.fragments.specs.Folds.{folded}
use Rattle.fragments.specs.Homes.{Known}
use Rattle.fragments.specs.Scripts.{cut_plans}
use Rattle.heap_page.specs.declared.map.PageFile.{PageFile}
use Rattle.heap_page.proofs.Found.{get_below, there}
use Rattle.rows.specs.declared.plain.KeyIndex.{KeyIndex}
use Rattle.seq_optimizer.specs.declared.stats.VarStats.{VarStats}
use Rattle.table_store.specs.declared.database.Laid.{Laid}
use Rattle.table_store.specs.declared.files.StoredTable.{StoredTable}
use Rattle.table_store.specs.Databases.{IsLaid}
use Rattle.xprs_top.specs.declared.status.Status.{Status}
use Rattle.xprs_top.specs.declared.goal.Goal.{Goal}
use Rattle.xprs_top.specs.declared.goal.Goal.TheVariants.{Answers, Plans}
use Rattle.xprs_top.specs.declared.goal.Aim.{Aim}
use Rattle.xprs_top.specs.declared.goal.Aim.TheVariants.{Print, Make}
use Rattle.xprs_top.specs.Readings.{Checked, Files, IsJob, IsScript, Job, bind, check_of, checked_in, job_by, over, table_of, tables_of, write}
use Rattle.xprs_top.specs.Requests.{Request}
use Rattle.xprs_top.specs.Answers.{answers_bytes, shown}
use Rattle.xprs_top.specs.Texts.{IsText, folds_by, headers_by, kept_by, known_by}
use Rattle.xprs_top.proofs.Asked.{few_each}
use Rattle.xprs_top.proofs.Tables.{table_with}

-- ---- the tables are as many as the relations

as_many : (files : Files) (relations : List Relation) (db : List Table) →
    tables_of files relations ≡ Ok db → length db ≡ length relations
as_many files [] db e = none db e where
  none : (us : List Table) → ◌≡◌ {A = Result (List Table) Status} (Ok []) (Ok us) →
      length us ≡ 0
  none us k = let same : [] ≡ us = cc in rw (← same) refl
as_many files (x ∷ xs) db e = by (table_of files x) e (λ us k. as_many files xs us k) where
  Rest : Type 0
  Rest = (us : List Table) → tables_of files xs ≡ Ok us → length us ≡ length xs

  rest : (rows : List (List Value)) (left : Result (List Table) Status) →
      tables_of files xs ≡ left →
      bind left (λ (tables : List Table). Ok (table_with x rows ∷ tables)) ≡ Ok db → Rest →
      length db ≡ length (x ∷ xs)
  rest rows (Ok us) k h again =
      let all : table_with x rows ∷ us ≡ db = cc in
      let count : length us ≡ length xs = again us k in
      rw (← all) (omega (arith, count))
  rest rows (Err s) k h again = absurd cc

  by : (found : Result (List (List Value)) Status) →
      bind found (λ (rows : List (List Value)). bind (tables_of files xs)
      (λ (tables : List Table). Ok (table_with x rows ∷ tables))) ≡ Ok db → Rest →
      length db ≡ length (x ∷ xs)
  by (Ok rows) h again = rest rows (tables_of files xs) refl h again
  by (Err s) h again = absurd cc

-- ---- the queries may be planned

ok_same : (a b : List Question) (o : Option TextErr) → or_fault a o ≡ Ok b → a ≡ b
ok_same a b None e = cc
ok_same a b (Some f) e = absurd cc

no_fault : (a b : List Question) (o : Option TextErr) → or_fault a o ≡ Ok b → o ≡ None
no_fault a b None e = refl
no_fault a b (Some f) e = absurd cc

in_file : (name : List ℕ) (r : Result (List Question) TextErr) (qs : List Question) →
    checked_in name r ≡ Ok qs → r ≡ Ok qs
in_file name (Ok x) qs e = let same : x ≡ qs = cc in rw same refl
in_file name (Err (text_err.Fault line col what)) qs e = absurd cc
in_file name (Err text_err.NoMemory) qs e = absurd cc

may_plan : (relations : List Relation) (ss : List Sentence) (qs : List Question) →
    All HasNumbers ss → queries_of (map heading_of relations) ss ≡ Ok qs →
    MayPlan relations (kept_of relations ss) qs
may_plan relations ss qs numbers e =
    let same : questions_in (map heading_of relations) ss ≡ qs =
    ok_same (questions_in (map heading_of relations) ss) qs (script_fault (map heading_of relations) ss) e in
    let none : script_fault (map heading_of relations) ss ≡ None =
    no_fault (questions_in (map heading_of relations) ss) qs (script_fault (map heading_of relations) ss) e in
    subst (MayPlan relations (kept_of relations ss)) same (record {
      fits = fits_kept relations ss numbers none;
      few = few_each (map heading_of relations) ss (answered_may (map heading_of relations) ss qs numbers e);
    })

abbrev pub IsPlannable : Checked → Type 0
IsPlannable checked = MayPlan checked.catalog (kept_by checked) checked.questions

ok_checked : (a b : Checked) → ◌≡◌ {A = Result Checked Status} (Ok a) (Ok b) → a ≡ b
ok_checked a b e = cc

plannable : (relations : List Relation) (name : List ℕ) (program : Program) (checked : Checked) →
    All HasNumbers program.sentences → check_of relations name program (Ok checked) →
    IsPlannable checked
plannable relations name program checked numbers (steps, m, (questions, q, same)) =
    subst IsPlannable
    (ok_checked (record {
      catalog = relations;
      program = program;
      steps = steps;
      questions = questions;
    }) checked same)
    (may_plan relations program.sentences questions numbers
    (in_file name (queries_of (map heading_of relations) program.sentences) questions q))

script_plannable : (files : Files) (relations : List Relation) (name : List ℕ)
    (checked : Checked) → IsScript files relations name (Ok checked) → IsPlannable checked
script_plannable files relations name checked (bytes, f, (program, (tokens, l, r), k)) =
    plannable relations name program checked
    (read_numbers tokens program (record { text = bytes; gives = l }) r) k

-- ---- what is known of a job

over_same : (goal other : Goal) (machine m : Machine) (checked found : Checked)
    (db tables : List Table) →
    ◌≡◌ {A = Result Job Status} (Ok (over goal machine checked tables)) (Ok (over other m found db)) →
    (checked ≡ found) × (tables ≡ db)
over_same goal other machine m checked found db tables e = (cc, cc)

-- the tables are those of the files
is_over : (files : Files) (goal other : Goal) (machine m : Machine) (checked found : Checked)
    (db : List Table) →
    bind (tables_of files checked.catalog) (λ (tables : List Table). Ok (over goal machine checked tables)) ≡
    Ok (over other m found db) → (checked ≡ found) × (tables_of files checked.catalog ≡ Ok db)
is_over files goal other machine m checked found db e =
    by (tables_of files checked.catalog) refl e where
      by : (r : Result (List Table) Status) → tables_of files checked.catalog ≡ r →
          bind r (λ (tables : List Table). Ok (over goal machine checked tables)) ≡ Ok (over other m found db) →
          (checked ≡ found) × (tables_of files checked.catalog ≡ Ok db)
      by (Ok tables) f h =
          let same = over_same goal other machine m checked found db tables h in
          (same.0, f ∙ ap (λ (ts : List Table). Ok ts) same.1)
      by (Err s) f h = absurd cc

by_aim : (files : Files) (aim : Aim) (goal : Goal) (m : Machine) (checked found : Checked)
    (db : List Table) → job_by files aim checked ≡ Ok (over goal m found db) →
    (checked ≡ found) × (tables_of files checked.catalog ≡ Ok db)
by_aim files Print goal m checked found db e = absurd cc
by_aim files (Make wanted machine) goal m checked found db e =
    is_over files wanted goal machine m checked found db e

-- a table for each relation, and queries that may be planned
pub record MayExplain (checked : Checked) (db : List Table) : Type 0 where
  pub count : length db ≡ length checked.catalog
  pub planned : MayPlan checked.catalog (kept_by checked) checked.questions

job_planned : (files : Files) (request : Request) (goal : Goal) (m : Machine) (found : Checked)
    (db : List Table) → IsJob files request (Ok (over goal m found db)) → MayExplain found db
job_planned files request goal m found db (checked, (relations, c, s), j) =
    let is = by_aim files request.aim goal m checked found db j in
    subst (λ (k : Checked). MayExplain k db) is.0 (record {
      count = as_many files checked.catalog db is.1;
      planned = script_plannable files relations request.script checked s;
    })

-- ---- what is laid

by_place : {X : Type 0} (xs ys : List X) → length xs ≡ length ys →
    ((i : ℕ) (x y : X) → slice_get xs i ≡ Some x → slice_get ys i ≡ Some y → x ≡ y) → xs ≡ ys
by_place [] [] e h = refl
by_place [] (y ∷ ys) e h = absurd (omega (arith, e))
by_place (x ∷ xs) [] e h = absurd (omega (arith, e))
by_place {X} (x ∷ xs) (y ∷ ys) e h =
    ap₂ (λ (z : X) (zs : List X). z ∷ zs) (h 0 x y refl refl)
    (by_place xs ys (omega (arith, e)) (λ i a b f g. h (suc i) a b f g))

-- tables are laid in one way, as far as fragments name their files
same_known : (checked : Checked) (tables : List StoredTable) (drives : ℕ) (a b : Laid) →
    IsLaid tables drives a → IsLaid tables drives b → known_by checked a ≡ known_by checked b
same_known checked tables drives a b h k =
    let indexes : a.indexes.items ≡ b.indexes.items =
    by_place a.indexes.items b.indexes.items (h.index_count ∙ sym k.index_count)
    (λ i x y f g.
    let table = there tables i (omega (arith, get_below a.indexes.items i x f, h.index_count)) in
    h.indexes i table.0 x table.1 f ∙ sym (k.indexes i table.0 y table.1 g)) in
    ap₂ (λ (files : List PageFile) (items : List (Option KeyIndex)). record {
      relations = checked.catalog;
      files = files;
      indexes = filter_map (λ index. index) items;
      kept = kept_by checked;
    }) (h.of.files ∙ sym k.of.files) indexes

-- ---- the text

all_same : (a b : List (List (List Value))) → ◌≡◌ {A = List (Option (List (List Value)))} (map (λ rows. Some rows) a) (map (λ rows. Some rows) b) → a ≡ b
all_same [] [] e = refl
all_same [] (y ∷ ys) e = absurd cc
all_same (x ∷ xs) [] e = absurd cc
all_same (x ∷ xs) (y ∷ ys) e =
    let first : x ≡ y = cc in
    let others : ◌≡◌ {A = List (Option (List (List Value)))} (map (λ rows. Some rows) xs) (map (λ rows. Some rows) ys) = cc in
    let rest = all_same xs ys others in
    λ k. first k ∷ rest k

pub one_text : (files : Files) (request : Request) (job : Job) (a b : List ℕ) →
    IsJob files request (Ok job) → IsText job a → IsText job b → a ≡ b
one_text files request (write bytes) a b j h k = h ∙ sym k
one_text files request (over Answers machine checked db) a b j h k =
    let same : h.answers ≡ k.answers = all_same h.answers k.answers (sym h.are ∙ k.are) in
    h.is ∙ (ap (λ (answers : List (List (List Value))). answers_bytes (shown (kept_by checked) (headers_by checked) answers)) same ∙ sym k.is)
one_text files request (over (Plans m) machine checked db) a b j h k =
    let may = job_planned files request (Plans m) machine checked db j in
    let tables : k.tables ≡ h.tables =
    one_database checked.catalog db k.tables h.tables may.count k.stored h.stored in
    let known : known_by checked h.laid ≡ known_by checked k.laid =
    same_known checked h.tables machine.drives h.laid k.laid h.are_laid
    (subst (λ (ts : List StoredTable). IsLaid ts machine.drives k.laid) tables k.are_laid) in
    let same : (h.stats ≡ k.stats) × (h.plans ≡ k.plans) =
    one_list checked.catalog db h.tables k.tables (kept_by checked) m checked.questions h.stats k.stats
    h.plans k.plans may.count may.planned h.stored k.stored h.best k.best in
    h.is
    ∙ (ap (λ (x : Known). explained machine (map (folded (folds_by checked)) (cut_plans x h.stats h.plans)) 0 h.plans) known
    ∙ (ap (λ (x : List (List VarStats)). explained machine (map (folded (folds_by checked)) (cut_plans (known_by checked k.laid) x h.plans)) 0 h.plans) same.0
    ∙ (ap (λ (x : List Planned). explained machine (map (folded (folds_by checked)) (cut_plans (known_by checked k.laid) k.stats x)) 0 x) same.1 ∙ sym k.is)))
