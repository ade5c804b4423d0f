-- Plans over tables that are laid on drives.
use Rattle.std.proofs.Common.{◌≡◌, ◌≤◌, ◌<◌, ℕ, zero, suc, ◌+◌, List, [], ◌∷◌, length, map, get_or, Option, None, Some, Result, Ok, Err, refl, sym, ap, ◌∙◌, subst, arith, IfErr, IfOk}
use Rattle.std.specs.Prelude.{slice_get, All, IfSome, IsSome}
use Rattle.std.specs.Global.{Vec}
use Rattle.xp_outside.specs.declared.drive.Drive.{Ghosts}
use Rattle.heap_page.specs.declared.errors.BadPage.{BadPage}
use Rattle.heap_page.specs.declared.errors.FetchErr.{FetchErr}
use Rattle.heap_page.specs.declared.errors.FetchErr.TheVariants as fetch
use Rattle.heap_page.specs.Stores.{AreRead}
use Rattle.heap_page.proofs.Found.{get_below, there}
use Rattle.key_index.specs.Files.{index_of}
use Rattle.rows.specs.declared.plain.KeyIndex.{KeyIndex}
use Rattle.rows.specs.declared.plain.Machine.{Machine}
use Rattle.rows.specs.declared.plain.Relation.{Relation}
use Rattle.rel_meaning.specs.declared.query.Table.{Table}
use Rattle.rel_meaning.specs.Expression.{question_of}
use Rattle.std.proofs.lemmas.List.{length-map}
use Rattle.xprs_top.specs.declared.script.ReadScript.{ReadScript}
use Rattle.table_store.specs.declared.database.Laid.{Laid}
use Rattle.table_store.specs.declared.files.StoredIndex.{StoredIndex}
use Rattle.table_store.specs.declared.files.StoredTable.{StoredTable}
use Rattle.table_store.specs.Files.{file_number, index_numbers, numbers_in, table_blocks}
use Rattle.table_store.specs.Databases.{AllFresh, AreKept, IsLaidOut, MayStore}
use Rattle.table_store.specs.Images.{HoldImage}
use Rattle.table_store.specs.Readings.{AllTell}
use Rattle.table_store.proofs.Laying.{kept_reading}
use Rattle.plan_tree.specs.declared.tree.Method.{Method}
use Rattle.query_planner.specs.declared.planning.PlansAndStats.{PlansAndStats}
use Rattle.plan_tree.specs.Views.{planned_of}
use Rattle.query_planner.specs.Causes.{PlanCause}
use Rattle.query_planner.specs.Stored.{AreOf, Stands}
use Rattle.query_planner.specs.Plans.{AreBestPlans, MayCutPlans}
use Rattle.query_planner.proofs.Stored.{are_of}
use Rattle.xprs_top.specs.declared.status.Status.{Status}
use Rattle.xprs_top.specs.declared.status.Status.TheVariants.{Done, Usage, Refused, ShelfFault, DriveFault, Bad, SinkFault, NoMemory, DriveFull, NotBuilt, TooLarge}
use Rattle.xprs_top.specs.declared.goal.Goal.TheVariants.{Plans}
use Rattle.xprs_top.specs.Devices.{Fit, Makes}
use Rattle.xprs_top.specs.Readings.{Checked, over}
use Rattle.xprs_top.specs.Statuses.{of_fetch}
use Rattle.xprs_top.specs.Tasks.{MayServe}
use Rattle.xprs_top.specs.Texts.{Explains, kept_by}
use Rattle.xprs_top.proofs.Devices.{image_read, is_fit, tell_before, untold}

-- ---- what is counted

-- what a place has
here : {X : Type 0} (xs : List X) (i : ℕ) (d : X) → i < length xs → slice_get xs i ≡ Some (get_or xs i d)
here [] i d lt = absurd (omega (arith, lt))
here (x ∷ xs) zero d lt = refl
here (x ∷ xs) (suc i) d lt = here xs i d (omega (arith, lt))

-- no table has more than 1,000,000 rows
pub few_rows : (relations : List Relation) (db : List Table) → MayStore relations db → All (λ t. length t.rows ≤ 1000000) db
few_rows relations db may = λ k d lt.
    let relation = there relations k (omega (arith, lt, may.count)) in (may.each k relation.0 (get_or db k d) relation.1 (here db k d lt)).short.0

-- the relations of tables that can be stored are narrow, and their indexes are on columns of theirs
pub narrow_relations : (relations : List Relation) (db : List Table) → MayStore relations db → All (λ (r : Relation). length r.columns ≤ 32) relations
narrow_relations relations db may = λ k d lt.
    let table = there db k (omega (arith, lt, may.count)) in
    let one = may.each k (get_or relations k d) table.0 (here relations k d lt) table.1 in
    let same = ap length one.columns in
    omega (arith, one.few, same)

pub indexed_relations : (relations : List Relation) (db : List Table) → MayStore relations db → All (λ (r : Relation). IfSome r.index (λ column. column < length r.columns)) relations
indexed_relations relations db may = λ k d lt.
    let table = there db k (omega (arith, lt, may.count)) in (may.each k (get_or relations k d) table.0 (here relations k d lt) table.1).index

-- the plans of a script that was read may be cut
pub may_cut : (relations : List Relation) (db : List Table) (read : ReadScript) → MayStore relations db → MayServe relations read → MayCutPlans relations read.kept (map question_of read.queries)
may_cut relations db read may serve =
    let same = length-map read.queries question_of in
    let few = serve.few in
    record {
      few = omega (arith, same, few);
      narrow = narrow_relations relations db may;
      indexed = indexed_relations relations db may;
      bounds = serve.bounds;
      keys = serve.keys;
    }

-- the numbers of an index are those of one that is stored, of this file
numbered : (file pages : ℕ) (stored : Option StoredIndex) (index : KeyIndex) → Some index ≡ numbers_in file pages stored → IsSome stored × (index.file ≡ file)
numbered file pages None index e = absurd cc
numbered file pages (Some stored) index e = let same : index ≡ index_of file stored.key_type pages stored.entries = cc in (refl, ap (λ (i : KeyIndex). i.file) same)

module _ {D : Type 0} (g : Ghosts D) where
  -- tables that are laid out are counted right
  pub counted : (relations : List Relation) (db : List Table) (olds mids : List D) (laid : Laid) (rows : List ℕ) (out : IsLaidOut g relations db olds mids laid) → MayStore relations db → (n : ℕ) → length olds ≡ n →
      rows ≡ map (λ (t : Table). length t.rows) db → AreOf relations rows laid n out.tables
  counted relations db olds mids laid rows out may n count is = are_of relations db out.tables rows n laid may out.stored out.storable (rw (← count) out.are) is

  pub stands : (relations : List Relation) (db : List Table) (olds mids : List D) (laid : Laid) (rows : List ℕ) (drives : ℕ) (out : IsLaidOut g relations db olds mids laid) → MayStore relations db → length olds ≡ drives →
      rows ≡ map (λ (t : Table). length t.rows) db → Stands relations rows laid drives
  stands relations db olds mids laid rows drives out may count is = record { tables = out.tables; are = counted relations db olds mids laid rows out may drives count is }

  -- ---- the text of the plans

  module _ (checked : Checked) (db : List Table) (machine : Machine) (before now : ℕ) (m : Method) (olds mids news : List D) (laid : Laid) (count : length olds ≡ machine.drives) (fresh : AllFresh g olds) (kept : AreKept g olds mids)
      (out : IsLaidOut g checked.catalog db olds mids laid) (read : AreRead g mids news) (rows : List ℕ) (are : AreOf checked.catalog rows laid machine.drives out.tables) where
    all_mids : AllTell g news → AllTell g mids
    all_mids all = tell_before g mids news (kept_reading g mids news read) all

    -- which plans are made over told drives
    abbrev pub Planned : Result PlansAndStats FetchErr → Type 0
    Planned plans = (tables : List StoredTable) → AreOf checked.catalog rows laid machine.drives tables → HoldImage g laid.map tables mids → AllTell g mids →
        IfOk plans (λ made. AreBestPlans checked.catalog tables (kept_by checked) m checked.questions made.stats (map planned_of made.plans))

    abbrev pub NeverBad : Result PlansAndStats FetchErr → Type 0
    NeverBad plans = (tables : List StoredTable) (bad : BadPage) → AreOf checked.catalog rows laid machine.drives tables → HoldImage g laid.map tables mids → AllTell g mids → plans ≡ Err (fetch.BadPage bad) → ⊥

    abbrev fit : Fit g checked.catalog db machine.drives news
    fit = is_fit g checked db machine before now olds mids news laid count fresh kept out read

    made_err : (e : FetchErr) → PlanCause g laid mids news e → NeverBad (Err e) → Makes g (over (Plans m) machine checked db) before now news (Err (of_fetch e))
    made_err (fetch.DriveFault d) cause never = (fit, record { drive = cause.new; here = cause.is; some = omega (arith, cause.rose) })
    made_err (fetch.BadPage bad) cause never =
        let at = there out.tables cause.table (omega (arith, get_below laid.indexes.items cause.table (Some cause.index) cause.stands, out.are.index_count)) in
        let numbers : Some cause.index ≡ index_numbers out.tables cause.table at.0 = out.are.indexes cause.table at.0 (Some cause.index) at.1 cause.stands in
        let known = numbered (file_number out.tables cause.table + 1) (length (table_blocks at.0)) at.0.index cause.index numbers in (
          fit,
          record {
            table = cause.table;
            stored = at.0;
            here = at.1;
            indexed = known.0;
            file = cause.file ∙ known.1;
            page = cause.there;
            rule = (omega (arith, cause.rule.0), omega (arith, cause.rule.1));
            untold = untold g news (λ all. never out.tables bad are (out.image fresh) (all_mids all) refl);
          },
        )
    made_err fetch.NoMemory cause never = tt

    pub made_plans : (plans : Result PlansAndStats FetchErr) (text : Result (Vec ℕ) Status) → Planned plans → NeverBad plans → IfErr plans (PlanCause g laid mids news) → Explains checked laid machine plans text → Makes g (over (Plans m) machine checked db) before now news text
    made_plans (Ok ps) (Ok text) told never cause shows = (
      (fit, image_read g laid.map out.tables mids news read (out.image fresh)),
      λ all. record {
        tables = out.tables;
        stored = out.stored;
        laid = laid;
        are_laid = rw (← count) out.are;
        stats = ps.stats;
        plans = map planned_of ps.plans;
        best = told out.tables are (out.image fresh) (all_mids all);
        is = shows;
      },
    )
    made_plans (Ok ps) (Err NoMemory) told never cause shows = tt
    made_plans (Ok ps) (Err Done) told never cause shows = absurd shows
    made_plans (Ok ps) (Err Usage) told never cause shows = absurd shows
    made_plans (Ok ps) (Err (Refused r)) told never cause shows = absurd shows
    made_plans (Ok ps) (Err ShelfFault) told never cause shows = absurd shows
    made_plans (Ok ps) (Err (DriveFault d)) told never cause shows = absurd shows
    made_plans (Ok ps) (Err (Bad bad)) told never cause shows = absurd shows
    made_plans (Ok ps) (Err SinkFault) told never cause shows = absurd shows
    made_plans (Ok ps) (Err (DriveFull d needs capacity)) told never cause shows = absurd shows
    made_plans (Ok ps) (Err (NotBuilt what)) told never cause shows = absurd shows
    made_plans (Ok ps) (Err (TooLarge number)) told never cause shows = absurd shows
    made_plans (Err e) text told never cause shows = subst (Makes g (over (Plans m) machine checked db) before now news) (sym shows) (made_err e cause never)
