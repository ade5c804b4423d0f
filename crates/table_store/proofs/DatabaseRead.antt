-- Databases that are read back from drives.
use Rattle.std.proofs.Common.{◌≡◌, ℕ, ◌+◌, List, [], ◌∷◌, ◌++◌, length, map, take, Option, None, Some, Result, Err, refl, sym, ap, ap₂, subst, ◌∙◌, arith}
use Rattle.std.specs.Prelude.{slice_get, All}
use Rattle.std.proofs.lemmas.List.{length-map, map-append}
use Rattle.std.proofs.lemmas.List.Elements.{All-push}
use Rattle.std.proofs.lemmas.Option.{slice_get-map}
use Rattle.std.specs.Option.{option_map}
use Rattle.xp_outside.specs.declared.drive.Drive.{Ghosts}
use Rattle.heap_page.specs.declared.errors.BadPage.{BadPage}
use Rattle.heap_page.specs.declared.errors.FetchErr.{FetchErr}
use Rattle.heap_page.specs.declared.errors.FetchErr.TheVariants as fetch
use Rattle.heap_page.specs.Maps.{address_of}
use Rattle.heap_page.specs.Stores.{AreQuiet, AreRead, HaveRoom}
use Rattle.heap_page.proofs.Found.{get_below, there}
use Rattle.rows.specs.declared.plain.Column.{Column}
use Rattle.rows.specs.declared.plain.Relation.{Relation}
use Rattle.rows.specs.declared.value.Value.{Value}
use Rattle.rows.specs.RowBytes.{IsRowOf}
use Rattle.rel_meaning.specs.declared.query.Table.{Table}
use Rattle.table_store.specs.declared.database.Laid.{Laid}
use Rattle.table_store.specs.Databases.{ReadCause, TellTables}
use Rattle.table_store.specs.Readings.{TableCause, TellRows, TellsBreak}
use Rattle.table_store.proofs.Again.{tell_kept}
use Rattle.table_store.proofs.Encoded.{take_one}
use Rattle.heap_page.proofs.Drives.{quiet_none, quiet_trans, read_none, read_trans}
use Rattle.table_store.proofs.Pages.{cause_earlier}

abbrev pub columns_of_tables : List Table → List (List Column)
columns_of_tables db = map (λ (t : Table). t.columns) db

abbrev pub columns_of_relations : List Relation → List (List Column)
columns_of_relations relations = map (λ (r : Relation). r.columns) relations

pub same_count : (db : List Table) (relations : List Relation) → columns_of_tables db ≡ columns_of_relations relations → length db ≡ length relations
same_count db relations e = sym (length-map db (λ (t : Table). t.columns)) ∙ (ap length e ∙ length-map relations (λ (r : Relation). r.columns))

some_columns : (a b : List Column) → ◌≡◌ {A = Option (List Column)} (Some a) (Some b) → a ≡ b
some_columns a b e = cc

same_columns : (db : List Table) (relations : List Relation) (i : ℕ) (t : Table) (r : Relation) → columns_of_tables db ≡ columns_of_relations relations → slice_get db i ≡ Some t → slice_get relations i ≡ Some r → t.columns ≡ r.columns
same_columns db relations i t r e at_t at_r =
    let left = slice_get-map (λ (x : Table). x.columns) db i ∙ ap (option_map (λ (x : Table). x.columns)) at_t in
    let right = slice_get-map (λ (x : Relation). x.columns) relations i ∙ ap (option_map (λ (x : Relation). x.columns)) at_r in
    some_columns t.columns r.columns (sym left ∙ (ap (λ (xs : List (List Column)). slice_get xs i) e ∙ right))

same_table : (a b : Table) → a.columns ≡ b.columns → a.rows ≡ b.rows → a ≡ b
same_table a b e f = ap₂ (λ (cs : List Column) (rs : List (List Value)). record { columns = cs; rows = rs }) e f

module _ {D : Type 0} (g : Ghosts D) (laid : Laid) where
  -- what a table shows, a database shows
  read_cause : (relations : List Relation) (place file : ℕ) (relation : Relation) (olds news : List D) (e : FetchErr) → slice_get relations place ≡ Some relation → slice_get laid.heaps.items place ≡ Some file →
      TableCause g laid.map file relation.columns olds news e → ReadCause g laid relations olds news e
  read_cause relations place file relation olds news (fetch.DriveFault d) here number h = h
  read_cause relations place file relation olds news (fetch.BadPage bad) here number h = record {
    place = place;
    relation = relation;
    here = here;
    file = number ∙ ap (λ (f : ℕ). Some f) (sym h.0);
    page = rw h.0 h.1;
    breaks = λ drive at. subst (λ (f : ℕ). TellsBreak (g.pages drive) (address_of laid.map f bad.page) relation.columns f bad) (sym h.0) (h.2 drive at);
  }
  read_cause relations place file relation olds news fetch.NoMemory here number h = tt

  pub cause_of : (relations : List Relation) (place file : ℕ) (relation : Relation) (us bs cs : List D) (e : FetchErr) → slice_get relations place ≡ Some relation → slice_get laid.heaps.items place ≡ Some file →
      AreRead g us bs → TableCause g laid.map file relation.columns bs cs e → ReadCause g laid relations us cs e
  cause_of relations place file relation us bs cs e here number h k =
      read_cause relations place file relation us cs e here number (cause_earlier g laid.map file relation.columns us bs cs e h k)

  -- the tables so far
  pub record Back (relations : List Relation) (olds : List D) (count : ℕ) (tables : List Table) (news : List D) : Type 0 where
    pub read : AreRead g olds news
    pub quiet : AreQuiet g None olds news
    pub columns : columns_of_tables tables ≡ columns_of_relations (take count relations)
    pub typed : All (λ t. All (IsRowOf t.columns) t.rows) tables
    pub again : (db : List Table) → columns_of_tables db ≡ columns_of_relations relations → TellTables g laid db olds → tables ≡ take count db
    pub room : HaveRoom g laid.map news

  pub none_back : (relations : List Relation) (olds : List D) → HaveRoom g laid.map olds → Back relations olds 0 [] olds
  none_back relations olds room = record { read = read_none g olds; quiet = quiet_none g None olds; columns = refl; typed = λ k d lt. absurd (omega (arith, lt)); again = λ db e t. refl; room = room }

  -- the next table of a database that the drives tell
  pub next : (relations : List Relation) (olds : List D) (count : ℕ) (tables : List Table) (news : List D) (relation : Relation) (heap : ℕ) → Back relations olds count tables news →
      slice_get relations count ≡ Some relation → slice_get laid.heaps.items count ≡ Some heap → (db : List Table) → columns_of_tables db ≡ columns_of_relations relations → TellTables g laid db olds →
      (t : Table) × (slice_get db count ≡ Some t) × (t.columns ≡ relation.columns) × TellRows g laid.map heap relation.columns t.rows news
  next relations olds count tables news relation heap h here number db e tell =
      let t = there db count (omega (arith, get_below relations count relation here, same_count db relations e)) in
      let same = same_columns db relations count t.0 relation e t.1 here in
      let rows = tell count t.0 heap t.1 number in
      (t.0, t.1, same, tell_kept g laid.map olds news heap relation.columns t.0.rows h.read (subst (λ (cs : List Column). TellRows g laid.map heap cs t.0.rows olds) same rows))

  pub one_back : (relations : List Relation) (olds : List D) (count : ℕ) (tables : List Table) (mids news : List D) (relation : Relation) (heap : ℕ) (table : Table) → Back relations olds count tables mids →
      slice_get relations count ≡ Some relation → slice_get laid.heaps.items count ≡ Some heap → AreRead g mids news → AreQuiet g None mids news → HaveRoom g laid.map news → table.columns ≡ relation.columns → All (IsRowOf table.columns) table.rows →
      ((rows : List (List Value)) → TellRows g laid.map heap relation.columns rows mids → table.rows ≡ rows) → Back relations olds (count + 1) (tables ++ table ∷ []) news
  one_back relations olds count tables mids news relation heap table h here number read quiet room columns typed again = record {
    read = read_trans g olds mids news h.read read;
    quiet = quiet_trans g None olds mids news h.read.len h.quiet quiet;
    columns = map-append (λ (t : Table). t.columns) tables (table ∷ []) ∙ (ap₂ (λ (xs : List (List Column)) (cs : List Column). xs ++ cs ∷ []) h.columns columns ∙
        (sym (map-append (λ (r : Relation). r.columns) (take count relations) (relation ∷ [])) ∙ ap columns_of_relations (sym (take_one relations count relation here))));
    typed = All-push (λ (t : Table). All (IsRowOf t.columns) t.rows) tables table h.typed typed;
    again = λ db e tell.
        let n = next relations olds count tables mids relation heap h here number db e tell in
        let same : table ≡ n.0 = same_table table n.0 (columns ∙ sym n.2) (again n.0.rows n.3) in
        ap₂ (λ (xs : List Table) (t : Table). xs ++ t ∷ []) (h.again db e tell) same ∙ sym (take_one db count n.0 n.1);
    room = room;
  }

  pub no_bad : {X : Type 0} (relations : List Relation) (olds : List D) (count : ℕ) (tables : List Table) (mids : List D) (relation : Relation) (heap : ℕ) (r : Result X FetchErr) → Back relations olds count tables mids →
      slice_get relations count ≡ Some relation → slice_get laid.heaps.items count ≡ Some heap →
      ((rows : List (List Value)) (bad : BadPage) → TellRows g laid.map heap relation.columns rows mids → r ≡ Err (fetch.BadPage bad) → ⊥) →
      (db : List Table) (bad : BadPage) → columns_of_tables db ≡ columns_of_relations relations → TellTables g laid db olds → r ≡ Err (fetch.BadPage bad) → ⊥
  no_bad relations olds count tables mids relation heap r h here number accepted db bad e tell is =
      let n = next relations olds count tables mids relation heap h here number db e tell in
      accepted n.0.rows bad n.3 is

err_same : {X : Type 0} (d e : FetchErr) → ◌≡◌ {A = Result X FetchErr} (Err d) (Err e) → d ≡ e
err_same d e k = cc

-- an error that is handed on
pub same_err : {X Y : Type 0} (r : Result Y FetchErr) (p e d : FetchErr) → r ≡ Err p → p ≡ e → r ≡ Err d → ◌≡◌ {A = Result X FetchErr} (Err e) (Err d)
same_err r p e d a b k = ap (λ (x : FetchErr). Err x) (sym b ∙ err_same p d (sym a ∙ k))
