-- The plans of queries over the tables of a database are one list.
use Rattle.std.proofs.Common.{◌≡◌, ◌∙◌, sym, refl, ap, ap₂, subst, arith, ℕ, zero, suc, ◌-◌, ◌<◌, ◌≤◌, List, [], ◌∷◌, length, Option, Some, None, inl, inr}
use Rattle.std.specs.Prelude.{slice_get}
use Rattle.std.proofs.lemmas.Bool.{cases_lt}
use Rattle.std.proofs.lemmas.Option.{slice_get_within}
use Rattle.heap_page.specs.Blocks.{blocks_of, item_weight}
use Rattle.heap_page.proofs.Found.{there}
use Rattle.kept_relations.specs.declared.kept.Kept.{Kept}
use Rattle.rows.specs.declared.field.ColType.{ColType}
use Rattle.rows.specs.declared.plain.KeyEntry.{KeyEntry}
use Rattle.rows.specs.declared.plain.Relation.{Relation}
use Rattle.rel_meaning.specs.declared.query.Table.{Table}
use Rattle.rel_meaning.specs.Expression.{Question}
use Rattle.plan_tree.specs.declared.tree.Method.{Method}
use Rattle.plan_tree.specs.Trees.{Shape}
use Rattle.plan_tree.specs.Views.{Planned}
use Rattle.seq_optimizer.specs.declared.stats.VarStats.{VarStats}
use Rattle.seq_optimizer.proofs.OnePlan.{one_price, one_tree}
use Rattle.table_store.specs.declared.files.StoredIndex.{StoredIndex}
use Rattle.table_store.specs.declared.files.StoredTable.{StoredTable}
use Rattle.table_store.specs.Databases.{AreStored, IsIndexed, IsStored}
use Rattle.table_store.specs.Files.{table_blocks}
use Rattle.table_store.proofs.Placed.{only_index}
use Rattle.query_planner.specs.Counted.{AreStats, CountsKept, rows_made}
use Rattle.query_planner.specs.Plans.{AreBestPlans, ArePlansBy, IsPlanBy, MayPlan}
use Rattle.query_planner.specs.Steps.{IsKeptBefore}
use Rattle.query_planner.proofs.Statements.{plan_at}

-- ---- lists

same_places : {X : Type 0} (xs ys : List X) → length xs ≡ length ys →
    ((i : ℕ) (x y : X) → slice_get xs i ≡ Some x → slice_get ys i ≡ Some y → x ≡ y) → xs ≡ ys
same_places [] [] count each = refl
same_places [] (y ∷ ys) count each = absurd (omega (arith, count))
same_places (x ∷ xs) [] count each = absurd (omega (arith, count))
same_places (x ∷ xs) (y ∷ ys) count each =
    ap₂ (λ z zs. z ∷ zs) (each 0 x y refl refl)
    (same_places xs ys (omega (arith, count)) (λ i v w at_v at_w. each (suc i) v w at_v at_w))

-- ---- the tables of a database

one_index : (column : Option ℕ) (table : Table) (blocks : List (List (List ℕ)))
    (a b : Option StoredIndex) → IsIndexed column table blocks a →
    IsIndexed column table blocks b → a ≡ b
one_index None table blocks None None h k = refl
one_index None table blocks None (Some b) h k = absurd k
one_index None table blocks (Some a) b h k = absurd h
one_index (Some column) table blocks None b h k = absurd h
one_index (Some column) table blocks (Some a) None h k = absurd k
one_index (Some column) table blocks (Some a) (Some b) h k =
    ap₂ (λ (key_type : ColType) (entries : List KeyEntry).
    Some (record { key_type = key_type; entries = entries }))
    (h.0 ∙ sym k.0) (only_index column table.rows blocks a.entries b.entries h.1 k.1)

one_stored : (relation : Relation) (table : Table) (a b : StoredTable) →
    IsStored relation table a → IsStored relation table b → a ≡ b
one_stored relation table a b h k =
    let items : b.items ≡ a.items = k.items ∙ sym h.items in
    let index : IsIndexed relation.index table (table_blocks a) b.index =
    subst (λ (is : List (List ℕ)). IsIndexed relation.index table (blocks_of item_weight 8172 is)
    b.index) items k.index in
    ap₂ (λ (is : List (List ℕ)) (found : Option StoredIndex).
    record { items = is; index = found }) (sym items)
    (one_index relation.index table (table_blocks a) a.index b.index h.index index)

pub one_database : (relations : List Relation) (db : List Table)
    (tables others : List StoredTable) → length db ≡ length relations →
    AreStored relations db tables → AreStored relations db others → tables ≡ others
one_database relations db tables others count h k =
    same_places tables others (h.count ∙ sym k.count) (λ i a b at_a at_b.
    let low = slice_get_within tables i a at_a in
    let relation = there relations i (omega (arith, low, h.count)) in
    let table = there db i (omega (arith, low, count, h.count)) in
    one_stored relation.0 table.0 a b (h.each i relation.0 table.0 a relation.1 table.1 at_a)
    (k.each i relation.0 table.0 b relation.1 table.1 at_b))

-- ---- what is counted of them

same_stats : (a b : VarStats) → a.pages ≡ b.pages → a.rows ≡ b.rows → a.interval ≡ b.interval →
    a.height ≡ b.height → a ≡ b
same_stats a b pages rows interval height =
    λ j. record { pages = pages j; rows = rows j; interval = interval j; height = height j }

module _ (relations : List Relation) (tables : List StoredTable) (kept : List Kept)
    (qs : List Question) (count : length tables ≡ length relations)
    (may : MayPlan relations kept qs) (a b : List (List VarStats))
    (h : AreStats relations tables kept qs a) (k : AreStats relations tables kept qs b) where
  -- the stats of the statements before this one are the same
  abbrev SameBelow : ℕ → Type 0
  SameBelow n = (i : ℕ) (x y : List VarStats) → i < n → slice_get a i ≡ Some x →
      slice_get b i ≡ Some y → x ≡ y

  -- the same rows are counted of what an earlier query keeps
  same_rows : (i place : ℕ) (s t : VarStats) → i ≤ length qs → SameBelow i →
      IsKeptBefore kept i place → CountsKept kept qs a place s → CountsKept kept qs b place t →
      s.rows ≡ t.rows
  same_rows i place s t within below known c d =
      let here = known.here in
      let low : here.statement < length qs = omega (arith, known.before, within) in
      let q = there qs here.statement low in
      let x = there a here.statement (omega (arith, low, h.count)) in
      let y = there b here.statement (omega (arith, low, k.count)) in
      let same = below here.statement x.0 y.0 known.before x.1 y.1 in
      c.rows here q.0 x.0 known.at q.1 x.1 ∙ ap (rows_made q.0) same ∙
      sym (d.rows here q.0 y.0 known.at q.1 y.1)

  same_kept : (i place : ℕ) (s t : VarStats) → i ≤ length qs → SameBelow i →
      IsKeptBefore kept i place → CountsKept kept qs a place s → CountsKept kept qs b place t →
      s ≡ t
  same_kept i place s t within below known c d =
      same_stats s t (c.pages ∙ sym d.pages) (same_rows i place s t within below known c d)
      (c.interval ∙ sym d.interval) (c.height ∙ sym d.height)

  -- one entry of a query, whose variable's relation has a table or is kept
  one_entry : (i : ℕ) (q : Question) (x y : List VarStats) (v : ℕ) (s t : VarStats) →
      SameBelow i → slice_get qs i ≡ Some q → slice_get a i ≡ Some x → slice_get b i ≡ Some y →
      slice_get x v ≡ Some s → slice_get y v ≡ Some t → s ≡ t
  one_entry i q x y v s t below at_q at_x at_y at_s at_t =
      let first = h.queries i q x at_q at_x in
      let second = k.queries i q y at_q at_y in
      let low = slice_get_within x v s at_s in
      let var = there q.vars v (omega (arith, low, first.each)) in
      elim (cases_lt var.0.relation (length relations)) [
        | inl named ↦ (
            let relation = there relations var.0.relation named in
            let table = there tables var.0.relation (omega (arith, named, count)) in
            first.of_tables v var.0 relation.0 table.0 s var.1 relation.1 table.1 at_s ∙
            sym (second.of_tables v var.0 relation.0 table.0 t var.1 relation.1 table.1 at_t))
        | inr behind ↦ (
            let known = (plan_at relations kept qs may i q at_q).there v var.0 var.1 behind in
            let within = slice_get_within qs i q at_q in
            same_kept i (var.0.relation - length relations) s t (omega (arith, within)) below
            known (first.of_kept v var.0 s var.1 behind at_s)
            (second.of_kept v var.0 t var.1 behind at_t))
      ]

  -- the stats of one statement
  one_statement : (i : ℕ) (x y : List VarStats) → SameBelow i → slice_get a i ≡ Some x →
      slice_get b i ≡ Some y → x ≡ y
  one_statement i x y below at_x at_y =
      let low = slice_get_within a i x at_x in
      let q = there qs i (omega (arith, low, h.count)) in
      let first = h.queries i q.0 x q.1 at_x in
      let second = k.queries i q.0 y q.1 at_y in
      same_places x y (first.each ∙ sym second.each) (λ v s t at_s at_t.
      one_entry i q.0 x y v s t below q.1 at_x at_y at_s at_t)

  same_below : (n : ℕ) → SameBelow n
  same_below zero i x y low at_x at_y = absurd (omega (arith, low))
  same_below (suc n) i x y low at_x at_y =
      one_statement i x y (λ j u w less at_u at_w.
      same_below n j u w (omega (arith, less, low)) at_u at_w) at_x at_y

  pub one_table : a ≡ b
  one_table = same_places a b (h.count ∙ sym k.count) (λ i x y at_x at_y.
      same_below (suc i) i x y (omega arith) at_x at_y)

-- ---- and the plans

one_plan : (m : Method) (q : Question) (stats : List VarStats) (p r : Planned) →
    IsPlanBy m q stats p → IsPlanBy m q stats r → p ≡ r
one_plan m q stats p r h k =
    let tree : p.tree ≡ r.tree = one_tree q stats m p.tree r.tree p.cost r.cost h.best k.best in
    let cost : p.cost ≡ r.cost = one_price q stats m p.tree r.tree p.cost r.cost h.best k.best in
    pieces p.query p.tree p.cost r (h.query ∙ sym k.query) tree cost where
      pieces : (query : Question) (tree : Shape) (cost : ℕ) (r : Planned) → query ≡ r.query →
          tree ≡ r.tree → cost ≡ r.cost →
          ◌≡◌ {A = Planned} (record { query = query; tree = tree; cost = cost }) r
      pieces query tree cost r e f g = rw (e, f, g) refl

same_plans : (m : Method) (qs : List Question) (table : List (List VarStats))
    (ps rs : List Planned) → length table ≡ length qs → ArePlansBy m qs table ps →
    ArePlansBy m qs table rs → ps ≡ rs
same_plans m qs table ps rs count h k =
    same_places ps rs (h.count ∙ sym k.count) (λ i p r at_p at_r.
    let low = slice_get_within ps i p at_p in
    let q = there qs i (omega (arith, low, h.count)) in
    let stats = there table i (omega (arith, low, h.count, count)) in
    one_plan m q.0 stats.0 p r (h.each i q.0 stats.0 p q.1 stats.1 at_p)
    (k.each i q.0 stats.0 r q.1 stats.1 at_r))

one_list_over : (relations : List Relation) (tables : List StoredTable) (kept : List Kept)
    (m : Method) (qs : List Question) (table other : List (List VarStats))
    (ps rs : List Planned) → length tables ≡ length relations → MayPlan relations kept qs →
    AreBestPlans relations tables kept m qs table ps →
    AreBestPlans relations tables kept m qs other rs → (table ≡ other) × (ps ≡ rs)
one_list_over relations tables kept m qs table other ps rs count may h k =
    let same = one_table relations tables kept qs count may table other h.stats k.stats in (
      same,
      same_plans m qs table ps rs h.stats.count h.plans
          (subst (λ (t : List (List VarStats)). ArePlansBy m qs t rs) (sym same) k.plans),
    )

pub one_list : (relations : List Relation) (db : List Table) (tables others : List StoredTable)
    (kept : List Kept) (m : Method) (qs : List Question) (table other : List (List VarStats))
    (ps rs : List Planned) → length db ≡ length relations → MayPlan relations kept qs →
    AreStored relations db tables → AreStored relations db others →
    AreBestPlans relations tables kept m qs table ps →
    AreBestPlans relations others kept m qs other rs → (table ≡ other) × (ps ≡ rs)
one_list relations db tables others kept m qs table other ps rs count may h k best second =
    let same : others ≡ tables = one_database relations db others tables count k h in
    one_list_over relations tables kept m qs table other ps rs h.count may best
    (subst (λ (ts : List StoredTable). AreBestPlans relations ts kept m qs other rs) same second)
