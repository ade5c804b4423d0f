use Rattle.std.proofs.Common.{◌≡◌, ◌+◌, ◌∙◌, Option, Some, None, List, ap, sym, subst, length}
use Rattle.std.specs.Prelude.{IfOk, MatchResult}
use Rattle.heap_page.proofs.Found.{one_at}
use Rattle.key_index.specs.Files.{HoldsIndex}
use Rattle.key_index.specs.Searches.{NotBad}
use Rattle.rel_meaning.specs.Expression.{question_of}
use Rattle.rows.specs.declared.plain.Bound.{Bound}
use Rattle.rows.specs.declared.plain.Interval.{Interval}
use Rattle.rows.specs.declared.plain.KeyIndex.{KeyIndex}
use Rattle.rows.specs.declared.plain.Relation.{Relation}
use Rattle.table_store.specs.declared.files.StoredIndex.{StoredIndex}
use Rattle.table_store.specs.Files.{file_number, table_blocks}
use Rattle.query_planner.specs.Counted.{bounds_on, interval_in}
use Rattle.query_planner.specs.Plans.{IsLeft}
use Rattle.query_planner.proofs.Causing.{all_searched}
use Rattle.query_planner.proofs.Left.{no_column, no_index}
use Rattle.query_planner.proofs.Counted.{none_left}
use Rattle.query_planner.proofs.Standing.{index_at, option_at, known_index, none_stored, over_stored, told_index}
use Rattle.query_planner.proofs.counting.interval_on.Goals as goal

pub returns-in_default-index-clause-told : goal.returns-in_default-index-clause-told
returns-in_default-index-clause-told g c = λ tables table here tells at_t at_r.
    let known = c.args.known.now in
    let numbers = told_index known.relations.now known.rows.now known.laid.now c.args.relation tables table c.index.result.now tells.are at_t c.index.ensures in
    let none : table.index ≡ None = none_stored (file_number tables c.args.relation + 1) (length (table_blocks table)) table.index (sym c.in_default-index.is ∙ numbers) in
    let bounds = bounds_on here.index c.args.var (question_of c.args.query.now) in
    sym (ap (λ (o : Option StoredIndex). interval_in bounds o) none ∙ none_left bounds)

pub left_by-requires-clause-file : goal.left_by-requires-clause-file
left_by-requires-clause-file g c =
    let known = c.args.known.now in
    rw c.requires.files (known_index known.relations.now known.rows.now known.laid.now known.laid.now.map.drives c.args.relation c.index.result.now c.in-Some-index.index c.requires.known c.requires.relation c.index.ensures c.in-Some-index.is).0

pub left_by-requires-clause-some : goal.left_by-requires-clause-some
left_by-requires-clause-some g c =
    let known = c.args.known.now in
    (known_index known.relations.now known.rows.now known.laid.now known.laid.now.map.drives c.args.relation c.index.result.now c.in-Some-index.index c.requires.known c.requires.relation c.index.ensures c.in-Some-index.is).1

pub returns-clause-told : goal.returns-clause-told
returns-clause-told g c = λ tables table here tells at_t at_r.
    let known = c.args.known.now in
    let numbers = told_index known.relations.now known.rows.now known.laid.now c.args.relation tables table c.index.result.now tells.are at_t c.index.ensures in
    let over = over_stored (file_number tables c.args.relation + 1) (length (table_blocks table)) table.index c.in-Some-index.index (sym c.in-Some-index.is ∙ numbers) in
    let holds = subst (λ (k : KeyIndex). HoldsIndex k (tells.pages k.file) over.stored.entries) (sym over.numbers) (tells.indexes c.args.relation table over.stored at_t over.has) in
    let same : here ≡ c.get.result.now = one_at known.relations.now c.args.relation here c.get.result.now at_r c.get.ensures in
    let column = ap (λ (r : Relation). r.index) same ∙ c.in-Some.is in
    let bounds = c.in_ok-bounds.ensures ∙ sym (ap (λ o. bounds_on o c.args.var (question_of c.args.query.now)) column) in
    let both = ap (λ (bs : List Bound). interval_in bs (Some over.stored)) bounds ∙ sym (ap (λ (o : Option StoredIndex). interval_in (bounds_on here.index c.args.var (question_of c.args.query.now)) o) over.has) in
    subst (λ (x : Option Interval). MatchResult c.left_by.result (λ found. found ≡ x) NotBad) both (c.left_by.ensures.told tells.pages over.stored tells.tells holds)

pub returns-in_default-clause-left : goal.returns-in_default-clause-left
returns-in_default-clause-left g c = λ here index at_r at_i.
    let same : here ≡ c.get.result.now = one_at c.args.known.now.relations.now c.args.relation here c.get.result.now at_r c.get.ensures in
    no_column (g.P.PageSource.image (g.P.PageSource.whole c.args.pages.now)) here.index c.args.var (question_of c.args.query.now) index (ap (λ (r : Relation). r.index) same ∙ c.in_default.is)

pub returns-in_default-index-clause-left : goal.returns-in_default-index-clause-left
returns-in_default-index-clause-left g c = λ here index at_r at_i.
    let known = c.args.known.now in
    let at = option_at known.relations.now known.rows.now known.laid.now known.laid.now.map.drives c.args.relation c.index.result.now c.requires.known c.requires.relation c.index.ensures in
    let same : index ≡ c.index.result.now = one_at known.laid.now.indexes.items c.args.relation index c.index.result.now at_i at in
    no_index (g.P.PageSource.image (g.P.PageSource.whole c.args.pages.now)) (bounds_on here.index c.args.var (question_of c.args.query.now)) index (same ∙ c.in_default-index.is)

pub returns-clause-left : goal.returns-clause-left
returns-clause-left g c = λ here index at_r at_i.
    let known = c.args.known.now in
    let image = g.P.PageSource.image (g.P.PageSource.whole c.args.pages.now) in
    let at = option_at known.relations.now known.rows.now known.laid.now known.laid.now.map.drives c.args.relation c.index.result.now c.requires.known c.requires.relation c.index.ensures in
    let one : index ≡ Some c.in-Some-index.index = one_at known.laid.now.indexes.items c.args.relation index c.index.result.now at_i at ∙ c.in-Some-index.is in
    let same : here ≡ c.get.result.now = one_at known.relations.now c.args.relation here c.get.result.now at_r c.get.ensures in
    let column = ap (λ (r : Relation). r.index) same ∙ c.in-Some.is in
    let bounds = c.in_ok-bounds.ensures ∙ sym (ap (λ o. bounds_on o c.args.var (question_of c.args.query.now)) column) in
    subst (λ (o : Option KeyIndex). IfOk c.left_by.result (IsLeft image (bounds_on here.index c.args.var (question_of c.args.query.now)) o)) (sym one)
    (subst (λ (bs : List Bound). IfOk c.left_by.result (IsLeft image bs (Some c.in-Some-index.index))) bounds c.left_by.ensures.left)

pub returns-clause-err : goal.returns-clause-err
returns-clause-err g c =
    let known = c.args.known.now in
    let image = g.P.PageSource.image (g.P.PageSource.whole c.args.pages.now) in
    let drives = g.P.PageSource.drives (g.P.PageSource.whole c.args.pages.now) in
    let before = g.P.PageSource.faults c.args.pages.now in
    let now = g.P.PageSource.faults c.left_by.new.pages in
    let has = (known_index known.relations.now known.rows.now known.laid.now known.laid.now.map.drives c.args.relation c.index.result.now c.in-Some-index.index c.requires.known c.requires.relation c.index.ensures c.in-Some-index.is).0 in
    let stands = index_at known.relations.now known.rows.now known.laid.now known.laid.now.map.drives c.args.relation c.index.result.now c.in-Some-index.index c.requires.known c.requires.relation c.index.ensures c.in-Some-index.is in
    all_searched known.laid.now image c.args.relation c.in-Some-index.index c.in_ok-bounds.bounds drives before now c.left_by.result stands has c.left_by.ensures.err c.left_by.ensures.path
