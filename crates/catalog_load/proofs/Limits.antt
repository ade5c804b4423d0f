-- A catalogue without faults keeps to the limits.
use Rattle.std.proofs.Common.{◌≡◌, ℕ, ◌+◌, ◌<◌, ◌≤◌, Bool, true, false, List, [], ◌∷◌, ◌++◌, length, map, Option, Some, None, Ok, refl, sym, arith, nat_le, length-append, subst}
use Rattle.std.specs.List.{All, AllByRecursion}
use Rattle.std.proofs.lemmas.Bool.Decides.{nat_tests}
use Rattle.std.proofs.lemmas.List.{length-map}
use Rattle.std.proofs.lemmas.List.Elements.{All-head, All-tail, All-from_recursion}
use Rattle.postquel_tokens.specs.declared.fault.Spot.{Spot}
use Rattle.postquel_tokens.specs.declared.fault.What.{What}
use Rattle.postquel_tokens.specs.declared.fault.What.TheVariants as what
use Rattle.rows.specs.declared.plain.Relation.{Relation}
use Rattle.catalog_load.specs.declared.form.ColumnForm.{ColumnForm}
use Rattle.catalog_load.specs.declared.form.RelationForm.{RelationForm}
use Rattle.catalog_load.specs.declared.form.Flaw.{Flaw}
use Rattle.catalog_load.specs.Catalogs.{catalog_checks, check, column_checks, column_of, fault_of, first_of, has_column, has_relation, index_check, relation_checks, relation_of}
use Rattle.catalog_load.specs.Limits.{HasLimits}
use Rattle.catalog_load.specs.Readings.{IsReading}
use Rattle.catalog_load.proofs.Leading.{HasColumns}

abbrev HasSome : Relation → Type 0
HasSome r = 0 < length r.columns

abbrev HasFew : Relation → Type 0
HasFew r = length r.columns ≤ 32

none_first : (o : Option Flaw) (rest : List (Option Flaw)) → first_of (o ∷ rest) ≡ None → (o ≡ None) × (first_of rest ≡ None)
none_first None rest e = (refl, e)
none_first (Some f) rest e = cc

passed : (b : Bool) (w : What) (s : Spot) → check b w s ≡ None → b ≡ false
passed true w s e = cc
passed false w s e = refl

few_columns : (earlier cs : List ColumnForm) → length earlier ≤ 32 → first_of (column_checks earlier cs) ≡ None → length earlier + length cs ≤ 32
few_columns earlier [] h e = omega arith
few_columns earlier (c ∷ cs) h e =
    let a = none_first (check (nat_le 32 (length earlier)) what.TooManyColumns c.name.spot) (check (has_column earlier c.name.text) what.DoubleColumn c.name.spot ∷ column_checks (earlier ++ c ∷ []) cs) e in
    let b = none_first (check (has_column earlier c.name.text) what.DoubleColumn c.name.spot) (column_checks (earlier ++ c ∷ []) cs) a.1 in
    let below : nat_le 32 (length earlier) ≡ false = passed (nat_le 32 (length earlier)) what.TooManyColumns c.name.spot a.0 in
    let room : length earlier < 32 = grind (arith, nat_tests) in
    let one : length (earlier ++ c ∷ []) ≡ length earlier + 1 = length-append earlier (c ∷ []) in
    let more = few_columns (earlier ++ c ∷ []) cs (omega arith) b.1 in
    omega arith

entry_limits : (earlier : List RelationForm) (r : RelationForm) → first_of (relation_checks earlier r) ≡ None → (length earlier < 16) × (length r.columns ≤ 32)
entry_limits earlier r e =
    let a = none_first (check (nat_le 16 (length earlier)) what.TooManyRelations r.name.spot) (check (has_relation earlier r.name.text) what.DoubleRelation r.name.spot ∷ first_of (column_checks [] r.columns) ∷ index_check r.columns r.index ∷ []) e in
    let b = none_first (check (has_relation earlier r.name.text) what.DoubleRelation r.name.spot) (first_of (column_checks [] r.columns) ∷ index_check r.columns r.index ∷ []) a.1 in
    let d = none_first (first_of (column_checks [] r.columns)) (index_check r.columns r.index ∷ []) b.1 in
    let below : nat_le 16 (length earlier) ≡ false = passed (nat_le 16 (length earlier)) what.TooManyRelations r.name.spot a.0 in
    let few = few_columns [] r.columns (omega arith) d.0 in
    (grind (arith, nat_tests), omega (arith, few))

few_relations : (earlier rs : List RelationForm) → length earlier ≤ 16 → first_of (catalog_checks earlier rs) ≡ None → length earlier + length rs ≤ 16
few_relations earlier [] h e = omega arith
few_relations earlier (r ∷ rs) h e =
    let a = none_first (first_of (relation_checks earlier r)) (catalog_checks (earlier ++ r ∷ []) rs) e in
    let l = entry_limits earlier r a.0 in
    let one : length (earlier ++ r ∷ []) ≡ length earlier + 1 = length-append earlier (r ∷ []) in
    let more = few_relations (earlier ++ r ∷ []) rs (omega (arith, l.0)) a.1 in
    omega arith

each_few : (earlier rs : List RelationForm) → first_of (catalog_checks earlier rs) ≡ None → AllByRecursion HasFew (map relation_of rs)
each_few earlier [] e = tt
each_few earlier (r ∷ rs) e =
    let a = none_first (first_of (relation_checks earlier r)) (catalog_checks (earlier ++ r ∷ []) rs) e in
    let l = entry_limits earlier r a.0 in
    let same : length (map column_of r.columns) ≡ length r.columns = length-map r.columns column_of in
    (omega (arith, l.1), each_few (earlier ++ r ∷ []) rs a.1)

each_some : (rs : List RelationForm) → All HasColumns rs → AllByRecursion HasSome (map relation_of rs)
each_some [] some = tt
each_some (r ∷ rs) some =
    let same : length (map column_of r.columns) ≡ length r.columns = length-map r.columns column_of in
    let first = All-head HasColumns r rs some in
    (omega (arith, first), each_some rs (All-tail HasColumns r rs some))

of_entries : (entries : List RelationForm) → All HasColumns entries → fault_of entries ≡ None → HasLimits (map relation_of entries)
of_entries entries some none =
    let count : length (map relation_of entries) ≡ length entries = length-map entries relation_of in
    let few = few_relations [] entries (omega arith) none in
    record {
      relations = omega arith;
      some = All-from_recursion HasSome (map relation_of entries) (each_some entries some);
      few = All-from_recursion HasFew (map relation_of entries) (each_few [] entries none);
    }

pub limits : (text : List ℕ) (catalog : List Relation) → IsReading text (Ok catalog) → HasLimits catalog
limits text catalog (entries, writes, none, is) = subst HasLimits (sym is) (of_entries entries writes.form.columns none)
