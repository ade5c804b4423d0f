-- The rows of places in turn.
use Rattle.std.proofs.Common.{◌≡◌, ℕ, zero, suc, ◌+◌, ◌<◌, ◌≤◌, Bool, true, false, List, [], ◌∷◌, ◌++◌, append_assoc, length, map, drop, get_or, Some, None, Option, cond, ◌==◌, is_some, refl, sym, ap, ◌∙◌, subst, arith}
use Rattle.std.proofs.lemmas.Bool.Decides.{nat_tests}
use Rattle.std.specs.List.{AllByRecursion, All, filter, flat_map}
use Rattle.std.proofs.lemmas.List.{drop_more, append-nil}
use Rattle.std.proofs.lemmas.List.Elements.{All-cons, All-nil, filter-append}
use Rattle.std.proofs.Math.ListN.{drop_of_length-le}
use Rattle.rows.specs.declared.value.Value.{Value}
use Rattle.rows.specs.declared.field.ColType.TheVariants as col
use Rattle.rows.specs.declared.plain.LayoutColumn.{LayoutColumn}
use Rattle.rows.specs.declared.plain.LayoutPart.{LayoutPart}
use Rattle.rows.specs.Layouts.{IsRowIn, column_in}
use Rattle.plan_tree.specs.Assignments.{Assignment}
use Rattle.plan_tree.specs.Conjuncts.{all_met}
use Rattle.plan_tree.specs.Combining.{combined, values_of}
use Rattle.plan_tree.specs.Rows.{kept, probed}
use Rattle.rows.specs.Keys.{keys_match}
use Rattle.plan_tree.specs.Pieces.{Probing}
use Rattle.plan_tree.specs.Fragments.{added, after_probe, value_at}
use Rattle.plan_tree.proofs.Ascending.{above_filter}
use Rattle.plan_tree.proofs.Combined.{part_of_merged, part_some}
use Rattle.plan_tree.proofs.Elements.{all_filter, all_flat, all_map}
use Rattle.plan_tree.proofs.Shapes.{added_apart, distinct_ordered, filter_ordered}
use Rattle.plan_tree.proofs.Typing.{combined_fits}
use Rattle.plan_tree.specs.Combining.{AreApart, IsOrdered, has_part, part_of}
use Rattle.std.specs.Prelude.{not}
use Rattle.hash_join.specs.declared.table.RowPlace.{RowPlace}
use Rattle.hash_join.specs.Table.{IsColumn, IsPlace, Table, key_of, matching, places_of, row_at, rows_of}
use Rattle.pipeline.specs.Probes.{CanProbe, joined, probe_key}
use Rattle.hash_join.proofs.Matched.{matched_rows}
use Rattle.hash_join.proofs.Places.{keys_are}
use Rattle.merge_join.proofs.InOrder.{pairs_there}

-- a row with the rows at these places, where the tests are true
abbrev pub made : List LayoutPart → Probing → List (List (List Value)) → List Value → List RowPlace → List (List Value)
made before p lists row at = kept p.layout p.tests (map (λ b. combined p.layout (added before p.layout) before b row) (map (row_at lists) at))

-- one place more
pub made_more : (before : List LayoutPart) (p : Probing) (lists : List (List (List Value))) (row : List Value) (found : List RowPlace) (i : ℕ) (at : RowPlace) (b : List Value) (first : List LayoutPart) (old new whole : List (List Value)) → i < length found → b ≡ row_at lists (get_or found i at) →
    first ≡ added before p.layout → new ≡ old ++ kept p.layout p.tests (combined p.layout first before b row ∷ []) → old ++ made before p lists row (drop i found) ≡ whole → new ++ made before p lists row (drop (i + 1) found) ≡ whole
made_more before p lists row found i at b first old new whole lt is same put told =
    let one = combined p.layout (added before p.layout) before (row_at lists (get_or found i at)) row in
    let k : made before p lists row (drop i found) ≡ kept p.layout p.tests (one ∷ []) ++ made before p lists row (drop (i + 1) found) =
    ap (made before p lists row) (drop_more found i at lt)
    ∙ filter-append (λ r. all_met p.tests (column_in p.layout r)) (one ∷ []) (map (λ c. combined p.layout (added before p.layout) before c row) (map (row_at lists) (drop (i + 1) found))) in
    let e : new ≡ old ++ kept p.layout p.tests (one ∷ []) = put ∙ (λ j. old ++ kept p.layout p.tests (combined p.layout (same j) before (is j) row ∷ [])) in
    rw (e, append_assoc, ← k) told

-- all places
pub made_all : (before : List LayoutPart) (p : Probing) (table : Table) (row key : List Value) (found : List RowPlace) (i : ℕ) (old new : List (List Value)) → CanProbe before p table → key ≡ probe_key before p.keys row → found ≡ matching table key → length found ≤ i →
    new ++ made before p table.lists row (drop i found) ≡ old ++ made before p table.lists row found → new ≡ old ++ joined before p (rows_of table.lists) row
made_all before p table row key found i old new can is match le told =
    let rest : drop i found ≡ [] = drop_of_length-le found le in
    let rows : map (row_at table.lists) found ≡ filter (λ b. keys_match (added before p.layout) before p.keys b row) (rows_of table.lists) =
    ap (map (row_at table.lists)) (match ∙ ap (matching table) is) ∙ matched_rows table (added before p.layout) before p.keys row can.fits.keys in
    sym (append-nil new) ∙ (ap (λ x. new ++ made before p table.lists row x) (sym rest) ∙ (told ∙ ap (λ rs. old ++ kept p.layout p.tests (map (λ b. combined p.layout (added before p.layout) before b row) rs)) rows))

every : {X : Type 0} (P : X → Type 0) (xs : List X) → AllByRecursion P xs → All P xs
every P [] all = All-nil P
every P (x ∷ xs) all = All-cons P x xs all.0 (every P xs all.1)

-- a row's values at the places of the keys' columns are its key
pub key_is : (before : List LayoutPart) (p : Probing) (table : Table) (row : List Value) → CanProbe before p table → key_of (places_of before (map (λ key. key.probe) p.keys)) row ≡ probe_key before p.keys row
key_is before p table row can = keys_are before (map (λ key. key.probe) p.keys) [] (every (IsColumn before) (map (λ key. key.probe) p.keys) (pairs_there (added before p.layout) before p.keys can.pairs).1) row

-- ---- the rows of a table fit

list_at : (P : List Value → Type 0) (rows : List (List Value)) (n : ℕ) → AllByRecursion P rows → n < length rows → P (get_or rows n [])
list_at P [] n all lt = absurd (omega (arith, lt))
list_at P (x ∷ xs) zero all lt = all.0
list_at P (x ∷ xs) (suc n) all lt = list_at P xs n all.1 (omega (arith, lt))

all_left : (P : List Value → Type 0) (xs ys : List (List Value)) → AllByRecursion P (xs ++ ys) → AllByRecursion P xs
all_left P [] ys all = tt
all_left P (x ∷ xs) ys all = (all.0, all_left P xs ys all.1)

all_right : (P : List Value → Type 0) (xs ys : List (List Value)) → AllByRecursion P (xs ++ ys) → AllByRecursion P ys
all_right P [] ys all = all
all_right P (x ∷ xs) ys all = all_right P xs ys all.1

all_of : (P : List Value → Type 0) (lists : List (List (List Value))) (n : ℕ) → AllByRecursion P (rows_of lists) → n < length lists → AllByRecursion P (get_or lists n [])
all_of P [] n all lt = absurd (omega (arith, lt))
all_of P (x ∷ xs) zero all lt = all_left P x (rows_of xs) all
all_of P (x ∷ xs) (suc n) all lt = all_of P xs n (all_right P x (rows_of xs) all) (omega (arith, lt))

pub place_fits : (P : List Value → Type 0) (lists : List (List (List Value))) (at : RowPlace) (b : List Value) → AllByRecursion P (rows_of lists) → IsPlace lists at → b ≡ row_at lists at → P b
place_fits P lists at b all place is = subst P (sym is) (list_at P (get_or lists at.position []) at.place (all_of P lists at.position all place.0) place.1)

pub joined_fits : (before first : List LayoutPart) (p : Probing) (table : Table) (b row : List Value) → CanProbe before p table → first ≡ added before p.layout → IsRowIn first b → IsRowIn before row → IsRowIn p.layout (combined p.layout first before b row)
joined_fits before first p table b row can same fb fr =
    let up_added = filter_ordered (λ part. not (has_part before part.var)) p.layout can.ordered in
    let apart = added_apart before p.layout in
    let parts = λ (v : ℕ). ap (λ l. part_of l v) can.layouts ∙ part_of_merged (added before p.layout) before apart (distinct_ordered (added before p.layout) up_added) v in
    subst (λ f. IsRowIn p.layout (combined p.layout f before b row)) (sym same)
    (combined_fits p.layout (added before p.layout) before parts (distinct_ordered p.layout can.ordered) b row (subst (λ f. IsRowIn f b) same fb) fr)

-- ---- all rows

filter_flat : {X Y : Type 0} (q : Y → Bool) (g : X → List Y) (xs : List X) → filter q (flat_map g xs) ≡ flat_map (λ x. filter q (g x)) xs
filter_flat q g [] = refl
filter_flat q g (x ∷ xs) = filter-append q (g x) (flat_map g xs) ∙ ap (λ ys. filter q (g x) ++ ys) (filter_flat q g xs)

-- row by row, or all at once
pub probed_are : (before : List LayoutPart) (p : Probing) (values : List (List (List Value))) (built rows : List (List Value)) → value_at values p.input ≡ built → flat_map (joined before p built) rows ≡ after_probe values before p rows
probed_are before p values built rows is =
    sym (filter_flat (λ row. all_met p.tests (column_in p.layout row)) (λ row. map (λ b. combined p.layout (added before p.layout) before b row) (filter (λ b. keys_match (added before p.layout) before p.keys b row) built)) rows)
    ∙ ap (λ xs. kept p.layout p.tests (probed p.layout (added before p.layout) before p.keys xs rows)) (sym is)

pub probed_fit : (before : List LayoutPart) (p : Probing) (table : Table) (rows : List (List Value)) → CanProbe before p table → AllByRecursion (IsRowIn before) rows → AllByRecursion (IsRowIn p.layout) (flat_map (joined before p (rows_of table.lists)) rows)
probed_fit before p table rows can fits =
    all_flat (IsRowIn before) (IsRowIn p.layout) (joined before p (rows_of table.lists))
    (λ row fr. all_filter (IsRowIn p.layout) (λ r. all_met p.tests (column_in p.layout r)) _
    (all_map (IsRowIn (added before p.layout)) (IsRowIn p.layout) (λ b. combined p.layout (added before p.layout) before b row) (λ b fb. joined_fits before (added before p.layout) p table b row can refl fb fr)
    _ (all_filter (IsRowIn (added before p.layout)) (λ b. keys_match (added before p.layout) before p.keys b row) (rows_of table.lists) can.fits.rows))) rows fits
