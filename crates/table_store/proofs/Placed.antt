-- Items that are put at places one after the other, and the entries of an index there.
use Rattle.std.proofs.Common.{◌≡◌, ℕ, zero, suc, ◌+◌, ◌*◌, ◌<◌, ◌≤◌, Bool, true, false, cond, leb, not, List, [], ◌∷◌, ◌++◌, length, get_or, drop, map, Some, inl, inr, refl, sym, ap, subst, ◌∙◌, append_assoc, arith}
use Rattle.std.specs.Prelude.{slice_get}
use Rattle.std.specs.List.{All, AllByRecursion, range_with_len}
use Rattle.std.specs.declared.cmp.Ordering.{Ordering}
use Rattle.std.specs.declared.cmp.Ordering.TheVariants.{Less, Equal, Greater}
use Rattle.std.specs.Ordering.{nat_cmp, ordering_then}
use Rattle.std.specs.Cmp.{IsTotalOrder}
use Rattle.std.proofs.lemmas.Bool.{le-leb, lt-leb, cases_lt}
use Rattle.std.proofs.lemmas.Cmp.{nat_cmp_total, on_total, then_total}
use Rattle.std.proofs.lemmas.List.{append-nil, drop_all, drop_more, length-append}
use Rattle.std.proofs.lemmas.List.Elements.{All-append, All-map, All-nil, All-weaker, All-from_recursion, filter-append, recursion_from_All}
use Rattle.std.proofs.lemmas.List.FromFn.{length-range_with_len, get_or-range_with_len, map-range_with_len_more}
use Rattle.std.proofs.lemmas.List.Sorted.{All-permutation, length_permutation}
use Rattle.std.proofs.lemmas.Map.Lookups.{CmpEqualImpliesEq, exact_unsigned}
use Rattle.lists.proofs.Arranging.{bag_fixes, occurrences-permutation}
use Rattle.heap_page.specs.Blocks.{FitsAlone, blocks_of, item_weight, laid, weight_of}
use Rattle.heap_page.proofs.Cut.{laid_end, laid_more, laid_next, weight-append}
use Rattle.key_index.specs.Entries.{AreEntries, IsEntry, entry_cmp}
use Rattle.rows.specs.declared.field.ColType.{ColType}
use Rattle.rows.specs.declared.plain.Column.{Column}
use Rattle.rows.specs.declared.plain.KeyEntry.{KeyEntry}
use Rattle.rows.specs.declared.value.Value.{Value}
use Rattle.rows.specs.declared.value.Value.TheVariants.{Null, Number, Word, Truth}
use Rattle.rows.specs.RowBytes.{IsOfType, IsRowOf, IsValueOf}
use Rattle.rows.specs.Values.{column_of, value_cmp, is_null}
use Rattle.rows.proofs.Orders.{value_exact, value_total}
use Rattle.table_store.specs.declared.entries.Filling.{Filling}
use Rattle.table_store.specs.Entries.{IsIndexOf, Place, at_places, behind, keyed, keys_of, placed, places_from, places_of, places_on, put_at, type_at}
use Rattle.table_store.proofs.Cut.{are_pages}

-- ---- where items are put

abbrev pub spot : Filling → Place
spot f = record { page = f.page; slot = f.slot }

-- the places of items that are put one after the other
abbrev pub puts : Filling → List (List ℕ) → List Place
puts f [] = []
puts f (x ∷ xs) = spot (put_at f x) ∷ puts (behind (put_at f x) x) xs

abbrev pub start : Filling
start = record { page = 0; slot = 0; used = 0 }

put_here : (f : Filling) (x : List ℕ) → f.used + item_weight x ≤ 8172 → put_at f x ≡ f
put_here f x h = let e : leb (f.used + item_weight x) 8172 ≡ true = le-leb _ _ h in rw e refl

put_next : (f : Filling) (x : List ℕ) → 8172 < f.used + item_weight x → put_at f x ≡ record { page = f.page + 1; slot = 0; used = 0 }
put_next f x h = let e : leb (f.used + item_weight x) 8172 ≡ false = lt-leb _ _ h in rw e refl

abbrev after : ℕ → ℕ → ℕ → Filling
after page slot used = record { page = page; slot = slot; used = used }

places_more : (page : ℕ) (part : List (List ℕ)) (x : List ℕ) → places_on page (part ++ x ∷ []) ≡ places_on page part ++ record { page = page; slot = length part } ∷ []
places_more page part x =
    let f : ℕ → Place = λ slot. record { page = page; slot = slot } in
    let n : length (part ++ x ∷ []) ≡ length part + 1 = length-append part (x ∷ []) in
    ap (λ (k : ℕ). map f (range_with_len 0 k)) n ∙ map-range_with_len_more f 0 (length part) (length part) (omega arith)

laid_here : (page : ℕ) (part : List (List ℕ)) (x : List ℕ) (xs : List (List ℕ)) → weight_of item_weight part + item_weight x ≤ 8172 →
    places_from page (laid item_weight 8172 (part ++ x ∷ []) xs) ≡ places_on page (part ++ x ∷ []) ++ puts (after page (length (part ++ x ∷ [])) (weight_of item_weight (part ++ x ∷ []))) xs →
    places_from page (laid item_weight 8172 part (x ∷ xs)) ≡ places_on page part ++ puts (after page (length part) (weight_of item_weight part)) (x ∷ xs)
laid_here page part x xs le rest =
    let w : weight_of item_weight (part ++ x ∷ []) ≡ weight_of item_weight part + item_weight x = weight-append item_weight 8172 part (x ∷ []) ∙ omega arith in
    let n : length (part ++ x ∷ []) ≡ length part + 1 = length-append part (x ∷ []) in
    let f : Filling = after page (length part) (weight_of item_weight part) in
    let more : List Place = puts (behind f x) xs in
    let here : puts f (x ∷ xs) ≡ spot f ∷ more = ap (λ (g : Filling). spot g ∷ puts (behind g x) xs) (put_here f x le) in
    ap (places_from page) (laid_more item_weight 8172 part x xs (omega (arith, w, le)))
    ∙ (rest
    ∙ (ap (λ (k : ℕ). places_on page (part ++ x ∷ []) ++ puts (after page k (weight_of item_weight (part ++ x ∷ []))) xs) n
    ∙ (ap (λ (k : ℕ). places_on page (part ++ x ∷ []) ++ puts (after page (length part + 1) k) xs) w
    ∙ (ap (λ (ps : List Place). ps ++ more) (places_more page part x)
    ∙ (append_assoc (places_on page part) (spot f ∷ []) more
    ∙ ap (λ (ps : List Place). places_on page part ++ ps) (sym here))))))

laid_over : (page : ℕ) (part : List (List ℕ)) (x : List ℕ) (xs : List (List ℕ)) → 8172 < weight_of item_weight part + item_weight x →
    places_from (page + 1) (laid item_weight 8172 (x ∷ []) xs) ≡ places_on (page + 1) (x ∷ []) ++ puts (after (page + 1) 1 (item_weight x + 0)) xs →
    places_from page (laid item_weight 8172 part (x ∷ xs)) ≡ places_on page part ++ puts (after page (length part) (weight_of item_weight part)) (x ∷ xs)
laid_over page part x xs over rest =
    let w : weight_of item_weight (part ++ x ∷ []) ≡ weight_of item_weight part + item_weight x = weight-append item_weight 8172 part (x ∷ []) ∙ omega arith in
    let f : Filling = after page (length part) (weight_of item_weight part) in
    let e : item_weight x + 0 ≡ 0 + item_weight x = omega arith in
    let next : puts f (x ∷ xs) ≡ record { page = page + 1; slot = 0 } ∷ puts (after (page + 1) 1 (0 + item_weight x)) xs = ap (λ (g : Filling). spot g ∷ puts (behind g x) xs) (put_next f x over) in
    ap (places_from page) (laid_next item_weight 8172 part x xs (omega (arith, w, over)))
    ∙ ap (λ (ps : List Place). places_on page part ++ ps)
    (rest ∙ (ap (λ (k : ℕ). places_on (page + 1) (x ∷ []) ++ puts (after (page + 1) 1 k) xs) e ∙ sym next))

laid_places : (page : ℕ) (part xs : List (List ℕ)) → places_from page (laid item_weight 8172 part xs) ≡ places_on page part ++ puts (after page (length part) (weight_of item_weight part)) xs
laid_places page part [] = ap (places_from page) (laid_end item_weight 8172 part)
laid_places page part (x ∷ xs) = elim (cases_lt 8172 (weight_of item_weight part + item_weight x)) [
  | inl over ↦ laid_over page part x xs over (laid_places (page + 1) (x ∷ []) xs)
  | inr le ↦ laid_here page part x xs le (laid_places page (part ++ x ∷ []) xs)
]

-- the items are put at their places in the blocks
pub puts_are : (items : List (List ℕ)) → All FitsAlone items → puts start items ≡ places_of (blocks_of item_weight 8172 items)
puts_are [] each = refl
puts_are (x ∷ xs) each =
    let fit = each 0 [] (omega arith) in
    let e : 0 + item_weight x ≡ item_weight x + 0 = omega arith in
    ap (λ (g : Filling). spot g ∷ puts (behind g x) xs) (put_here start x (omega (arith, fit)))
    ∙ (ap (λ (k : ℕ). spot start ∷ puts (after 0 1 k) xs) e ∙ sym (laid_places 0 (x ∷ []) xs))

-- ---- the entries so far

-- the entries of these rows at these places
abbrev pub entries_at : ℕ → List (List Value) → List Place → List KeyEntry
entries_at column rows places = keyed (at_places (keys_of column rows) places)

-- so many rows are done: their entries, with those of the rows left over, are those of all rows
pub record Placing (column : ℕ) (rows : List (List Value)) (items : List (List ℕ)) (done : ℕ) (f : Filling) (entries : List KeyEntry) : Type 0 where
  pub pages : f.page ≤ done
  pub slots : 4 * f.slot ≤ f.used
  pub within : f.used ≤ 8172
  pub told : entries ++ entries_at column (drop done rows) (puts f (drop done items)) ≡ entries_at column rows (puts start items)

pub none_placed : (column : ℕ) (rows : List (List Value)) (items : List (List ℕ)) → Placing column rows items 0 start []
none_placed column rows items = record { pages = omega arith; slots = omega arith; within = omega arith; told = refl }

pub record Put (f g : Filling) (x : List ℕ) : Type 0 where
  pub pages : g.page ≤ f.page + 1
  pub slots : 4 * g.slot ≤ g.used
  pub within : g.used + item_weight x ≤ 8172

pub put_bounds : (f g : Filling) (x : List ℕ) → g ≡ put_at f x → 4 * f.slot ≤ f.used → FitsAlone x → Put f g x
put_bounds f g x is slots fit = subst (λ (h : Filling). Put f h x) (sym is) (elim (cases_lt 8172 (f.used + item_weight x)) [
  | inl over ↦ subst (λ (h : Filling). Put f h x) (sym (put_next f x over)) (record { pages = omega arith; slots = omega arith; within = omega (arith, fit) })
  | inr le ↦ subst (λ (h : Filling). Put f h x) (sym (put_here f x le)) (record { pages = omega arith; slots = slots; within = le })
])

pub one_placed : (column : ℕ) (rows : List (List Value)) (items : List (List ℕ)) (done : ℕ) (f g h : Filling) (old new : List KeyEntry) (row : List Value) (x : List ℕ) →
    done < length rows → done < length items → row ≡ get_or rows done row → x ≡ get_or items done x → FitsAlone x → g ≡ put_at f x → h ≡ behind g x →
    new ≡ old ++ keyed (record { key = column_of row column; page = g.page; slot = g.slot } ∷ []) →
    Placing column rows items done f old → Placing column rows items (done + 1) h new
one_placed column rows items done f g h old new row x lt lt2 row_is x_is fit put go is p =
    let b = put_bounds f g x put p.slots fit in
    let e : KeyEntry = record { key = column_of row column; page = g.page; slot = g.slot } in
    let rows_left : drop done rows ≡ row ∷ drop (done + 1) rows = drop_more rows done row lt ∙ ap (λ (r : List Value). r ∷ drop (done + 1) rows) (sym row_is) in
    let items_left : drop done items ≡ x ∷ drop (done + 1) items = drop_more items done x lt2 ∙ ap (λ (y : List ℕ). y ∷ drop (done + 1) items) (sym x_is) in
    let rest : List KeyEntry = at_places (keys_of column (drop (done + 1) rows)) (puts (behind g x) (drop (done + 1) items)) in
    let split : keyed (e ∷ []) ++ keyed rest ≡ keyed (e ∷ rest) = sym (filter-append (λ (k : KeyEntry). not (is_null k.key)) (e ∷ []) rest) in
    let turned : keyed (e ∷ rest) ≡ entries_at column (drop done rows) (puts f (drop done items)) =
    ap (λ (q : Filling). entries_at column (row ∷ drop (done + 1) rows) (spot q ∷ puts (behind q x) (drop (done + 1) items))) put
    ∙ (ap (λ (rs : List (List Value)). entries_at column rs (puts f (x ∷ drop (done + 1) items))) (sym rows_left)
    ∙ ap (λ (ys : List (List ℕ)). entries_at column (drop done rows) (puts f ys)) (sym items_left)) in
    subst (λ (q : Filling). Placing column rows items (done + 1) q new) (sym go) (record {
      pages = omega (arith, b.pages, p.pages);
      slots = omega (arith, b.slots);
      within = b.within;
      told = ap (λ (es : List KeyEntry). es ++ keyed rest) is
          ∙ (append_assoc old (keyed (e ∷ [])) (keyed rest)
          ∙ (ap (λ (es : List KeyEntry). old ++ es) (split ∙ turned) ∙ p.told));
    })

pub all_placed : (column : ℕ) (rows : List (List Value)) (items : List (List ℕ)) (done : ℕ) (f : Filling) (entries : List KeyEntry) → length rows ≤ done → All FitsAlone items → Placing column rows items done f entries →
    entries ≡ placed column rows (blocks_of item_weight 8172 items)
all_placed column rows items done f entries le each p =
    sym (append-nil entries)
    ∙ (ap (λ (rs : List (List Value)). entries ++ entries_at column rs (puts f (drop done items))) (sym (drop_all done rows le))
    ∙ (p.told ∙ ap (entries_at column rows) (puts_are items each)))

-- ---- one of the items

pub item_there : (items : List (List ℕ)) (i : ℕ) (x : List ℕ) → slice_get items i ≡ Some x → x ≡ get_or items i x
item_there [] i x at = absurd cc
item_there (y ∷ ys) zero x at = cc
item_there (y ∷ ys) (suc i) x at = item_there ys i x at

pub item_fits : (items : List (List ℕ)) (i : ℕ) (x : List ℕ) → i < length items → slice_get items i ≡ Some x → All FitsAlone items → FitsAlone x
item_fits items i x lt at each = subst FitsAlone (sym (item_there items i x at)) (each i x lt)

-- ---- what each entry is

abbrev Within : ℕ → Place → Type 0
Within bound at = (at.page < bound) × (at.slot < 65536)

items_few : (items : List (List ℕ)) → 4 * length items ≤ weight_of item_weight items
items_few [] = omega arith
items_few (x ∷ xs) = omega (arith, items_few xs)

all_below : (n : ℕ) → All (λ k. k < n) (range_with_len 0 n)
all_below n k d h =
    let h' : k < n = subst (λ m. k < m) (length-range_with_len 0 n) h in
    let e : 0 + k ≡ k = omega arith in
    subst (λ m. m < n) (sym (get_or-range_with_len 0 n k d h' ∙ e)) h'

on_page : (bound page : ℕ) (items : List (List ℕ)) → page < bound → weight_of item_weight items ≤ 8172 → All (Within bound) (places_on page items)
on_page bound page items lt fit =
    All-map (Within bound) (λ slot. record { page = page; slot = slot }) (range_with_len 0 (length items))
    (All-weaker (λ k. k < length items) (λ k. (page < bound) × (k < 65536)) (λ k less. (lt, omega (arith, less, fit, items_few items))) (range_with_len 0 (length items)) (all_below (length items)))

on_pages : (bound first : ℕ) (blocks : List (List (List ℕ))) → first + length blocks ≤ bound → AllByRecursion (λ b. (0 < length b) × (weight_of item_weight b ≤ 8172)) blocks → All (Within bound) (places_from first blocks)
on_pages bound first [] le fit = All-nil (Within bound)
on_pages bound first (b ∷ bs) le fit =
    All-append (Within bound) (places_on first b) (places_from (first + 1) bs) (on_page bound first b (omega (arith, le)) fit.0.1) (on_pages bound (first + 1) bs (omega (arith, le)) fit.1)

value_typed : (c : Column) (v : Value) → IsValueOf c v → is_null v ≡ false → IsOfType c.col_type v
value_typed c Null h e = cc
value_typed c (Number n) h e = h
value_typed c (Word w) h e = h
value_typed c (Truth b) h e = h

column_typed : (columns : List Column) (row : List Value) (column : ℕ) → column < length columns → IsRowOf columns row → is_null (column_of row column) ≡ false → IsOfType (type_at columns column) (column_of row column)
column_typed [] row column lt h e = absurd (omega (arith, lt))
column_typed (c ∷ cs) [] column lt h e = elim h [ ]
column_typed (c ∷ cs) (v ∷ vs) zero lt h e = value_typed c v h.0 e
column_typed (c ∷ cs) (v ∷ vs) (suc n) lt h e = column_typed cs vs n (omega (arith, lt)) h.1 e

module _ (columns : List Column) (column : ℕ) (lt : column < length columns) (bound : ℕ) where
  abbrev Fine : KeyEntry → Type 0
  Fine e = IsEntry (type_at columns column) bound e

  fine : (rows : List (List Value)) (places : List Place) → AllByRecursion (IsRowOf columns) rows → AllByRecursion (Within bound) places → AllByRecursion Fine (entries_at column rows places)
  fine [] places h k = tt
  fine (r ∷ rs) [] h k = tt
  fine (r ∷ rs) (p ∷ ps) h k = by (is_null (column_of r column)) refl (fine rs ps h.1 k.1) where
    by : (b : Bool) → is_null (column_of r column) ≡ b → AllByRecursion Fine (entries_at column rs ps) →
        AllByRecursion Fine (cond (not b) (record { key = column_of r column; page = p.page; slot = p.slot } ∷ entries_at column rs ps) (entries_at column rs ps))
    by true e rest = rest
    by false e rest = ((column_typed columns r column lt h.0 e, k.0.0, k.0.1), rest)

few_entries : (column : ℕ) (rows : List (List Value)) (places : List Place) → length (entries_at column rows places) ≤ length rows
few_entries column [] places = omega arith
few_entries column (r ∷ rs) [] = omega arith
few_entries column (r ∷ rs) (p ∷ ps) = by (is_null (column_of r column)) (few_entries column rs ps) where
  by : (b : Bool) → length (entries_at column rs ps) ≤ length rs →
      length (cond (not b) (record { key = column_of r column; page = p.page; slot = p.slot } ∷ entries_at column rs ps) (entries_at column rs ps)) ≤ length (r ∷ rs)
  by true h = omega (arith, h)
  by false h = omega (arith, h)

-- the entries of an index can stand in one
pub are_entries : (columns : List Column) (column : ℕ) (rows : List (List Value)) (items : List (List ℕ)) (entries : List KeyEntry) → column < length columns → All (IsRowOf columns) rows → length rows ≤ 1000000 → All FitsAlone items →
    IsIndexOf column rows (blocks_of item_weight 8172 items) entries → AreEntries (type_at columns column) (length (blocks_of item_weight 8172 items)) entries
are_entries columns column rows items entries lt each few fit is =
    let blocks = blocks_of item_weight 8172 items in
    let bound = length blocks in
    let p : ColType = type_at columns column in
    let places = on_pages bound 0 blocks (omega arith) (are_pages items fit).fit in
    let all = fine columns column lt bound rows (places_of blocks) (recursion_from_All (IsRowOf columns) rows each) (recursion_from_All (Within bound) (places_of blocks) places) in
    record {
      few = omega (arith, length_permutation (placed column rows blocks) entries is.same, few_entries column rows (places_of blocks), few);
      ordered = is.ordered;
      each = recursion_from_All (IsEntry p bound) entries (All-permutation (IsEntry p bound) (placed column rows blocks) entries is.same (All-from_recursion (IsEntry p bound) (placed column rows blocks) all));
    }

-- ---- there is one such list

pub entry_total : IsTotalOrder entry_cmp
entry_total = then_total (on_total (λ (e : KeyEntry). e.key) value_total) (then_total (on_total (λ (e : KeyEntry). e.page) nat_cmp_total) (on_total (λ (e : KeyEntry). e.slot) nat_cmp_total))

then_equal : (r s : Ordering) → ordering_then r s ≡ Equal → (r ≡ Equal) × (s ≡ Equal)
then_equal Less s e = cc
then_equal Equal s e = (refl, e)
then_equal Greater s e = cc

entry_exact : CmpEqualImpliesEq entry_cmp
entry_exact a b e =
    let one = then_equal (value_cmp a.key b.key) (ordering_then (nat_cmp a.page b.page) (nat_cmp a.slot b.slot)) e in
    let two = then_equal (nat_cmp a.page b.page) (nat_cmp a.slot b.slot) one.1 in
    pieces a.key a.page a.slot b (value_exact a.key b.key one.0) (exact_unsigned a.page b.page two.0) (exact_unsigned a.slot b.slot two.1) where
      pieces : (key : Value) (page slot : ℕ) (e : KeyEntry) → key ≡ e.key → page ≡ e.page → slot ≡ e.slot → ◌≡◌ {A = KeyEntry} (record { key = key; page = page; slot = slot }) e
      pieces key page slot e k p s = rw (k, p, s) refl

pub only_index : (column : ℕ) (rows : List (List Value)) (blocks : List (List (List ℕ))) (one two : List KeyEntry) → IsIndexOf column rows blocks one → IsIndexOf column rows blocks two → one ≡ two
only_index column rows blocks one two h k =
    bag_fixes entry_total entry_exact one two h.ordered k.ordered
    (λ z. occurrences-permutation entry_total z (placed column rows blocks) one h.same ∙ sym (occurrences-permutation entry_total z (placed column rows blocks) two k.same))
