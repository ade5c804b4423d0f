-- Places by the hashes of their keys, and what is found among them.
use Rattle.std.proofs.Common.{◌≡◌, ℕ, ◌+◌, ◌-◌, ◌<◌, ◌≤◌, Bool, true, false, ◌&&◌, cond, List, [], ◌∷◌, refl, sym, ap, ◌∙◌, subst, arith, length, filter, map, take, drop, get_or, eqb, true≢false}
use Rattle.std.specs.Prelude.{Result, Ok, Err, IfOk}
use Rattle.std.specs.Cmp.Lexicographic.{slice_cmp}
use Rattle.std.specs.Cmp.{IsTotalOrder}
use Rattle.std.specs.Ordering.{is_eq, is_le, is_lt, nat_cmp, ordering_then}
use Rattle.std.specs.List.{All}
use Rattle.std.specs.List.Sorted.{IsNonDecreasing, IsNonDecreasingBy, IsPartitionPoint, IsSortedBy}
use Rattle.std.proofs.lemmas.Bool.{ne_eqb}
use Rattle.std.proofs.lemmas.Cmp.{nat_cmp_total, on_total, then_total, tied_itself, ranked}
use Rattle.std.proofs.lemmas.List.{get_or-drop, get_or-map, get_or-take, length-drop, length-map, length-take-le}
use Rattle.std.proofs.lemmas.List.Elements.{All-head, All-map, All-tail, filter_agree}
use Rattle.std.proofs.lemmas.List.Sorted.{All-permutation, IsNonDecreasingBy-from_all_adjacent, IsPermutation-trans}
use Rattle.std.proofs.lemmas.Map.Lookups.{CmpEqualImpliesEq, exact_unsigned}
use Rattle.std.specs.declared.cmp.Ordering.{Ordering}
use Rattle.std.specs.declared.cmp.Ordering.TheVariants.{Less, Equal, Greater}
use Rattle.rows.proofs.Orders.{row_exact, row_total}
use Rattle.rows.specs.declared.value.Value.{Value}
use Rattle.rows.specs.Values.{value_cmp}
use Rattle.hash_join.specs.declared.buckets.Entry.{Entry}
use Rattle.hash_join.specs.declared.table.RowPlace.{RowPlace}
use Rattle.hash_join.specs.Hash.{hash_of}
use Rattle.hash_join.specs.Table.{Table, key_of, has_key, place_at, places}
use Rattle.hash_join.specs.Found.{AreFound, AreStarts, IsRange, comes_first, entry_cmp, hash_at, is_below, key_at}
use Rattle.hash_join.specs.Making.{AreOrdered, IsSorting, entry_of, goes_first, has_less_hash, pair_of, places_in_order}
use Rattle.hash_join.proofs.Matched.{map_filter, then_eq}
use Rattle.hash_join.proofs.Runs.{equal_slice}
use Rattle.hash_join.proofs.Stable.{stable_keys}

-- what passes one test and so another
filter_both : {X : Type 0} (p q : X → Bool) → ((x : X) → p x ≡ true → q x ≡ true) → (xs : List X) → filter p (filter q xs) ≡ filter p xs
filter_both p q imply [] = refl
filter_both p q imply (x ∷ xs) = by (p x) (q x) refl refl (filter_both p q imply xs) where
  by : (a b : Bool) → p x ≡ a → q x ≡ b → filter p (filter q xs) ≡ filter p xs → filter p (filter q (x ∷ xs)) ≡ filter p (x ∷ xs)
  by a true e f rest = ap (λ c. filter p (cond c (x ∷ filter q xs) (filter q xs))) f ∙ ap (λ ys. cond (p x) (x ∷ ys) ys) rest
  by true false e f rest = absurd (true≢false (sym (imply x e) ∙ f))
  by false false e f rest = ap (λ c. filter p (cond c (x ∷ filter q xs) (filter q xs))) f ∙ rest ∙ sym (ap (λ c. cond c (x ∷ filter p xs) (filter p xs)) e)

equal_if : (o : Ordering) → is_eq o ≡ true → o ≡ Equal
equal_if Less h = cc
equal_if Equal h = refl
equal_if Greater h = cc

first_equal : (a b : Ordering) → ordering_then a b ≡ Equal → a ≡ Equal
first_equal Less b h = cc
first_equal Equal b h = refl
first_equal Greater b h = cc

second_equal : (a b : Ordering) → ordering_then a b ≡ Equal → b ≡ Equal
second_equal Less b h = cc
second_equal Equal b h = h
second_equal Greater b h = cc

first_passes : (a b : Ordering) → is_eq (ordering_then a b) ≡ true → is_eq a ≡ true
first_passes Less b h = h
first_passes Equal b h = refl
first_passes Greater b h = h

pub pair_total : IsTotalOrder entry_cmp
pair_total = then_total (on_total (λ (a : ℕ × List Value). a.0) nat_cmp_total) (on_total (λ (a : ℕ × List Value). a.1) (row_total []))

pub pair_exact : CmpEqualImpliesEq entry_cmp
pair_exact x y e =
    let first : x.0 ≡ y.0 = exact_unsigned x.0 y.0 (first_equal (nat_cmp x.0 y.0) (slice_cmp value_cmp x.1 y.1) e) in
    let second : x.1 ≡ y.1 = row_exact [] x.1 y.1 (second_equal (nat_cmp x.0 y.0) (slice_cmp value_cmp x.1 y.1) e) in
    λ i. (first i, second i)

abbrev has_pair : Table → ℕ × List Value → Entry → Bool
has_pair table pair entry = is_eq (entry_cmp (pair_of table entry) pair)

abbrev has_hash : ℕ → Entry → Bool
has_hash hash entry = is_eq (nat_cmp entry.hash hash)

abbrev IsHashed : Table → Entry → Type 0
IsHashed table entry = entry.hash ≡ hash_at table entry.at

module _ (table : Table) where
  are_entries : (entries : List Entry) → All (IsHashed table) entries → entries ≡ map (entry_of table) (places_in_order entries)
  are_entries [] all = refl
  are_entries (entry ∷ entries) all =
      let here : entry.hash ≡ hash_at table entry.at = All-head (IsHashed table) entry entries all in
      let rest = are_entries entries (All-tail (IsHashed table) entry entries all) in
      λ i. record { hash = here i; at = entry.at } ∷ rest i

  all_hashed : (places' : List RowPlace) → All (IsHashed table) (map (entry_of table) places')
  all_hashed places' = All-map (IsHashed table) (entry_of table) places' (λ k d h. refl)

  pair_is : (key : List Value) (at : RowPlace) → has_pair table (hash_of key, key) (entry_of table at) ≡ has_key table key at
  pair_is key at = by (slice_cmp value_cmp (key_at table at) key) refl where
    by : (o : Ordering) → slice_cmp value_cmp (key_at table at) key ≡ o → is_eq (ordering_then (nat_cmp (hash_at table at) (hash_of key)) (slice_cmp value_cmp (key_at table at) key)) ≡ is_eq (slice_cmp value_cmp (key_at table at) key)
    by Less e = then_eq (nat_cmp (hash_at table at) (hash_of key)) (slice_cmp value_cmp (key_at table at) key) ∙ ap (λ o. is_eq (nat_cmp (hash_at table at) (hash_of key)) && is_eq o) e ∙ no (is_eq (nat_cmp (hash_at table at) (hash_of key))) ∙ sym (ap is_eq e) where
      no : (b : Bool) → (b && false) ≡ false
      no true = refl
      no false = refl
    by Equal e =
        let same : key_at table at ≡ key = row_exact [] (key_at table at) key e in
        ap (λ o. is_eq (ordering_then o (slice_cmp value_cmp (key_at table at) key))) (ap (λ k. nat_cmp (hash_of k) (hash_of key)) same ∙ tied_itself nat_cmp_total (hash_of key))
    by Greater e = then_eq (nat_cmp (hash_at table at) (hash_of key)) (slice_cmp value_cmp (key_at table at) key) ∙ ap (λ o. is_eq (nat_cmp (hash_at table at) (hash_of key)) && is_eq o) e ∙ no (is_eq (nat_cmp (hash_at table at) (hash_of key))) ∙ sym (ap is_eq e) where
      no : (b : Bool) → (b && false) ≡ false
      no true = refl
      no false = refl

  -- the places with a key are those whose entries have its hash and it
  by_pairs : (key : List Value) (places' : List RowPlace) → filter (has_key table key) places' ≡ places_in_order (filter (has_pair table (hash_of key, key)) (map (entry_of table) places'))
  by_pairs key places' =
      filter_agree (has_key table key) (λ at. has_pair table (hash_of key, key) (entry_of table at)) (λ at. sym (pair_is key at)) places'
      ∙ sym (map_same (filter (λ at. has_pair table (hash_of key, key) (entry_of table at)) places'))
      ∙ ap places_in_order (map_filter (entry_of table) (has_pair table (hash_of key, key)) places') where
        map_same : (xs : List RowPlace) → places_in_order (map (entry_of table) xs) ≡ xs
        map_same [] = refl
        map_same (x ∷ xs) = ap (λ ys. x ∷ ys) (map_same xs)

  pub ordered : (before : List RowPlace) (made by_hash entries : List Entry) → made ≡ map (entry_of table) before
      → IsSorting has_less_hash made by_hash → IsSorting (goes_first table) by_hash entries → AreOrdered table before entries
  ordered before made by_hash entries is first second = record { are = are; sorted = sorted; found = found } where
    are : entries ≡ map (entry_of table) (places_in_order entries)
    are = are_entries entries (All-permutation (IsHashed table) made entries (IsPermutation-trans made by_hash entries first.same second.same) (subst (All (IsHashed table)) (sym is) (all_hashed before)))

    sorted : IsSortedBy (comes_first table) (places_in_order entries)
    sorted k d low high =
        let size : length (places_in_order entries) ≡ length entries = length-map entries (λ entry. entry.at) in
        let here = subst (IsSortedBy (goes_first table)) are second.sorted k (entry_of table d) low (omega (arith, high, size, length-map (places_in_order entries) (entry_of table))) in
        let e : get_or (map (entry_of table) (places_in_order entries)) (k + 1) (entry_of table d) ≡ entry_of table (get_or (places_in_order entries) (k + 1) d) = get_or-map (entry_of table) (places_in_order entries) (k + 1) d (entry_of table d) high in
        let f : get_or (map (entry_of table) (places_in_order entries)) k (entry_of table d) ≡ entry_of table (get_or (places_in_order entries) k d) = get_or-map (entry_of table) (places_in_order entries) k d (entry_of table d) (omega (arith, high)) in
        sym (λ i. goes_first table (e i) (f i)) ∙ here

    kept : (pair : ℕ × List Value) → filter (has_pair table pair) entries ≡ filter (has_pair table pair) made
    kept pair =
        let imply : (entry : Entry) → has_pair table pair entry ≡ true → has_hash pair.0 entry ≡ true = λ entry h. first_passes (nat_cmp entry.hash pair.0) (slice_cmp value_cmp (key_at table entry.at) pair.1) h in
        stable_keys pair_total pair_exact (pair_of table) pair by_hash entries second.same second.stable
        ∙ sym (filter_both (has_pair table pair) (has_hash pair.0) imply by_hash)
        ∙ ap (filter (has_pair table pair)) (stable_keys nat_cmp_total exact_unsigned (λ (entry : Entry). entry.hash) pair.0 made by_hash first.same first.stable)
        ∙ filter_both (has_pair table pair) (has_hash pair.0) imply made

    found : (key : List Value) → filter (has_key table key) (places_in_order entries) ≡ filter (has_key table key) before
    found key =
        by_pairs key (places_in_order entries)
        ∙ ap (λ es. places_in_order (filter (has_pair table (hash_of key, key)) es)) (sym are)
        ∙ ap places_in_order (kept (hash_of key, key))
        ∙ ap (λ es. places_in_order (filter (has_pair table (hash_of key, key)) es)) is
        ∙ sym (by_pairs key before)

  hashes_are : (before : List RowPlace) (entries : List Entry) → AreOrdered table before entries → map (λ entry. entry.hash) entries ≡ map (hash_at table) (places_in_order entries)
  hashes_are before entries ordered = ap (map (λ (entry : Entry). entry.hash)) ordered.are ∙ both (places_in_order entries) where
    both : (xs : List RowPlace) → map (λ (entry : Entry). entry.hash) (map (entry_of table) xs) ≡ map (hash_at table) xs
    both [] = refl
    both (x ∷ xs) = ap (λ ys. hash_at table x ∷ ys) (both xs)

  no_less : (a b : RowPlace) → comes_first table b a ≡ false → hash_at table a ≤ hash_at table b
  no_less a b h = by (nat_cmp (hash_at table b) (hash_at table a)) refl where
    by : (o : Ordering) → nat_cmp (hash_at table b) (hash_at table a) ≡ o → hash_at table a ≤ hash_at table b
    by Less e = absurd (true≢false (sym (ap (λ o. is_lt (ordering_then o (slice_cmp value_cmp (key_at table b) (key_at table a)))) e) ∙ h))
    by Equal e = omega (arith, ranked (hash_at table b) (hash_at table a) Equal (sym e))
    by Greater e = omega (arith, ranked (hash_at table b) (hash_at table a) Greater (sym e))

  rising_map : (xs : List RowPlace) → IsNonDecreasingBy (hash_at table) xs → IsNonDecreasing (map (hash_at table) xs)
  rising_map xs rising i j d up high =
      let size : length (map (hash_at table) xs) ≡ length xs = length-map xs (hash_at table) in
      let e : get_or (map (hash_at table) xs) i d ≡ hash_at table (get_or xs i (place_at 0 0)) = get_or-map (hash_at table) xs i (place_at 0 0) d (omega (arith, up, high, size)) in
      let f : get_or (map (hash_at table) xs) j d ≡ hash_at table (get_or xs j (place_at 0 0)) = get_or-map (hash_at table) xs j (place_at 0 0) d (omega (arith, high, size)) in
      omega (arith, e, f, rising i j (place_at 0 0) up (omega (arith, high, size)))

  pub places_rise : (xs : List RowPlace) → IsSortedBy (comes_first table) xs → IsNonDecreasing (map (hash_at table) xs)
  places_rise xs sorted = rising_map xs (IsNonDecreasingBy-from_all_adjacent (hash_at table) xs (λ k d h. no_less (get_or xs k d) (get_or xs (k + 1) d) (sorted k d (omega arith) h)))

  -- the hashes of entries in order rise
  pub hashes_rise : (before : List RowPlace) (entries : List Entry) → AreOrdered table before entries → IsNonDecreasing (map (λ entry. entry.hash) entries)
  hashes_rise before entries ordered = subst IsNonDecreasing (sym (hashes_are before entries ordered)) (places_rise (places_in_order entries) ordered.sorted)

  pub made : (entries : List Entry) (places' : List RowPlace) (hashes starts : List ℕ) → AreOrdered table (places table.lists) entries
      → places' ≡ places_in_order entries → hashes ≡ map (λ entry. entry.hash) entries → AreStarts hashes starts → AreFound table places' hashes starts
  made entries places' hashes starts ordered e f are = record {
    sorted = subst (IsSortedBy (comes_first table)) (sym e) ordered.sorted;
    found = λ key. ap (filter (has_key table key)) e ∙ ordered.found key;
    hashed = λ some. f ∙ hashes_are (places table.lists) entries ordered ∙ ap (map (hash_at table)) (sym e);
    begun = λ some. are;
  }

equal_firsts : (columns : List ℕ) (a b : List Value) → columns ≡ [] → is_lt (entry_cmp (hash_of (key_of columns a), key_of columns a) (hash_of (key_of columns b), key_of columns b)) ≡ false
equal_firsts [] a b e = ap (λ o. is_lt (ordering_then o Equal)) (tied_itself nat_cmp_total (hash_of []))
equal_firsts (c ∷ cs) a b e = cc

equal_columns : (columns : List ℕ) (a b : List Value) → columns ≡ [] → is_lt (slice_cmp value_cmp (key_of columns a) (key_of columns b)) ≡ false
equal_columns [] a b e = refl
equal_columns (c ∷ cs) a b e = cc

pub if_ok_three : {A E : Type 0} (P Q R S : A → Type 0) (r : Result A E) → ((a : A) → P a → Q a → R a → S a) → IfOk r P → IfOk r Q → IfOk r R → IfOk r S
if_ok_three P Q R S (Ok a) f p q r = f a p q r
if_ok_three P Q R S (Err e) f p q r = tt

-- whether there are key columns
pub no_columns : (columns : List ℕ) (b : Bool) → b ≡ (eqb (length columns) 0) → b ≡ true → columns ≡ []
no_columns [] b e h = refl
no_columns (c ∷ cs) b e h = absurd (true≢false (sym h ∙ e ∙ ne_eqb (length (c ∷ cs)) 0 (λ z. omega (arith, z))))

pub some_columns : (columns : List ℕ) (b : Bool) → b ≡ (eqb (length columns) 0) → b ≡ false → columns ≡ [] → ⊥
some_columns [] b e h none = absurd (true≢false (sym e ∙ h))
some_columns (c ∷ cs) b e h none = cc

module _ (table : Table) where
  -- without key columns places stand as they are
  pub all_found : (places' : List RowPlace) (hashes starts : List ℕ) → table.columns ≡ [] → places' ≡ places table.lists → AreFound table places' hashes starts
  all_found places' hashes starts none e = record {
    sorted = λ k d low high. equal_firsts table.columns _ _ none;
    found = λ key. ap (filter (has_key table key)) e;
    hashed = λ some. absurd (some none);
    begun = λ some. absurd (some none);
  }

  pub all_sorted : (places' : List RowPlace) → table.columns ≡ [] → IsSortedBy (is_below table) places'
  all_sorted places' none k d low high = equal_columns table.columns _ _ none

  has_its_hash : (key : List Value) (at : RowPlace) → has_key table key at ≡ true → is_eq (nat_cmp (hash_at table at) (hash_of key)) ≡ true
  has_its_hash key at h =
      let same : key_at table at ≡ key = row_exact [] (key_at table at) key (equal_if (slice_cmp value_cmp (key_at table at) key) h) in
      ap (λ k. is_eq (nat_cmp (hash_of k) (hash_of key))) same ∙ ap is_eq (tied_itself nat_cmp_total (hash_of key))

  equal_between : (o : Ordering) → is_lt o ≡ false → is_le o ≡ true → o ≡ Equal
  equal_between Less h k = cc
  equal_between Equal h k = refl
  equal_between Greater h k = cc

  module _ (places' : List RowPlace) (hashes starts : List ℕ) (are : AreFound table places' hashes starts) (some : table.columns ≡ [] → ⊥) (key : List Value) (from to : ℕ) (range : IsRange hashes (hash_of key) from to) where
    size : length hashes ≡ length places'
    size = ap length (are.hashed some) ∙ length-map places' (hash_at table)

    hash_is : (k : ℕ) (d : RowPlace) → k < length places' → get_or hashes k (hash_at table d) ≡ hash_at table (get_or places' k d)
    hash_is k d h = ap (λ hs. get_or hs k (hash_at table d)) (are.hashed some) ∙ get_or-map (hash_at table) places' k d (hash_at table d) h

    abbrev order : RowPlace → Ordering
    order at = nat_cmp (hash_at table at) (hash_of key)

    low : IsPartitionPoint (λ at. is_lt (order at) ≡ true) (λ at. is_lt (order at) ≡ false) places' from
    low = (
      λ k d a b. subst (λ h. is_lt (nat_cmp h (hash_of key)) ≡ true) (hash_is k d (omega (arith, b, range.order, range.within, size))) (range.below.0 k (hash_at table d) a b),
      λ k d a b. subst (λ h. is_lt (nat_cmp h (hash_of key)) ≡ false) (hash_is k d b) (range.below.1 k (hash_at table d) a (omega (arith, b, size))),
    )

    upto_at : (k : ℕ) (d : RowPlace) → k < to → is_le (order (get_or places' k d)) ≡ true
    upto_at k d h = subst (λ h. is_le (nat_cmp h (hash_of key)) ≡ true) (hash_is k d (omega (arith, h, range.within, size))) (range.upto.0 k (hash_at table d) (omega arith) h)

    behind_at : (k : ℕ) (d : RowPlace) → to ≤ k → k < length places' → is_le (order (get_or places' k d)) ≡ false
    behind_at k d h high = subst (λ h. is_le (nat_cmp h (hash_of key)) ≡ false) (hash_is k d high) (range.upto.1 k (hash_at table d) h (omega (arith, high, size)))

    high : IsPartitionPoint (λ at. is_le (order at) ≡ true) (λ at. is_le (order at) ≡ false) (drop from places') (to - from)
    high = (
      λ k d a b. subst (λ at. is_le (order at) ≡ true) (sym (get_or-drop from places' k d)) (upto_at (from + k) d (omega (arith, b, range.order))),
      λ k d a b. subst (λ at. is_le (order at) ≡ false) (sym (get_or-drop from places' k d)) (behind_at (from + k) d (omega (arith, a)) (omega (arith, b, length-drop from places', range.within, size, range.order))),
    )

    pub run_is : take (to - from) (drop from places') ≡ filter (λ at. is_eq (order at)) places'
    run_is = equal_slice order places' (drop from places') from (to - from) refl (omega (arith, range.order, range.within, size)) (omega (arith, length-drop from places', range.within, size, range.order)) low high

    -- what is found in the run of a hash is all that is found
    pub run_found : filter (has_key table key) (take (to - from) (drop from places')) ≡ filter (has_key table key) (places table.lists)
    run_found = ap (filter (has_key table key)) run_is ∙ filter_both (has_key table key) (λ at. is_eq (order at)) (has_its_hash key) places' ∙ are.found key

    hash_equal : (k : ℕ) (d : RowPlace) → from ≤ k → k < to → hash_at table (get_or places' k d) ≡ hash_of key
    hash_equal k d a b = exact_unsigned (hash_at table (get_or places' k d)) (hash_of key) (equal_between (order (get_or places' k d)) (low.1 k d a (omega (arith, b, range.within, size))) (upto_at k d b))

    -- and it stands in the order of the keys
    pub run_sorted : IsSortedBy (is_below table) (take (to - from) (drop from places'))
    run_sorted k d a b =
        let long : length (take (to - from) (drop from places')) ≡ to - from = length-take-le (to - from) (drop from places') (omega (arith, length-drop from places', range.within, size, range.order)) in
        let e : get_or (take (to - from) (drop from places')) k d ≡ get_or places' (from + k) d = get_or-take (to - from) (drop from places') k d (omega (arith, b, long)) ∙ get_or-drop from places' k d in
        let next : from + (k + 1) ≡ (from + k) + 1 = omega arith in
        let f : get_or (take (to - from) (drop from places')) (k + 1) d ≡ get_or places' ((from + k) + 1) d = get_or-take (to - from) (drop from places') (k + 1) d (omega (arith, b, long)) ∙ get_or-drop from places' (k + 1) d ∙ ap (λ n. get_or places' n d) next in
        let x = get_or places' (from + k) d in
        let y = get_or places' ((from + k) + 1) d in
        let same : nat_cmp (hash_at table y) (hash_at table x) ≡ Equal = ap (λ h. nat_cmp h (hash_at table x)) (hash_equal ((from + k) + 1) d (omega arith) (omega (arith, b, long))) ∙ ap (nat_cmp (hash_of key)) (hash_equal (from + k) d (omega arith) (omega (arith, b, long))) ∙ tied_itself nat_cmp_total (hash_of key) in
        (λ i. is_below table (f i) (e i))
        ∙ sym (ap (λ o. is_lt (ordering_then o (slice_cmp value_cmp (key_at table y) (key_at table x)))) same)
        ∙ are.sorted (from + k) d (omega arith) (omega (arith, b, long, range.within, size))

  -- the run of a key's hash stands in order, and all that has the key is found in it
  pub looked_up : (places' run : List RowPlace) (hashes seen starts : List ℕ) (key : List Value) (hash from to : ℕ) → AreFound table places' hashes starts → (table.columns ≡ [] → ⊥)
      → seen ≡ hashes → hash ≡ hash_of key → IsRange seen hash from to → run ≡ take (to - from) (drop from places')
      → IsSortedBy (is_below table) run × (filter (has_key table key) run ≡ filter (has_key table key) (places table.lists))
  looked_up places' run hashes seen starts key hash from to are some e f range r =
      let ranged : IsRange hashes (hash_of key) from to = subst (λ h. IsRange hashes h from to) f (subst (λ hs. IsRange hs hash from to) e range) in (
        subst (IsSortedBy (is_below table)) (sym r) (run_sorted places' hashes starts are some key from to ranged),
        ap (filter (has_key table key)) r ∙ run_found places' hashes starts are some key from to ranged,
      )

  pub searchable_hashes : (places' : List RowPlace) (hashes seen starts : List ℕ) → AreFound table places' hashes starts → (table.columns ≡ [] → ⊥) → seen ≡ hashes → IsNonDecreasing seen
  searchable_hashes places' hashes seen starts are some e = subst IsNonDecreasing (sym (e ∙ are.hashed some)) (places_rise table places' are.sorted)
