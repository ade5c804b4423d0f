-- The places of a table's rows, and which of them match a key.
use Rattle.std.proofs.Common.{◌≡◌, ℕ, zero, suc, ◌+◌, ◌<◌, true, false, not, ◌&&◌, List, [], ◌∷◌, ◌++◌, refl, sym, ap, ◌∙◌, subst, arith, length, map, filter, get_or}
use Rattle.std.specs.List.{All, flat_map, list_any, range_with_len}
use Rattle.std.proofs.lemmas.List.{append-nil, append_assoc, map-append}
use Rattle.std.proofs.lemmas.List.Concat.{flat_map-append}
use Rattle.std.proofs.lemmas.List.FromFn.{length-range_with_len, get_or-range_with_len, map-range_with_len_more}
use Rattle.std.proofs.lemmas.List.Elements.{All-nil, All-head, All-tail, All-append, All-weaker, All-map, All-filter}
use Rattle.rows.specs.declared.value.Value.{Value}
use Rattle.rows.specs.Layouts.{column_place, column_in, value_at}
use Rattle.rows.specs.Values.{column_of, is_null}
use Rattle.rows.specs.declared.plain.ColumnRef.{ColumnRef}
use Rattle.rows.specs.declared.plain.LayoutPart.{LayoutPart}
use Rattle.std.specs.Prelude.{Option, Some, None, IsSome}
use Rattle.std.specs.Option.{option_to_list}
use Rattle.hash_join.specs.declared.table.RowPlace.{RowPlace}
use Rattle.hash_join.specs.Table.{Table, HasKeys, IsColumn, IsPlace, key_of, places_of, place_at, places_in, places, has_key, matching}

one_more : (a n : ℕ) → range_with_len a (suc n) ≡ range_with_len a n ++ (a + n) ∷ []
one_more a zero = ap (λ k. k ∷ []) (omega arith)
one_more a (suc n) =
    let e : (a + 1) + n ≡ a + suc n = omega arith in
    ap (λ ks. a ∷ ks) (one_more (a + 1) n ∙ ap (λ k. range_with_len (a + 1) n ++ k ∷ []) e)

-- what a position adds
pub flat_more : {A : Type 0} (f : ℕ → List A) (n : ℕ) → flat_map f (range_with_len 0 (n + 1)) ≡ flat_map f (range_with_len 0 n) ++ f n
flat_more f n =
    let e : n + 1 ≡ suc n = omega arith in
    ap (λ k. flat_map f (range_with_len 0 k)) e
    ∙ ap (flat_map f) (one_more 0 n)
    ∙ flat_map-append f (range_with_len 0 n) ((0 + n) ∷ [])
    ∙ ap (λ ks. flat_map f (range_with_len 0 n) ++ ks) (append-nil _ ∙ ap f (omega arith))

-- a step over the places of one position
pub place_more : (items before after : List RowPlace) (position place : ℕ)
    → before ≡ items ++ map (place_at position) (range_with_len 0 place)
    → after ≡ before ++ place_at position place ∷ []
    → after ≡ items ++ map (place_at position) (range_with_len 0 (place + 1))
place_more items before after position place old new =
    new
    ∙ ap (λ items. items ++ place_at position place ∷ []) old
    ∙ append_assoc items (map (place_at position) (range_with_len 0 place)) (place_at position place ∷ [])
    ∙ ap (λ more. items ++ more) (sym (map-range_with_len_more (place_at position) 0 place place (omega arith)))

-- a step over the positions
pub position_more : (lists : List (List (List Value))) (before after : List RowPlace) (position count : ℕ)
    → before ≡ flat_map (λ n. places_in n (get_or lists n [])) (range_with_len 0 position)
    → after ≡ before ++ map (place_at position) (range_with_len 0 count)
    → count ≡ length (get_or lists position [])
    → after ≡ flat_map (λ n. places_in n (get_or lists n [])) (range_with_len 0 (position + 1))
position_more lists before after position count old new size =
    new
    ∙ ap (λ items. items ++ map (place_at position) (range_with_len 0 count)) old
    ∙ ap (λ n. flat_map (λ n. places_in n (get_or lists n [])) (range_with_len 0 position) ++ map (place_at position) (range_with_len 0 n)) size
    ∙ sym (flat_more (λ n. places_in n (get_or lists n [])) position)

pub at_map : {X Y : Type 0} (f : X → Y) (xs : List X) (i : ℕ) (d : Y) (e : X) → i < length xs → get_or (map f xs) i d ≡ f (get_or xs i e)
at_map f [] i d e h = absurd (omega (arith, h))
at_map f (x ∷ xs) zero d e h = refl
at_map f (x ∷ xs) (suc i) d e h = at_map f xs i d e (omega (arith, h))

all_below : (n : ℕ) → All (λ k. k < n) (range_with_len 0 n)
all_below n k d h =
    let h' : k < n = subst (λ m. k < m) (length-range_with_len 0 n) h in
    let e : 0 + k ≡ k = omega arith in
    subst (λ m. m < n) (sym (get_or-range_with_len 0 n k d h' ∙ e)) h'

all_flat : {A : Type 0} (P : A → Type 0) (f : ℕ → List A) (ns : List ℕ) → All (λ n. All P (f n)) ns → All P (flat_map f ns)
all_flat P f [] all = All-nil P
all_flat P f (n ∷ ns) all = All-append P (f n) (flat_map f ns) (All-head (λ k. All P (f k)) n ns all) (all_flat P f ns (All-tail (λ k. All P (f k)) n ns all))

places_are : (lists : List (List (List Value))) → All (IsPlace lists) (places lists)
places_are lists = all_flat (IsPlace lists) here (range_with_len 0 (length lists)) (All-weaker (λ position. position < length lists) (λ position. All (IsPlace lists) (here position)) each (range_with_len 0 (length lists)) (all_below (length lists))) where
  here : ℕ → List RowPlace
  here position = places_in position (get_or lists position [])

  each : (position : ℕ) → position < length lists → All (IsPlace lists) (here position)
  each position h = All-map (IsPlace lists) (place_at position) (range_with_len 0 (length (get_or lists position []))) (All-weaker (λ place. place < length (get_or lists position [])) (λ place. IsPlace lists (place_at position place)) (λ place within. (h, within)) (range_with_len 0 (length (get_or lists position []))) (all_below (length (get_or lists position []))))

pub matches_are_places : (table : Table) (key : List Value) → All (IsPlace table.lists) (matching table key)
matches_are_places table key = All-filter (λ at. not (list_any is_null key) && has_key table key at) (IsPlace table.lists) (places table.lists) (places_are table.lists)

none_pass : {X : Type 0} (xs : List X) → filter (λ x. false) xs ≡ []
none_pass [] = refl
none_pass (x ∷ xs) = none_pass xs

-- no row matches a key that holds null
pub no_match : (table : Table) (key : List Value) → list_any is_null key ≡ true → matching table key ≡ []
no_match table key null = ap (λ b. filter (λ at. not b && has_key table key at) (places table.lists)) null ∙ none_pass (places table.lists)

-- what has a key that holds no null matches
pub found_match : (table : Table) (key : List Value) → list_any is_null key ≡ false → filter (has_key table key) (places table.lists) ≡ matching table key
found_match table key null = sym (ap (λ b. filter (λ at. not b && has_key table key at) (places table.lists)) null)

one_place : (row : List Value) (place : Option ℕ) → IsSome place → key_of (option_to_list place) row ≡ value_at row place ∷ []
one_place row None some = cc
one_place row (Some place) some = refl

-- where each key is a column of the layout, the columns by their places give its values
pub keys_are : (layout : List LayoutPart) (keys : List ColumnRef) (lists : List (List (List Value))) → All (IsColumn layout) keys → HasKeys layout keys (record { lists = lists; columns = places_of layout keys })
keys_are layout [] lists all row = refl
keys_are layout (key ∷ keys) lists all row =
    map-append (column_of row) (option_to_list (column_place layout key.var key.col)) (places_of layout keys)
    ∙ ap (λ front. front ++ key_of (places_of layout keys) row) (one_place row (column_place layout key.var key.col) (All-head (IsColumn layout) key keys all))
    ∙ ap (λ rest. column_in layout row key.var key.col ∷ rest) (keys_are layout keys lists (All-tail (IsColumn layout) key keys all) row)
