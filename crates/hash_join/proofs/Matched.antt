-- The rows at the places that match a key are the rows with its keys.
use Rattle.std.proofs.Common.{◌≡◌, ℕ, suc, ◌+◌, Bool, true, false, cond, not, ◌&&◌, ◌||◌, List, [], ◌∷◌, ◌++◌, length, map, Some, refl, sym, ap, ◌∙◌, subst, arith, get_or, slice_get}
use Rattle.std.specs.List.{flat_map, filter, list_any, range_with_len}
use Rattle.std.specs.Ordering.{is_eq, ordering_then}
use Rattle.std.specs.declared.cmp.Ordering.{Ordering}
use Rattle.std.specs.declared.cmp.Ordering.TheVariants.{Less, Equal, Greater}
use Rattle.std.specs.Cmp.Lexicographic.{slice_cmp}
use Rattle.std.proofs.lemmas.Option.{get_or_from_slice_get}
use Rattle.rows.specs.declared.value.Value.{Value}
use Rattle.rows.specs.declared.value.Value.TheVariants as value
use Rattle.rows.specs.Values.{value_cmp, is_null}
use Rattle.rows.specs.declared.plain.KeyPair.{KeyPair}
use Rattle.rows.specs.declared.plain.LayoutPart.{LayoutPart}
use Rattle.rows.specs.Layouts.{column_in}
use Rattle.rows.specs.Keys.{values_match, keys_match}
use Rattle.hash_join.specs.Table.{HasKeys, Table, key_of, matching, place_at, places, places_in, row_at, row_key, rows_of}

-- the key by which a row is looked up
abbrev probe_key : List LayoutPart → List KeyPair → List Value → List Value
probe_key layout keys row = row_key layout (map (λ key. key.probe) keys) row

match_either : (a b : Value) → values_match a b ≡ (not (is_null b) && is_eq (value_cmp a b))
match_either value.Null value.Null = refl
match_either value.Null (value.Number n) = refl
match_either value.Null (value.Word n) = refl
match_either value.Null (value.Truth n) = refl
match_either (value.Number n) b = refl
match_either (value.Word n) b = refl
match_either (value.Truth n) b = refl

pub then_eq : (a b : Ordering) → is_eq (ordering_then a b) ≡ (is_eq a && is_eq b)
then_eq Less b = refl
then_eq Equal b = refl
then_eq Greater b = refl

mixed : (n o c d : Bool) → ((not n && c) && (not o && d)) ≡ (not (n || o) && (c && d))
mixed true o c d = refl
mixed false true true d = refl
mixed false true false d = refl
mixed false false true d = refl
mixed false false false d = refl

pair_keys : (first second : List LayoutPart) (keys : List KeyPair) (a b : List Value) →
    keys_match first second keys a b ≡ (not (list_any is_null (probe_key second keys b)) && is_eq (slice_cmp value_cmp (row_key first (map (λ key. key.build) keys) a) (probe_key second keys b)))
pair_keys first second [] a b = refl
pair_keys first second (key ∷ keys) a b =
    let x = column_in first a key.build.var key.build.col in
    let y = column_in second b key.probe.var key.probe.col in
    let cs = row_key first (map (λ key. key.build) keys) a in
    let ds = probe_key second keys b in
    (λ i. match_either x y i && pair_keys first second keys a b i)
    ∙ (mixed (is_null y) (list_any is_null ds) (is_eq (value_cmp x y)) (is_eq (slice_cmp value_cmp cs ds))
    ∙ ap (λ z. not (is_null y || list_any is_null ds) && z) (sym (then_eq (value_cmp x y) (slice_cmp value_cmp cs ds))))

range_flat : {X Y : Type 0} (f : ℕ → List Y) (g : X → List Y) (xs : List X) (a : ℕ) → ((i : ℕ) (x : X) → slice_get xs i ≡ Some x → f (a + i) ≡ g x) → flat_map f (range_with_len a (length xs)) ≡ flat_map g xs
range_flat f g [] a h = refl
range_flat f g (x ∷ xs) a h =
    let e : a + 0 ≡ a = omega arith in
    let one : f a ≡ g x = subst (λ k. f k ≡ g x) e (h 0 x refl) in
    let rest : flat_map f (range_with_len (a + 1) (length xs)) ≡ flat_map g xs =
    range_flat f g xs (a + 1) (λ i y is. let k : a + suc i ≡ (a + 1) + i = omega arith in subst (λ n. f n ≡ g y) k (h (suc i) y is)) in
    λ i. one i ++ rest i

range_map : {Y : Type 0} (f : ℕ → Y) (xs : List Y) (a : ℕ) → ((i : ℕ) (x : Y) → slice_get xs i ≡ Some x → f (a + i) ≡ x) → map f (range_with_len a (length xs)) ≡ xs
range_map f [] a h = refl
range_map f (x ∷ xs) a h =
    let e : a + 0 ≡ a = omega arith in
    let one : f a ≡ x = subst (λ k. f k ≡ x) e (h 0 x refl) in
    let rest : map f (range_with_len (a + 1) (length xs)) ≡ xs =
    range_map f xs (a + 1) (λ i y is. let k : a + suc i ≡ (a + 1) + i = omega arith in subst (λ n. f n ≡ y) k (h (suc i) y is)) in
    λ i. one i ∷ rest i

map_both : {X Y Z : Type 0} (f : Y → Z) (g : X → Y) (xs : List X) → map f (map g xs) ≡ map (λ x. f (g x)) xs
map_both f g [] = refl
map_both f g (x ∷ xs) = ap (λ ys. f (g x) ∷ ys) (map_both f g xs)

map_append : {X Y : Type 0} (f : X → Y) (xs ys : List X) → map f (xs ++ ys) ≡ map f xs ++ map f ys
map_append f [] ys = refl
map_append f (x ∷ xs) ys = ap (λ zs. f x ∷ zs) (map_append f xs ys)

map_flat : {X Y Z : Type 0} (f : Y → Z) (g : X → List Y) (xs : List X) → map f (flat_map g xs) ≡ flat_map (λ x. map f (g x)) xs
map_flat f g [] = refl
map_flat f g (x ∷ xs) = map_append f (g x) (flat_map g xs) ∙ ap (λ ys. map f (g x) ++ ys) (map_flat f g xs)

pub map_filter : {X Y : Type 0} (f : X → Y) (p : Y → Bool) (xs : List X) → map f (filter (λ x. p (f x)) xs) ≡ filter p (map f xs)
map_filter f p [] = refl
map_filter f p (x ∷ xs) = elim (p (f x)) as (λ b. map f (cond b (x ∷ filter (λ y. p (f y)) xs) (filter (λ y. p (f y)) xs)) ≡ cond b (f x ∷ filter p (map f xs)) (filter p (map f xs))) [
  | true ↦ ap (λ ys. f x ∷ ys) (map_filter f p xs)
  | false ↦ map_filter f p xs
]

module _ (lists : List (List (List Value))) where
  position_rows : (i : ℕ) (rows : List (List Value)) → slice_get lists i ≡ Some rows → map (row_at lists) (places_in i (get_or lists i [])) ≡ rows
  position_rows i rows is =
      let e : get_or lists i [] ≡ rows = get_or_from_slice_get lists i rows [] is in
      ap (λ rs. map (row_at lists) (places_in i rs)) e
      ∙ (map_both (row_at lists) (place_at i) (range_with_len 0 (length rows))
      ∙ (ap (λ rs. map (λ k. get_or rs k []) (range_with_len 0 (length rows))) e
      ∙ range_map (λ k. get_or rows k []) rows 0 (λ k row at. let z : 0 + k ≡ k = omega arith in subst (λ n. get_or rows n [] ≡ row) (sym z) (get_or_from_slice_get rows k row [] at))))

  place_rows : map (row_at lists) (places lists) ≡ rows_of lists
  place_rows =
      map_flat (row_at lists) (λ position. places_in position (get_or lists position [])) (range_with_len 0 (length lists))
      ∙ range_flat (λ i. map (row_at lists) (places_in i (get_or lists i []))) (λ rows. rows) lists 0
      (λ i rows is. let z : 0 + i ≡ i = omega arith in subst (λ n. map (row_at lists) (places_in n (get_or lists n [])) ≡ rows) (sym z) (position_rows i rows is))

-- the rows that match a key are those with equal keys, none of them null
pub matched_rows : (table : Table) (first second : List LayoutPart) (keys : List KeyPair) (row : List Value) → HasKeys first (map (λ key. key.build) keys) table →
    map (row_at table.lists) (matching table (probe_key second keys row)) ≡ filter (λ b. keys_match first second keys b row) (rows_of table.lists)
matched_rows table first second keys row has =
    let test : List Value → Bool = λ b. not (list_any is_null (probe_key second keys row)) && is_eq (slice_cmp value_cmp (key_of table.columns b) (probe_key second keys row)) in
    let same : test ≡ (λ b. keys_match first second keys b row) =
    (λ i b. (ap (λ k. not (list_any is_null (probe_key second keys row)) && is_eq (slice_cmp value_cmp k (probe_key second keys row))) (has b) ∙ sym (pair_keys first second keys b row)) i) in
    map_filter (row_at table.lists) test (places table.lists) ∙ (ap (filter test) (place_rows table.lists) ∙ ap (λ p. filter p (rows_of table.lists)) same)
