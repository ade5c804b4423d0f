-- The right rows that match a left row are those of equal keys, where its key holds no null.
use Rattle.std.proofs.Common.{◌≡◌, ℕ, zero, suc, ◌+◌, ◌-◌, ◌<◌, ◌≤◌, Bool, true, false, cond, not, ◌&&◌, ◌||◌, List, [], ◌∷◌, ◌++◌, append_assoc, refl, sym, ap, ◌∙◌, subst, arith, map, filter, take, drop, length, get_or, slice_get}
use Rattle.std.specs.Prelude.{Some}
use Rattle.std.specs.List.{AllByRecursion, AllWithin, list_any}
use Rattle.std.specs.declared.cmp.Ordering.{Ordering}
use Rattle.std.specs.declared.cmp.Ordering.TheVariants.{Less, Equal, Greater}
use Rattle.std.specs.Ordering.{is_lt, is_eq, ordering_reverse, ordering_then}
use Rattle.std.proofs.lemmas.List.{append-nil, drop_more}
use Rattle.rows.specs.declared.value.Value.{Value}
use Rattle.rows.specs.declared.value.Value.TheVariants.{Null, Number, Word, Truth}
use Rattle.rows.specs.declared.plain.KeyPair.{KeyPair}
use Rattle.rows.specs.declared.plain.LayoutPart.{LayoutPart}
use Rattle.rows.specs.Layouts.{column_in}
use Rattle.rows.specs.Keys.{keys_match, values_match}
use Rattle.rows.specs.Values.{is_null, value_cmp}
use Rattle.rows.proofs.Orders.{value_total}
use Rattle.hash_join.specs.Table.{row_key}
use Rattle.hash_join.proofs.Runs.{filter_behind}
use Rattle.plan_tree.specs.Combining.{combined, merged}
use Rattle.plan_tree.specs.Fragments.{matched}
use Rattle.merge_join.specs.Sides.{key_order, left_columns}
use Rattle.merge_join.proofs.Merged.{drop_get}

equal_back : (o : Ordering) → is_eq (ordering_reverse o) ≡ is_eq o
equal_back Less = refl
equal_back Equal = refl
equal_back Greater = refl

turned : (a b : Value) → is_eq (value_cmp a b) ≡ is_eq (value_cmp b a)
turned a b = ap is_eq (value_total.antisymm a b) ∙ equal_back (value_cmp b a)

match_one : (a b : Value) → values_match a b ≡ (not (is_null a) && is_eq (value_cmp b a))
match_one Null b = refl
match_one (Number n) Null = refl
match_one (Number n) b = turned (Number n) b
match_one (Word n) Null = refl
match_one (Word n) b = turned (Word n) b
match_one (Truth n) Null = refl
match_one (Truth n) b = turned (Truth n) b

then_equal : (o p : Ordering) → is_eq (ordering_then o p) ≡ (is_eq o && is_eq p)
then_equal Less p = refl
then_equal Equal p = refl
then_equal Greater p = refl

mixed : (n o c d : Bool) → ((not n && c) && (not o && d)) ≡ (not (n || o) && (c && d))
mixed true o c d = refl
mixed false true true d = refl
mixed false true false d = refl
mixed false false true d = refl
mixed false false false d = refl

pub match_is : (left right : List LayoutPart) (keys : List KeyPair) (a b : List Value)
    → keys_match left right keys a b
    ≡ (not (list_any is_null (row_key left (left_columns keys) a)) && is_eq
    (key_order left right keys a b))
match_is left right [] a b = refl
match_is left right (key ∷ keys) a b =
    let x = column_in left a key.build.var key.build.col in
    let y = column_in right b key.probe.var key.probe.col in
    let o = key_order left right keys a b in
    let none = list_any is_null (row_key left (left_columns keys) a) in
    (λ i. match_one x y i && match_is left right keys a b i)
    ∙ (mixed (is_null x) none (is_eq (value_cmp y x)) (is_eq o)
    ∙ ap (λ z. not (is_null x || none) && z) (sym (then_equal (value_cmp y x) o)))

none_pass : {X : Type 0} (p : X → Bool) (xs : List X) → ((x : X) → p x ≡ false) → filter p xs ≡ []
none_pass p [] h = refl
none_pass p (x ∷ xs) h = ap (λ b. cond b (x ∷ filter p xs) (filter p xs)) (h x) ∙ none_pass p xs h

module _ (left right : List LayoutPart) (keys : List KeyPair) (a : List Value)
    (rows : List (List Value)) where
  pub no_match : list_any is_null (row_key left (left_columns keys) a) ≡ true
      → filter (λ b. keys_match left right keys a b) rows ≡ []
  no_match null = none_pass (λ b. keys_match left right keys a b) rows
      (λ b. match_is left right keys a b ∙ ap (λ n. not n && is_eq (key_order left right keys a b))
      null)

  pub run_matches : list_any is_null (row_key left (left_columns keys) a) ≡ false
      → filter (λ b. is_eq (key_order left right keys a b)) rows
      ≡ filter (λ b. keys_match left right keys a b) rows
  run_matches null = sym
      (ap (λ p. filter p rows)
      (λ i b. (match_is left right keys a b
      ∙ ap (λ n. not n && is_eq (key_order left right keys a b)) null) i))

unequal_below : (o : Ordering) → is_lt o ≡ true → is_eq o ≡ false
unequal_below Less h = refl
unequal_below Equal h = cc
unequal_below Greater h = cc

-- those of equal keys stand behind those below
pub run_begins : {X : Type 0} (order : X → Ordering) (xs : List X) (start : ℕ) → start ≤ length xs
    → AllWithin (λ x. is_lt (order x) ≡ true) xs 0 start
    → filter (λ x. is_eq (order x)) (drop start xs) ≡ filter (λ x. is_eq (order x)) xs
run_begins order xs start within below =
    sym (filter_behind (λ x. is_eq (order x)) xs start
    within (λ k d low high. unequal_below (order (get_or xs k d)) (below k d low high)))

pub none_behind : {X : Type 0} (p : X → Bool) (xs : List X) (i : ℕ) → AllWithin (λ x. p x ≡ false)
    xs i (length xs) → filter p (drop i xs) ≡ []
none_behind p [] zero back = refl
none_behind p [] (suc i) back = refl
none_behind p (x ∷ xs) zero back =
    ap (λ b. cond b (x ∷ filter p xs) (filter p xs)) (back 0 x (omega arith) (omega arith))
    ∙ none_behind p xs zero (λ k d low high. back (suc k) d (omega arith) (omega (arith, high)))
none_behind p (x ∷ xs) (suc i) back = none_behind p xs i
    (λ k d low high. back (suc k) d (omega (arith, low)) (omega (arith, high)))

-- one more of a run
pub run_more : {X Y : Type 0} (p : X → Bool) (f : X → Y) (xs : List X) (i : ℕ) (x : X) (y : Y)
    (old new whole : List Y)
    → slice_get xs i ≡ Some x → p x ≡ true → y ≡ f x → new ≡ old ++ y ∷ [] → old
    ++ map f (filter p (drop i xs)) ≡ whole
    → new ++ map f (filter p (drop (i + 1) xs)) ≡ whole
run_more p f xs i x y old new whole at pass is put told =
    let rest = filter p (drop (i + 1) xs) in
    let k : map f (filter p (drop i xs)) ≡ f x ∷ map f rest =
    ap (λ ys. map f (filter p ys)) (drop_get xs i x at) ∙ ap (λ b. map f (cond b (x ∷ rest) rest))
    pass in
    rw (put, append_assoc, is, ← k) told

-- the end of a run
pub run_ends : {X Y : Type 0} (p : X → Bool) (f : X → Y) (xs : List X) (i : ℕ) (out whole : List Y)
    → filter p (drop i xs) ≡ [] → out ++ map f (filter p (drop i xs)) ≡ whole → out ≡ whole
run_ends p f xs i out whole none told = sym (append-nil out)
    ∙ (ap (λ ys. out ++ map f ys) (sym none) ∙ told)

-- one left row more
pub row_more : (left right : List LayoutPart) (keys : List KeyPair) (lefts rows : List (List Value))
    (number upto : ℕ) (old new whole : List (List Value))
    → number < upto → upto ≤ length lefts
    → new ≡ old ++ map (λ b. combined (merged left right) left right (get_or lefts number []) b)
    (filter (λ b. keys_match left right keys (get_or lefts number []) b) rows)
    → old ++ matched left right keys (take (upto - number) (drop number lefts)) rows ≡ whole
    → new ++ matched left right keys (take (upto - (number + 1)) (drop (number + 1) lefts)) rows
    ≡ whole
row_more left right keys lefts rows number upto old new whole lt le put told =
    let n : upto - number ≡ suc (upto - (number + 1)) = omega (arith, lt) in
    let k : take (upto - number) (drop number lefts) ≡ get_or lefts number [] ∷ take
    (upto - (number + 1)) (drop (number + 1) lefts) =
    (λ i. take (n i) (drop_more lefts number [] (omega (arith, lt, le)) i)) in
    let m = ap (λ part. matched left right keys part rows) k in
    rw (put, append_assoc, ← m) told

pub fits_get : {X : Type 0} (P : X → Type 0) (xs : List X) (i : ℕ) (x : X) → slice_get xs i ≡ Some x
    → AllByRecursion P xs → P x
fits_get P [] i x at all = cc
fits_get P (y ∷ ys) zero x at all = let e : y ≡ x = cc in subst P e all.0
fits_get P (y ∷ ys) (suc i) x at all = fits_get P ys i x at all.1
