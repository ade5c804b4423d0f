-- The least and the greatest of two lists' values together.
use Rattle.std.proofs.Common.{◌≡◌, ℕ, suc, ◌-◌, Bool, true, false, cond, List, [], ◌∷◌, ◌++◌, refl, sym, ap, ◌∙◌, arith, length, filter}
use Rattle.std.specs.List.{AllByRecursion}
use Rattle.std.specs.declared.cmp.Ordering.{Ordering}
use Rattle.std.specs.declared.cmp.Ordering.TheVariants.{Less, Equal, Greater}
use Rattle.std.specs.Ordering.{is_gt, is_lt, ordering_reverse}
use Rattle.std.proofs.lemmas.Cmp.{upto}
use Rattle.lists.specs.Arranged.{insert_by, sort_by, Ascends}
use Rattle.lists.proofs.Arranging.{sort_ascends}
use Rattle.rows.specs.declared.value.Value.{Value}
use Rattle.rows.specs.declared.value.Value.TheVariants.{Null, Number, Word, Truth}
use Rattle.rows.specs.Values.{value_cmp, column_of, is_null}
use Rattle.rows.proofs.Orders.{value_total, value_exact}
use Rattle.aggregate_op.specs.Partials.{is_no_null, least, greatest}
use Rattle.aggregate_op.specs.Joined.{lesser, greater}

-- ---- the order of values

turned : (r s : Ordering) → s ≡ ordering_reverse r → is_gt r ≡ is_lt s
turned Less s e = sym (ap is_lt e)
turned Equal s e = sym (ap is_lt e)
turned Greater s e = sym (ap is_lt e)

below_is_above : (a b : Value) → is_lt (value_cmp a b) ≡ is_gt (value_cmp b a)
below_is_above a b = sym (turned (value_cmp b a) (value_cmp a b) (value_total.antisymm a b))

not_both : (r : Ordering) → is_gt r ≡ true → is_lt r ≡ false
not_both Less h = cc
not_both Equal h = cc
not_both Greater h = refl

not_back : (a b : Value) → is_gt (value_cmp a b) ≡ true → is_gt (value_cmp b a) ≡ false
not_back a b h = sym (below_is_above a b) ∙ not_both (value_cmp a b) h

-- what is above one that is above another is above that too
above_trans : (a b c : Value) → is_gt (value_cmp a b) ≡ true → is_gt (value_cmp b c) ≡ true → is_gt (value_cmp a c) ≡ true
above_trans a b c h k = by (is_gt (value_cmp a c)) refl where
  by : (g : Bool) → is_gt (value_cmp a c) ≡ g → is_gt (value_cmp a c) ≡ true
  by true e = e
  by false e = let absent : is_gt (value_cmp a b) ≡ false = upto value_total a c b e (not_back b c k) in cc

-- ---- the lesser

lesser_null : (a : Value) → lesser a Null ≡ a
lesser_null Null = refl
lesser_null (Number n) = refl
lesser_null (Word w) = refl
lesser_null (Truth t) = refl

lesser_is : (a b : Value) → is_null a ≡ false → is_null b ≡ false → lesser a b ≡ cond (is_gt (value_cmp a b)) b a
lesser_is a b h k =
    ap (λ t. cond t b (cond (is_null b) a (cond (is_gt (value_cmp a b)) b a))) h
    ∙ ap (λ t. cond t a (cond (is_gt (value_cmp a b)) b a)) k

lesser_above : (a b : Value) → is_null a ≡ false → is_null b ≡ false → is_gt (value_cmp a b) ≡ true → lesser a b ≡ b
lesser_above a b h k e = lesser_is a b h k ∙ ap (λ t. cond t b a) e

lesser_upto : (a b : Value) → is_null a ≡ false → is_null b ≡ false → is_gt (value_cmp a b) ≡ false → lesser a b ≡ a
lesser_upto a b h k e = lesser_is a b h k ∙ ap (λ t. cond t b a) e

lesser_of_three : (a b c : Value) → is_null a ≡ false → is_null b ≡ false → is_null c ≡ false → lesser a (lesser b c) ≡ lesser (lesser a b) c
lesser_of_three a b c na nb nc = by (is_gt (value_cmp a b)) refl (is_gt (value_cmp b c)) refl where
  by : (f : Bool) → is_gt (value_cmp a b) ≡ f → (s : Bool) → is_gt (value_cmp b c) ≡ s → lesser a (lesser b c) ≡ lesser (lesser a b) c
  by true e true k =
      ap (lesser a) (lesser_above b c nb nc k) ∙ lesser_above a c na nc (above_trans a b c e k)
      ∙ sym (ap (λ v. lesser v c) (lesser_above a b na nb e) ∙ lesser_above b c nb nc k)
  by true e false k =
      ap (lesser a) (lesser_upto b c nb nc k) ∙ lesser_above a b na nb e
      ∙ sym (ap (λ v. lesser v c) (lesser_above a b na nb e) ∙ lesser_upto b c nb nc k)
  by false e true k =
      ap (lesser a) (lesser_above b c nb nc k) ∙ sym (ap (λ v. lesser v c) (lesser_upto a b na nb e))
  by false e false k =
      ap (lesser a) (lesser_upto b c nb nc k) ∙ lesser_upto a b na nb e
      ∙ sym (ap (λ v. lesser v c) (lesser_upto a b na nb e) ∙ lesser_upto a c na nc (upto value_total a b c e k))

lesser_last : (a b c : Value) → is_null a ≡ false → is_null b ≡ false → lesser a (lesser b c) ≡ lesser (lesser a b) c
lesser_last a b Null na nb = ap (lesser a) (lesser_null b) ∙ sym (lesser_null (lesser a b))
lesser_last a b (Number n) na nb = lesser_of_three a b (Number n) na nb refl
lesser_last a b (Word w) na nb = lesser_of_three a b (Word w) na nb refl
lesser_last a b (Truth t) na nb = lesser_of_three a b (Truth t) na nb refl

lesser_middle : (a b c : Value) → is_null a ≡ false → lesser a (lesser b c) ≡ lesser (lesser a b) c
lesser_middle a Null c na = ap (λ v. lesser v c) (sym (lesser_null a))
lesser_middle a (Number n) c na = lesser_last a (Number n) c na refl
lesser_middle a (Word w) c na = lesser_last a (Word w) c na refl
lesser_middle a (Truth t) c na = lesser_last a (Truth t) c na refl

-- ---- the greater

greater_above : (a b : Value) → is_gt (value_cmp b a) ≡ true → greater a b ≡ b
greater_above a b e = ap (λ t. cond t b a) (below_is_above a b ∙ e)

greater_upto : (a b : Value) → is_gt (value_cmp b a) ≡ false → greater a b ≡ a
greater_upto a b e = ap (λ t. cond t b a) (below_is_above a b ∙ e)

greater_null : (a : Value) → greater a Null ≡ a
greater_null Null = refl
greater_null (Number n) = refl
greater_null (Word w) = refl
greater_null (Truth t) = refl

null_greater : (a : Value) → greater Null a ≡ a
null_greater Null = refl
null_greater (Number n) = refl
null_greater (Word w) = refl
null_greater (Truth t) = refl

greater_assoc : (a b c : Value) → greater a (greater b c) ≡ greater (greater a b) c
greater_assoc a b c = by (is_gt (value_cmp b a)) refl (is_gt (value_cmp c b)) refl where
  by : (f : Bool) → is_gt (value_cmp b a) ≡ f → (s : Bool) → is_gt (value_cmp c b) ≡ s → greater a (greater b c) ≡ greater (greater a b) c
  by true e true k =
      ap (greater a) (greater_above b c k) ∙ greater_above a c (above_trans c b a k e)
      ∙ sym (ap (λ v. greater v c) (greater_above a b e) ∙ greater_above b c k)
  by true e false k =
      ap (greater a) (greater_upto b c k) ∙ greater_above a b e
      ∙ sym (ap (λ v. greater v c) (greater_above a b e) ∙ greater_upto b c k)
  by false e true k =
      ap (greater a) (greater_above b c k) ∙ sym (ap (λ v. greater v c) (greater_upto a b e))
  by false e false k =
      ap (greater a) (greater_upto b c k) ∙ greater_upto a b e
      ∙ sym (ap (λ v. greater v c) (greater_upto a b e) ∙ greater_upto a c (upto value_total c b a k e))

-- ---- what sorting leaves at its ends

abbrev pub NoNulls : List Value → Type 0
NoNulls values = AllByRecursion (λ v. is_null v ≡ false) values

pub no_nulls : (values : List Value) → NoNulls (filter is_no_null values)
no_nulls [] = tt
no_nulls (Null ∷ vs) = no_nulls vs
no_nulls (Number n ∷ vs) = (refl, no_nulls vs)
no_nulls (Word w ∷ vs) = (refl, no_nulls vs)
no_nulls (Truth t ∷ vs) = (refl, no_nulls vs)

pub all_insert : {K : Type 0} (cmp : K → K → Ordering) (P : K → Type 0) (x : K) (xs : List K) → P x → AllByRecursion P xs → AllByRecursion P (insert_by cmp x xs)
all_insert cmp P x [] p all = (p, tt)
all_insert cmp P x (y ∷ ys) p all = elim (is_gt (cmp x y)) as (λ b. AllByRecursion P (cond b (y ∷ insert_by cmp x ys) (x ∷ y ∷ ys))) [
  | true ↦ (all.0, all_insert cmp P x ys p all.1)
  | false ↦ (p, all)
]

pub all_sort : {K : Type 0} (cmp : K → K → Ordering) (P : K → Type 0) (xs : List K) → AllByRecursion P xs → AllByRecursion P (sort_by cmp xs)
all_sort cmp P [] all = tt
all_sort cmp P (x ∷ xs) all = all_insert cmp P x (sort_by cmp xs) all.0 (all_sort cmp P xs all.1)

first_insert : (x : Value) (s : List Value) → is_null x ≡ false → NoNulls s → column_of (insert_by value_cmp x s) 0 ≡ lesser x (column_of s 0)
first_insert x [] h all = sym (lesser_null x)
first_insert x (y ∷ ys) h all = by (is_gt (value_cmp x y)) refl where
  by : (g : Bool) → is_gt (value_cmp x y) ≡ g → column_of (insert_by value_cmp x (y ∷ ys)) 0 ≡ lesser x y
  by true e = ap (λ b. column_of (cond b (y ∷ insert_by value_cmp x ys) (x ∷ y ∷ ys)) 0) e ∙ sym (lesser_above x y h all.0 e)
  by false e = ap (λ b. column_of (cond b (y ∷ insert_by value_cmp x ys) (x ∷ y ∷ ys)) 0) e ∙ sym (lesser_upto x y h all.0 e)

pub least-append : (xs ys : List Value) → NoNulls xs → NoNulls ys → least (xs ++ ys) ≡ lesser (least xs) (least ys)
least-append [] ys all1 all2 = refl
least-append (x ∷ xs) ys all1 all2 =
    first_insert x (sort_by value_cmp (xs ++ ys)) all1.0 (all_sort value_cmp (λ v. is_null v ≡ false) (xs ++ ys) (both xs ys all1.1 all2))
    ∙ ap (lesser x) (least-append xs ys all1.1 all2)
    ∙ lesser_middle x (least xs) (least ys) all1.0
    ∙ ap (λ v. lesser v (least ys)) (sym (first_insert x (sort_by value_cmp xs) all1.0 (all_sort value_cmp (λ v. is_null v ≡ false) xs all1.1)))
  where
    both : (us vs : List Value) → NoNulls us → NoNulls vs → NoNulls (us ++ vs)
    both [] vs a b = b
    both (u ∷ us) vs a b = (a.0, both us vs a.1 b)

-- the last value, or another one where there is none
abbrev last_or : Value → List Value → Value
last_or other [] = other
last_or other (x ∷ xs) = last_or x xs

last_is : (x : Value) (xs : List Value) → column_of (x ∷ xs) (length xs) ≡ last_or x xs
last_is x [] = refl
last_is x (y ∷ ys) = last_is y ys

last_has : (P : Value → Type 0) (x : Value) (xs : List Value) → P x → AllByRecursion P xs → P (last_or x xs)
last_has P x [] p all = p
last_has P x (y ∷ ys) p all = last_has P y ys all.0 all.1

all_above : (x y : Value) (ys : List Value) → is_gt (value_cmp x y) ≡ false → AllByRecursion (λ z. is_gt (value_cmp y z) ≡ false) ys → AllByRecursion (λ z. is_gt (value_cmp x z) ≡ false) ys
all_above x y [] h all = tt
all_above x y (z ∷ zs) h all = (upto value_total x y z h all.0, all_above x y zs h all.1)

equal_between : (r s : Ordering) → s ≡ ordering_reverse r → is_gt r ≡ false → is_gt s ≡ false → r ≡ Equal
equal_between Less s e h k = cc (ap is_gt e)
equal_between Equal s e h k = refl
equal_between Greater s e h k = cc

-- one that isn't above another is passed over
absorbed : (x v : Value) → is_gt (value_cmp x v) ≡ false → greater x v ≡ v
absorbed x v h = by (is_gt (value_cmp v x)) refl where
  by : (g : Bool) → is_gt (value_cmp v x) ≡ g → greater x v ≡ v
  by true e = greater_above x v e
  by false e = greater_upto x v e ∙ value_exact x v (equal_between (value_cmp x v) (value_cmp v x) (value_total.antisymm v x) h e)

last_insert : (other x : Value) (s : List Value) → Ascends value_cmp s → last_or other (insert_by value_cmp x s) ≡ greater x (last_or Null s)
last_insert other x [] up = sym (greater_null x)
last_insert other x (y ∷ ys) up = by (is_gt (value_cmp x y)) refl (last_insert y x ys up.1) where
  behind : (zs : List Value) → is_gt (value_cmp x y) ≡ true → greater x (last_or Null zs) ≡ greater x (last_or y zs)
  behind [] e = greater_null x ∙ sym (greater_upto x y (not_back x y e))
  behind (z ∷ zs) e = refl

  by : (g : Bool) → is_gt (value_cmp x y) ≡ g → last_or y (insert_by value_cmp x ys) ≡ greater x (last_or Null ys) → last_or other (insert_by value_cmp x (y ∷ ys)) ≡ greater x (last_or y ys)
  by true e rest = ap (λ b. last_or other (cond b (y ∷ insert_by value_cmp x ys) (x ∷ y ∷ ys))) e ∙ rest ∙ behind ys e
  by false e rest =
      ap (λ b. last_or other (cond b (y ∷ insert_by value_cmp x ys) (x ∷ y ∷ ys))) e
      ∙ sym (absorbed x (last_or y ys) (last_has (λ z. is_gt (value_cmp x z) ≡ false) y ys e (all_above x y ys e up.0)))

length-insert : {K : Type 0} (cmp : K → K → Ordering) (x : K) (xs : List K) → length (insert_by cmp x xs) ≡ suc (length xs)
length-insert cmp x [] = refl
length-insert cmp x (y ∷ ys) = elim (is_gt (cmp x y)) as (λ b. length (cond b (y ∷ insert_by cmp x ys) (x ∷ y ∷ ys)) ≡ suc (suc (length ys))) [
  | true ↦ ap suc (length-insert cmp x ys)
  | false ↦ refl
]

pub length-sort : {K : Type 0} (cmp : K → K → Ordering) (xs : List K) → length (sort_by cmp xs) ≡ length xs
length-sort cmp [] = refl
length-sort cmp (x ∷ xs) = length-insert cmp x (sort_by cmp xs) ∙ ap suc (length-sort cmp xs)

at_end : (s : List Value) (n : ℕ) → length s ≡ n → column_of s (n - 1) ≡ last_or Null s
at_end [] n h = refl
at_end (x ∷ xs) n h = ap (λ k. column_of (x ∷ xs) k) (let e : n - 1 ≡ length xs = omega (arith, h) in e) ∙ last_is x xs

greatest_is : (values : List Value) → greatest values ≡ last_or Null (sort_by value_cmp values)
greatest_is values = at_end (sort_by value_cmp values) (length values) (length-sort value_cmp values)

greatest-cons : (x : Value) (xs : List Value) → greatest (x ∷ xs) ≡ greater x (greatest xs)
greatest-cons x xs = greatest_is (x ∷ xs) ∙ last_insert Null x (sort_by value_cmp xs) (sort_ascends value_total xs) ∙ ap (greater x) (sym (greatest_is xs))

pub greatest-append : (xs ys : List Value) → greatest (xs ++ ys) ≡ greater (greatest xs) (greatest ys)
greatest-append [] ys = sym (null_greater (greatest ys))
greatest-append (x ∷ xs) ys =
    greatest-cons x (xs ++ ys)
    ∙ ap (greater x) (greatest-append xs ys)
    ∙ greater_assoc x (greatest xs) (greatest ys)
    ∙ ap (λ v. greater v (greatest ys)) (sym (greatest-cons x xs))
