-- The partials of two lists of rows, merged, are the partial of the rows of both.
use Rattle.std.proofs.Common.{◌≡◌, ◌≤◌, ℕ, suc, zero, ◌+◌, min, Bool, true, false, cond, ◌||◌, List, [], ◌∷◌, ◌++◌, refl, sym, ap, ◌∙◌, subst, arith, length, map, filter, take, append-nil, length-append}
use Rattle.std.specs.Prelude.{nat_lt}
use Rattle.std.specs.List.{AllByRecursion, list_any}
use Rattle.std.proofs.lemmas.List.Elements.{filter-append}
use Rattle.std.proofs.lemmas.Bool.{lt-ltb, ltb-false}
use Rattle.std.proofs.lemmas.Cmp.{tied_itself}
use Rattle.std.specs.declared.cmp.Ordering.{Ordering}
use Rattle.std.specs.declared.cmp.Ordering.TheVariants.{Less, Equal, Greater}
use Rattle.std.specs.Ordering.{is_gt, is_eq, ordering_reverse, match_ordering}
use Rattle.lists.specs.Arranged.{Ascends, occurrences, one_if, distinct_by}
use Rattle.lists.proofs.Arranging.{sort_ascends, occurrences-sort, occurrences-distinct, bag_fixes}
use Rattle.rows.specs.declared.value.Value.{Value}
use Rattle.rows.specs.Values.{row_cmp}
use Rattle.rows.proofs.Orders.{row_total, row_exact}
use Rattle.aggregate_op.specs.declared.fold.Fold.{Fold}
use Rattle.aggregate_op.specs.Partials.{group_of, groups_of, is_member, members, known_of, group_row, partial, IsFoldRow}
use Rattle.aggregate_op.specs.Joined.{joined, merged, merged_from}
use Rattle.aggregate_op.specs.Stored.{IsStoredRow, AreFoldRows}
use Rattle.aggregate_op.proofs.Lesser.{all_sort}
use Rattle.aggregate_op.proofs.JoinedRows.{front_is, known_joined}

-- ---- lists

pub all_filter : {X : Type 0} (P : X → Type 0) (test : X → Bool) (xs : List X) → AllByRecursion P xs → AllByRecursion P (filter test xs)
all_filter P test [] all = tt
all_filter P test (x ∷ xs) all = elim (test x) as (λ b. AllByRecursion P (cond b (x ∷ filter test xs) (filter test xs))) [
  | true ↦ (all.0, all_filter P test xs all.1)
  | false ↦ all_filter P test xs all.1
]

pub all_append : {X : Type 0} (P : X → Type 0) (xs ys : List X) → AllByRecursion P xs → AllByRecursion P ys → AllByRecursion P (xs ++ ys)
all_append P [] ys a b = b
all_append P (x ∷ xs) ys a b = (a.0, all_append P xs ys a.1 b)

pub all_distinct : {X : Type 0} (cmp : X → X → Ordering) (P : X → Type 0) (xs : List X) → AllByRecursion P xs → AllByRecursion P (distinct_by cmp xs)
all_distinct cmp P [] all = tt
all_distinct cmp P (x ∷ xs) all = elim (list_any (λ y. is_eq (cmp x y)) xs) as (λ b. AllByRecursion P (cond b (distinct_by cmp xs) (x ∷ distinct_by cmp xs))) [
  | true ↦ all_distinct cmp P xs all.1
  | false ↦ (all.0, all_distinct cmp P xs all.1)
]

empty_if : {X : Type 0} (xs : List X) → length xs ≡ 0 → xs ≡ []
empty_if [] h = refl
empty_if (x ∷ xs) h = absurd (omega (arith, h))

-- ---- the order of groups

abbrev pub group_cmp : List Value → List Value → Ordering
group_cmp a b = row_cmp [] a b

even_back : (r s : Ordering) → s ≡ ordering_reverse r → is_eq r ≡ is_eq s
even_back Less s e = sym (ap is_eq e)
even_back Equal s e = sym (ap is_eq e)
even_back Greater s e = sym (ap is_eq e)

pub even_alike : (a b : List Value) → is_eq (group_cmp a b) ≡ is_eq (group_cmp b a)
even_alike a b = even_back (group_cmp a b) (group_cmp b a) ((row_total []).antisymm b a)

equal_if : (r : Ordering) → is_eq r ≡ true → r ≡ Equal
equal_if Less h = cc
equal_if Equal h = refl
equal_if Greater h = cc

pub same_if : (a b : List Value) → is_eq (group_cmp a b) ≡ true → a ≡ b
same_if a b h = row_exact [] a b (equal_if (group_cmp a b) h)

pub less_if : (r : Ordering) → is_gt r ≡ false → is_eq r ≡ false → r ≡ Less
less_if Less h k = refl
less_if Equal h k = cc
less_if Greater h k = cc

turned_less : (r s : Ordering) → s ≡ ordering_reverse r → r ≡ Less → s ≡ Greater
turned_less Less s e h = e
turned_less Equal s e h = cc
turned_less Greater s e h = cc

-- each is below all behind it
abbrev Rises : List (List Value) → Type 0
Rises [] = Unit {0}
Rises (u ∷ us) = AllByRecursion (λ g. group_cmp u g ≡ Less) us × Rises us

all_below : (u : List Value) (us : List (List Value)) → AllByRecursion (λ g. is_gt (group_cmp u g) ≡ false) us → occurrences group_cmp u us ≡ 0 → AllByRecursion (λ g. group_cmp u g ≡ Less) us
all_below u [] up none = tt
all_below u (g ∷ gs) up none = by (all_below u gs up.1) (is_eq (group_cmp u g)) refl where
  by : (occurrences group_cmp u gs ≡ 0 → AllByRecursion (λ k. group_cmp u k ≡ Less) gs) → (b : Bool) → is_eq (group_cmp u g) ≡ b → AllByRecursion (λ k. group_cmp u k ≡ Less) (g ∷ gs)
  by rest true e = absurd (let one : one_if (is_eq (group_cmp u g)) ≡ 1 = ap one_if e in omega (arith, none, one))
  by rest false e =
      let one : one_if (is_eq (group_cmp u g)) ≡ 0 = ap one_if e in
      (less_if (group_cmp u g) up.0 e, rest (omega (arith, none, one)))

rises : (us : List (List Value)) → Ascends group_cmp us → ((z : List Value) → occurrences group_cmp z us ≤ 1) → Rises us
rises [] up once = tt
rises (u ∷ us) up once =
    let one : one_if (is_eq (group_cmp u u)) ≡ 1 = ap (λ r. one_if (is_eq r)) (tied_itself (row_total []) u) in
    let here = once u in
    (all_below u us up.0 (omega (arith, here, one)), rises us up.1 (λ z. (let there = once z in omega (arith, there))))

-- ---- the groups of rows

module _ (fold : Fold) where
  -- whether a group has members
  abbrev has : List (List Value) → List Value → Bool
  has rows group = nat_lt 0 (length (members fold group rows))

  how_often : (z : List Value) (rows : List (List Value)) → length (members fold z rows) ≡ occurrences group_cmp z (map (group_of fold) rows)
  how_often z [] = refl
  how_often z (row ∷ rows) = ap (λ b. length (cond b (row ∷ members fold z rows) (members fold z rows))) (even_alike (group_of fold row) z) ∙ by (how_often z rows) (is_eq (group_cmp z (group_of fold row))) where
    by : length (members fold z rows) ≡ occurrences group_cmp z (map (group_of fold) rows) → (b : Bool) → length (cond b (row ∷ members fold z rows) (members fold z rows)) ≡ one_if b + occurrences group_cmp z (map (group_of fold) rows)
    by e true = omega (arith, e)
    by e false = omega (arith, e)

  pub groups_often : (z : List Value) (rows : List (List Value)) → occurrences group_cmp z (groups_of fold rows) ≡ min (length (members fold z rows)) 1
  groups_often z rows =
      occurrences-sort (row_total []) z (distinct_by group_cmp (map (group_of fold) rows))
      ∙ occurrences-distinct (row_total []) z (map (group_of fold) rows)
      ∙ ap (λ n. min n 1) (sym (how_often z rows))

  groups_rise : (rows : List (List Value)) → Rises (groups_of fold rows)
  groups_rise rows = rises (groups_of fold rows) (sort_ascends (row_total []) (distinct_by group_cmp (map (group_of fold) rows))) (λ z. (let e = groups_often z rows in omega (arith, e)))

  filter_ascends : (test : List Value → Bool) (us : List (List Value)) → Ascends group_cmp us → Ascends group_cmp (filter test us)
  filter_ascends test [] up = tt
  filter_ascends test (u ∷ us) up = elim (test u) as (λ b. Ascends group_cmp (cond b (u ∷ filter test us) (filter test us))) [
    | true ↦ (all_filter (λ g. is_gt (group_cmp u g) ≡ false) test us up.0, filter_ascends test us up.1)
    | false ↦ filter_ascends test us up.1
  ]

  filter_often : (test : List Value → Bool) (z : List Value) (us : List (List Value)) → occurrences group_cmp z (filter test us) ≡ cond (test z) (occurrences group_cmp z us) 0
  filter_often test z [] = elim (test z) as (λ b. ◌≡◌ {A = ℕ} 0 (cond b 0 0)) [ true ↦ refl | false ↦ refl ]
  filter_often test z (u ∷ us) = by (is_eq (group_cmp z u)) refl (filter_often test z us) where
    same : (t : Bool) → occurrences group_cmp z (filter test us) ≡ cond t (occurrences group_cmp z us) 0 → one_if true + occurrences group_cmp z us ≡ one_if (is_eq (group_cmp z u)) + occurrences group_cmp z us
        → occurrences group_cmp z (cond t (u ∷ filter test us) (filter test us)) ≡ cond t (one_if (is_eq (group_cmp z u)) + occurrences group_cmp z us) 0
    same true rest one = ap (λ n. one_if (is_eq (group_cmp z u)) + n) rest
    same false rest one = rest

    other : (s t : Bool) → is_eq (group_cmp z u) ≡ false → occurrences group_cmp z (filter test us) ≡ cond t (occurrences group_cmp z us) 0
        → occurrences group_cmp z (cond s (u ∷ filter test us) (filter test us)) ≡ cond t (one_if (is_eq (group_cmp z u)) + occurrences group_cmp z us) 0
    other true true e rest = ap (λ n. one_if (is_eq (group_cmp z u)) + n) rest
    other true false e rest = let none : one_if (is_eq (group_cmp z u)) ≡ 0 = ap one_if e in omega (arith, rest, none)
    other false true e rest = let none : one_if (is_eq (group_cmp z u)) ≡ 0 = ap one_if e in omega (arith, rest, none)
    other false false e rest = rest

    by : (b : Bool) → is_eq (group_cmp z u) ≡ b → occurrences group_cmp z (filter test us) ≡ cond (test z) (occurrences group_cmp z us) 0
        → occurrences group_cmp z (cond (test u) (u ∷ filter test us) (filter test us)) ≡ cond (test z) (one_if (is_eq (group_cmp z u)) + occurrences group_cmp z us) 0
    by true e rest =
        let alike : test z ≡ test u = ap test (same_if z u e) in
        subst (λ t. occurrences group_cmp z (cond t (u ∷ filter test us) (filter test us)) ≡ cond (test z) (one_if (is_eq (group_cmp z u)) + occurrences group_cmp z us) 0) alike
        (same (test z) rest (ap (λ b. one_if b + occurrences group_cmp z us) (sym e)))
    by false e rest = other (test u) (test z) e rest

  -- the groups of some rows, out of those of more
  groups_among : (rows all : List (List Value)) → ((z : List Value) → length (members fold z rows) ≤ length (members fold z all)) → groups_of fold rows ≡ filter (has rows) (groups_of fold all)
  groups_among rows all more =
      bag_fixes (row_total []) (row_exact []) (groups_of fold rows) (filter (has rows) (groups_of fold all))
      (sort_ascends (row_total []) (distinct_by group_cmp (map (group_of fold) rows)))
      (filter_ascends (has rows) (groups_of fold all) (sort_ascends (row_total []) (distinct_by group_cmp (map (group_of fold) all))))
      (λ z. groups_often z rows
      ∙ counted (length (members fold z rows)) (length (members fold z all)) (more z)
      ∙ ap (λ n. cond (has rows z) n 0) (sym (groups_often z all))
      ∙ sym (filter_often (has rows) z (groups_of fold all)))
    where
      counted : (m n : ℕ) → m ≤ n → min m 1 ≡ cond (nat_lt 0 m) (min n 1) 0
      counted zero n h = refl
      counted (suc m) n h = (let e : min (suc m) 1 ≡ min n 1 = omega (arith, h) in e) ∙ sym (ap (λ b. cond b (min n 1) 0) (lt-ltb 0 (suc m) (omega arith)))

  wide : (rows : List (List Value)) → AllByRecursion (IsFoldRow fold) rows → AllByRecursion (λ g. length g ≡ fold.groups) (map (group_of fold) rows)
  wide [] fit = tt
  wide (row ∷ rows) fit =
      (ap (λ r. length (take fold.groups r)) fit.0.whole ∙ ap length (front_is fit.0.groups fit.0.values fold.groups fit.0.width) ∙ fit.0.width, wide rows fit.1)

  pub groups_wide : (rows : List (List Value)) → AllByRecursion (IsFoldRow fold) rows → AllByRecursion (λ g. length g ≡ fold.groups) (groups_of fold rows)
  groups_wide rows fit = all_sort group_cmp (λ g. length g ≡ fold.groups) (distinct_by group_cmp (map (group_of fold) rows)) (all_distinct group_cmp (λ g. length g ≡ fold.groups) (map (group_of fold) rows) (wide rows fit))

  -- ---- merging

  pub merged_nil : (ls : List (List Value)) → merged fold ls [] ≡ ls
  merged_nil [] = refl
  merged_nil (l ∷ ls) = refl

  takes_left : (l : List Value) (ls rs : List (List Value)) → AllByRecursion (λ r. group_cmp (group_of fold l) (group_of fold r) ≡ Less) rs → merged fold (l ∷ ls) rs ≡ l ∷ merged fold ls rs
  takes_left l ls [] less = ap (λ t. l ∷ t) (sym (merged_nil ls))
  takes_left l ls (r ∷ rs) less = ap (λ o. match_ordering o (l ∷ merged fold ls (r ∷ rs)) (joined fold l r ∷ merged fold ls rs) (r ∷ merged_from fold l ls (merged fold ls) rs)) less.0

  takes_right : (r : List Value) (ls rs : List (List Value)) → AllByRecursion (λ l. group_cmp (group_of fold l) (group_of fold r) ≡ Greater) ls → merged fold ls (r ∷ rs) ≡ r ∷ merged fold ls rs
  takes_right r [] rs above = refl
  takes_right r (l ∷ ls) rs above = ap (λ o. match_ordering o (l ∷ merged fold ls (r ∷ rs)) (joined fold l r ∷ merged fold ls rs) (r ∷ merged_from fold l ls (merged fold ls) rs)) above.0

  takes_both : (l r : List Value) (ls rs : List (List Value)) → group_cmp (group_of fold l) (group_of fold r) ≡ Equal → merged fold (l ∷ ls) (r ∷ rs) ≡ joined fold l r ∷ merged fold ls rs
  takes_both l r ls rs e = ap (λ o. match_ordering o (l ∷ merged fold ls (r ∷ rs)) (joined fold l r ∷ merged fold ls rs) (r ∷ merged_from fold l ls (merged fold ls) rs)) e

  -- the rows of some of the groups
  abbrev rows_on : List (List Value) → List (List Value) → List (List Value)
  rows_on rows groups = map (group_row fold rows) (filter (has rows) groups)

  group_back : (rows : List (List Value)) (g : List Value) → length g ≡ fold.groups → group_of fold (group_row fold rows g) ≡ g
  group_back rows g w = front_is g _ fold.groups w

  on_groups : (P : List Value → Type 0) (rows us : List (List Value)) → AllByRecursion P us → AllByRecursion (λ g. length g ≡ fold.groups) us → AllByRecursion (λ r. P (group_of fold r)) (rows_on rows us)
  on_groups P rows [] all w = tt
  on_groups P rows (u ∷ us) all w = elim (has rows u) as (λ b. AllByRecursion (λ r. P (group_of fold r)) (map (group_row fold rows) (cond b (u ∷ filter (has rows) us) (filter (has rows) us)))) [
    | true ↦ (subst P (sym (group_back rows u w.0)) all.0, on_groups P rows us all.1 w.1)
    | false ↦ on_groups P rows us all.1 w.1
  ]

  has_both : (a b : List (List Value)) (u : List Value) → has (a ++ b) u ≡ (has a u || has b u)
  has_both a b u =
      ap (λ rows. nat_lt 0 (length rows)) (filter-append (is_member fold u) a b)
      ∙ ap (nat_lt 0) (length-append (members fold u a) (members fold u b))
      ∙ either (length (members fold u a)) (length (members fold u b))
    where
      either : (m n : ℕ) → nat_lt 0 (m + n) ≡ (nat_lt 0 m || nat_lt 0 n)
      either zero n = ap (nat_lt 0) (let e : 0 + n ≡ n = omega arith in e)
      either (suc m) n = lt-ltb 0 (suc m + n) (omega arith) ∙ sym (ap (λ b. b || nat_lt 0 n) (lt-ltb 0 (suc m) (omega arith)))

  none_if : (rows : List (List Value)) (u : List Value) → has rows u ≡ false → members fold u rows ≡ []
  none_if rows u e = let none : length (members fold u rows) ≤ 0 = ltb-false 0 (length (members fold u rows)) e in empty_if (members fold u rows) (omega (arith, none))

  pub members-append : (a b : List (List Value)) (u : List Value) → members fold u (a ++ b) ≡ members fold u a ++ members fold u b
  members-append a b u = filter-append (is_member fold u) a b

  module _ (a b : List (List Value)) (stored1 : AllByRecursion (IsStoredRow fold) a) (stored2 : AllByRecursion (IsStoredRow fold) b) where
    above : (u : List Value) (us : List (List Value)) → AllByRecursion (λ g. group_cmp u g ≡ Less) us → AllByRecursion (λ g. group_cmp g u ≡ Greater) us
    above u [] all = tt
    above u (g ∷ gs) all = (turned_less (group_cmp u g) (group_cmp g u) ((row_total []).antisymm g u) all.0, above u gs all.1)

    -- the claim, where it is known which have the first group
    abbrev IsMergedAt : List Value → List (List Value) → Bool → Bool → Bool → Type 0
    IsMergedAt u us s t o =
        merged fold (map (group_row fold a) (cond s (u ∷ filter (has a) us) (filter (has a) us))) (map (group_row fold b) (cond t (u ∷ filter (has b) us) (filter (has b) us)))
        ≡ map (group_row fold (a ++ b)) (cond o (u ∷ filter (has (a ++ b)) us) (filter (has (a ++ b)) us))

    merged_on : (us : List (List Value)) → Rises us → AllByRecursion (λ g. length g ≡ fold.groups) us → merged fold (rows_on a us) (rows_on b us) ≡ rows_on (a ++ b) us
    merged_on [] up wide = refl
    merged_on (u ∷ us) up wide = by (has a u) refl (has b u) refl (merged_on us up.1 wide.1) where
      total : (s t : Bool) → has a u ≡ s → has b u ≡ t → has (a ++ b) u ≡ (s || t)
      total s t e f = has_both a b u ∙ ap (λ x. x || has b u) e ∙ ap (λ x. s || x) f

      left_first : members fold u b ≡ [] → merged fold (group_row fold a u ∷ rows_on a us) (rows_on b us) ≡ group_row fold (a ++ b) u ∷ merged fold (rows_on a us) (rows_on b us)
      left_first none =
          takes_left (group_row fold a u) (rows_on a us) (rows_on b us)
          (subst (λ g. AllByRecursion (λ r. group_cmp g (group_of fold r) ≡ Less) (rows_on b us)) (sym (group_back a u wide.0)) (on_groups (λ g. group_cmp u g ≡ Less) b us up.0 wide.1))
          ∙ ap (λ ms. known_of fold u ms ∷ merged fold (rows_on a us) (rows_on b us)) (sym (members-append a b u ∙ ap (λ ms. members fold u a ++ ms) none ∙ append-nil (members fold u a)))

      right_first : members fold u a ≡ [] → merged fold (rows_on a us) (group_row fold b u ∷ rows_on b us) ≡ group_row fold (a ++ b) u ∷ merged fold (rows_on a us) (rows_on b us)
      right_first none =
          takes_right (group_row fold b u) (rows_on a us) (rows_on b us)
          (subst (λ g. AllByRecursion (λ l. group_cmp (group_of fold l) g ≡ Greater) (rows_on a us)) (sym (group_back b u wide.0)) (on_groups (λ g. group_cmp g u ≡ Greater) a us (above u us up.0) wide.1))
          ∙ ap (λ ms. known_of fold u ms ∷ merged fold (rows_on a us) (rows_on b us)) (sym (members-append a b u ∙ ap (λ ms. ms ++ members fold u b) none))

      both_first : merged fold (group_row fold a u ∷ rows_on a us) (group_row fold b u ∷ rows_on b us) ≡ group_row fold (a ++ b) u ∷ merged fold (rows_on a us) (rows_on b us)
      both_first =
          takes_both (group_row fold a u) (group_row fold b u) (rows_on a us) (rows_on b us)
          (ap (λ g. group_cmp g (group_of fold (group_row fold b u))) (group_back a u wide.0) ∙ ap (group_cmp u) (group_back b u wide.0) ∙ tied_itself (row_total []) u)
          ∙ ap (λ r. r ∷ merged fold (rows_on a us) (rows_on b us))
          (known_joined fold u (members fold u a) (members fold u b) wide.0 (all_filter (IsStoredRow fold) (is_member fold u) a stored1) (all_filter (IsStoredRow fold) (is_member fold u) b stored2)
          ∙ ap (known_of fold u) (sym (members-append a b u)))

      at : (s t : Bool) → has a u ≡ s → has b u ≡ t → IsMergedAt u us s t (s || t) → IsMergedAt u us (has a u) (has b u) (has (a ++ b) u)
      at s t e f done = subst (λ x. IsMergedAt u us x (has b u) (has (a ++ b) u)) (sym e) (subst (λ x. IsMergedAt u us s x (has (a ++ b) u)) (sym f) (subst (IsMergedAt u us s t) (sym (total s t e f)) done))

      by : (s : Bool) → has a u ≡ s → (t : Bool) → has b u ≡ t → merged fold (rows_on a us) (rows_on b us) ≡ rows_on (a ++ b) us → IsMergedAt u us (has a u) (has b u) (has (a ++ b) u)
      by true e true f rest = at true true e f (both_first ∙ ap (λ l. group_row fold (a ++ b) u ∷ l) rest)
      by true e false f rest = at true false e f (left_first (none_if b u f) ∙ ap (λ l. group_row fold (a ++ b) u ∷ l) rest)
      by false e true f rest = at false true e f (right_first (none_if a u e) ∙ ap (λ l. group_row fold (a ++ b) u ∷ l) rest)
      by false e false f rest = at false false e f rest

pub partials_merged : (fold : Fold) (a b : List (List Value)) → AreFoldRows fold a → AreFoldRows fold b → merged fold (partial fold a) (partial fold b) ≡ partial fold (a ++ b)
partials_merged fold a b fit1 fit2 =
    ap (λ gs. merged fold (map (group_row fold a) gs) (partial fold b)) (groups_among fold a (a ++ b) (λ z. (let e = more z in omega (arith, e))))
    ∙ ap (λ gs. merged fold (map (group_row fold a) (filter (has fold a) (groups_of fold (a ++ b)))) (map (group_row fold b) gs)) (groups_among fold b (a ++ b) (λ z. (let e = more z in omega (arith, e))))
    ∙ merged_on fold a b fit1.stored fit2.stored (groups_of fold (a ++ b)) (groups_rise fold (a ++ b)) (groups_wide fold (a ++ b) (all_append (IsFoldRow fold) a b fit1.fit fit2.fit))
    ∙ ap (map (group_row fold (a ++ b))) (sym (groups_among fold (a ++ b) (a ++ b) (λ z. omega arith)))
  where
    more : (z : List Value) → length (members fold z (a ++ b)) ≡ length (members fold z a) + length (members fold z b)
    more z = ap length (members-append fold a b z) ∙ length-append (members fold z a) (members fold z b)
