-- What is closed of the partial of rows is what the fold answers of them.
use Rattle.std.proofs.Common.{◌≡◌, ◌<◌, ◌≤◌, ℕ, suc, ◌+◌, ◌*◌, min, ℤ, pos, negsuc, ◌+ℤ◌, ◌*ℤ◌, Bool, true, false, cond, not, ◌&&◌, ◌||◌, Option, Some, None, option_map, List, [], ◌∷◌, ◌++◌, refl, sym, ap, ◌∙◌, subst, arith, length, map, take, drop, append_assoc, eqb-true}
use Rattle.std.specs.Prelude.{int_lt, nat_lt, ◌==◌}
use Rattle.std.specs.List.{AllByRecursion}
use Rattle.std.specs.Int.{w64, saturate_signed}
use Rattle.std.proofs.lemmas.Int.{ints}
use Rattle.std.proofs.lemmas.List.{drop-drop, get_or_at}
use Rattle.std.proofs.lemmas.Bool.{lt-ltb, le-ltb, ltb-true, ltb-false}
use borrow.Author.Differences.{up, down, same_in}
use Rattle.lists.specs.Arranged.{distinct_by, sort_by}
use Rattle.rows.specs.declared.value.Value.{Value}
use Rattle.rows.specs.declared.value.Value.TheVariants.{Null, Number}
use Rattle.rows.specs.Values.{row_cmp}
use Rattle.aggregate_op.specs.declared.fold.Fold.{Fold}
use Rattle.aggregate_op.specs.declared.fold.FoldOp.{FoldOp}
use Rattle.aggregate_op.specs.declared.fold.FoldOp.TheVariants.{Count, Min, Max, Sum}
use Rattle.aggregate_op.specs.Partials.{groups_of, members, op_values, sum_of, integer_in, number, unless_too_many, IsFoldRow, high_part, low_part, least, greatest, part_of, parts_from, parts_of, most_rows, known_of, group_row, partial}
use Rattle.aggregate_op.specs.Joined.{part_width}
use Rattle.aggregate_op.specs.Stored.{IsPartialOf}
use Rattle.aggregate_op.specs.FoldMeaning.{all_some, is_small, op_answer, op_answers_from, shown, group_answer, fold_answer}
use Rattle.aggregate_op.specs.Closing.{closed_sum, closed_part, closed_parts, closed_row, closed_groups, nothing_known}
use Rattle.aggregate_op.proofs.Sums.{unit, bounded, rest_of, split_of, IsSplit, kept, low_is_rest}
use Rattle.aggregate_op.proofs.JoinedRows.{many, no_parts_is, told_apart, front_is, rest_is}
use Rattle.aggregate_op.proofs.MergedRows.{groups_wide}

-- ---- sums

small_if : (z : ℤ) → up z < 9_223_372_036_854_775_808 → down z ≤ 9_223_372_036_854_775_808 → is_small z ≡ true
small_if (pos n) h k = lt-ltb n 9_223_372_036_854_775_808 h
small_if (negsuc n) h k = ap (λ b. not b && true) (le-ltb 9_223_372_036_854_775_807 n (omega (arith, k)))

large_if : (z : ℤ) → 9_223_372_036_854_775_808 ≤ up z → is_small z ≡ false
large_if (pos n) h = le-ltb n 9_223_372_036_854_775_808 h
large_if (negsuc n) h = absurd (omega (arith, h))

deep_if : (z : ℤ) → 9_223_372_036_854_775_808 < down z → is_small z ≡ false
deep_if (pos n) h = absurd (omega (arith, h))
deep_if (negsuc n) h = ap (λ b. not b && true) (lt-ltb 9_223_372_036_854_775_807 n (omega (arith, h)))

or_false : (b : Bool) → (b || false) ≡ b
or_false true = refl
or_false false = refl

-- the answer of a sum
abbrev sum_answer : ℤ → Option Value
sum_answer z = cond (is_small z) (Some (Number z)) None

sum_closed : (z high : ℤ) (low : ℕ) → IsSplit z high low → closed_sum high (pos low) ≡ sum_answer z
sum_closed z high low s = by high refl s.whole (int_lt high (negsuc 1) || int_lt (pos 1) high) refl where
  here : z ≡ (high *ℤ pos unit) +ℤ pos low
  here = same_in z ((high *ℤ pos unit) +ℤ pos low) (let w = s.whole in omega (arith, ints, w))

  within : up z < 9_223_372_036_854_775_808 → down z ≤ 9_223_372_036_854_775_808 → Some (Number (saturate_signed w64 ((high *ℤ pos unit) +ℤ pos low))) ≡ sum_answer z
  within h k =
      ap (λ y. Some (Number (saturate_signed w64 y))) (sym here)
      ∙ ap (λ y. Some (Number y)) (kept z h k)
      ∙ ap (λ b. cond b (Some (Number z)) None) (sym (small_if z h k))

  outside : is_small z ≡ false → None ≡ sum_answer z
  outside e = ap (λ b. cond b (Some (Number z)) None) (sym e)

  at : (b : Bool) → (int_lt high (negsuc 1) || int_lt (pos 1) high) ≡ b → cond b None (Some (Number (saturate_signed w64 ((high *ℤ pos unit) +ℤ pos low)))) ≡ sum_answer z → closed_sum high (pos low) ≡ sum_answer z
  at b e done = ap (λ t. cond t None (Some (Number (saturate_signed w64 ((high *ℤ pos unit) +ℤ pos low))))) e ∙ done

  by : (h : ℤ) → high ≡ h → up z + unit * down high ≡ down z + unit * up high + low → (b : Bool) → (int_lt high (negsuc 1) || int_lt (pos 1) high) ≡ b → closed_sum high (pos low) ≡ sum_answer z
  by (pos k) e w true t =
      let many : 1 < k = ltb-true 1 k (sym (ap (λ h. int_lt h (negsuc 1) || int_lt (pos 1) h) e) ∙ t) in
      let v : up z + unit * 0 ≡ down z + unit * k + low = subst (λ h. up z + unit * down h ≡ down z + unit * up h + low) e w in
      at true t (outside (large_if z (omega (arith, v, many))))
  by (pos k) e w false t =
      let few : k ≤ 1 = ltb-false 1 k (sym (ap (λ h. int_lt h (negsuc 1) || int_lt (pos 1) h) e) ∙ t) in
      let v : up z + unit * 0 ≡ down z + unit * k + low = subst (λ h. up z + unit * down h ≡ down z + unit * up h + low) e w in
      let size = bounded z (unit * k + low) 0 (omega (arith, v)) in
      let below = s.below in
      at false t (within (omega (arith, size.0, few, below)) (omega (arith, size.1)))
  by (negsuc k) e w true t =
      let many : 1 < k = ltb-true 1 k (sym (or_false (nat_lt 1 k)) ∙ sym (ap (λ h. int_lt h (negsuc 1) || int_lt (pos 1) h) e) ∙ t) in
      let v : up z + unit * suc k ≡ down z + unit * 0 + low = subst (λ h. up z + unit * down h ≡ down z + unit * up h + low) e w in
      let below = s.below in
      at true t (outside (deep_if z (omega (arith, v, many, below))))
  by (negsuc k) e w false t =
      let few : k ≤ 1 = ltb-false 1 k (sym (or_false (nat_lt 1 k)) ∙ sym (ap (λ h. int_lt h (negsuc 1) || int_lt (pos 1) h) e) ∙ t) in
      let v : up z + unit * suc k ≡ down z + unit * 0 + low = subst (λ h. up z + unit * down h ≡ down z + unit * up h + low) e w in
      let below = s.below in
      let size = bounded z low (unit * suc k) (omega (arith, v)) in
      at false t (within (omega (arith, size.0, below)) (omega (arith, size.1, few)))

sum_part_closed : (values rest : List Value) → closed_part Sum (part_of Sum values ++ rest) ≡ op_answer Sum values
sum_part_closed [] rest = refl
sum_part_closed (v ∷ vs) rest =
    ap (λ b. cond b (closed_sum (high_part (sum_of (v ∷ vs))) (low_part (sum_of (v ∷ vs)))) (Some Null)) (lt-ltb 0 (length (v ∷ vs)) (omega arith))
    ∙ ap (λ low. closed_sum (high_part (sum_of (v ∷ vs))) low) (low_is_rest (sum_of (v ∷ vs)))
    ∙ sum_closed (sum_of (v ∷ vs)) (high_part (sum_of (v ∷ vs))) (rest_of (sum_of (v ∷ vs))) (split_of (sum_of (v ∷ vs)))

-- ---- the answers of a group

parts_closed : (fold : Fold) (rows : List (List Value)) (k : ℕ) (ops : List FoldOp) → closed_parts ops (parts_from fold k ops rows) ≡ op_answers_from fold k ops rows
parts_closed fold rows k [] = refl
parts_closed fold rows k (Count ∷ ops) = ap (λ rest. Some (number (length (op_values fold k rows))) ∷ rest) (parts_closed fold rows (k + 1) ops)
parts_closed fold rows k (Min ∷ ops) = ap (λ rest. Some (least (op_values fold k rows)) ∷ rest) (parts_closed fold rows (k + 1) ops)
parts_closed fold rows k (Max ∷ ops) = ap (λ rest. Some (greatest (op_values fold k rows)) ∷ rest) (parts_closed fold rows (k + 1) ops)
parts_closed fold rows k (Sum ∷ ops) =
    ap (λ answer. answer ∷ closed_parts ops (parts_from fold (k + 1) ops rows)) (sum_part_closed (op_values fold k rows) (parts_from fold (k + 1) ops rows))
    ∙ ap (λ rest. op_answer Sum (op_values fold k rows) ∷ rest) (parts_closed fold rows (k + 1) ops)

pub answers_more : (ops others : List FoldOp) (op : FoldOp) (parts rest : List Value) (answer : Value) (old pushed : List Value) (told : Option (List Value))
    → ops ≡ op ∷ others → Some answer ≡ closed_part op parts → pushed ≡ old ++ answer ∷ [] → rest ≡ drop (part_width op) parts
    → told ≡ option_map (λ more. pushed ++ more) (all_some (closed_parts others rest))
    → told ≡ option_map (λ more. old ++ more) (all_some (closed_parts ops parts))
answers_more ops others op parts rest answer old pushed told e a p r t =
    t
    ∙ ap (λ l. option_map (λ more. l ++ more) (all_some (closed_parts others rest))) p
    ∙ ap (λ l. option_map (λ more. (old ++ answer ∷ []) ++ more) (all_some (closed_parts others l))) r
    ∙ one_more (all_some (closed_parts others (drop (part_width op) parts)))
    ∙ ap (λ o. option_map (λ more. old ++ more) (all_some (o ∷ closed_parts others (drop (part_width op) parts)))) a
    ∙ ap (λ l. option_map (λ more. old ++ more) (all_some (closed_parts l parts))) (sym e)
  where
    one_more : (o : Option (List Value)) → option_map (λ more. (old ++ answer ∷ []) ++ more) o ≡ option_map (λ more. old ++ more) (option_map (λ xs. answer ∷ xs) o)
    one_more None = refl
    one_more (Some more) = ap Some (append_assoc old (answer ∷ []) more)

abbrev shown_by : Fold → List Value → List (Option Value) → Option (List Value)
shown_by fold group answers = option_map (λ answers. map (shown group answers) fold.places) (all_some answers)

group_closed : (fold : Fold) (group : List Value) (rows : List (List Value)) → length group ≡ fold.groups → closed_row fold (known_of fold group rows) ≡ group_answer fold group rows
group_closed fold group rows width =
    ap (λ v. cond (int_lt (integer_in v) (pos most_rows)) (shown_by fold (take fold.groups (known_of fold group rows)) (closed_parts fold.ops (drop (fold.groups + 1) (known_of fold group rows)))) None)
    (get_or_at group (number (min (length rows) most_rows)) (parts_of fold (unless_too_many rows)) Null fold.groups width)
    ∙ by (nat_lt (length rows) many) refl
  where
    front : take fold.groups (known_of fold group rows) ≡ group
    front = front_is group (number (min (length rows) most_rows) ∷ parts_of fold (unless_too_many rows)) fold.groups width

    behind : drop (fold.groups + 1) (known_of fold group rows) ≡ parts_of fold (unless_too_many rows)
    behind = sym (drop-drop 1 fold.groups (known_of fold group rows)) ∙ ap (drop 1) (rest_is group (number (min (length rows) most_rows) ∷ parts_of fold (unless_too_many rows)) fold.groups width)

    by : (b : Bool) → nat_lt (length rows) many ≡ b
        → cond (nat_lt (min (length rows) many) many) (shown_by fold (take fold.groups (known_of fold group rows)) (closed_parts fold.ops (drop (fold.groups + 1) (known_of fold group rows)))) None
        ≡ cond (nat_lt (length rows) many) (shown_by fold group (op_answers_from fold 0 fold.ops rows)) None
    by true e =
        let few : length rows < many = ltb-true (length rows) many e in
        ap (λ t. cond t (shown_by fold (take fold.groups (known_of fold group rows)) (closed_parts fold.ops (drop (fold.groups + 1) (known_of fold group rows)))) None) (lt-ltb (min (length rows) many) many (omega (arith, few)))
        ∙ ap (λ g. shown_by fold g (closed_parts fold.ops (drop (fold.groups + 1) (known_of fold group rows)))) front
        ∙ ap (λ p. shown_by fold group (closed_parts fold.ops p)) (behind ∙ ap (parts_of fold) (told_apart rows few))
        ∙ ap (shown_by fold group) (parts_closed fold rows 0 fold.ops)
        ∙ ap (λ t. cond t (shown_by fold group (op_answers_from fold 0 fold.ops rows)) None) (sym e)
    by false e =
        let many_rows : many ≤ length rows = ltb-false (length rows) many e in
        ap (λ t. cond t (shown_by fold (take fold.groups (known_of fold group rows)) (closed_parts fold.ops (drop (fold.groups + 1) (known_of fold group rows)))) None) (le-ltb (min (length rows) many) many (omega (arith, many_rows)))
        ∙ ap (λ t. cond t (shown_by fold group (op_answers_from fold 0 fold.ops rows)) None) (sym e)

-- ---- all groups

groups_closed : (fold : Fold) (rows groups : List (List Value)) → AllByRecursion (λ g. length g ≡ fold.groups) groups
    → map (closed_row fold) (map (group_row fold rows) groups) ≡ map (λ group. group_answer fold group (members fold group rows)) groups
groups_closed fold rows [] wide = refl
groups_closed fold rows (g ∷ gs) wide =
    ap (λ o. o ∷ map (closed_row fold) (map (group_row fold rows) gs)) (group_closed fold g (members fold g rows) wide.0)
    ∙ ap (λ os. group_answer fold g (members fold g rows) ∷ os) (groups_closed fold rows gs wide.1)

one_empty_group : (row : List Value) (rest : List (List Value)) → distinct_by (row_cmp []) (map (take 0) (row ∷ rest)) ≡ [] ∷ []
one_empty_group row [] = refl
one_empty_group row (other ∷ rest) = one_empty_group other rest

one_group : (fold : Fold) (row : List Value) (rest : List (List Value)) → 0 ≡ fold.groups → groups_of fold (row ∷ rest) ≡ [] ∷ []
one_group fold row rest none = subst (λ n. sort_by (row_cmp []) (distinct_by (row_cmp []) (map (take n) (row ∷ rest))) ≡ [] ∷ []) none (ap (sort_by (row_cmp [])) (one_empty_group row rest))

nothing_closed : (fold : Fold) → 0 ≡ fold.groups → closed_row fold (nothing_known fold) ≡ group_answer fold [] []
nothing_closed fold none = ap (λ parts. closed_row fold (number 0 ∷ parts)) (sym (no_parts_is fold 0 fold.ops)) ∙ group_closed fold [] [] none

closed_at : (fold : Fold) (rows : List (List Value)) → AllByRecursion (IsFoldRow fold) rows → (b : Bool) → (fold.groups == 0) ≡ b
    → all_some (map (closed_row fold) (cond (b && length (partial fold rows) == 0) (nothing_known fold ∷ []) (partial fold rows)))
    ≡ all_some (map (λ group. group_answer fold group (members fold group rows)) (cond b ([] ∷ []) (groups_of fold rows)))
closed_at fold rows fit false e = ap all_some (groups_closed fold rows (groups_of fold rows) (groups_wide fold rows fit))
closed_at fold [] fit true e = ap (λ o. all_some (o ∷ [])) (nothing_closed fold (sym (eqb-true fold.groups 0 e)))
closed_at fold (row ∷ rest) fit true e =
    let none : 0 ≡ fold.groups = sym (eqb-true fold.groups 0 e) in
    ap (λ groups. all_some (map (closed_row fold) (cond (length (map (group_row fold (row ∷ rest)) groups) == 0) (nothing_known fold ∷ []) (map (group_row fold (row ∷ rest)) groups)))) (one_group fold row rest none)
    ∙ ap all_some (groups_closed fold (row ∷ rest) ([] ∷ []) (none, tt))

pub partial_closed : (fold : Fold) (rows groups : List (List Value)) → IsPartialOf fold rows groups → closed_groups fold groups ≡ fold_answer fold rows
partial_closed fold rows groups p =
    ap (closed_groups fold) p.is
    ∙ closed_at fold rows p.may.fit (fold.groups == 0) refl
