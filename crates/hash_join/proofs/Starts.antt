-- Buckets of hashes in order, and where a hash is found in them.
use Rattle.std.proofs.Common.{◌≡◌, ℕ, ◌+◌, ◌*◌, ◌/◌, ◌-◌, ◌^◌, ◌<◌, ◌≤◌, Bool, true, false, cond, List, [], ◌∷◌, ◌++◌, refl, sym, ap, ◌∙◌, subst, arith, length, take, drop, get_or, eqb, inl, inr, ◌⊎◌}
use Rattle.std.specs.Ordering.{is_le, is_lt, nat_cmp, ordering_index}
use Rattle.std.specs.List.{AllWithin}
use Rattle.std.specs.List.Sorted.{IsNonDecreasing, IsNonDecreasingBy, IsPartitionPoint}
use Rattle.std.proofs.Math.Nat.{mul-le-mul_right}
use Rattle.std.proofs.Math.Seq.{get_or-append_seam}
use Rattle.std.proofs.lemmas.Bool.{cases_eq, cases_lt, le-ltb, lt-ltb}
use Rattle.std.proofs.lemmas.Cmp.{nat_cmp_total, ranked}
use Rattle.std.proofs.lemmas.List.{get_or_append_left, get_or-drop, get_or-take, get_or_default, length-append, length-drop, length-take-le}
use Rattle.std.proofs.lemmas.List.Sorted.{IsNonDecreasingBy-drop, IsNonDecreasingBy-take, searchable_from_sorted}
use Rattle.std.specs.declared.cmp.Ordering.{Ordering}
use Rattle.std.specs.declared.cmp.Ordering.TheVariants.{Less, Equal, Greater}
use Rattle.hash_join.specs.Hash.{bucket_of}
use Rattle.hash_join.specs.Found.{AreStarts, IsRange}

div_rises : (a b : ℕ) → a ≤ b → a / 2 ^ 32 ≤ b / 2 ^ 32
div_rises a b h = omega arith

-- buckets rise with hashes
pub bucket_rises : (count a b : ℕ) → a ≤ b → bucket_of count a ≤ bucket_of count b
bucket_rises count a b h = div_rises (a / 2 ^ 32 * count) (b / 2 ^ 32 * count) (mul-le-mul_right count (div_rises a b h))

few_times : (share count : ℕ) → share < 2 ^ 32 → share * count ≤ (2 ^ 32 - 1) * count
few_times share count h = mul-le-mul_right count (omega arith)

-- the product fits
pub share_fits : (hash count : ℕ) → hash < 2 ^ 64 → count < 2 ^ 32 → hash / 2 ^ 32 * count < 2 ^ 64
share_fits hash count h few = omega (arith, few_times (hash / 2 ^ 32) count (omega arith))

-- a bucket is one of them
pub bucket_within : (hash count : ℕ) → hash < 2 ^ 64 → 0 < count → bucket_of count hash < count
bucket_within hash count h some = omega (arith, few_times (hash / 2 ^ 32) count (omega arith))

not_below : (a b : ℕ) → a ≤ b → is_lt (nat_cmp b a) ≡ false
not_below a b h = ap (λ t. is_lt (cond t Less (cond (eqb b a) Equal Greater))) (le-ltb b a h) ∙ either (eqb b a) where
  either : (t : Bool) → is_lt (cond t Equal Greater) ≡ false
  either true = refl
  either false = refl

below_is : (a b : ℕ) → a < b → is_lt (nat_cmp a b) ≡ true
below_is a b h = ap (λ t. is_lt (cond t Less (cond (eqb a b) Equal Greater))) (lt-ltb a b h)

upto_is : (a b : ℕ) → a ≤ b → is_le (nat_cmp a b) ≡ true
upto_is a b h = by (nat_cmp a b) refl where
  by : (o : Ordering) → nat_cmp a b ≡ o → is_le (nat_cmp a b) ≡ true
  by Less e = ap is_le e
  by Equal e = ap is_le e
  by Greater e = absurd (omega (arith, h, ranked a b Greater (sym e)))

above_is : (a b : ℕ) → b < a → is_le (nat_cmp a b) ≡ false
above_is a b h = by (nat_cmp a b) refl where
  by : (o : Ordering) → nat_cmp a b ≡ o → is_le (nat_cmp a b) ≡ false
  by Less e = absurd (omega (arith, h, ranked a b Less (sym e)))
  by Equal e = absurd (omega (arith, h, ranked a b Equal (sym e)))
  by Greater e = ap is_le e

-- hashes that rise can be searched
pub searchable : (hashes : List ℕ) (hash : ℕ) → IsNonDecreasing hashes → IsNonDecreasingBy (λ other. ordering_index (nat_cmp other hash)) hashes
searchable hashes hash rising = searchable_from_sorted nat_cmp_total (λ x. x) hashes hash (λ k d low high. not_below (get_or hashes k d) (get_or hashes (k + 1) d) (rising k (k + 1) d (omega arith) high))

-- a part of them too
pub part_searchable : (hashes : List ℕ) (hash begin end : ℕ) → IsNonDecreasing hashes → IsNonDecreasingBy (λ other. ordering_index (nat_cmp other hash)) (take (end - begin) (drop begin hashes))
part_searchable hashes hash begin end rising = IsNonDecreasingBy-take (λ other. ordering_index (nat_cmp other hash)) (end - begin) (drop begin hashes) (IsNonDecreasingBy-drop (λ other. ordering_index (nat_cmp other hash)) begin hashes (searchable hashes hash rising))

module _ (hashes starts : List ℕ) (are : AreStarts hashes starts) where
  abbrev buckets : ℕ
  buckets = length starts - 1

  -- buckets begin in their order
  pub starts_rise : (number : ℕ) → number + 1 < length starts → get_or starts number 0 ≤ get_or starts (number + 1) 0
  starts_rise number h = by (cases_lt (get_or starts (number + 1) 0) (get_or starts number 0)) where
    by : (get_or starts (number + 1) 0 < get_or starts number 0) ⊎ (get_or starts number 0 ≤ get_or starts (number + 1) 0) → get_or starts number 0 ≤ get_or starts (number + 1) 0
    by (inl less) =
        let k = get_or starts (number + 1) 0 in
        let below : bucket_of buckets (get_or hashes k 0) < number = (are.each number (omega (arith, h))).0 k 0 (omega arith) less in
        let above : number + 1 ≤ bucket_of buckets (get_or hashes k 0) = (are.each (number + 1) h).1 k 0 (omega arith) (omega (arith, less, are.within number (omega (arith, h)))) in
        absurd (omega (arith, below, above))
    by (inr right) = right

  -- a point that parts a bucket parts all hashes, where those before the bucket stand before it, and those behind it behind it
  pub widened : (P Q : ℕ → Type 0) (begin end i : ℕ) → begin ≤ end → end ≤ length hashes → i ≤ length (take (end - begin) (drop begin hashes))
      → AllWithin P hashes 0 begin → AllWithin Q hashes end (length hashes) → IsPartitionPoint P Q (take (end - begin) (drop begin hashes)) i
      → IsPartitionPoint P Q hashes (begin + i)
  widened P Q begin end i up within small before behind parted = (front, back) where
    size : length (take (end - begin) (drop begin hashes)) ≡ end - begin
    size = length-take-le (end - begin) (drop begin hashes) (omega (arith, length-drop begin hashes, up, within))

    moved : (k d : ℕ) → begin ≤ k → k < end → get_or (take (end - begin) (drop begin hashes)) (k - begin) d ≡ get_or hashes k d
    moved k d low high =
        let e : begin + (k - begin) ≡ k = omega arith in
        get_or-take (end - begin) (drop begin hashes) (k - begin) d (omega arith) ∙ get_or-drop begin hashes (k - begin) d ∙ ap (λ n. get_or hashes n d) e

    front : AllWithin P hashes 0 (begin + i)
    front k d low high = by (cases_lt k begin) where
      by : (k < begin) ⊎ (begin ≤ k) → P (get_or hashes k d)
      by (inl h) = before k d low h
      by (inr h) = subst P (moved k d h (omega (arith, h, high, small, size, up))) (parted.0 (k - begin) d (omega arith) (omega (arith, h, high)))

    back : AllWithin Q hashes (begin + i) (length hashes)
    back k d low high = by (cases_lt k end) where
      by : (k < end) ⊎ (end ≤ k) → Q (get_or hashes k d)
      by (inl h) = subst Q (moved k d (omega (arith, low)) h) (parted.1 (k - begin) d (omega (arith, low)) (omega (arith, h, low, size)))
      by (inr h) = behind k d h high

  module _ (hash : ℕ) (rising : IsNonDecreasing hashes) where
    abbrev here : ℕ
    here = bucket_of buckets hash

    module _ (within : here + 1 < length starts) where
      less_before : (k d : ℕ) → k < get_or starts here 0 → get_or hashes k d < hash
      less_before k d h = by (cases_lt (get_or hashes k d) hash) where
        by : (get_or hashes k d < hash) ⊎ (hash ≤ get_or hashes k d) → get_or hashes k d < hash
        by (inl less) = less
        by (inr more) = absurd (omega (arith, (are.each here (omega (arith, within))).0 k d (omega arith) h, bucket_rises buckets hash (get_or hashes k d) more))

      more_behind : (k d : ℕ) → get_or starts (here + 1) 0 ≤ k → k < length hashes → hash < get_or hashes k d
      more_behind k d low high = by (cases_lt hash (get_or hashes k d)) where
        by : (hash < get_or hashes k d) ⊎ (get_or hashes k d ≤ hash) → hash < get_or hashes k d
        by (inl more) = more
        by (inr less) = absurd (omega (arith, (are.each (here + 1) within).1 k d low high, bucket_rises buckets (get_or hashes k d) hash less))

      pub below_before : AllWithin (λ other. is_lt (nat_cmp other hash) ≡ true) hashes 0 (get_or starts here 0)
      below_before k d low high = below_is (get_or hashes k d) hash (less_before k d high)

      pub below_behind : AllWithin (λ other. is_lt (nat_cmp other hash) ≡ false) hashes (get_or starts (here + 1) 0) (length hashes)
      below_behind k d low high = not_below hash (get_or hashes k d) (omega (arith, more_behind k d low high))

      pub upto_before : AllWithin (λ other. is_le (nat_cmp other hash) ≡ true) hashes 0 (get_or starts here 0)
      upto_before k d low high = upto_is (get_or hashes k d) hash (omega (arith, less_before k d high))

      pub upto_behind : AllWithin (λ other. is_le (nat_cmp other hash) ≡ false) hashes (get_or starts (here + 1) 0) (length hashes)
      upto_behind k d low high = above_is (get_or hashes k d) hash (more_behind k d low high)

-- what comes no later than a hash ends no earlier than what comes before it
pub range_rises : (hashes : List ℕ) (hash from to : ℕ) → from ≤ length hashes
    → IsPartitionPoint (λ other. is_lt (nat_cmp other hash) ≡ true) (λ other. is_lt (nat_cmp other hash) ≡ false) hashes from
    → IsPartitionPoint (λ other. is_le (nat_cmp other hash) ≡ true) (λ other. is_le (nat_cmp other hash) ≡ false) hashes to → from ≤ to
range_rises hashes hash from to within below upto = by (cases_lt to from) where
  clash : (o : Ordering) → is_lt o ≡ true → is_le o ≡ false → ⊥
  clash Less a b = cc
  clash Equal a b = cc
  clash Greater a b = cc

  by : (to < from) ⊎ (from ≤ to) → from ≤ to
  by (inl less) = absurd (clash (nat_cmp (get_or hashes to 0) hash) (below.0 to 0 (omega arith) less) (upto.1 to 0 (omega arith) (omega (arith, less, within))))
  by (inr right) = right

-- a bucket begins at a place
abbrev IsBucketStart : ℕ → List ℕ → ℕ → ℕ → Type 0
IsBucketStart count hashes number place = IsPartitionPoint (λ hash. bucket_of count hash < number) (λ hash. number ≤ bucket_of count hash) hashes place

-- where the first of some buckets begin
pub record AreBegun (count : ℕ) (hashes starts : List ℕ) (number : ℕ) : Type 0 where
  pub size : length starts ≡ number
  pub within : (k : ℕ) → k < number → get_or starts k 0 ≤ length hashes
  pub each : (k : ℕ) → k < number → IsPartitionPoint (λ hash. bucket_of count hash < k) (λ hash. k ≤ bucket_of count hash) hashes (get_or starts k 0)

module _ (count : ℕ) (hashes : List ℕ) where
  pub begun_none : (starts : List ℕ) → starts ≡ [] → AreBegun count hashes starts 0
  begun_none starts e = record { size = ap length e; within = λ k h. absurd (omega (arith, h)); each = λ k h. absurd (omega (arith, h)) }

  pub begun_more : (starts after : List ℕ) (number place start : ℕ) → AreBegun count hashes starts number → after ≡ starts ++ start ∷ [] → start ≡ place → place ≤ length hashes
      → IsPartitionPoint (λ hash. bucket_of count hash < number) (λ hash. number ≤ bucket_of count hash) hashes place → AreBegun count hashes after (number + 1)
  begun_more starts after number place start old new same small parted = record {
    size = ap length new ∙ length-append starts (start ∷ []) ∙ omega (arith, old.size);
    within = λ k h. in_place k h (cases_eq k number);
    each = λ k h. is_parted k h (cases_eq k number);
  } where
    earlier : (k : ℕ) → k < number → get_or after k 0 ≡ get_or starts k 0
    earlier k h = ap (λ xs. get_or xs k 0) new ∙ get_or_append_left starts (start ∷ []) 0 k (omega (arith, h, old.size))

    last : get_or after number 0 ≡ place
    last = ap (λ xs. get_or xs number 0) new ∙ ap (λ n. get_or (starts ++ start ∷ []) n 0) (sym old.size) ∙ get_or-append_seam starts start [] 0 ∙ same

    in_place : (k : ℕ) → k < number + 1 → (k ≡ number) ⊎ (k ≡ number → ⊥) → get_or after k 0 ≤ length hashes
    in_place k h (inl e) = subst (λ n. n ≤ length hashes) (sym (ap (λ n. get_or after n 0) e ∙ last)) small
    in_place k h (inr ne) = subst (λ n. n ≤ length hashes) (sym (earlier k (omega (arith, h, ne)))) (old.within k (omega (arith, h, ne)))

    is_parted : (k : ℕ) → k < number + 1 → (k ≡ number) ⊎ (k ≡ number → ⊥) → IsBucketStart count hashes k (get_or after k 0)
    is_parted k h (inl e) = subst (λ n. IsBucketStart count hashes n (get_or after n 0)) (sym e) (subst (IsBucketStart count hashes number) (sym last) parted)
    is_parted k h (inr ne) = subst (IsBucketStart count hashes k) (sym (earlier k (omega (arith, h, ne)))) (old.each k (omega (arith, h, ne)))

  pub begun_all : (starts : List ℕ) (number : ℕ) → AreBegun count hashes starts number → number ≡ count + 1 → 0 < count → count < 2 ^ 32 → AreStarts hashes starts
  begun_all starts number begun all some small =
      let size : length starts - 1 ≡ count = omega (arith, begun.size, all) in
      record {
        some = omega (arith, begun.size, all, some);
        few = omega (arith, begun.size, all, small);
        within = λ k h. begun.within k (omega (arith, h, begun.size));
        each = λ k h. subst (λ n. IsPartitionPoint (λ hash. bucket_of n hash < k) (λ hash. k ≤ bucket_of n hash) hashes (get_or starts k 0)) (sym size) (begun.each k (omega (arith, h, begun.size)));
      }

  -- hashes of a bucket or later ones stand behind the first of them
  pub start_parts : (number place size : ℕ) → IsNonDecreasing hashes → place ≤ length hashes → AllWithin (λ hash. bucket_of count hash < number) hashes 0 place
      → size ≤ length (drop place hashes) → AllWithin (λ hash. bucket_of count hash < number) (drop place hashes) 0 size
      → (size < length (drop place hashes) → number ≤ bucket_of count (get_or (drop place hashes) size 0))
      → IsPartitionPoint (λ hash. bucket_of count hash < number) (λ hash. number ≤ bucket_of count hash) hashes (place + size)
  start_parts number place size rising within passed small before next = (front, back) where
    front : AllWithin (λ hash. bucket_of count hash < number) hashes 0 (place + size)
    front k d low high = by (cases_lt k place) where
      by : (k < place) ⊎ (place ≤ k) → bucket_of count (get_or hashes k d) < number
      by (inl h) = passed k d low h
      by (inr h) =
          let e : place + (k - place) ≡ k = omega arith in
          subst (λ x. bucket_of count x < number) (get_or-drop place hashes (k - place) d ∙ ap (λ n. get_or hashes n d) e) (before (k - place) d (omega arith) (omega (arith, h, high)))

    back : AllWithin (λ hash. number ≤ bucket_of count hash) hashes (place + size) (length hashes)
    back k d low high =
        let some : size < length (drop place hashes) = omega (arith, low, high, length-drop place hashes, within) in
        let first : get_or (drop place hashes) size 0 ≡ get_or hashes (place + size) d = get_or-drop place hashes size 0 ∙ get_or_default hashes (place + size) 0 d (omega (arith, low, high)) in
        omega (arith, subst (λ x. number ≤ bucket_of count x) first (next some), bucket_rises count (get_or hashes (place + size) d) (get_or hashes k d) (rising (place + size) k d low high))

  pub start_parts_in : (number place size : ℕ) (rest : List ℕ) → rest ≡ drop place hashes → IsNonDecreasing hashes → place ≤ length hashes → AllWithin (λ hash. bucket_of count hash < number) hashes 0 place
      → size ≤ length rest → AllWithin (λ hash. bucket_of count hash < number) rest 0 size
      → (size < length rest → number ≤ bucket_of count (get_or rest size 0)) → IsBucketStart count hashes number (place + size)
  start_parts_in number place size rest e rising within passed small before next =
      start_parts number place size rising within passed (subst (λ xs. size ≤ length xs) e small)
      (subst (λ xs. AllWithin (λ hash. bucket_of count hash < number) xs 0 size) e before)
      (subst (λ xs. size < length xs → number ≤ bucket_of count (get_or xs size 0)) e next)

abbrev IsBelow : ℕ → ℕ → Bool → Type 0
IsBelow hash other answer = is_lt (nat_cmp other hash) ≡ answer

abbrev IsUpto : ℕ → ℕ → Bool → Type 0
IsUpto hash other answer = is_le (nat_cmp other hash) ≡ answer

pub range : (hashes starts : List ℕ) (hash begin end from to : ℕ) → AreStarts hashes starts → IsNonDecreasing hashes → bucket_of (length starts - 1) hash + 1 < length starts
    → begin ≡ get_or starts (bucket_of (length starts - 1) hash) 0 → end ≡ get_or starts (bucket_of (length starts - 1) hash + 1) 0 → begin ≤ end → end ≤ length hashes
    → from ≤ length (take (end - begin) (drop begin hashes)) → to ≤ length (take (end - begin) (drop begin hashes))
    → IsPartitionPoint (λ other. is_lt (nat_cmp other hash) ≡ true) (λ other. is_lt (nat_cmp other hash) ≡ false) (take (end - begin) (drop begin hashes)) from
    → IsPartitionPoint (λ other. is_le (nat_cmp other hash) ≡ true) (λ other. is_le (nat_cmp other hash) ≡ false) (take (end - begin) (drop begin hashes)) to
    → IsRange hashes hash (begin + from) (begin + to)
range hashes starts hash begin end from to are rising within first last up small low high from_parted to_parted =
    let size : length (take (end - begin) (drop begin hashes)) ≡ end - begin = length-take-le (end - begin) (drop begin hashes) (omega (arith, length-drop begin hashes, up, small)) in
    let below = widened hashes starts are (λ other. IsBelow hash other true) (λ other. IsBelow hash other false) begin end from up small low
    (subst (λ n. AllWithin (λ other. IsBelow hash other true) hashes 0 n) (sym first) (below_before hashes starts are hash rising within))
    (subst (λ n. AllWithin (λ other. IsBelow hash other false) hashes n (length hashes)) (sym last) (below_behind hashes starts are hash rising within)) from_parted in
    let upto = widened hashes starts are (λ other. IsUpto hash other true) (λ other. IsUpto hash other false) begin end to up small high
    (subst (λ n. AllWithin (λ other. IsUpto hash other true) hashes 0 n) (sym first) (upto_before hashes starts are hash rising within))
    (subst (λ n. AllWithin (λ other. IsUpto hash other false) hashes n (length hashes)) (sym last) (upto_behind hashes starts are hash rising within)) to_parted in
    record {
      order = range_rises hashes hash (begin + from) (begin + to) (omega (arith, low, size, up, small)) below upto;
      within = omega (arith, high, size, up, small);
      below = below;
      upto = upto;
    }
