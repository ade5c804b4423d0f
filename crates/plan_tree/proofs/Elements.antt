-- What holds of each element of a list holds of each element of what is made of it.
use Rattle.std.proofs.Common.{ℕ, zero, suc, Bool, true, false, cond, List, [], ◌∷◌, ◌++◌, map, take, drop}
use Rattle.std.specs.List.{flat_map, filter, list_any, AllByRecursion}
use Rattle.std.specs.Ordering.{is_eq, is_gt}
use Rattle.std.specs.declared.cmp.Ordering.{Ordering}
use Rattle.rows.specs.declared.value.Value.{Value}
use Rattle.plan_tree.specs.Fragments.{slice_of}
use Rattle.lists.specs.Arranged.{insert_by, sort_by, distinct_by}

pub all_more : {X : Type 0} (P Q : X → Type 0) (xs : List X) → ((x : X) → P x → Q x) → AllByRecursion P xs → AllByRecursion Q xs
all_more P Q [] step all = tt
all_more P Q (x ∷ xs) step all = (step x all.0, all_more P Q xs step all.1)

pub all_append : {X : Type 0} (P : X → Type 0) (xs ys : List X) → AllByRecursion P xs → AllByRecursion P ys → AllByRecursion P (xs ++ ys)
all_append P [] ys a b = b
all_append P (x ∷ xs) ys a b = (a.0, all_append P xs ys a.1 b)

pub all_filter : {X : Type 0} (P : X → Type 0) (p : X → Bool) (xs : List X) → AllByRecursion P xs → AllByRecursion P (filter p xs)
all_filter P p [] all = tt
all_filter P p (x ∷ xs) all = elim (p x) as (λ b. AllByRecursion P (cond b (x ∷ filter p xs) (filter p xs))) [
  | true ↦ (all.0, all_filter P p xs all.1)
  | false ↦ all_filter P p xs all.1
]

pub all_map : {X Y : Type 0} (P : X → Type 0) (Q : Y → Type 0) (f : X → Y) → ((x : X) → P x → Q (f x)) → (xs : List X) → AllByRecursion P xs → AllByRecursion Q (map f xs)
all_map P Q f step [] all = tt
all_map P Q f step (x ∷ xs) all = (step x all.0, all_map P Q f step xs all.1)

pub all_flat : {X Y : Type 0} (P : X → Type 0) (Q : Y → Type 0) (f : X → List Y) → ((x : X) → P x → AllByRecursion Q (f x)) → (xs : List X) → AllByRecursion P xs → AllByRecursion Q (flat_map f xs)
all_flat P Q f step [] all = tt
all_flat P Q f step (x ∷ xs) all = all_append Q (f x) (flat_map f xs) (step x all.0) (all_flat P Q f step xs all.1)

pub flat_every : {X Y : Type 0} (Q : Y → Type 0) (f : X → List Y) → ((x : X) → AllByRecursion Q (f x)) → (xs : List X) → AllByRecursion Q (flat_map f xs)
flat_every Q f step [] = tt
flat_every Q f step (x ∷ xs) = all_append Q (f x) (flat_map f xs) (step x) (flat_every Q f step xs)

pub all_take : {X : Type 0} (P : X → Type 0) (n : ℕ) (xs : List X) → AllByRecursion P xs → AllByRecursion P (take n xs)
all_take P zero xs all = tt
all_take P (suc n) [] all = tt
all_take P (suc n) (x ∷ xs) all = (all.0, all_take P n xs all.1)

pub all_drop : {X : Type 0} (P : X → Type 0) (n : ℕ) (xs : List X) → AllByRecursion P xs → AllByRecursion P (drop n xs)
all_drop P zero xs all = all
all_drop P (suc n) [] all = tt
all_drop P (suc n) (x ∷ xs) all = all_drop P n xs all.1

pub all_slice : (P : List Value → Type 0) (p : ℕ) (rows : List (List Value)) → AllByRecursion P rows → AllByRecursion P (slice_of p rows)
all_slice P p rows all = all_take P _ _ (all_drop P _ rows all)

module _ {X : Type 0} (cmp : X → X → Ordering) (P : X → Type 0) where
  all_insert : (x : X) (xs : List X) → P x → AllByRecursion P xs → AllByRecursion P (insert_by cmp x xs)
  all_insert x [] p all = (p, tt)
  all_insert x (y ∷ ys) p all = elim (is_gt (cmp x y)) as (λ b. AllByRecursion P (cond b (y ∷ insert_by cmp x ys) (x ∷ y ∷ ys))) [
    | true ↦ (all.0, all_insert x ys p all.1)
    | false ↦ (p, all)
  ]

  pub all_sort : (xs : List X) → AllByRecursion P xs → AllByRecursion P (sort_by cmp xs)
  all_sort [] all = tt
  all_sort (x ∷ xs) all = all_insert x (sort_by cmp xs) all.0 (all_sort xs all.1)

  pub all_distinct : (xs : List X) → AllByRecursion P xs → AllByRecursion P (distinct_by cmp xs)
  all_distinct [] all = tt
  all_distinct (x ∷ xs) all = elim (list_any (λ y. is_eq (cmp x y)) xs) as (λ b. AllByRecursion P (cond b (distinct_by cmp xs) (x ∷ distinct_by cmp xs))) [
    | true ↦ all_distinct xs all.1
    | false ↦ (all.0, all_distinct xs all.1)
  ]
