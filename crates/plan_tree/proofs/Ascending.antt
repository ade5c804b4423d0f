-- Layouts in ascending order of variable, and what a merged layout adds to one of its two.
use Rattle.std.proofs.Common.{◌≡◌, ℕ, ◌<◌, Bool, true, false, cond, not, ◌==◌, nat_lt, List, [], ◌∷◌, Some, None, is_some, refl, sym, ap, ◌∙◌, arith}
use Rattle.std.specs.List.{filter, AllByRecursion}
use Rattle.std.proofs.lemmas.Bool.Decides.{nat_tests}
use Rattle.rows.specs.declared.plain.LayoutPart.{LayoutPart}
use Rattle.plan_tree.specs.Combining.{AreApart, ComesFirst, IsOrdered, part_of, has_part, insert_part, merged}
use Rattle.plan_tree.specs.Fragments.{added}
use Rattle.plan_tree.proofs.Combined.{or_part, Distinct, part_of_merged, apart_tail, apart_head}

above_more : (p q : LayoutPart) (ps : List LayoutPart) → p.var < q.var → ComesFirst q ps → ComesFirst p ps
above_more p q [] h all = tt
above_more p q (r ∷ rs) h all = (let k = all.0 in omega arith, above_more p q rs h all.1)

above_insert : (r p : LayoutPart) (ps : List LayoutPart) → r.var < p.var → ComesFirst r ps → ComesFirst r (insert_part p ps)
above_insert r p [] h all = (h, tt)
above_insert r p (q ∷ qs) h all = elim (nat_lt p.var q.var) as (λ b. ComesFirst r (cond b (p ∷ q ∷ qs) (q ∷ insert_part p qs))) [
  | true ↦ (h, all)
  | false ↦ (all.0, above_insert r p qs h all.1)
]

insert_ascends : (p : LayoutPart) (ps : List LayoutPart) → part_of ps p.var ≡ None → IsOrdered ps → IsOrdered (insert_part p ps)
insert_ascends p [] n up = (tt, tt)
insert_ascends p (q ∷ qs) n up = by (λ k. insert_ascends p qs k up.1) (q.var == p.var) (nat_lt p.var q.var) refl refl n where
  by : (part_of qs p.var ≡ None → IsOrdered (insert_part p qs)) → (b c : Bool) → (q.var == p.var) ≡ b → nat_lt p.var q.var ≡ c → cond b (Some q.columns) (part_of qs p.var) ≡ None →
      IsOrdered (cond c (p ∷ q ∷ qs) (q ∷ insert_part p qs))
  by rest true c i j k = cc
  by rest false true i j k = let h : p.var < q.var = grind (arith, nat_tests) in ((h, above_more p q qs h up.0), up)
  by rest false false i j k =
      let l : p.var < q.var → ⊥ = grind (arith, nat_tests) in
      let m : q.var ≡ p.var → ⊥ = grind (arith, nat_tests) in
      (above_insert q p qs (omega arith) up.0, rest k)

pub merged_ascends : (first second : List LayoutPart) → AreApart first second → Distinct first → IsOrdered second → IsOrdered (merged first second)
merged_ascends [] second apart d up = up
merged_ascends (p ∷ ps) second apart d up =
    insert_ascends p (merged ps second)
    (part_of_merged ps second (apart_tail p ps second apart) d.1 p.var ∙ ap (λ o. or_part o (part_of second p.var)) d.0 ∙ apart_head p ps second apart)
    (merged_ascends ps second (apart_tail p ps second apart) d.1 up)

insert_front : (p : LayoutPart) (ps : List LayoutPart) → ComesFirst p ps → insert_part p ps ≡ p ∷ ps
insert_front p [] all = refl
insert_front p (q ∷ qs) all = let k : nat_lt p.var q.var ≡ true = (let h = all.0 in grind (arith, nat_tests)) in ap (λ b. cond b (p ∷ q ∷ qs) (q ∷ insert_part p qs)) k

pub above_filter : (f : LayoutPart → Bool) (p : LayoutPart) (ps : List LayoutPart) → ComesFirst p ps → ComesFirst p (filter f ps)
above_filter f p [] all = tt
above_filter f p (q ∷ qs) all = elim (f q) as (λ b. ComesFirst p (cond b (q ∷ filter f qs) (filter f qs))) [ true ↦ (all.0, above_filter f p qs all.1) | false ↦ above_filter f p qs all.1 ]

filter_insert : (f : LayoutPart → Bool) (p : LayoutPart) (ps : List LayoutPart) → f p ≡ true → IsOrdered ps → filter f (insert_part p ps) ≡ insert_part p (filter f ps)
filter_insert f p [] h up = ap (λ b. cond b (p ∷ []) []) h
filter_insert f p (q ∷ qs) h up = by (filter_insert f p qs h up.1) (nat_lt p.var q.var) refl where
  by : filter f (insert_part p qs) ≡ insert_part p (filter f qs) → (b : Bool) → nat_lt p.var q.var ≡ b → filter f (cond b (p ∷ q ∷ qs) (q ∷ insert_part p qs)) ≡ insert_part p (filter f (q ∷ qs))
  by rest true i =
      let k : p.var < q.var = grind (arith, nat_tests) in
      ap (λ b. cond b (p ∷ filter f (q ∷ qs)) (filter f (q ∷ qs))) h ∙ sym (insert_front p (filter f (q ∷ qs)) (above_filter f p (q ∷ qs) (k, above_more p q qs k up.0)))
  by rest false i = elim (f q) as (λ c. cond c (q ∷ filter f (insert_part p qs)) (filter f (insert_part p qs)) ≡ insert_part p (cond c (q ∷ filter f qs) (filter f qs))) [
    | true ↦ ap (λ x. q ∷ x) rest ∙ sym (ap (λ b. cond b (p ∷ q ∷ filter f qs) (q ∷ insert_part p (filter f qs))) i)
    | false ↦ rest
  ]

itself : (p : LayoutPart) (ps : List LayoutPart) → has_part (p ∷ ps) p.var ≡ true
itself p ps = let k : (p.var == p.var) ≡ true = grind (arith, nat_tests) in rw k refl

nothing_added : (before ps : List LayoutPart) → AllByRecursion (λ p. has_part before p.var ≡ true) ps → added before ps ≡ []
nothing_added before [] all = refl
nothing_added before (p ∷ ps) all = ap (λ b. cond (not b) (p ∷ added before ps) (added before ps)) all.0 ∙ nothing_added before ps all.1

all_itself : (before : List LayoutPart) (ps : List LayoutPart) → ((v : ℕ) → has_part ps v ≡ true → has_part before v ≡ true) → AllByRecursion (λ p. has_part before p.var ≡ true) ps
all_itself before [] h = tt
all_itself before (p ∷ ps) h = (h p.var (itself p ps), all_itself before ps (λ v k. h v (elim (p.var == v) as (λ b. is_some (cond b (Some p.columns) (part_of ps v)) ≡ true) [ true ↦ refl | false ↦ k ])))

pub added_merged : (first second : List LayoutPart) → AreApart first second → Distinct first → IsOrdered first → IsOrdered second → added second (merged first second) ≡ first
added_merged [] second apart d up down = nothing_added second second (all_itself second second (λ v h. h))
added_merged (p ∷ ps) second apart d up down =
    filter_insert (λ part. not (has_part second part.var)) p (merged ps second) (ap (λ o. not (is_some o)) (apart_head p ps second apart)) (merged_ascends ps second (apart_tail p ps second apart) d.1 down)
    ∙ ap (λ x. insert_part p x) (added_merged ps second (apart_tail p ps second apart) d.1 up.1 down)
    ∙ insert_front p ps up.0
