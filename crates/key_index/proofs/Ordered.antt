-- The order of entries.
use Rattle.std.proofs.Common.{◌≡◌, ℕ, zero, suc, ◌+◌, ◌-◌, ◌<◌, ◌≤◌, Bool, true, false, List, [], ◌∷◌, length, get_or, Some, inl, inr, refl, sym, ap, subst, ◌∙◌, arith}
use Rattle.std.specs.Prelude.{MatchBool, slice_get}
use Rattle.std.specs.List.{AllByRecursion}
use Rattle.std.specs.declared.cmp.Ordering.{Ordering}
use Rattle.std.specs.declared.cmp.Ordering.TheVariants.{Less, Equal, Greater}
use Rattle.std.proofs.lemmas.Bool.{cases_lt}
use Rattle.std.specs.Cmp.{IsTotalOrder}
use Rattle.std.specs.Ordering.{is_gt, is_le}
use Rattle.std.proofs.lemmas.Cmp.{nat_cmp_total, on_total, then_total, upto}
use Rattle.lists.specs.Arranged.{Ascends}
use Rattle.rows.specs.declared.field.ColType.{ColType}
use Rattle.rows.specs.declared.plain.KeyEntry.{KeyEntry}
use Rattle.rows.proofs.Orders.{value_total}
use Rattle.heap_page.proofs.Found.{get_below, one_at, some_at}
use Rattle.key_index.specs.Entries.{AreEntries, Follows, IsEntry, entry_cmp}

pub entry_total : IsTotalOrder entry_cmp
entry_total = then_total (on_total (λ (e : KeyEntry). e.key) value_total) (then_total (on_total (λ (e : KeyEntry). e.page) nat_cmp_total) (on_total (λ (e : KeyEntry). e.slot) nat_cmp_total))

-- the first entries are so, and each follows the one before it
pub record Checked (t : ColType) (heap : ℕ) (es : List KeyEntry) (n : ℕ) : Type 0 where
  pub each : (k : ℕ) (e : KeyEntry) → k < n → slice_get es k ≡ Some e → IsEntry t heap e
  pub next : (k : ℕ) → k < n → Follows es k

pub none_checked : (t : ColType) (heap : ℕ) (es : List KeyEntry) → Checked t heap es 0
none_checked t heap es = record { each = λ k e lt at. absurd (omega arith); next = λ k lt. absurd (omega arith) }

pub one_checked : (t : ColType) (heap : ℕ) (es : List KeyEntry) (n : ℕ) (x : KeyEntry) → Checked t heap es n → n < length es → x ≡ get_or es n x → IsEntry t heap x → Follows es n → Checked t heap es (n + 1)
one_checked t heap es n x c lt is one follows = record {
  each = λ k e below at. elim (cases_lt k n) [
    | inl less ↦ c.each k e less at
    | inr ge ↦ (
        let same : k ≡ n = omega (arith, below, ge) in
        let here : slice_get es n ≡ Some x = some_at es n x lt is in
        subst (IsEntry t heap) (one_at es n x e here (ap (slice_get es) (sym same) ∙ at)) one)
  ];
  next = λ k below. elim (cases_lt k n) [
    | inl less ↦ c.next k less
    | inr ge ↦ (let same : k ≡ n = omega (arith, below, ge) in subst (Follows es) (sym same) follows)
  ];
}

all_each : (t : ColType) (heap : ℕ) (es : List KeyEntry) → ((k : ℕ) (e : KeyEntry) → slice_get es k ≡ Some e → IsEntry t heap e) → AllByRecursion (IsEntry t heap) es
all_each t heap [] h = tt
all_each t heap (e ∷ es) h = (h 0 e refl, all_each t heap es (λ k x at. h (suc k) x at))

below_all : (x y : KeyEntry) (ys : List KeyEntry) → is_gt (entry_cmp x y) ≡ false → AllByRecursion (λ z. is_gt (entry_cmp y z) ≡ false) ys → AllByRecursion (λ z. is_gt (entry_cmp x z) ≡ false) ys
below_all x y [] h all = tt
below_all x y (z ∷ zs) h all = (upto entry_total x y z h all.0, below_all x y zs h all.1)

ascends : (es : List KeyEntry) → ((k : ℕ) (a b : KeyEntry) → slice_get es k ≡ Some a → slice_get es (suc k) ≡ Some b → is_gt (entry_cmp a b) ≡ false) → Ascends entry_cmp es
ascends [] h = tt
ascends (x ∷ []) h = (tt, tt)
ascends (x ∷ y ∷ ys) h =
    let rest = ascends (y ∷ ys) (λ k a b at next. h (suc k) a b at next) in
    let one = h 0 x y refl refl in
    ((one, below_all x y ys one rest.0), rest)

pub all_checked : (t : ColType) (heap n : ℕ) (es : List KeyEntry) → length es ≤ n → length es ≤ 1000000 → Checked t heap es n → AreEntries t heap es
all_checked t heap n es le few c = record {
  few = few;
  ordered = ascends es (λ k a b at next.
      let z : suc k - 1 ≡ k = omega arith in
      c.next (suc k) (omega (arith, le, get_below es (suc k) b next)) a b (omega arith) (ap (slice_get es) z ∙ at) next);
  each = all_each t heap es (λ k e at. c.each k e (omega (arith, le, get_below es k e at)) at);
}

each_at : (t : ColType) (heap : ℕ) (es : List KeyEntry) (k : ℕ) (e : KeyEntry) → AllByRecursion (IsEntry t heap) es → slice_get es k ≡ Some e → IsEntry t heap e
each_at t heap [] k e h at = absurd cc
each_at t heap (x ∷ es) zero e h at = let q : x ≡ e = cc in subst (IsEntry t heap) q h.0
each_at t heap (x ∷ es) (suc k) e h at = each_at t heap es k e h.1 at

next_at : (es : List KeyEntry) (k : ℕ) (a b : KeyEntry) → Ascends entry_cmp es → slice_get es k ≡ Some a → slice_get es (suc k) ≡ Some b → is_gt (entry_cmp a b) ≡ false
next_at [] k a b h at next = absurd cc
next_at (x ∷ []) k a b h at next = absurd cc
next_at (x ∷ y ∷ ys) zero a b h at next = let p : x ≡ a = cc in let q : y ≡ b = cc in rw (← p, ← q) h.0.0
next_at (x ∷ y ∷ ys) (suc k) a b h at next = next_at (y ∷ ys) k a b h.1 at next

pub no_entry : (t : ColType) (heap : ℕ) (es : List KeyEntry) (k : ℕ) (x : KeyEntry) → k < length es → x ≡ get_or es k x → (IsEntry t heap x → ⊥) → AreEntries t heap es → ⊥
no_entry t heap es k x lt is h a = h (each_at t heap es k x a.each (some_at es k x lt is))

pub no_order : (t : ColType) (heap : ℕ) (es : List KeyEntry) (k : ℕ) → (Follows es k → ⊥) → AreEntries t heap es → ⊥
no_order t heap es k h a = h (λ x y pos at next. let z : suc (k - 1) ≡ k = omega (arith, pos) in next_at es (k - 1) x y a.ordered at (ap (slice_get es) z ∙ next))

gt_or_le : (r : Ordering) → is_le r ≡ true → is_gt r ≡ false
gt_or_le Less e = refl
gt_or_le Equal e = refl
gt_or_le Greater e = cc

not_le : (r : Ordering) → is_le r ≡ false → is_gt r ≡ false → ⊥
not_le Less e h = absurd cc
not_le Equal e h = absurd cc
not_le Greater e h = absurd cc

-- what the comparison of two neighbours says
pub compared : (es : List KeyEntry) (k : ℕ) (a b : KeyEntry) (r : Bool) → k < length es → a ≡ get_or es (k - 1) a → b ≡ get_or es k b → (k ≡ 0 → ⊥) → r ≡ is_le (entry_cmp a b) → MatchBool r (Follows es k) (Follows es k → ⊥)
compared es k a b true lt a_is b_is ne e = λ x y pos at next.
    let one = one_at es (k - 1) a x (some_at es (k - 1) a (omega (arith, lt)) a_is) at in
    let two = one_at es k b y (some_at es k b lt b_is) next in
    rw (← one, ← two) (gt_or_le (entry_cmp a b) (sym e))
compared es k a b false lt a_is b_is ne e = λ h.
    let pos : 0 < k = nonzero k ne in
    not_le (entry_cmp a b) (sym e) (h a b pos (some_at es (k - 1) a (omega (arith, lt)) a_is) (some_at es k b lt b_is)) where
      nonzero : (n : ℕ) → (n ≡ 0 → ⊥) → 0 < n
      nonzero zero f = absurd (f refl)
      nonzero (suc n) f = omega arith
