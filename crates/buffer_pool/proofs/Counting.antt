-- Counters and counts.
use mathlib.Core.Logic.{dite}
use mathlib.Core.List.{IsPrefix}
use native.Mathlib.Decide.{ℕ_discrete}
use Rattle.std.proofs.Common.{◌≡◌, ◌⊎◌, ℕ, zero, suc, ◌+◌, ◌<◌, ◌≤◌, List, [], ◌∷◌, length, length-append, append-nil, Option, Err, refl, sym, ap, subst, ◌∙◌, inl, inr, arith, if◌then◌else◌}
use Rattle.std.proofs.lemmas.Bool.Decides.{leb_tells}
use Rattle.xp_outside.specs.Outside.{Rose}
use Rattle.heap_page.specs.declared.errors.FetchErr.{FetchErr}
use Rattle.heap_page.specs.declared.errors.FetchErr.TheVariants.{DriveFault, BadPage, NoMemory}
use Rattle.heap_page.specs.declared.head.FileKind.{FileKind}
use Rattle.buffer_pool.specs.declared.place.Place.{Place}
use Rattle.buffer_pool.specs.Fetched.{IsFetched, error_of}
use Rattle.buffer_pool.specs.Counts.{GoesOn, LAST, Covers, IsCounted, IsFailure, count_of, next_count, up_to}
use Rattle.buffer_pool.specs.Used.{IsToldBad}

-- a count that hasn't fallen still covers the counter
pub covers_still : (named counter count count' : ℕ) → Covers named counter count → count ≤ count' → Covers named counter count'
covers_still named counter count count' covers more = omega arith

-- a count that rose covers one more
pub covers_more : (named counter count count' : ℕ) → Covers named counter count → Rose count count' → Covers named (next_count counter) count'
covers_more named counter count count' covers rose = omega arith

pub counted : (faults faults' counter counter' : ℕ) (e : FetchErr) → IsFailure faults faults' counter counter' e → IsCounted faults faults' counter counter' e
counted faults faults' counter counter' (DriveFault d) h = h
counted faults faults' counter counter' (BadPage bad) h = absurd h
counted faults faults' counter counter' NoMemory h = h

-- a failed read says nothing of a page
pub no_bad : (faults faults' counter counter' : ℕ) (e : FetchErr) (told : Option (List (List ℕ))) (kind : FileKind) (file page address : ℕ) → IsFailure faults faults' counter counter' e → IsToldBad told kind file page address e
no_bad faults faults' counter counter' (DriveFault d) told kind file page address h = tt
no_bad faults faults' counter counter' (BadPage bad) told kind file page address h = absurd h
no_bad faults faults' counter counter' NoMemory told kind file page address h = tt

pub length-up_to : (n : ℕ) → length (up_to n) ≡ n
length-up_to zero = refl
length-up_to (suc n) = length-append (up_to n) (suc n ∷ []) ∙ omega (arith, length-up_to n)

-- the counter goes on by one, or stays
next_is : (counter : ℕ) → counter ≤ LAST → (next_count counter ≡ counter) ⊎ (next_count counter ≡ counter + 1)
next_is counter small = dite (ℕ_discrete counter LAST) (λ last. inl (omega arith)) (λ less. inr (omega arith))

goes_on : (counter counter' : ℕ) → (counter' ≡ counter) ⊎ (counter' ≡ counter + 1) → IsPrefix (up_to counter) (up_to counter')
goes_on counter counter' (inl same) = ([], append-nil (up_to counter) ∙ ap up_to (sym same))
goes_on counter counter' (inr more) = let next : suc counter ≡ counter' = omega arith in (suc counter ∷ [], ap up_to next)

-- after a fetch the log begins with what it was
pub log_begins : (before counter counter' : ℕ) → before ≡ counter → GoesOn counter counter' → IsPrefix (up_to before) (up_to counter')
log_begins before counter counter' same h = subst (λ n. IsPrefix (up_to n) (up_to counter')) (sym same) (goes_on counter counter' h)

-- and it is no shorter
pub no_less : (seen counter counter' : ℕ) → seen ≤ counter → GoesOn counter counter' → seen ≤ counter'
no_less seen counter counter' less (inl same) = omega (arith, less, same)
no_less seen counter counter' less (inr more) = omega (arith, less, more)

-- an error leaves the counter, or raises it by one
pub error_goes_on : (before now counter counter' : ℕ) (e : FetchErr) → counter ≤ LAST → IsCounted before now counter counter' e → GoesOn counter counter'
error_goes_on before now counter counter' (DriveFault d) small h = subst (λ n. GoesOn counter n) (sym h.2) (next_is counter small)
error_goes_on before now counter counter' (BadPage bad) small h = inl h
error_goes_on before now counter counter' NoMemory small h = inl h

-- the count of what was seen
count_is : (n : ℕ) → ((n < LAST) × (count_of n ≡ n)) ⊎ ((LAST ≤ n) × (count_of n ≡ 18446744073709551615))
count_is n = elim (leb_tells LAST n) [
  | inl at ↦ inr (at.1, ap (λ b. if b then 18446744073709551615 else n) at.0)
  | inr below ↦ inl (below.1, ap (λ b. if b then 18446744073709551615 else n) below.0)
]

-- no count falls
pub count_grows : (seen seen' : ℕ) → seen ≤ seen' → count_of seen ≤ count_of seen'
count_grows seen seen' less = elim (count_is seen) [
  | inl a ↦ elim (count_is seen') [ inl b ↦ omega (arith, a.1, b.1) | inr b ↦ omega (arith, a.0, a.1, b.1) ]
  | inr a ↦ elim (count_is seen') [ inl b ↦ omega (arith, a.0, b.0) | inr b ↦ omega (arith, a.1, b.1) ]
]

-- a counter that rose past what was seen
count_rises : (seen counter seen' : ℕ) → seen ≤ counter → counter ≤ LAST → seen' ≡ next_count counter → Rose (count_of seen) (count_of seen')
count_rises seen counter seen' less small next = elim (count_is seen) [
  | inl a ↦ elim (count_is seen') [ inl b ↦ omega (arith, a.0, a.1, b.0, b.1) | inr b ↦ omega (arith, b.1) ]
  | inr a ↦ elim (count_is seen') [ inl b ↦ omega (arith, a.0, b.0) | inr b ↦ omega (arith, b.1) ]
]

-- the error of a shard, handed on by the pass that took the turn
pub handed_over : (told : Option (List (List ℕ))) (place : Place) (file page before now seen counter counter' seen' : ℕ) (e : FetchErr) → seen ≤ counter → counter ≤ LAST → seen' ≡ counter' → IsCounted before now counter counter' e →
    IsToldBad told place.kind file page place.address e → IsFetched told place file page (count_of seen) (count_of seen') (Err (error_of place.drive e))
handed_over told place file page before now seen counter counter' seen' (DriveFault d) less small is counts bad = (refl, count_rises seen counter seen' less small (is ∙ counts.2))
handed_over told place file page before now seen counter counter' seen' (BadPage b) less small is counts bad = bad
handed_over told place file page before now seen counter counter' seen' NoMemory less small is counts bad = tt
