-- Byte strings that stand one behind the other in one buffer.
use Rattle.std.proofs.Common.{◌≡◌, ℕ, zero, suc, ◌+◌, ◌-◌, ◌<◌, ◌≤◌, List, [], ◌∷◌, ◌++◌, length, get_or, drop, Some, refl, ap, ◌∙◌, arith}
use Rattle.std.specs.Prelude.{slice_get, slice_range}
use Rattle.std.proofs.lemmas.List.{take_all, drop_all, length-drop, take-append-le, drop-append-le}
use Rattle.heap_page.specs.Items.{pieces, Ascend, start_of}

pub length-pieces : (bytes : List ℕ) (from : ℕ) (ends : List ℕ) → length (pieces bytes from ends) ≡ length ends
length-pieces bytes from [] = refl
length-pieces bytes from (end ∷ ends) = ap suc (length-pieces bytes end ends)

pub from_within : (from : ℕ) (ends : List ℕ) (len : ℕ) → Ascend from ends len → from ≤ len
from_within from [] len h = omega arith
from_within from (end ∷ ends) len h = omega (arith, h.0, from_within end ends len h.1)

-- a range of the first of two lists
range_left : (bytes more : List ℕ) (from end : ℕ) → from ≤ end → end ≤ length bytes → slice_range (bytes ++ more) from end ≡ slice_range bytes from end
range_left bytes more from end le within =
    let a : from ≤ length bytes = omega arith in
    let b : end - from ≤ length (drop from bytes) = omega (arith, length-drop from bytes) in
    rw drop-append-le (rw take-append-le refl)

-- the second of two lists
range_right : (bytes more : List ℕ) → slice_range (bytes ++ more) (length bytes) (length bytes + length more) ≡ more
range_right bytes more =
    let a : length bytes ≤ length bytes = omega arith in
    let none : drop (length bytes) bytes ≡ [] = drop_all (length bytes) bytes a in
    let d : drop (length bytes) (bytes ++ more) ≡ more = drop-append-le (length bytes) bytes more a ∙ ap (λ (xs : List ℕ). xs ++ more) none in
    let n : (length bytes + length more) - length bytes ≡ length more = omega arith in
    rw (d, n) (take_all (length more) more (omega arith))

pub pushed : (bytes item : List ℕ) (from : ℕ) (ends : List ℕ) → Ascend from ends (length bytes) →
    pieces (bytes ++ item) from (ends ++ (length bytes + length item) ∷ []) ≡ pieces bytes from ends ++ item ∷ []
pushed bytes item from [] h = rw h (ap (λ (x : List ℕ). x ∷ []) (range_right bytes item))
pushed bytes item from (end ∷ ends) h =
    let one : slice_range (bytes ++ item) from end ≡ slice_range bytes from end = range_left bytes item from end h.0 (from_within end ends (length bytes) h.1) in
    rw (one, pushed bytes item end ends h.1) refl

pub ascend_more : (from : ℕ) (ends : List ℕ) (len more : ℕ) → Ascend from ends len → Ascend from (ends ++ (len + more) ∷ []) (len + more)
ascend_more from [] len more h = (omega arith, refl)
ascend_more from (end ∷ ends) len more h = (h.0, ascend_more end ends len more h.1)

-- an item stands between where it begins and its end
pub piece : (bytes : List ℕ) (from : ℕ) (ends : List ℕ) (number : ℕ) → number < length ends →
    slice_get (pieces bytes from ends) number ≡ Some (slice_range bytes (start_of from ends number) (get_or ends number 0))
piece bytes from [] number lt = absurd (omega arith)
piece bytes from (end ∷ ends) zero lt = refl
piece bytes from (end ∷ ends) (suc number) lt = piece bytes end ends number (omega arith)

pub piece_within : (from : ℕ) (ends : List ℕ) (len number : ℕ) → Ascend from ends len → number < length ends → (start_of from ends number ≤ get_or ends number 0) × (get_or ends number 0 ≤ len)
piece_within from [] len number h lt = absurd (omega arith)
piece_within from (end ∷ ends) len zero h lt = (h.0, from_within end ends len h.1)
piece_within from (end ∷ ends) len (suc number) h lt = piece_within end ends len number h.1 (omega arith)

pub start_first : (from : ℕ) (ends : List ℕ) → start_of from ends 0 ≡ from
start_first from [] = refl
start_first from (end ∷ ends) = refl

pub start_before : (from : ℕ) (ends : List ℕ) (before : ℕ) → before + 1 < length ends → start_of from ends (before + 1) ≡ get_or ends before 0
start_before from [] before lt = absurd (omega arith)
start_before from (end ∷ ends) zero lt = start_first end ends
start_before from (end ∷ ends) (suc before) lt = let k : suc before + 1 ≡ suc (before + 1) = omega arith in rw k (start_before end ends before (omega arith))
