-- Parts of a list of bytes, and the numbers that stand in them.
use Rattle.std.proofs.Common.{◌≡◌, ℕ, zero, suc, ◌+◌, ◌-◌, ◌^◌, ◌<◌, ◌≤◌, List, [], ◌∷◌, ◌++◌, length, get_or, take, drop, refl, sym, ap, ◌∙◌, zero-add, arith, inl, inr}
use Rattle.std.specs.Prelude.{slice_range}
use Rattle.std.specs.Int.{w16, w32, from_be_bytes, to_be_bytes}
use Rattle.std.proofs.lemmas.Bool.{cases_lt}
use Rattle.std.proofs.lemmas.List.{take_at, drop_at, take-append-drop, length-take, length-drop, get_or-drop, get_or-take, get_or_past, drop-drop, take_all}
use Rattle.std.proofs.lemmas.Nat.{be_bytes_2, be_bytes_4, from_be_bytes-to_be_bytes_2}
use Rattle.heap_page.specs.Fields.{AreBytes, short_at, long_at}

abbrev pub IsBytes : List ℕ → Type 0
IsBytes bytes = (i : ℕ) → get_or bytes i 0 < 256

pub are_bytes : (bytes : List ℕ) → AreBytes bytes → IsBytes bytes
are_bytes bytes h i =
    elim (cases_lt i (length bytes)) [
      | inl lt ↦ h i 0 lt
      | inr le ↦ rw (get_or_past bytes i 0 le) (omega arith)
    ]

pub IsBytes-drop : (n : ℕ) (bytes : List ℕ) → IsBytes bytes → IsBytes (drop n bytes)
IsBytes-drop n bytes h i = rw get_or-drop (h (n + i))

pub IsBytes-take : (n : ℕ) (bytes : List ℕ) → IsBytes bytes → IsBytes (take n bytes)
IsBytes-take n bytes h i =
    elim (cases_lt i n) [
      | inl lt ↦ rw (get_or-take n bytes i 0 lt) (h i)
      | inr le ↦ rw (get_or_past (take n bytes) i 0 (omega (arith, length-take n bytes))) (omega arith)
    ]

module _ {X : Type 0} where
  -- a part of three
  pub part_again : (front x rest : List X) (a e : ℕ) → length front ≡ a → a + length x ≡ e → slice_range (front ++ (x ++ rest)) a e ≡ x
  part_again front x rest a e fa fe =
      let k : e - a ≡ length x = omega arith in
      rw (k, drop_at front (x ++ rest) a fa) (take_at x rest (length x) refl)

  pub length-part : (xs : List X) (a e : ℕ) → e ≤ length xs → length (slice_range xs a e) ≡ e - a
  length-part xs a e le = omega (arith, length-take (e - a) (drop a xs), length-drop a xs)

  take_none : (k : ℕ) → take {A = X} k [] ≡ []
  take_none zero = refl
  take_none (suc k) = refl

  take_both : (m n : ℕ) (xs : List X) → take (m + n) xs ≡ take m xs ++ take n (drop m xs)
  take_both zero n xs = rw (zero-add n) refl
  take_both (suc m) n [] = take_none (suc m + n) ∙ sym (take_none n)
  take_both (suc m) n (x ∷ xs) = let k : suc m + n ≡ suc (m + n) = omega arith in rw k (ap (λ (ys : List X). x ∷ ys) (take_both m n xs))

  -- a part in two
  pub part_split : (xs : List X) (a m e : ℕ) → a ≤ m → m ≤ e → slice_range xs a e ≡ slice_range xs a m ++ slice_range xs m e
  part_split xs a m e am me =
      let k : e - a ≡ (m - a) + (e - m) = omega arith in
      let j : a + (m - a) ≡ m = omega arith in
      rw (k, take_both (m - a) (e - m) (drop a xs), drop-drop (m - a) a xs, j) refl

  -- what follows a place begins with a part
  pub drop_split : (xs : List X) (a e : ℕ) → a ≤ e → drop a xs ≡ slice_range xs a e ++ drop e xs
  drop_split xs a e le =
      let j : a + (e - a) ≡ e = omega arith in
      sym (take-append-drop (e - a) (drop a xs)) ∙ rw (drop-drop (e - a) a xs, j) refl

  pub part_to_end : (xs : List X) (a e : ℕ) → length xs ≡ e → a ≤ e → drop a xs ≡ slice_range xs a e
  part_to_end xs a e len le = sym (take_all (e - a) (drop a xs) (omega (arith, length-drop a xs)))

-- a number that was written is read
pub short_again : (front rest : List ℕ) (n at : ℕ) → length front ≡ at → n < 65536 → short_at (front ++ (to_be_bytes w16 n ++ rest)) at ≡ n
short_again front rest n at fa small =
    ap (from_be_bytes w16) (part_again front (to_be_bytes w16 n) rest at (at + 2) fa refl) ∙ from_be_bytes-to_be_bytes_2 n small

-- a number that is read is what stands there
pub short_back : (bytes : List ℕ) (at : ℕ) → IsBytes bytes → at + 2 ≤ length bytes → to_be_bytes w16 (short_at bytes at) ≡ slice_range bytes at (at + 2)
short_back bytes at small le =
    be_bytes_2 (slice_range bytes at (at + 2)) (short_at bytes at) (length-part bytes at (at + 2) le ∙ omega arith) (IsBytes-take (at + 2 - at) (drop at bytes) (IsBytes-drop at bytes small)) refl

pub long_back : (bytes : List ℕ) (at : ℕ) → IsBytes bytes → at + 4 ≤ length bytes → to_be_bytes w32 (long_at bytes at) ≡ slice_range bytes at (at + 4)
long_back bytes at small le =
    be_bytes_4 (slice_range bytes at (at + 4)) (long_at bytes at) (length-part bytes at (at + 4) le ∙ omega arith) (IsBytes-take (at + 4 - at) (drop at bytes) (IsBytes-drop at bytes small)) refl

pub short_below : (bytes : List ℕ) (at : ℕ) → IsBytes bytes → short_at bytes at < 65536
short_below bytes at small =
    let part = IsBytes-take (at + 2 - at) (drop at bytes) (IsBytes-drop at bytes small) in
    omega (arith, part 0, part 1)

pub long_below : (bytes : List ℕ) (at : ℕ) → IsBytes bytes → long_at bytes at < 2 ^ 32
long_below bytes at small =
    let part = IsBytes-take (at + 4 - at) (drop at bytes) (IsBytes-drop at bytes small) in
    omega (arith, part 0, part 1, part 2, part 3)
