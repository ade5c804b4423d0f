-- What breaks no rule is the page of its items.
use Rattle.std.proofs.Common.{◌≡◌, ℕ, zero, suc, ◌+◌, ◌-◌, ◌*◌, ◌≤◌, Bool, true, false, cond, eqb, leb, not, ◌&&◌, List, [], ◌∷◌, ◌++◌, length, take, drop, refl, sym, ap, subst, ◌∙◌, append_assoc, zero-add, arith, Option, Some, None}
use Rattle.std.specs.Prelude.{slice_range}
use Rattle.std.specs.List.{list_all}
use Rattle.std.specs.Str.{bytes_eq}
use Rattle.std.specs.Int.{w16, w32, to_be_bytes}
use Rattle.std.proofs.lemmas.List.{take-append-drop}
use Rattle.std.proofs.lemmas.Bool.{eqb-true, leb-true, and_parts}
use Rattle.std.proofs.lemmas.Slice.Eq.{bytes_eq-Decides}
use Rattle.heap_page.specs.declared.head.FileKind.TheVariants.{Heap}
use Rattle.heap_page.specs.Fields.{short_at, long_at}
use Rattle.heap_page.specs.Pages.{magic_of, zeros, total, Fits, pointers, stacked, page_of, head_of, items_from, items_of, file_of, number_of, is_stacked, first_of, head_fault, body_fault, fault_of}
use Rattle.heap_page.proofs.Parts.{IsBytes, part_to_end, drop_split, length-part, short_back, long_back}
use Rattle.heap_page.proofs.Standing.{holds}

-- a test that broke no rule
passed : (b : Bool) (rule : ℕ) (rest : Option ℕ) → cond (not b) (Some rule) rest ≡ None → (b ≡ true) × (rest ≡ None)
passed true rule rest e = (refl, e)
passed false rule rest e = absurd cc

-- what no broken rule of the head says
pub record IsHead (file number : ℕ) (bytes : List ℕ) : Type 0 where
  pub magic : take 4 bytes ≡ magic_of Heap
  pub version : short_at bytes 4 ≡ 2
  pub zero_is : short_at bytes 18 ≡ 0
  pub file_is : long_at bytes 8 ≡ file
  pub number_is : long_at bytes 12 ≡ number

pub head_says : (file number : ℕ) (bytes : List ℕ) → head_fault Heap file number bytes ≡ None → IsHead file number bytes
unfolding head_fault
head_says file number bytes h =
    let a = passed (bytes_eq (take 4 bytes) (magic_of Heap)) 1 _ h in
    let b = passed (eqb (short_at bytes 4) 2) 2 _ a.1 in
    let c = passed (eqb (short_at bytes 18) 0) 3 _ b.1 in
    let d = passed (eqb (long_at bytes 8) file) 4 _ c.1 in
    let e = passed (eqb (long_at bytes 12) number) 5 _ d.1 in
    record {
      magic = (bytes_eq-Decides (take 4 bytes) (magic_of Heap)).0 a.0;
      version = eqb-true _ _ b.0;
      zero_is = eqb-true _ _ c.0;
      file_is = eqb-true _ _ d.0;
      number_is = eqb-true _ _ e.0;
    }

pub record IsBody (bytes : List ℕ) : Type 0 where
  pub room : 20 + 4 * short_at bytes 6 ≤ short_at bytes 16
  pub within : short_at bytes 16 ≤ 8192
  pub stack : is_stacked bytes (short_at bytes 16) 8192 0 (short_at bytes 6) ≡ true
  pub free : list_all (λ b. eqb b 0) (slice_range bytes (20 + 4 * short_at bytes 6) (short_at bytes 16)) ≡ true

pub body_says : (bytes : List ℕ) → body_fault bytes ≡ None → IsBody bytes
unfolding body_fault
body_says bytes h =
    let end = 20 + 4 * short_at bytes 6 in
    let a = passed (leb end (short_at bytes 16) && leb (short_at bytes 16) 8192) 6 _ h in
    let b = passed (is_stacked bytes (short_at bytes 16) 8192 0 (short_at bytes 6)) 7 _ a.1 in
    let c = passed (list_all (λ b. eqb b 0) (slice_range bytes end (short_at bytes 16))) 8 _ b.1 in
    let two = and_parts (leb end (short_at bytes 16)) (leb (short_at bytes 16) 8192) a.0 in
    record { room = leb-true _ _ two.0; within = leb-true _ _ two.1; stack = b.0; free = c.0 }

pub both_none : (a b : Option ℕ) → first_of a b ≡ None → (a ≡ None) × (b ≡ None)
both_none None b e = (refl, e)
both_none (Some r) b e = absurd cc

all_zero : (xs : List ℕ) → list_all (λ b. eqb b 0) xs ≡ true → xs ≡ zeros (length xs)
all_zero [] h = refl
all_zero (x ∷ xs) h =
    let two = and_parts (eqb x 0) (list_all (λ b. eqb b 0) xs) h in
    rw (eqb-true x 0 two.0) (ap (λ (ys : List ℕ). 0 ∷ ys) (all_zero xs two.1))

joined : (m m' a a' b b' c c' d d' e e' z z' rest : List ℕ) → m ≡ m' → a ≡ a' → b ≡ b' → c ≡ c' → d ≡ d' → e ≡ e' → z ≡ z' →
    m ++ (a ++ (b ++ (c ++ (d ++ (e ++ (z ++ rest)))))) ≡ (m' ++ (a' ++ (b' ++ (c' ++ (d' ++ (e' ++ z')))))) ++ rest
joined m m' a a' b b' c c' d d' e e' z z' rest p0 p1 p2 p3 p4 p5 p6 = rw (p0, p1, p2, p3, p4, p5, p6) (simp append_assoc)

head_back : (file number : ℕ) (bytes : List ℕ) → IsBytes bytes → length bytes ≡ 8192 → IsHead file number bytes →
    bytes ≡ head_of file number (short_at bytes 6) (short_at bytes 16) ++ drop 20 bytes
unfolding head_of
head_back file number bytes small len h =
    let b0 : bytes ≡ take 4 bytes ++ drop 4 bytes = sym (take-append-drop 4 bytes) in
    let b4 = drop_split bytes 4 6 (omega arith) in
    let b6 = drop_split bytes 6 8 (omega arith) in
    let b8 = drop_split bytes 8 12 (omega arith) in
    let b12 = drop_split bytes 12 16 (omega arith) in
    let b16 = drop_split bytes 16 18 (omega arith) in
    let b18 = drop_split bytes 18 20 (omega arith) in
    let f4 : to_be_bytes w16 2 ≡ slice_range bytes 4 6 = ap (to_be_bytes w16) (sym h.version) ∙ short_back bytes 4 small (omega arith) in
    let f6 : to_be_bytes w16 (short_at bytes 6) ≡ slice_range bytes 6 8 = short_back bytes 6 small (omega arith) in
    let f8 : to_be_bytes w32 file ≡ slice_range bytes 8 12 = ap (to_be_bytes w32) (sym h.file_is) ∙ long_back bytes 8 small (omega arith) in
    let f12 : to_be_bytes w32 number ≡ slice_range bytes 12 16 = ap (to_be_bytes w32) (sym h.number_is) ∙ long_back bytes 12 small (omega arith) in
    let f16 : to_be_bytes w16 (short_at bytes 16) ≡ slice_range bytes 16 18 = short_back bytes 16 small (omega arith) in
    let f18 : to_be_bytes w16 0 ≡ slice_range bytes 18 20 = ap (to_be_bytes w16) (sym h.zero_is) ∙ short_back bytes 18 small (omega arith) in
    b0 ∙ ap (λ (ys : List ℕ). take 4 bytes ++ ys) (b4 ∙ ap (λ (ys : List ℕ). slice_range bytes 4 6 ++ ys) (b6 ∙ ap (λ (ys : List ℕ). slice_range bytes 6 8 ++ ys) (b8
    ∙ ap (λ (ys : List ℕ). slice_range bytes 8 12 ++ ys) (b12 ∙ ap (λ (ys : List ℕ). slice_range bytes 12 16 ++ ys) (b16 ∙ ap (λ (ys : List ℕ). slice_range bytes 16 18 ++ ys) b18)))))
    ∙ joined _ _ _ _ _ _ _ _ _ _ _ _ _ _ (drop 20 bytes) h.magic (sym f4) (sym f6) (sym f8) (sym f12) (sym f16) (sym f18)

-- what breaks no rule
pub record IsAccepted (file number : ℕ) (bytes : List ℕ) : Type 0 where
  pub same : bytes ≡ page_of file number (items_of bytes)
  pub fits : Fits (items_of bytes)
  pub file_is : file_of bytes ≡ file
  pub number_is : number_of bytes ≡ number
  pub body : IsBody bytes

pub length-items : (n : ℕ) (bytes : List ℕ) (slot : ℕ) → length (items_from bytes slot n) ≡ n
length-items zero bytes slot = refl
length-items (suc n) bytes slot = ap suc (length-items n bytes (suc slot))

pub page_back : (file number : ℕ) (bytes : List ℕ) → IsBytes bytes → length bytes ≡ 8192 → fault_of file number bytes ≡ None → IsAccepted file number bytes
unfolding page_of
page_back file number bytes small len h =
    let two = both_none (head_fault Heap file number bytes) (body_fault bytes) h in
    let head = head_says file number bytes two.0 in
    let body = body_says bytes two.1 in
    let count = short_at bytes 6 in
    let upper = short_at bytes 16 in
    let items = items_of bytes in
    let n : length items ≡ count = length-items count bytes 0 in
    let held = holds count bytes upper 8192 0 small body.stack (omega (arith, body.room, body.within)) (omega arith) in
    let sizes : total items + upper ≡ 8192 = held.sizes in
    let fits : Fits items = omega (arith, body.room) in
    let top : 8192 - total items ≡ upper = omega arith in
    let pointed : slice_range bytes 20 (20 + 4 * count) ≡ pointers 8192 items = subst (λ (k : ℕ). slice_range bytes 20 (20 + 4 * k) ≡ pointers 8192 items) (zero-add count) held.pointed in
    let zero_part : slice_range bytes (20 + 4 * count) upper ≡ zeros (8192 - (20 + 4 * length items + total items)) =
    all_zero (slice_range bytes (20 + 4 * count) upper) body.free ∙ ap zeros (length-part bytes (20 + 4 * count) upper (omega (arith, body.within)) ∙ omega arith) in
    let stack : drop upper bytes ≡ stacked items = part_to_end bytes upper 8192 len body.within ∙ held.stack in
    let s20 = drop_split bytes 20 (20 + 4 * count) (omega arith) in
    let s21 = drop_split bytes (20 + 4 * count) upper body.room in
    let rest : drop 20 bytes ≡ pointers 8192 items ++ (zeros (8192 - (20 + 4 * length items + total items)) ++ stacked items) =
    s20 ∙ (ap (λ (ys : List ℕ). slice_range bytes 20 (20 + 4 * count) ++ ys) s21 ∙ rw (pointed, zero_part, stack) refl) in
    record {
      same = head_back file number bytes small len head ∙ rw (rest, n, top) refl;
      fits = fits;
      file_is = head.file_is;
      number_is = head.number_is;
      body = body;
    }
