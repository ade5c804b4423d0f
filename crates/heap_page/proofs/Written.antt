-- The two laws of a page.
use Rattle.std.proofs.Common.{◌≡◌, ℕ, zero, suc, ◌+◌, ◌-◌, ◌*◌, ◌^◌, ◌<◌, true, eqb, leb, List, [], ◌++◌, length, take, refl, sym, ap, ◌∙◌, append_assoc, eq-eqb, arith, None}
use Rattle.std.specs.Prelude.{slice_range}
use Rattle.std.specs.List.{list_all}
use Rattle.std.proofs.lemmas.List.{length-append, append-nil}
use Rattle.std.proofs.lemmas.Bool.{le-leb}
use Rattle.std.proofs.lemmas.Nat.{from_be_bytes-to_be_bytes_2, from_be_bytes-to_be_bytes_4}
use Rattle.heap_page.specs.declared.head.FileKind.TheVariants.{Heap}
use Rattle.heap_page.specs.Fields.{short_at, long_at}
use Rattle.heap_page.specs.Pages.{magic_of, zeros, total, Fits, pointers, stacked, page_of, head_of, items_of, file_of, number_of, head_fault, body_fault, fault_of}
use Rattle.heap_page.proofs.Parts.{part_again}
use Rattle.heap_page.proofs.Standing.{Stands, stands, Stands-items, Stands-stacked, length-zeros, length-pointers, length-stacked}

all_zeros : (n : ℕ) → list_all (λ b. eqb b 0) (zeros n) ≡ true
all_zeros zero = refl
all_zeros (suc n) = all_zeros n

-- what the page of some items is
pub record IsPageOf (file number : ℕ) (items : List (List ℕ)) (bytes : List ℕ) : Type 0 where
  pub len : length bytes ≡ 8192
  pub rules : fault_of file number bytes ≡ None
  pub items_are : items_of bytes ≡ items
  pub file_is : file_of bytes ≡ file
  pub number_is : number_of bytes ≡ number
  pub count_is : short_at bytes 6 ≡ length items
  pub upper_is : short_at bytes 16 ≡ 8192 - total items

module _ (file number : ℕ) (items : List (List ℕ)) (small_file : file < 2 ^ 32) (small_number : number < 2 ^ 32) (fits : Fits items) where
  upper : ℕ
  upper = 8192 - total items

  free : ℕ
  free = 8192 - (20 + 4 * length items + total items)

  abbrev head : List ℕ
  head = head_of file number (length items) (8192 - total items)

  head_len : length head ≡ 20
  unfolding head_of
  head_len = refl

  length-page : length (page_of file number items) ≡ 8192
  unfolding page_of free
  length-page = omega (
    arith,
    head_len,
    length-append head (pointers 8192 items ++ (zeros free ++ stacked items)),
    length-append (pointers 8192 items) (zeros free ++ stacked items),
    length-append (zeros free) (stacked items),
    length-pointers 8192 items,
    length-zeros free,
    length-stacked items,
  )

  count_is : short_at (page_of file number items) 6 ≡ length items
  unfolding page_of head_of
  count_is = from_be_bytes-to_be_bytes_2 (length items) (omega arith)

  upper_is : short_at (page_of file number items) 16 ≡ 8192 - total items
  unfolding page_of head_of
  upper_is = from_be_bytes-to_be_bytes_2 (8192 - total items) (omega arith)

  file_is : long_at (page_of file number items) 8 ≡ file
  unfolding page_of head_of
  file_is = from_be_bytes-to_be_bytes_4 file small_file

  number_is : long_at (page_of file number items) 12 ≡ number
  unfolding page_of head_of
  number_is = from_be_bytes-to_be_bytes_4 number small_number

  magic_is : take 4 (page_of file number items) ≡ magic_of Heap
  unfolding page_of head_of
  magic_is = refl

  version_is : short_at (page_of file number items) 4 ≡ 2
  unfolding page_of head_of
  version_is = refl

  zero_is : short_at (page_of file number items) 18 ≡ 0
  unfolding page_of head_of
  zero_is = refl

  no_head_fault : head_fault Heap file number (page_of file number items) ≡ None
  unfolding head_fault
  no_head_fault =
      rw (magic_is, version_is, zero_is, file_is, number_is) (rw (eq-eqb file file refl, eq-eqb number number refl) refl)

  laid : Stands (page_of file number items) (8192 - total items) 8192 0 items
  unfolding page_of free
  laid = stands items (page_of file number items) head (zeros free) [] 0 8192
      (ap (λ (ys : List ℕ). head ++ (pointers 8192 items ++ (zeros free ++ ys))) (sym (append-nil (stacked items)))) head_len
      (omega (arith, head_len, length-zeros free)) (omega arith)

  free_is : slice_range (page_of file number items) (20 + 4 * length items) (8192 - total items) ≡ zeros free
  unfolding page_of free
  free_is =
      let deep : page_of file number items ≡ (head ++ pointers 8192 items) ++ (zeros free ++ stacked items) = sym (append_assoc head (pointers 8192 items) (zeros free ++ stacked items)) in
      ap (λ (ys : List ℕ). slice_range ys (20 + 4 * length items) (8192 - total items)) deep
      ∙ part_again (head ++ pointers 8192 items) (zeros free) (stacked items) _ _ (omega (arith, head_len, length-append head (pointers 8192 items), length-pointers 8192 items)) (omega (arith, length-zeros free))

  no_body_fault : body_fault (page_of file number items) ≡ None
  unfolding body_fault
  no_body_fault =
      let one : leb (20 + 4 * length items) (8192 - total items) ≡ true = le-leb _ _ (omega arith) in
      let two : leb (8192 - total items) 8192 ≡ true = le-leb _ _ (omega arith) in
      let three = Stands-stacked (page_of file number items) (8192 - total items) 8192 0 items laid in
      rw (count_is, upper_is) (rw (one, two, three, free_is, all_zeros free) refl)

  pub page_again : IsPageOf file number items (page_of file number items)
  page_again = record {
    len = length-page;
    rules = rw (no_head_fault, no_body_fault) refl;
    items_are = rw count_is (Stands-items (page_of file number items) (8192 - total items) 8192 0 items laid);
    file_is = file_is;
    number_is = number_is;
    count_is = count_is;
    upper_is = upper_is;
  }
