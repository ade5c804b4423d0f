-- The page of some items.
use Rattle.std.proofs.Common.{◌≡◌, ℕ, zero, suc, ◌-◌, ◌^◌, ◌<◌, ◌≤◌, true, eqb, List, [], ◌∷◌, ◌++◌, length, drop, take, flat_map, Some, None, refl, ap, ◌∙◌, arith, eq-eqb, length-append}
use Rattle.std.specs.List.{list_all}
use Rattle.std.proofs.lemmas.Nat.{from_be_bytes-to_be_bytes_2, from_be_bytes-to_be_bytes_4}
use Rattle.heap_page.specs.declared.head.FileKind.TheVariants.{Index}
use Rattle.heap_page.specs.Blocks.{weight_of}
use Rattle.heap_page.specs.Fields.{short_at, long_at}
use Rattle.heap_page.specs.Pages.{head_fault, magic_of, zeros}
use Rattle.rows.specs.declared.field.ColType.{ColType}
use Rattle.key_index.specs.Bytes.{head_of, item_bytes, page_of, weight}
use Rattle.key_index.specs.Entries.{Item}
use Rattle.key_index.specs.Readings.{items_in, page_fault, page_items}
use Rattle.key_index.proofs.Keys.{AreItems, read_again}
use Rattle.key_index.proofs.Scanning.{all_zeros}

zeros_all : (n : ℕ) → list_all (λ b. eqb b 0) (zeros n) ≡ true
zeros_all zero = refl
zeros_all (suc n) = zeros_all n

length-zeros : (n : ℕ) → length (zeros n) ≡ n
length-zeros zero = refl
length-zeros (suc n) = ap suc (length-zeros n)

pub weight_is : (level : ℕ) (items : List Item) → length (flat_map (item_bytes level) items) ≡ weight_of (weight level) items
weight_is level [] = refl
weight_is level (e ∷ es) = omega (arith, length-append (item_bytes level e) (flat_map (item_bytes level) es), weight_is level es)

module _ (file number level : ℕ) (items : List Item) where
  abbrev body : List ℕ
  body = flat_map (item_bytes level) items

  pub length-head : length (head_of file number level (length items)) ≡ 20
  unfolding head_of
  length-head = refl

  pub length-page : length (flat_map (item_bytes level) items) ≤ 8172 → length (page_of file number level items) ≡ 8192
  unfolding page_of
  length-page fits =
      omega (arith, length-head, length-append (head_of file number level (length items)) (body ++ zeros (8172 - length body)), length-append body (zeros (8172 - length body)), length-zeros (8172 - length body), fits)

  behind : drop 20 (page_of file number level items) ≡ body ++ zeros (8172 - length body)
  unfolding page_of head_of
  behind = refl

  count_is : length items < 65536 → short_at (page_of file number level items) 6 ≡ length items
  unfolding page_of head_of
  count_is small = from_be_bytes-to_be_bytes_2 (length items) small

  level_is : level < 65536 → short_at (page_of file number level items) 16 ≡ level
  unfolding page_of head_of
  level_is small = from_be_bytes-to_be_bytes_2 level small

  file_is : file < 2 ^ 32 → long_at (page_of file number level items) 8 ≡ file
  unfolding page_of head_of
  file_is small = from_be_bytes-to_be_bytes_4 file small

  number_is : number < 2 ^ 32 → long_at (page_of file number level items) 12 ≡ number
  unfolding page_of head_of
  number_is small = from_be_bytes-to_be_bytes_4 number small

  magic_is : take 4 (page_of file number level items) ≡ magic_of Index
  unfolding page_of head_of
  magic_is = refl

  version_is : short_at (page_of file number level items) 4 ≡ 1
  unfolding page_of head_of
  version_is = refl

  zero_is : short_at (page_of file number level items) 18 ≡ 0
  unfolding page_of head_of
  zero_is = refl

  pub no_head_fault : file < 2 ^ 32 → number < 2 ^ 32 → head_fault Index file number (page_of file number level items) ≡ None
  unfolding head_fault
  no_head_fault fs ns =
      rw (magic_is, version_is, zero_is, file_is fs, number_is ns) (rw (eq-eqb file file refl, eq-eqb number number refl) refl)

  pub read_whole : (t : ColType) (left : ℕ) → length items < 65536 → AreItems t level left items → page_items t level left (page_of file number level items) ≡ Some (items, zeros (8172 - length (flat_map (item_bytes level) items)))
  read_whole t left small h =
      rw (count_is small, behind) (read_again t level left items (zeros (8172 - length body)) h)

  pub no_fault : (t : ColType) (left : ℕ) → 0 < length items → length items < 65536 → level < 65536 → AreItems t level left items → page_fault t level left (page_of file number level items) ≡ None
  no_fault t left some small ls h =
      all_zeros t level left (length items) (page_of file number level items) (level_is ls) (count_is small) some items (zeros (8172 - length body))
      (ap (items_in t level left (length items)) behind ∙ read_again t level left items (zeros (8172 - length body)) h) (zeros_all (8172 - length body))
