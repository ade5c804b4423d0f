-- The pages of a file whose bytes are read and written at offsets.
use Rattle.std.proofs.Common.{◌≡◌, ◌≢◌, ◌⊎◌, ℕ, ◌+◌, ◌*◌, ◌-◌, ◌≤◌, ◌<◌, leb, eqb, ltb, Bool, true, false, List, [], map, length, take, take_all, get_or, set, length-set, get_or-set_same, get_or-set_other, ext_get_or, Option, Some, None, refl, sym, ap, ◌∙◌, subst, arith, inl, inr}
use Rattle.std.specs.List.{range_with_len, slice_get, slice_set}
use Rattle.std.specs.Option.{option_map}
use Rattle.std.proofs.lemmas.List.FromFn.{get_or-map-range_with_len, length-map-range_with_len}
use Rattle.std.proofs.lemmas.List.{get_or_default, get_or_past}
use Rattle.std.proofs.lemmas.Option.{slice_get-get_or, slice_get_past}
use Rattle.std.proofs.lemmas.Bool.{leb-true, leb-false, ltb-true, ltb-false, eqb-true, eqb-false}
use Rattle.xp_outside.specs.Drives.{ReadsPage, WritesPage, StillTells}
use Rattle.xprs_cli.specs.Bytes.{overlaid, Reads, Writes, Spoils}
use Rattle.xprs_cli.specs.Pages.{page_at, pages_of}

some_pages : (bytes : ℕ → ℕ) → length (pages_of bytes) ≡ 2048
some_pages bytes = length-map-range_with_len (page_at bytes) 0 2048

-- a page by its number
page_is : (bytes : ℕ → ℕ) (page : ℕ) → page < 2048 → get_or (pages_of bytes) page [] ≡ page_at bytes page
page_is bytes page lt = get_or-map-range_with_len (page_at bytes) 0 2048 page page [] lt (omega arith)

byte_is : (bytes : ℕ → ℕ) (page i : ℕ) → i < 8192 → get_or (page_at bytes page) i 0 ≡ bytes (page * 8192 + i)
byte_is bytes page i lt = get_or-map-range_with_len (λ k. bytes (page * 8192 + k)) 0 8192 i i 0 lt (omega arith)

long_page : (bytes : ℕ → ℕ) (page : ℕ) → length (page_at bytes page) ≡ 8192
long_page bytes page = length-map-range_with_len (λ k. bytes (page * 8192 + k)) 0 8192

module _ (page : ℕ) (xs : List ℕ) (lt : page < 2048) (long : length xs ≡ 8192) where
  page_read : (bytes : ℕ → ℕ) → ((i : ℕ) → i < 8192 → get_or xs i 0 ≡ bytes (page * 8192 + i)) → page_at bytes page ≡ xs
  page_read bytes h = ext_get_or 0 (page_at bytes page) xs (long_page bytes page ∙ sym long) (λ i below. byte_is bytes page i (omega (arith, long_page bytes page)) ∙ sym (h i (omega (arith, long_page bytes page))))

  pub reads_page : (told : Option (ℕ → ℕ)) → Reads told (page * 8192) (length xs) xs → ReadsPage (option_map pages_of told) page xs
  reads_page None h = tt
  reads_page (Some bytes) h =
      slice_get-get_or (pages_of bytes) page [] (omega (arith, some_pages bytes)) ∙ ap Some (page_is bytes page lt ∙ page_read bytes (λ i below. h i (omega arith)))

  -- where a page was written over
  over_page : (bytes : ℕ → ℕ) → page_at (overlaid bytes (page * 8192) xs) page ≡ xs
  over_page bytes = page_read (overlaid bytes (page * 8192) xs) (λ i below. sym (at_byte i below (leb (page * 8192) (page * 8192 + i)) refl)) where
    at_byte : (i : ℕ) → i < 8192 → (b : Bool) → leb (page * 8192) (page * 8192 + i) ≡ b → overlaid bytes (page * 8192) xs (page * 8192 + i) ≡ get_or xs i 0
    at_byte i below false e = absurd (omega (arith, leb-false (page * 8192) (page * 8192 + i) e))
    at_byte i below true e =
        let at : page * 8192 + i - page * 8192 ≡ i = omega arith in
        rw (e, at) (get_or_default xs i (bytes (page * 8192 + i)) 0 (omega arith))

  -- and elsewhere
  beside : (bytes : ℕ → ℕ) (place : ℕ) → (place < page * 8192) ⊎ (page * 8192 + 8192 ≤ place) → overlaid bytes (page * 8192) xs place ≡ bytes place
  beside bytes place h = by (leb (page * 8192) place) refl where
    by : (b : Bool) → leb (page * 8192) place ≡ b → overlaid bytes (page * 8192) xs place ≡ bytes place
    by false e = rw e refl
    by true e = elim h [
      | inl before ↦ absurd (omega (arith, before, leb-true (page * 8192) place e))
      | inr behind ↦ rw e (get_or_past xs (place - page * 8192) (bytes place) (omega (arith, behind)))
    ]

-- a byte of another page stands before or behind the page
apart : (page other i : ℕ) → other ≢ page → i < 8192 → (other * 8192 + i < page * 8192) ⊎ (page * 8192 + 8192 ≤ other * 8192 + i)
apart page other i differs below = by (ltb other page) refl where
  by : (b : Bool) → ltb other page ≡ b → (other * 8192 + i < page * 8192) ⊎ (page * 8192 + 8192 ≤ other * 8192 + i)
  by true e = inl (omega (arith, below, ltb-true other page e))
  by false e = inr (omega (arith, ltb-false other page e, differs))

-- where all bytes but a page's stay, so does each other page
same_page : (bytes later : ℕ → ℕ) (page other : ℕ) → ((place : ℕ) → (place < page * 8192) ⊎ (page * 8192 + 8192 ≤ place) → later place ≡ bytes place) → other ≢ page → page_at later other ≡ page_at bytes other
same_page bytes later page other same differs =
    ext_get_or 0 (page_at later other) (page_at bytes other) (long_page later other ∙ sym (long_page bytes other)) (λ i within.
    let below : i < 8192 = omega (arith, within, long_page later other) in
    byte_is later other i below ∙ same (other * 8192 + i) (apart page other i differs below) ∙ sym (byte_is bytes other i below))

pub keeps_others : (old new : Option (ℕ → ℕ)) (page : ℕ) → Spoils old new (page * 8192) 8192 → StillTells (option_map pages_of old) (option_map pages_of new) page
keeps_others None new page h = subst (λ n. StillTells None (option_map pages_of n) page) (sym h) tt
keeps_others (Some bytes) None page h = absurd h
keeps_others (Some bytes) (Some later) page h = (
  some_pages later ∙ sym (some_pages bytes),
  λ other differs. by other differs (ltb other 2048) refl,
) where
  by : (other : ℕ) → other ≢ page → (b : Bool) → ltb other 2048 ≡ b → slice_get (pages_of later) other ≡ slice_get (pages_of bytes) other
  by other differs true e =
      let lt : other < 2048 = ltb-true other 2048 e in
      slice_get-get_or (pages_of later) other [] (omega (arith, lt, some_pages later)) ∙ ap Some (page_is later other lt ∙ same_page bytes later page other h differs ∙ sym (page_is bytes other lt))
      ∙ sym (slice_get-get_or (pages_of bytes) other [] (omega (arith, lt, some_pages bytes)))
  by other differs false e = let far = ltb-false other 2048 e in slice_get_past (pages_of later) other (omega (arith, far, some_pages later)) ∙ sym (slice_get_past (pages_of bytes) other (omega (arith, far, some_pages bytes)))

module _ (page : ℕ) (xs : List ℕ) (lt : page < 2048) (long : length xs ≡ 8192) where
  over_pages : (bytes : ℕ → ℕ) → pages_of (overlaid bytes (page * 8192) xs) ≡ set (pages_of bytes) page xs
  over_pages bytes =
      let later = overlaid bytes (page * 8192) xs in
      ext_get_or [] (pages_of later) (set (pages_of bytes) page xs) (some_pages later ∙ sym (some_pages bytes) ∙ sym (length-set (pages_of bytes) page xs)) (λ other within. by other (omega (arith, within, some_pages later)) (eqb other page) refl) where
        by : (other : ℕ) → other < 2048 → (b : Bool) → eqb other page ≡ b → get_or (pages_of (overlaid bytes (page * 8192) xs)) other [] ≡ get_or (set (pages_of bytes) page xs) other []
        by other below true e = subst (λ o. get_or (pages_of (overlaid bytes (page * 8192) xs)) o [] ≡ get_or (set (pages_of bytes) page xs) o []) (sym (eqb-true other page e)) (page_is (overlaid bytes (page * 8192) xs) page lt ∙ over_page page xs lt long bytes ∙ sym (get_or-set_same (pages_of bytes) page xs [] (omega (arith, some_pages bytes, lt))))
        by other below false e =
            let differs : other ≢ page = eqb-false other page e in
            page_is (overlaid bytes (page * 8192) xs) other below ∙ same_page bytes (overlaid bytes (page * 8192) xs) page other (beside page xs lt long bytes) differs ∙ sym (page_is bytes other below)
            ∙ sym (get_or-set_other (pages_of bytes) page other xs [] differs)

  pub writes_page : (old new : Option (ℕ → ℕ)) → Writes old new (page * 8192) (length xs) xs → WritesPage (option_map pages_of old) (option_map pages_of new) page xs
  writes_page None new h = tt
  writes_page (Some bytes) new h =
      let whole : take (length xs) xs ≡ xs = take_all (length xs) xs (omega arith) in
      let later : new ≡ Some (overlaid bytes (page * 8192) xs) = rw whole at h in
      subst (λ n. option_map pages_of n ≡ Some (slice_set (pages_of bytes) page xs)) (sym later) (ap Some (over_pages bytes))
