-- How many pages of a file stand on a drive.
use Rattle.std.proofs.Common.{◌≡◌, ℕ, zero, suc, ◌+◌, ◌-◌, ◌*◌, ◌/◌, ◌%◌, ◌^◌, ◌<◌, ◌≤◌, true, false, cond, eqb, List, [], ◌∷◌, length, take, Some, sym, ap, ◌∙◌, arith, inl, inr}
use Rattle.std.specs.Prelude.{slice_get}
use Rattle.std.proofs.lemmas.Bool.{cases_order, eq-eqb, ne_eqb}
use Rattle.std.proofs.lemmas.Nat.{div-mul-add, div-add-mod', mod_below, le-div}
use Rattle.heap_page.specs.declared.map.PageFile.{PageFile}
use Rattle.heap_page.specs.declared.map.FileMap.{FileMap}
use Rattle.heap_page.specs.Maps.{share, shares, pages_of_all, base, needs_of, drive_of, address_of, HasPage, IsMap}

quotient : (n K q r : ℕ) → n ≡ q * K + r → r < K → n / K ≡ q
quotient n K q r e lt = ap (λ (m : ℕ). m / K) e ∙ div-mul-add q K r lt

pub share_is : (K d n : ℕ) → d < K → share K d n ≡ (n + (K - 1 - d)) / K
share_is K d zero lt = sym (quotient (0 + (K - 1 - d)) K 0 (K - 1 - d) (omega arith) (omega arith))
share_is K d (suc n) lt =
    let q = n / K in
    let r = n % K in
    let e : q * K + r ≡ n = div-add-mod' n K in
    let below : r < K = mod_below n K (omega arith) in
    let ih = share_is K d n lt in
    elim (cases_order r d) [
      | inl same ↦ (
          let was = quotient (n + (K - 1 - d)) K q (K - 1) (omega arith) (omega arith) in
          let now = quotient (suc n + (K - 1 - d)) K (q + 1) 0 (omega arith) (omega arith) in
          rw (eq-eqb r d same) (omega (arith, ih, was, now)))
      | inr (inl less) ↦ (
          let was = quotient (n + (K - 1 - d)) K q (r + (K - 1 - d)) (omega arith) (omega arith) in
          let now = quotient (suc n + (K - 1 - d)) K q (r + (K - d)) (omega arith) (omega arith) in
          let ne : r ≡ d → ⊥ = λ h. absurd (omega arith) in
          rw (ne_eqb r d ne) (omega (arith, ih, was, now)))
      | inr (inr more) ↦ (
          let was = quotient (n + (K - 1 - d)) K (q + 1) (r - 1 - d) (omega arith) (omega arith) in
          let now = quotient (suc n + (K - 1 - d)) K (q + 1) (r - d) (omega arith) (omega arith) in
          let ne : r ≡ d → ⊥ = λ h. absurd (omega arith) in
          rw (ne_eqb r d ne) (omega (arith, ih, was, now)))
    ]

pub share_le : (K d n : ℕ) → share K d n ≤ n
share_le K d zero = omega arith
share_le K d (suc n) = elim (eqb (n % K) d) as (λ b. cond b 1 0 + share K d n ≤ suc n) [ true ↦ omega (arith, share_le K d n) | false ↦ omega (arith, share_le K d n) ]

pub shares_le : (K d : ℕ) (fs : List PageFile) → shares K d fs ≤ pages_of_all fs
shares_le K d [] = omega arith
shares_le K d (f ∷ fs) = omega (arith, share_le K d f.pages, shares_le K d fs)

pub pages_take : (fs : List PageFile) (i : ℕ) → pages_of_all (take i fs) ≤ pages_of_all fs
pages_take fs zero = omega arith
pages_take [] (suc i) = omega arith
pages_take (f ∷ fs) (suc i) = omega (arith, pages_take fs i)

-- a page of a file has a place in its drive's share
pub place_in_share : (K p n : ℕ) → 0 < K → p < n → p / K < share K (p % K) n
place_in_share K p n pos lt =
    let e : p / K * K + p % K ≡ p = div-add-mod' p K in
    let below : p % K < K = mod_below p K pos in
    let more : p / K + 1 ≤ (n + (K - 1 - p % K)) / K = le-div (p / K + 1) (n + (K - 1 - p % K)) K pos (omega arith) in
    omega (arith, share_is K (p % K) n below, more)

file_in_shares : (K d : ℕ) (fs : List PageFile) (file : ℕ) (f : PageFile) → slice_get fs file ≡ Some f → shares K d (take file fs) + share K d f.pages ≤ shares K d fs
file_in_shares K d [] file f e = absurd cc
file_in_shares K d (g ∷ fs) zero f e = let h : f ≡ g = cc in rw h (omega arith)
file_in_shares K d (g ∷ fs) (suc file) f e = omega (arith, file_in_shares K d fs file f e)

pub address_below : (map : FileMap) (file page : ℕ) → IsMap map → HasPage map.files.items file page → address_of map file page < needs_of map (drive_of map page)
address_below map file page m h =
    omega (arith, place_in_share map.drives page h.0.pages m.some h.2, file_in_shares map.drives (page % map.drives) map.files.items file h.0 h.1)

pub needs_small : (map : FileMap) (d : ℕ) → IsMap map → needs_of map d < 2 ^ 32
needs_small map d m = omega (arith, shares_le map.drives d map.files.items, m.small)

pub file_below : (fs : List PageFile) (file : ℕ) (f : PageFile) → slice_get fs file ≡ Some f → file < length fs
file_below [] file f e = absurd cc
file_below (g ∷ fs) zero f e = omega arith
file_below (g ∷ fs) (suc file) f e = omega (arith, file_below fs file f e)

pub file_pages : (fs : List PageFile) (file : ℕ) (f : PageFile) → slice_get fs file ≡ Some f → f.pages ≤ pages_of_all fs
file_pages [] file f e = absurd cc
file_pages (g ∷ fs) zero f e = let h : f ≡ g = cc in rw h (omega arith)
file_pages (g ∷ fs) (suc file) f e = omega (arith, file_pages fs file f e)

-- ---- every page has a place of its own

next_file : (K d : ℕ) (fs : List PageFile) (i j : ℕ) (f : PageFile) → slice_get fs i ≡ Some f → i < j → shares K d (take i fs) + share K d f.pages ≤ shares K d (take j fs)
next_file K d [] i j f e lt = absurd cc
next_file K d (g ∷ fs) i zero f e lt = absurd (omega arith)
next_file K d (g ∷ fs) zero (suc j) f e lt = let h : f ≡ g = cc in rw h (omega arith)
next_file K d (g ∷ fs) (suc i) (suc j) f e lt = omega (arith, next_file K d fs i j f e (omega arith))

apart : (map : FileMap) (file page other number : ℕ) → IsMap map → HasPage map.files.items file page → drive_of map page ≡ drive_of map number → address_of map file page ≡ address_of map other number → file < other → ⊥
apart map file page other number m h same e lt =
    let b : base map other (drive_of map page) ≡ base map other (drive_of map number) = ap (base map other) same in
    absurd (omega (arith, place_in_share map.drives page h.0.pages m.some h.2, next_file map.drives (page % map.drives) map.files.items file other h.0 h.1 lt, b, e))

pub one_file : (map : FileMap) (file page other number : ℕ) → IsMap map → HasPage map.files.items file page → HasPage map.files.items other number → drive_of map page ≡ drive_of map number → address_of map file page ≡ address_of map other number → file ≡ other
one_file map file page other number m h k same e =
    elim (cases_order file other) [
      | inl eq ↦ eq
      | inr (inl less) ↦ absurd (apart map file page other number m h same e less)
      | inr (inr more) ↦ absurd (apart map other number file page m k (sym same) (sym e) more)
    ]

pub one_page : (map : FileMap) (file page other number : ℕ) → IsMap map → HasPage map.files.items file page → HasPage map.files.items other number → drive_of map page ≡ drive_of map number → address_of map file page ≡ address_of map other number → page ≡ number
one_page map file page other number m h k same e =
    let f = one_file map file page other number m h k same e in
    let b : base map file (drive_of map page) ≡ base map other (drive_of map number) = ap (λ (i : ℕ). base map i (drive_of map page)) f ∙ ap (base map other) same in
    let one : page / map.drives ≡ number / map.drives = omega (arith, e, b) in
    let two : page / map.drives * map.drives ≡ number / map.drives * map.drives = ap (λ (q : ℕ). q * map.drives) one in
    omega (arith, two, same, div-add-mod' page map.drives, div-add-mod' number map.drives)
