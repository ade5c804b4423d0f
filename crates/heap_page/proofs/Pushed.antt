-- What is written to push an item.
use Rattle.std.proofs.Common.{◌≡◌, ℕ, zero, suc, ◌+◌, ◌-◌, ◌*◌, ◌^◌, ◌<◌, ◌≤◌, List, [], ◌∷◌, ◌++◌, length, drop, refl, sym, ap, subst, ◌∙◌, append_assoc, zero-add, arith, inl, inr}
use Rattle.std.specs.Int.{w16, to_be_bytes}
use Rattle.std.proofs.lemmas.Bool.{cases_lt}
use Rattle.std.proofs.lemmas.List.{length-append, append-nil, take_at, drop_at}
use Rattle.heap_page.specs.Fields.{overwritten, short_at}
use Rattle.heap_page.specs.Pages.{zeros, total, Fits, pointers, stacked, page_of, head_of, items_of, file_of, number_of, IsHeapPage}
use Rattle.heap_page.specs.Pushes.{Exceeds, Pushes}
use Rattle.heap_page.specs.declared.page.Push.{Push}
use Rattle.heap_page.specs.declared.page.Push.TheVariants.{Pushed, NoRoom}
use Rattle.heap_page.proofs.Written.{IsPageOf, page_again}
use Rattle.heap_page.proofs.Standing.{length-zeros, length-pointers}

-- a part that is written over another of its length
over : (front x rest part : List ℕ) (at : ℕ) → length front ≡ at → length part ≡ length x → overwritten at part (front ++ (x ++ rest)) ≡ front ++ (part ++ rest)
over front x rest part at fa same =
    let k : drop (at + length part) (front ++ (x ++ rest)) ≡ rest =
    ap (drop (at + length part)) (sym (append_assoc front x rest)) ∙ drop_at (front ++ x) rest (at + length part) (omega (arith, length-append front x)) in
    rw (take_at front (x ++ rest) at fa, k) refl

pub total-push : (xs : List (List ℕ)) (y : List ℕ) → total (xs ++ y ∷ []) ≡ total xs + length y
total-push [] y = omega arith
total-push (x ∷ xs) y = omega (arith, total-push xs y)

stacked-push : (xs : List (List ℕ)) (y : List ℕ) → stacked (xs ++ y ∷ []) ≡ y ++ stacked xs
stacked-push [] y = sym (append-nil y)
stacked-push (x ∷ xs) y = ap (λ (ys : List ℕ). ys ++ x) (stacked-push xs y) ∙ append_assoc y (stacked xs) x

pointers-push : (xs : List (List ℕ)) (y : List ℕ) (top : ℕ) → pointers top (xs ++ y ∷ []) ≡ pointers top xs ++ (to_be_bytes w16 (top - total xs - length y) ++ to_be_bytes w16 (length y))
pointers-push [] y top = let e : top - 0 ≡ top = omega arith in rw e refl
pointers-push (x ∷ xs) y top =
    let k : (top - length x) - total xs ≡ top - (length x + total xs) = omega arith in
    ap (λ (ys : List ℕ). to_be_bytes w16 (top - length x) ++ (to_be_bytes w16 (length x) ++ ys)) (rw (← k) (pointers-push xs y (top - length x)))

zeros-add : (m n : ℕ) → zeros (m + n) ≡ zeros m ++ zeros n
zeros-add zero n = ap zeros (zero-add n)
zeros-add (suc m) n = let k : suc m + n ≡ suc (m + n) = omega arith in rw k (ap (λ (ys : List ℕ). 0 ∷ ys) (zeros-add m n))

module _ (file number : ℕ) (items : List (List ℕ)) (item : List ℕ) (fits : Fits (items ++ item ∷ [])) where
  abbrev low : ℕ
  low = 8192 - total items - length item

  abbrev many : ℕ
  many = length items

  abbrev spare : ℕ
  spare = 8192 - (20 + 4 * length (items ++ item ∷ []) + total (items ++ item ∷ []))

  abbrev headed : ℕ → ℕ → List ℕ → List ℕ
  headed n upper body = head_of file number n upper ++ body

  count_put : (upper : ℕ) (body : List ℕ) → overwritten 6 (to_be_bytes w16 (many + 1)) (headed many upper body) ≡ headed (many + 1) upper body
  unfolding head_of
  count_put upper body = refl

  upper_put : (n upper : ℕ) (body : List ℕ) → overwritten 16 (to_be_bytes w16 low) (headed n upper body) ≡ headed n low body
  unfolding head_of
  upper_put n upper body = refl

  head_len : (n upper : ℕ) → length (head_of file number n upper) ≡ 20
  unfolding head_of
  head_len n upper = refl

  pub pushed : overwritten low item (overwritten (20 + 4 * many + 2) (to_be_bytes w16 (length item)) (overwritten (20 + 4 * many) (to_be_bytes w16 low)
      (overwritten 16 (to_be_bytes w16 low) (overwritten 6 (to_be_bytes w16 (many + 1)) (page_of file number items)))))
      ≡ page_of file number (items ++ item ∷ [])
  unfolding page_of
  pushed =
      let h = head_of file number (many + 1) low in
      let p = pointers 8192 items in
      let s = stacked items in
      let size = total-push items item in
      let n = length-append items (item ∷ []) in
      let room : 8192 - (20 + 4 * many + total items) ≡ 2 + (2 + (spare + length item)) = omega (arith, size, n) in
      let z : zeros (8192 - (20 + 4 * many + total items)) ≡ zeros 2 ++ (zeros 2 ++ (zeros spare ++ zeros (length item))) =
      ap zeros room ∙ (zeros-add 2 (2 + (spare + length item)) ∙ ap (λ (ys : List ℕ). zeros 2 ++ ys) (zeros-add 2 (spare + length item) ∙ ap (λ (ys : List ℕ). zeros 2 ++ ys) (zeros-add spare (length item)))) in
      let a = to_be_bytes w16 low in
      let b = to_be_bytes w16 (length item) in
      let f = zeros spare in
      let l = zeros (length item) in
      let start : overwritten 16 a (overwritten 6 (to_be_bytes w16 (many + 1)) (page_of file number items)) ≡ (h ++ p) ++ (zeros 2 ++ (zeros 2 ++ (f ++ (l ++ s)))) =
      ap (overwritten 16 a) (count_put _ _) ∙ (upper_put _ _ _ ∙ rw z (simp append_assoc)) in
      let hp : length (h ++ p) ≡ 20 + 4 * many = omega (arith, length-append h p, head_len (many + 1) low, length-pointers 8192 items) in
      let one = over (h ++ p) (zeros 2) (zeros 2 ++ (f ++ (l ++ s))) a (20 + 4 * many) hp refl in
      let two = over ((h ++ p) ++ a) (zeros 2) (f ++ (l ++ s)) b (20 + 4 * many + 2) (omega (arith, length-append (h ++ p) a, hp)) refl in
      let three = over ((((h ++ p) ++ a) ++ b) ++ f) l s item low (omega (arith, length-append (((h ++ p) ++ a) ++ b) f, length-append ((h ++ p) ++ a) b, length-append (h ++ p) a, hp, length-zeros spare)) (sym (length-zeros (length item))) in
      let g1 : (h ++ p) ++ (a ++ (zeros 2 ++ (f ++ (l ++ s)))) ≡ ((h ++ p) ++ a) ++ (zeros 2 ++ (f ++ (l ++ s))) = sym (append_assoc (h ++ p) a (zeros 2 ++ (f ++ (l ++ s)))) in
      let g2 : ((h ++ p) ++ a) ++ (b ++ (f ++ (l ++ s))) ≡ ((((h ++ p) ++ a) ++ b) ++ f) ++ (l ++ s) = simp append_assoc in
      let end : ((((h ++ p) ++ a) ++ b) ++ f) ++ (item ++ s) ≡ h ++ ((p ++ (a ++ b)) ++ (f ++ (item ++ s))) = simp append_assoc in
      let upper : 8192 - total (items ++ item ∷ []) ≡ low = omega (arith, size) in
      ap (λ (ys : List ℕ). overwritten low item (overwritten (20 + 4 * many + 2) b (overwritten (20 + 4 * many) a ys))) start
      ∙ (ap (λ (ys : List ℕ). overwritten low item (overwritten (20 + 4 * many + 2) b ys)) (one ∙ g1)
      ∙ (ap (λ (ys : List ℕ). overwritten low item ys) (two ∙ g2)
      ∙ (three ∙ (end ∙ rw (pointers-push items item 8192, stacked-push items item, n, upper) refl))))

-- ---- what a push finds, and what it leaves

pub record Known (old : List ℕ) (count upper : ℕ) : Type 0 where
  pub len : length old ≡ 8192
  pub count_is : count ≡ length (items_of old)
  pub upper_is : upper + total (items_of old) ≡ 8192
  pub fits : 20 + 4 * length (items_of old) + total (items_of old) ≤ 8192
  pub same : old ≡ page_of (file_of old) (number_of old) (items_of old)

pub known : (old : List ℕ) (h : IsHeapPage old) (count upper : ℕ) → count ≡ short_at old 6 → upper ≡ short_at old 16 → Known old count upper
known old h count upper c u =
    let p : IsPageOf h.file h.number h.items old = subst (IsPageOf h.file h.number h.items) (sym h.same) (page_again h.file h.number h.items h.file_small h.number_small h.fits) in
    record {
      len = p.len;
      count_is = c ∙ (p.count_is ∙ ap length (sym p.items_are));
      upper_is = ap (λ (k : List (List ℕ)). upper + total k) p.items_are ∙ omega (arith, u, p.upper_is, h.fits);
      fits = rw p.items_are h.fits;
      same = h.same ∙ rw (p.file_is, p.number_is, p.items_are) refl;
    }

at_least : (a b : ℕ) → (a < b → ⊥) → b ≤ a
at_least a b h = elim (cases_lt a b) [ inl lt ↦ absurd (h lt) | inr le ↦ le ]

pub exceeds : (old item : List ℕ) (count upper : ℕ) → Known old count upper → (upper - (20 + 4 * count) < 4 + length item) → Exceeds (items_of old) item
exceeds old item count upper k short = omega (arith, k.count_is, k.upper_is, k.fits)

pub room : (old item : List ℕ) (count upper : ℕ) → Known old count upper → 4 + length item ≤ upper - (20 + 4 * count) → Fits (items_of old ++ item ∷ [])
room old item count upper k long =
    let size = total-push (items_of old) item in
    let n = length-append (items_of old) (item ∷ []) in
    omega (arith, size, n, k.count_is, k.upper_is, k.fits)

pub not_over : (old item : List ℕ) (count upper : ℕ) → Known old count upper → 4 + length item ≤ upper - (20 + 4 * count) → Exceeds (items_of old) item → ⊥
not_over old item count upper k long over = absurd (omega (arith, over, k.count_is, k.upper_is, k.fits))

pub left : (old item : List ℕ) (count upper end off : ℕ) → Known old count upper → 4 + length item ≤ upper - (20 + 4 * count) → end ≡ 20 + 4 * count → off ≡ upper - length item →
    overwritten off item (overwritten (end + 2) (to_be_bytes w16 (length item)) (overwritten end (to_be_bytes w16 off) (overwritten 16 (to_be_bytes w16 off) (overwritten 6 (to_be_bytes w16 (count + 1)) old))))
    ≡ page_of (file_of old) (number_of old) (items_of old ++ item ∷ [])
left old item count upper end off k long e o =
    let fits = room old item count upper k long in
    let up : off ≡ 8192 - total (items_of old) - length item = omega (arith, k.upper_is) in
    let all = pushed (file_of old) (number_of old) (items_of old) item fits in
    let gives : ℕ → ℕ → ℕ → List ℕ → List ℕ = λ a n o p. overwritten o item (overwritten (a + 2) (to_be_bytes w16 (length item)) (overwritten a (to_be_bytes w16 o) (overwritten 16 (to_be_bytes w16 o) (overwritten 6 (to_be_bytes w16 (n + 1)) p)))) in
    ap (λ (a : ℕ). gives a count off old) e ∙ (ap (λ (n : ℕ). gives (20 + 4 * n) n off old) k.count_is ∙ (ap (λ (x : ℕ). gives (20 + 4 * length (items_of old)) (length (items_of old)) x old) up
    ∙ (ap (gives (20 + 4 * length (items_of old)) (length (items_of old)) (8192 - total (items_of old) - length item)) k.same ∙ all)))

-- what a push does to the page of some items
abbrev pub PushesOn : Push → ℕ → ℕ → List (List ℕ) → List ℕ → List ℕ → Type 0
PushesOn Pushed file number items item new = Fits (items ++ item ∷ []) × (new ≡ page_of file number (items ++ item ∷ []))
PushesOn NoRoom file number items item new = (Fits (items ++ item ∷ []) → ⊥) × (new ≡ page_of file number items)

fits_more : (items : List (List ℕ)) (item : List ℕ) → Fits items → (Exceeds items item → ⊥) → Fits (items ++ item ∷ [])
fits_more items item fits h =
    let le = at_least _ _ h in
    omega (arith, le, fits, total-push items item, length-append items (item ∷ []))

no_more : (items : List (List ℕ)) (item : List ℕ) → Exceeds items item → Fits (items ++ item ∷ []) → ⊥
no_more items item h fits = absurd (omega (arith, h, fits, total-push items item, length-append items (item ∷ [])))

pub pushes_on : (file number : ℕ) (items : List (List ℕ)) (old item new : List ℕ) (r : Push) → file < 2 ^ 32 → number < 2 ^ 32 → Fits items → old ≡ page_of file number items → Pushes r old item new →
    PushesOn r file number items item new
pushes_on file number items old item new Pushed fs ns fits e h =
    let p : IsPageOf file number items old = subst (IsPageOf file number items) (sym e) (page_again file number items fs ns fits) in
    let same : items_of old ++ item ∷ [] ≡ items ++ item ∷ [] = ap (λ (ys : List (List ℕ)). ys ++ item ∷ []) p.items_are in
    let old_fits : Fits (items_of old) = subst Fits (sym p.items_are) fits in
    (subst Fits same (fits_more (items_of old) item old_fits h.0), h.1 ∙ rw (p.file_is, p.number_is, p.items_are) refl)
pushes_on file number items old item new NoRoom fs ns fits e h =
    let p : IsPageOf file number items old = subst (IsPageOf file number items) (sym e) (page_again file number items fs ns fits) in
    (no_more items item (subst (λ (ys : List (List ℕ)). Exceeds ys item) p.items_are h.0), h.1 ∙ e)

-- a page stays a page
pub still_page : (old item new : List ℕ) (r : Push) → IsHeapPage old → Pushes r old item new → IsHeapPage new
still_page old item new NoRoom h p = subst IsHeapPage (sym p.1) h
still_page old item new Pushed h p =
    let on = pushes_on h.file h.number h.items old item new Pushed h.file_small h.number_small h.fits h.same p in
    record {
      file = h.file;
      number = h.number;
      items = h.items ++ item ∷ [];
      file_small = h.file_small;
      number_small = h.number_small;
      fits = on.0;
      len = ap length on.1 ∙ (page_again h.file h.number (h.items ++ item ∷ []) h.file_small h.number_small on.0).len;
      same = on.1;
    }
