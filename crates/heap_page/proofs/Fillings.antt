-- Filling pages one after the other.
use Rattle.std.proofs.Common.{◌≡◌, ℕ, zero, suc, ◌+◌, ◌*◌, ◌<◌, ◌≤◌, List, [], ◌∷◌, ◌++◌, length, get_or, drop, ◌^◌, None, Some, refl, sym, ap, subst, ◌∙◌, arith, inl, inr}
use Rattle.std.specs.Prelude.{slice_get, ◌⊎◌}
use Rattle.std.proofs.lemmas.Bool.{cases_lt}
use Rattle.std.proofs.lemmas.List.{length-drop, drop_all}
use Rattle.xp_outside.specs.declared.drive.Drive.{Ghosts}
use Rattle.heap_page.specs.declared.map.FileMap.{FileMap}
use Rattle.heap_page.specs.Pages.{Fits, total, page_of, IsHeapPage}
use Rattle.heap_page.specs.Pushes.{Pushes}
use Rattle.heap_page.specs.declared.page.Push.TheVariants.{Pushed, NoRoom}
use Rattle.heap_page.proofs.Pushed.{pushes_on}
use Rattle.heap_page.proofs.Written.{page_again}
use Rattle.heap_page.proofs.Striping.{file_pages}
use Rattle.heap_page.specs.Blocks.{weight_of, item_weight, laid}
use Rattle.heap_page.specs.Maps.{drive_of, address_of, IsMap, IsPlace, HasPage, HasPages}
use Rattle.heap_page.specs.Stores.{TellsAt, AreQuiet, AreWritten, Stand, HaveRoom}
use Rattle.heap_page.proofs.Cut.{begins, laid_more, laid_next, laid_end}
use Rattle.heap_page.proofs.Counted.{items_here}
use Rattle.heap_page.proofs.Drives.{apart, quiet_none, quiet_trans, room_kept, tells_kept, wrote_none, wrote_trans}
use Rattle.heap_page.proofs.Found.{get_below, there}

weight_is : (items : List (List ℕ)) → weight_of item_weight items ≡ 4 * length items + total items
weight_is [] = refl
weight_is (x ∷ xs) = omega (arith, weight_is xs)

over : (items : List (List ℕ)) → (Fits items → ⊥) → 8172 < weight_of item_weight items
over items h = elim (cases_lt 8172 (weight_of item_weight items)) [ inl lt ↦ lt | inr le ↦ absurd (h (omega (arith, le, weight_is items))) ]

pub drop_head : {X : Type 0} (n : ℕ) (xs : List X) (y d : X) (ys : List X) → drop n xs ≡ y ∷ ys → (n < length xs) × (get_or xs n d ≡ y) × (drop (n + 1) xs ≡ ys)
drop_head zero [] y d ys e = absurd cc
drop_head zero (x ∷ xs) y d ys e = (omega arith, cc, cc)
drop_head (suc n) [] y d ys e = absurd cc
drop_head (suc n) (x ∷ xs) y d ys e =
    let h = drop_head n xs y d ys e in
    let k : suc n + 1 ≡ suc (n + 1) = omega arith in
    (omega (arith, h.0), h.1, rw k h.2)

pub some_get : {X : Type 0} (xs : List X) (i : ℕ) (x d : X) → slice_get xs i ≡ Some x → (i < length xs) × (get_or xs i d ≡ x)
some_get [] i x d e = absurd cc
some_get (y ∷ xs) zero x d e = (omega arith, cc)
some_get (y ∷ xs) (suc i) x d e = let h = some_get xs i x d e in (omega (arith, h.0), h.1)

module _ {D : Type 0} (g : Ghosts D) where
  -- the first n pages stand at their addresses
  abbrev pub Stands : FileMap → ℕ → ℕ → (ℕ → List ℕ) → List D → Type 0
  Stands map file n pages drives = (p : ℕ) (drive : D) → p < n → slice_get drives (drive_of map p) ≡ Some drive → TellsAt (g.pages drive) (address_of map file p) (pages p)

  pub stands_more : (map : FileMap) (file n : ℕ) (pages : ℕ → List ℕ) (bs cs : List D) →
      AreWritten g (λ d a. (d ≡ drive_of map n) × (a ≡ address_of map file n)) bs cs →
      ((drive : D) → slice_get cs (drive_of map n) ≡ Some drive → TellsAt (g.pages drive) (address_of map file n) (pages n)) →
      Stands map file n pages bs → Stands map file (n + 1) pages cs
  stands_more map file n pages bs cs h now before = λ p c lt at_c. by p c at_c (cases_lt p n) lt where
    by : (p : ℕ) (c : D) → slice_get cs (drive_of map p) ≡ Some c → (p < n) ⊎ (n ≤ p) → p < n + 1 → TellsAt (g.pages c) (address_of map file p) (pages p)
    by p c at_c (inr ge) lt =
        let e : p ≡ n = omega arith in
        subst (λ (k : ℕ). (x : D) → slice_get cs (drive_of map k) ≡ Some x → TellsAt (g.pages x) (address_of map file k) (pages k)) (sym e) now c at_c
    by p c at_c (inl less) lt =
        let b = there bs (drive_of map p) (omega (arith, get_below cs (drive_of map p) c at_c, h.len)) in
        let w = h.each (drive_of map p) b.0 c b.1 at_c in
        tells_kept (λ a. (drive_of map p ≡ drive_of map n) × (a ≡ address_of map file n)) (g.pages b.0) (g.pages c) (address_of map file p) (pages p) w.others
        (λ out. apart map file p n less out.0 out.1) (before p b.0 less b.1)

  -- ---- the state of the loop

  pub record Filling (map : FileMap) (file : ℕ) (blocks : List (List (List ℕ))) (olds : List D) (number : ℕ) (page : List ℕ) (rest : List (List ℕ)) (news : List D) : Type 0 where
    pub part : List (List ℕ)
    pub left : drop number blocks ≡ laid item_weight 8172 part rest
    pub page_is : page ≡ page_of file number part
    pub fits_page : Fits part
    pub wrote : AreWritten g (IsPlace map file) olds news
    pub quiet : AreQuiet g None olds news
    pub stands : Stands map file number (λ p. page_of file p (get_or blocks p [])) news
    pub room : HaveRoom g map news
    pub len : length news ≡ map.drives

  module _ (map : FileMap) (file : ℕ) (blocks : List (List (List ℕ))) (olds : List D) (small_file : file < 2 ^ 32) (m : IsMap map) (pages : HasPages map.files.items file (length blocks)) where
    State : ℕ → List ℕ → List (List ℕ) → List D → Type 0
    State number page rest news = Filling map file blocks olds number page rest news

    pub starts : (first page : List ℕ) (rest : List (List ℕ)) → blocks ≡ laid item_weight 8172 (first ∷ []) rest → length first ≤ 8168 → page ≡ page_of file 0 (first ∷ []) → HaveRoom g map olds → length olds ≡ map.drives →
        Filling map file blocks olds 0 page rest olds
    starts first page rest b fit e room len = record {
      part = first ∷ [];
      left = b;
      page_is = e;
      fits_page = omega arith;
      wrote = wrote_none g (IsPlace map file) olds;
      quiet = quiet_none g None olds;
      stands = λ p c lt at_c. absurd (omega arith);
      room = room;
      len = len;
    }

    pub number_below : (number : ℕ) (page : List ℕ) (rest : List (List ℕ)) (news : List D) → Filling map file blocks olds number page rest news → number < length blocks
    number_below number page rest news s =
        let b = begins item_weight 8172 s.part rest in
        (drop_head number blocks (s.part ++ b.0) [] b.1 (s.left ∙ b.2)).0

    pub in_file : (number : ℕ) → number < length blocks → HasPage map.files.items file number
    in_file number lt = (pages.0, pages.1, omega (arith, pages.2))

    pub number_small : (number : ℕ) → number < length blocks → number < 2 ^ 32
    number_small number lt = omega (arith, file_pages map.files.items file pages.0 pages.1, pages.2, m.small)

    pub is_page : (number : ℕ) (page : List ℕ) (rest : List (List ℕ)) (news : List D) → Filling map file blocks olds number page rest news → IsHeapPage page
    is_page number page rest news s =
        let ns = number_small number (number_below number page rest news s) in
        record {
          file = file;
          number = number;
          items = s.part;
          file_small = small_file;
          number_small = ns;
          fits = s.fits_page;
          len = ap length s.page_is ∙ (page_again file number s.part small_file ns s.fits_page).len;
          same = s.page_is;
        }

    pub pushed_in : (number : ℕ) (page x page2 : List ℕ) (rest : List (List ℕ)) (news : List D) → Filling map file blocks olds number page (x ∷ rest) news → Pushes Pushed page x page2 →
        Filling map file blocks olds number page2 rest news
    pushed_in number page x page2 rest news s h =
        let ns = number_small number (number_below number page (x ∷ rest) news s) in
        let p = pushes_on file number s.part page x page2 Pushed small_file ns s.fits_page s.page_is h in
        record { part = s.part ++ x ∷ []; left = s.left ∙ laid_more item_weight 8172 s.part x rest (omega (arith, p.0, weight_is (s.part ++ x ∷ []))); page_is = p.1; fits_page = p.0; wrote = s.wrote; quiet = s.quiet; stands = s.stands; room = s.room; len = s.len }

    is_place : (number d x : ℕ) → number < length blocks → (d ≡ drive_of map number) × (x ≡ address_of map file number) → IsPlace map file d x
    is_place number d x lt h = (number, in_file number lt, sym h.0, sym h.1)

    wrote_more : (number : ℕ) (bs cs : List D) → number < length blocks → AreWritten g (IsPlace map file) olds bs →
        AreWritten g (λ d a. (d ≡ drive_of map number) × (a ≡ address_of map file number)) bs cs → AreWritten g (IsPlace map file) olds cs
    wrote_more number bs cs lt h w =
        wrote_trans g (IsPlace map file) (λ d a. (d ≡ drive_of map number) × (a ≡ address_of map file number)) (IsPlace map file) olds bs cs (λ d x k. k) (λ d x k. is_place number d x lt k) h w

    pub stored : (number : ℕ) (page page1 : List ℕ) (rest : List (List ℕ)) (bs cs : List D) (after : List (List (List ℕ))) (part : List (List ℕ)) → Filling map file blocks olds number page rest bs →
        drop number blocks ≡ part ∷ after → page1 ≡ page_of file number part →
        AreWritten g (λ d a. (d ≡ drive_of map number) × (a ≡ address_of map file number)) bs cs →
        ((drive : D) → slice_get cs (drive_of map number) ≡ Some drive → TellsAt (g.pages drive) (address_of map file number) page1) →
        AreWritten g (IsPlace map file) olds cs × Stands map file (number + 1) (λ p. page_of file p (get_or blocks p [])) cs
    stored number page page1 rest bs cs after part s e is w t =
        let h = drop_head number blocks part [] after e in
        let same : page1 ≡ page_of file number (get_or blocks number []) = is ∙ ap (page_of file number) (sym h.1) in (
          wrote_more number bs cs h.0 s.wrote w,
          stands_more map file number (λ p. page_of file p (get_or blocks p [])) bs cs w (λ c at_c. subst (λ (k : List ℕ). TellsAt (g.pages c) (address_of map file number) k) same (t c at_c)) s.stands,
        )

    pub turned : (number : ℕ) (page x page1 page2 : List ℕ) (rest : List (List ℕ)) (bs cs : List D) → Filling map file blocks olds number page (x ∷ rest) bs → Pushes NoRoom page x page1 → length x ≤ 8168 →
        AreWritten g (λ d a. (d ≡ drive_of map number) × (a ≡ address_of map file number)) bs cs →
        ((drive : D) → slice_get cs (drive_of map number) ≡ Some drive → TellsAt (g.pages drive) (address_of map file number) page1) →
        AreQuiet g None bs cs → page2 ≡ page_of file (number + 1) (x ∷ []) → Filling map file blocks olds (number + 1) page2 rest cs
    turned number page x page1 page2 rest bs cs s h fit w t q e =
        let ns = number_small number (number_below number page (x ∷ rest) bs s) in
        let p = pushes_on file number s.part page x page1 NoRoom small_file ns s.fits_page s.page_is h in
        let l : drop number blocks ≡ s.part ∷ laid item_weight 8172 (x ∷ []) rest = s.left ∙ laid_next item_weight 8172 s.part x rest (over (s.part ++ x ∷ []) p.0) in
        let both = stored number page page1 (x ∷ rest) bs cs (laid item_weight 8172 (x ∷ []) rest) s.part s l p.1 w t in
        record {
          part = x ∷ [];
          left = (drop_head number blocks s.part [] (laid item_weight 8172 (x ∷ []) rest) l).2;
          page_is = e;
          fits_page = omega arith;
          wrote = both.0;
          quiet = quiet_trans g None olds bs cs s.wrote.len s.quiet q;
          stands = both.1;
          room = room_kept g map (λ d a. (d ≡ drive_of map number) × (a ≡ address_of map file number)) bs cs w s.room;
          len = w.len ∙ s.len;
        }

    -- whatever was stored, only addresses of the file's pages were written
    pub wrote_some : (number : ℕ) (page : List ℕ) (rest : List (List ℕ)) (bs cs : List D) → Filling map file blocks olds number page rest bs →
        AreWritten g (λ d a. (d ≡ drive_of map number) × (a ≡ address_of map file number)) bs cs → AreWritten g (IsPlace map file) olds cs
    wrote_some number page rest bs cs s w =
        wrote_more number bs cs (number_below number page rest bs s) s.wrote w

    all_stand : (cs : List D) → Stands map file (length blocks) (λ p. page_of file p (get_or blocks p [])) cs → Stand g map file blocks cs
    all_stand cs h = λ p items drive at at_d.
        let k = some_get blocks p items [] at in
        subst (λ (ys : List (List ℕ)). TellsAt (g.pages drive) (address_of map file p) (page_of file p ys)) k.1 (h p drive k.0 at_d)

    -- the last page
    pub ended : (number : ℕ) (page : List ℕ) (bs cs : List D) → Filling map file blocks olds number page [] bs →
        AreWritten g (λ d a. (d ≡ drive_of map number) × (a ≡ address_of map file number)) bs cs →
        ((drive : D) → slice_get cs (drive_of map number) ≡ Some drive → TellsAt (g.pages drive) (address_of map file number) page) →
        Stand g map file blocks cs
    ended number page bs cs s w t =
        let l : drop number blocks ≡ s.part ∷ [] = s.left ∙ laid_end item_weight 8172 s.part in
        let h = drop_head number blocks s.part [] [] l in
        let n : length blocks ≡ number + 1 = omega (arith, h.0, ap length h.2, length-drop (number + 1) blocks) in
        let both = stored number page page [] bs cs [] s.part s l s.page_is w t in
        all_stand cs (rw n both.1)

    pub next_below : (number : ℕ) (page x page1 : List ℕ) (rest : List (List ℕ)) (news : List D) → Filling map file blocks olds number page (x ∷ rest) news → Pushes NoRoom page x page1 → number + 1 < length blocks
    next_below number page x page1 rest news s h =
        let ns = number_small number (number_below number page (x ∷ rest) news s) in
        let p = pushes_on file number s.part page x page1 NoRoom small_file ns s.fits_page s.page_is h in
        let l : drop number blocks ≡ s.part ∷ laid item_weight 8172 (x ∷ []) rest = s.left ∙ laid_next item_weight 8172 s.part x rest (over (s.part ++ x ∷ []) p.0) in
        let b = begins item_weight 8172 (x ∷ []) rest in
        (drop_head (number + 1) blocks ((x ∷ []) ++ b.0) [] b.1 ((drop_head number blocks s.part [] (laid item_weight 8172 (x ∷ []) rest) l).2 ∙ b.2)).0

    pub page_after : (number : ℕ) (page x page1 : List ℕ) (rest : List (List ℕ)) (news : List D) → Filling map file blocks olds number page (x ∷ rest) news → Pushes NoRoom page x page1 → page1 ≡ page
    page_after number page x page1 rest news s h = h.1

    pub at_item : (items : List (List ℕ)) (i : ℕ) (x : List ℕ) (number : ℕ) (page : List ℕ) (news : List D) → slice_get items i ≡ Some x →
        Filling map file blocks olds number page (drop i items) news → Filling map file blocks olds number page (x ∷ drop (i + 1) items) news
    at_item items i x number page news e s = subst (λ (r : List (List ℕ)). Filling map file blocks olds number page r news) (items_here items i x e) s

    pub at_end : (items : List (List ℕ)) (i number : ℕ) (page : List ℕ) (news : List D) → length items ≤ i → Filling map file blocks olds number page (drop i items) news → Filling map file blocks olds number page [] news
    at_end items i number page news le s = subst (λ (r : List (List ℕ)). Filling map file blocks olds number page r news) (drop_all i items le) s
