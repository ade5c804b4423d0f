-- The search from the root to a leaf.
use Rattle.std.proofs.Common.{◌≡◌, ℕ, suc, ◌+◌, ◌-◌, ◌<◌, ◌≤◌, Bool, List, [], ◌∷◌, length, Option, Some, refl, sym, ap, subst, ◌∙◌, arith}
use Rattle.heap_page.specs.declared.errors.FetchErr.{FetchErr}
use Rattle.heap_page.specs.declared.errors.FetchErr.TheVariants.{DriveFault, BadPage, NoMemory}
use Rattle.rows.specs.declared.plain.KeyEntry.{KeyEntry}
use Rattle.rows.specs.declared.plain.KeyIndex.{KeyIndex}
use Rattle.key_index.specs.declared.aim.Aim.{Aim}
use Rattle.key_index.specs.declared.aim.Aim.TheVariants.{Below, UpTo, Number}
use Rattle.key_index.specs.Aims.{IsFront, chosen, count, first_of, passes}
use Rattle.key_index.specs.Entries.{Item, items_from, items_of}
use Rattle.key_index.specs.Files.{HoldsIndex}
use Rattle.key_index.specs.Levels.{up}
use Rattle.key_index.specs.Paths.{IfBad, IsBadAbove, IsBadHere, IsFineHead, Reaches, ReachesLeaf}
use Rattle.key_index.specs.Searches.{BreaksAbove, IsIndexPage, IsLeafFor, IsNext, NotBad, SearchCause}
use Rattle.key_index.proofs.Passing.{at_leaf, at_root, one_down, stops_above}
use Rattle.key_index.proofs.Descents.{IsIndex, page_at, block_at, down, top, rank_is, read_here, chosen_here, front_at_block}
use Rattle.key_index.proofs.Levels.{few}
use Rattle.key_index.proofs.Indexed.{indexed}

pub keeps : (aim : Aim) (n : ℕ) (x : Item) → passes aim (up n x) ≡ passes aim x
keeps (Below key) n x = refl
keeps (UpTo key) n x = refl
keeps (Number m) n x = refl

pub cause_later : (index : KeyIndex) (drives : ℕ) (first before now : ℕ → ℕ) (e : FetchErr) → ((d : ℕ) → first d ≤ before d) → SearchCause index drives before now e → SearchCause index drives first now e
cause_later index drives first before now (DriveFault d) le h = (h.0, omega (arith, le d, h.1))
cause_later index drives first before now (BadPage bad) le h = h
cause_later index drives first before now NoMemory le h = tt

pub record Descent {W : Type 0} (image : W → Option (ℕ → ℕ → List ℕ)) (index : KeyIndex) (old now : W) (before after : ℕ → ℕ) (aim : Aim) (level page left : ℕ) : Type 0 where
  pub same : now ≡ old
  pub counts : (d : ℕ) → before d ≤ after d
  pub inside : page < index.pages
  pub pos : 0 < level
  pub most : level ≤ index.height
  pub way : (f : ℕ → ℕ → List ℕ) → image old ≡ Some f → Reaches index (f index.file) (passes aim) (index.height - level) (page, left)
  pub told : (f : ℕ → ℕ → List ℕ) (items : List Item) → image old ≡ Some f → (h : IsIndex index (f index.file) items) → IsFront (passes aim) items →
      (level ≤ length h.levels) × ((page ≡ page_at (passes aim) h.levels items (level - 1)) × (left ≡ (first_of (block_at (passes aim) h.levels items (level - 1))).left))

module _ {W : Type 0} (image : W → Option (ℕ → ℕ → List ℕ)) (index : KeyIndex) (old : W) (before : ℕ → ℕ) (aim : Aim) where
  abbrev p : Item → Bool
  p = passes aim

  pub starts : 0 < index.height → 0 < index.pages → Descent image index old old before before aim index.height (index.pages - 1) 0
  starts lt some = record {
    same = refl;
    counts = λ d. omega arith;
    inside = omega (arith, some);
    pos = lt;
    most = omega arith;
    way = λ f is. at_root index (f index.file) (passes aim);
    told = λ f items e h front.
        let t = top (passes aim) (keeps aim) index (f index.file) items h front (index.height - 1) (omega (arith, lt, h.height)) in
        (omega (arith, h.height), (sym t.0, sym t.1));
  }

  -- the page that stands where the search is
  pub here : (now : W) (after : ℕ → ℕ) (level page left : ℕ) → Descent image index old now before after aim level page left → 1 < level → (f : ℕ → ℕ → List ℕ) (items : List Item) → image old ≡ Some f →
      (h : IsIndex index (f index.file) items) → (front : IsFront (passes aim) items) →
      IsIndexPage index (level - 1) left page (f index.file page) (block_at (passes aim) h.levels items (level - 1)) × IsFront (passes aim) (block_at (passes aim) h.levels items (level - 1))
  here now after level page left d lt f items is h front =
      let was = d.told f items is h front in
      let k : level - 1 < length h.levels = omega (arith, was.0, lt) in
      let r = read_here (passes aim) (keeps aim) index (f index.file) items h front (level - 1) k in
      (rw (was.1.0, was.1.1) r, front_at_block (passes aim) (keeps aim) index (f index.file) items h front (level - 1) k)

  pub steps : (now next_now : W) (after later : ℕ → ℕ) (level page left next start : ℕ) → Descent image index old now before after aim level page left → 1 < level → next_now ≡ now → ((d : ℕ) → after d ≤ later d) → next < index.pages →
      ((f : ℕ → ℕ → List ℕ) (items : List Item) → image now ≡ Some f → IsIndexPage index (level - 1) left page (f index.file page) items → IsFront (passes aim) items →
      (next ≡ (chosen (passes aim) (first_of items) items).page) × (start ≡ (chosen (passes aim) (first_of items) items).left)) →
      ((f : ℕ → ℕ → List ℕ) → image now ≡ Some f → IsFineHead index (f index.file) page × IsNext index (level - 1) left (passes aim) (f index.file page) (next, start)) →
      Descent image index old next_now before later aim (level - 1) next start
  steps now next_now after later level page left next start d lt e counts inside step path = record {
    same = e ∙ d.same;
    counts = λ n. omega (arith, d.counts n, counts n);
    inside = inside;
    pos = omega (arith, lt);
    most = omega (arith, d.most);
    way = λ f is. let h = path f (ap image d.same ∙ is) in one_down index (f index.file) (passes aim) level page left d.most lt (d.way f is) next start h.0 h.1;
    told = λ f items is h front.
        let was = d.told f items is h front in
        let k : suc (level - 1 - 1) ≡ level - 1 = omega (arith, lt) in
        let at = here now after level page left d lt f items is h front in
        let got = step f (block_at (passes aim) h.levels items (level - 1)) (ap image d.same ∙ is) at.0 at.1 in
        let go = subst (λ (j : ℕ). chosen (passes aim) (first_of (block_at (passes aim) h.levels items j)) (block_at (passes aim) h.levels items j) ≡ up (page_at (passes aim) h.levels items (level - 1 - 1)) (first_of (block_at (passes aim) h.levels items (level - 1 - 1)))) k
        (down (passes aim) (keeps aim) index (f index.file) items h front (level - 1 - 1) (omega (arith, was.0, lt))) in
        (omega (arith, was.0), (got.0 ∙ ap (λ (x : Item). x.page) go, got.1 ∙ ap (λ (x : Item). x.left) go));
  }

  -- a step that finds nothing
  pub stops : (now : W) (after : ℕ → ℕ) (level page left : ℕ) (e : FetchErr) → Descent image index old now before after aim level page left → 1 < level →
      ((f : ℕ → ℕ → List ℕ) (items : List Item) → image now ≡ Some f → IsIndexPage index (level - 1) left page (f index.file page) items → IsFront (passes aim) items → NotBad e) →
      (f : ℕ → ℕ → List ℕ) (entries : List KeyEntry) → image old ≡ Some f → HoldsIndex index (f index.file) entries → IsFront (passes aim) (items_of entries) → NotBad e
  stops now after level page left e d lt step f entries is holds front =
      let h = indexed index (f index.file) entries holds in
      let at = here now after level page left d lt f (items_of entries) is h front in
      step f (block_at (passes aim) h.levels (items_of entries) (level - 1)) (ap image d.same ∙ is) at.0 at.1

  pub stops_at : (now : W) (after : ℕ → ℕ) (level page left : ℕ) (e : FetchErr) → Descent image index old now before after aim level page left → 1 < level →
      ((f : ℕ → ℕ → List ℕ) → image now ≡ Some f → IfBad (IsBadHere index (f index.file) page (BreaksAbove index (level - 1) left (passes aim) (f index.file page))) e) →
      (f : ℕ → ℕ → List ℕ) → image old ≡ Some f → IfBad (IsBadAbove index (f index.file) (passes aim)) e
  stops_at now after level page left e d lt step f is = stops_above index (f index.file) (passes aim) level page left d.most lt (d.way f is) e (step f (ap image d.same ∙ is))

  pub ends_at : (now : W) (after : ℕ → ℕ) (level page left : ℕ) → Descent image index old now before after aim level page left → level ≤ 1 → (f : ℕ → ℕ → List ℕ) → image old ≡ Some f →
      ReachesLeaf index (f index.file) (passes aim) (page, left)
  ends_at now after level page left d le f is = at_leaf index (f index.file) (passes aim) level page left le d.pos (d.way f is)

  pub ends : (now : W) (after : ℕ → ℕ) (level page left : ℕ) → Descent image index old now before after aim level page left → level ≤ 1 →
      (f : ℕ → ℕ → List ℕ) (entries : List KeyEntry) → image old ≡ Some f → HoldsIndex index (f index.file) entries → IsFront (passes aim) (items_of entries) → IsLeafFor index (f index.file) (passes aim) (items_of entries) (page, left)
  ends now after level page left d le f entries is holds front =
      let items = items_of entries in
      let h = indexed index (f index.file) entries holds in
      let was = d.told f items is h front in
      let k : level - 1 ≡ 0 = omega (arith, le) in
      let lt : 0 < length h.levels = omega (arith, was.0, d.pos) in
      let a : page ≡ page_at (passes aim) h.levels items 0 = subst (λ (j : ℕ). page ≡ page_at (passes aim) h.levels items j) k was.1.0 in
      let b : left ≡ (first_of (block_at (passes aim) h.levels items 0)).left = subst (λ (j : ℕ). left ≡ (first_of (block_at (passes aim) h.levels items j)).left) k was.1.1 in
      let r = read_here (passes aim) (keeps aim) index (f index.file) items h front 0 lt in
      record {
        leaf = block_at (passes aim) h.levels items 0;
        stands = rw (a, b) r;
        front = front_at_block (passes aim) (keeps aim) index (f index.file) items h front 0 lt;
        counts = rank_is (passes aim) (keeps aim) index (f index.file) items h front lt ∙ ap (λ (x : ℕ). x + count (passes aim) (block_at (passes aim) h.levels items 0)) (sym b);
        last = chosen_here (passes aim) (keeps aim) index (f index.file) items h front 0 lt;
      }

length-items : (n : ℕ) (entries : List KeyEntry) → length (items_from n entries) ≡ length entries
length-items n [] = refl
length-items n (e ∷ es) = ap suc (length-items (suc n) es)

-- what the leaf gives is the rank
pub ranks : (index : KeyIndex) (pages : ℕ → List ℕ) (entries : List KeyEntry) (p : Item → Bool) (at : ℕ × ℕ) (Says : ℕ → Type 0) → HoldsIndex index pages entries →
    (l : IsLeafFor index pages p (items_of entries) at) → (at.1 + count p l.leaf ≤ index.entries → Says (at.1 + count p l.leaf)) → Says (count p (items_of entries))
ranks index pages entries p at Says h l says =
    let all : index.entries ≡ length entries = ap (λ (i : KeyIndex). i.entries) h.numbers in
    subst Says (sym l.counts) (says (omega (arith, l.counts, few p (items_of entries), length-items 0 entries, all)))
