-- What a search in an index answers.
use Rattle.std.specs.Prelude.{◌≡◌, ℕ, zero, suc, ◌+◌, ◌-◌, ◌<◌, ◌≤◌, Bool, List, slice_get, slice_index_or, Some, None, ⊤, ◌⊎◌}
use Rattle.std.specs.List.{AllByRecursion}
use Rattle.xp_outside.specs.Outside.{Rose}
use Rattle.heap_page.specs.declared.errors.FetchErr.{FetchErr}
use Rattle.heap_page.specs.declared.errors.FetchErr.TheVariants.{DriveFault, BadPage, NoMemory}
use Rattle.heap_page.specs.declared.head.FileKind.TheVariants.{Index}
use Rattle.heap_page.specs.declared.map.PageFile.{PageFile}
use Rattle.heap_page.specs.Pages.{head_fault}
use Rattle.rows.specs.declared.plain.KeyIndex.{KeyIndex}
use Rattle.key_index.specs.Entries.{Item, blank}
use Rattle.key_index.specs.Readings.{page_fault, page_items}
use Rattle.key_index.specs.Aims.{IsFront, chosen, count, first_of, upto_number}

-- an index that has entries has a page and a level
abbrev pub IsUsable : KeyIndex → Type 0
IsUsable index = 0 < index.entries → (0 < index.pages) × (0 < index.height)

-- the files have the index's, with as many pages
abbrev pub HasIndex : List PageFile → KeyIndex → Type 0
HasIndex files index = (f : PageFile) × (slice_get files index.file ≡ Some f) × (f.kind ≡ Index) × (f.pages ≡ index.pages)

-- no page is bad
abbrev pub NotBad : FetchErr → Type 0
NotBad (DriveFault d) = ⊤
NotBad (BadPage bad) = ⊥
NotBad NoMemory = ⊤

-- the number of a rule for pages of an index
abbrev pub IsRule : ℕ → Type 0
IsRule rule = (0 < rule) × (rule < 10)

-- Why a search finds nothing: the count of a drive has risen, a page of the index breaks a rule, or there is no memory.
abbrev pub SearchCause : KeyIndex → ℕ → (ℕ → ℕ) → (ℕ → ℕ) → FetchErr → Type 0
SearchCause index drives before now (DriveFault d) = (d < drives) × Rose (before d) (now d)
SearchCause index drives before now (BadPage bad) = (bad.file ≡ index.file) × (bad.page < index.pages) × IsRule bad.rule
SearchCause index drives before now NoMemory = ⊤

-- ---- the search in one page

-- one of the page's items, and where what passes stands in front, the last one that passes, or the first of all
pub record IsUsed (p : Item → Bool) (items : List Item) (e : Item) : Type 0 where
  pub place : ℕ
  pub here : slice_get items place ≡ Some e
  pub last : IsFront p items → e ≡ chosen p (first_of items) items

-- The page breaks none of rules 6 to 8, and this item of it is used.
pub record Uses (index : KeyIndex) (level number : ℕ) (p : Item → Bool) (bytes : List ℕ) (e : Item) : Type 0 where
  pub fine : page_fault index.key_type level number bytes ≡ None
  pub items : List Item
  pub rest : List ℕ
  pub holds : page_items index.key_type level number bytes ≡ Some (items, rest)
  pub used : IsUsed p items e

-- the item leads to a page of the index, or of its heap file
abbrev pub Leads : KeyIndex → ℕ → Item → Type 0
Leads index zero e = e.page < index.heap_pages
Leads index (suc level) e = (e.page < index.pages) × (e.left ≤ index.entries)

-- it leads out of them
abbrev pub LeadsOut : KeyIndex → ℕ → Item → Type 0
LeadsOut index zero e = index.heap_pages ≤ e.page
LeadsOut index (suc level) e = (index.pages ≤ e.page) ⊎ (index.entries < e.left)

-- the page one level down, and the entries left of it
pub record IsNext (index : KeyIndex) (level number : ℕ) (p : Item → Bool) (bytes : List ℕ) (next : ℕ × ℕ) : Type 0 where
  pub e : Item
  pub uses : Uses index level number p bytes e
  pub page : next.0 ≡ e.page
  pub left : next.1 ≡ e.left
  pub within : (next.0 < index.pages) × (next.1 ≤ index.entries)

-- The first broken rule of a page that is searched: one of rules 6 to 8, or 9, that the item used leads out of the index.
abbrev pub BreaksAbove : KeyIndex → ℕ → ℕ → (Item → Bool) → List ℕ → ℕ → Type 0
BreaksAbove index level number p bytes rule =
    (page_fault index.key_type level number bytes ≡ Some rule) ⊎ ((rule ≡ 9) × ((e : Item) × Uses index level number p bytes e × LeadsOut index level e))

-- The rank is the entries left of the page and those counted in it.
pub record Ranks (index : KeyIndex) (number : ℕ) (p : Item → Bool) (bytes : List ℕ) (rank : ℕ) : Type 0 where
  pub fine : page_fault index.key_type 0 number bytes ≡ None
  pub items : List Item
  pub rest : List ℕ
  pub holds : page_items index.key_type 0 number bytes ≡ Some (items, rest)
  pub counts : IsFront p items → rank ≡ number + count p items

-- rule 9 of a leaf that is counted: the rank is above the index's entries
abbrev pub BreaksRank : KeyIndex → ℕ → (Item → Bool) → List ℕ → ℕ → Type 0
BreaksRank index number p bytes rule =
    (page_fault index.key_type 0 number bytes ≡ Some rule) ⊎ ((rule ≡ 9) × ((rank : ℕ) × Ranks index number p bytes rank × (index.entries < rank)))

-- the entry of this number, and its heap page and slot
pub record IsEntryAt (index : KeyIndex) (number wanted : ℕ) (bytes : List ℕ) (at : ℕ × ℕ) : Type 0 where
  pub e : Item
  pub uses : Uses index 0 number (upto_number wanted) bytes e
  pub asked : e.left ≡ wanted
  pub page : at.0 ≡ e.page
  pub slot : at.1 ≡ e.slot
  pub leads : at.0 < index.heap_pages

-- rule 9 of a leaf that is asked for an entry: it isn't there, or its heap page isn't one
abbrev pub BreaksEntry : KeyIndex → ℕ → ℕ → List ℕ → ℕ → Type 0
BreaksEntry index number wanted bytes rule =
    (page_fault index.key_type 0 number bytes ≡ Some rule)
    ⊎ ((rule ≡ 9) × ((e : Item) × Uses index 0 number (upto_number wanted) bytes e × ((e.left ≡ wanted → ⊥) ⊎ LeadsOut index 0 e)))

-- A page of the index at this level, as it is written: it breaks no rule, and each of its items leads on inside.
pub record IsIndexPage (index : KeyIndex) (level number page : ℕ) (bytes : List ℕ) (items : List Item) : Type 0 where
  pub head : head_fault Index index.file page bytes ≡ None
  pub fine : page_fault index.key_type level number bytes ≡ None
  pub rest : List ℕ
  pub holds : page_items index.key_type level number bytes ≡ Some (items, rest)
  pub leads : AllByRecursion (Leads index level) items

-- The leaf that a search reaches: the entries counted are those left of it and those counted in it, and the last one counted in it is the
-- last one of all, or it is the first leaf and no entry is counted.
pub record IsLeafFor (index : KeyIndex) (pages : ℕ → List ℕ) (p : Item → Bool) (items : List Item) (at : ℕ × ℕ) : Type 0 where
  pub leaf : List Item
  pub stands : IsIndexPage index 0 at.1 at.0 (pages at.0) leaf
  pub front : IsFront p leaf
  pub counts : count p items ≡ at.1 + count p leaf
  pub last : chosen p (first_of leaf) leaf ≡ slice_index_or items (count p items - 1) blank
