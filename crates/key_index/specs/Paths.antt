-- The pages that a search passes over told pages, from the root to a leaf, and the bad page at
-- which it stops.
use Rattle.std.specs.Prelude.{◌≡◌, ℕ, zero, suc, ◌-◌, ◌<◌, Bool, List, [], ◌∷◌, Some, None, max, min, Result, Ok, Err, ⊤, ◌⊎◌}
use Rattle.heap_page.specs.declared.errors.BadPage.{BadPage}
use Rattle.heap_page.specs.declared.errors.FetchErr.{FetchErr}
use Rattle.heap_page.specs.declared.errors.FetchErr.TheVariants as fetch
use Rattle.heap_page.specs.declared.head.FileKind.TheVariants.{Index}
use Rattle.heap_page.specs.Pages.{head_fault}
use Rattle.rows.specs.declared.plain.Bound.{Bound}
use Rattle.rows.specs.declared.plain.BoundOp.{BoundOp}
use Rattle.rows.specs.declared.plain.BoundOp.TheVariants.{Equal, Less, AtMost, More, AtLeast}
use Rattle.rows.specs.declared.plain.Interval.{Interval}
use Rattle.rows.specs.declared.plain.KeyIndex.{KeyIndex}
use Rattle.rows.specs.declared.value.Value.{Value}
use Rattle.key_index.specs.Aims.{below_key, upto_key, upto_number}
use Rattle.key_index.specs.Entries.{Item}
use Rattle.key_index.specs.Searches.{BreaksAbove, BreaksEntry, BreaksRank, IsEntryAt, IsNext, Ranks}

-- this holds of a bad page; of another error nothing is said
abbrev pub IfBad : (BadPage → Type 0) → FetchErr → Type 0
IfBad P (fetch.DriveFault d) = ⊤
IfBad P (fetch.BadPage bad) = P bad
IfBad P fetch.NoMemory = ⊤

-- what was taken from a page, or the bad page with the rule that it breaks
abbrev pub answer_from : {T : Type 0} → ℕ → ℕ → Result T ℕ → Result T FetchErr
answer_from file page (Ok taken) = Ok taken
answer_from file page (Err rule) = Err (fetch.BadPage (record {
  file = file;
  page = page;
  rule =
      rule;
}))

-- the head of this page of the index breaks no rule
abbrev pub IsFineHead : KeyIndex → (ℕ → List ℕ) → ℕ → Type 0
IsFineHead index pages page = head_fault Index index.file page (pages page) ≡ None

-- the first rule that this page breaks: one of its head, or else one of those behind it
abbrev pub FirstBroken : KeyIndex → (ℕ → List ℕ) → ℕ → (ℕ → Type 0) → ℕ → Type 0
FirstBroken index pages page Behind rule =
    (head_fault Index index.file page (pages page) ≡ Some rule) ⊎ (IsFineHead index pages page ×
    Behind rule)

-- the bad page is this one, and its rule is the first one that is broken here
abbrev pub IsBadHere : KeyIndex → (ℕ → List ℕ) → ℕ → (ℕ → Type 0) → BadPage → Type 0
IsBadHere index pages page Behind bad = (bad.page ≡ page) ×
    FirstBroken index pages page Behind bad.rule

-- The search for what passes stands at this page after so many steps down from the root, and so
-- many entries stand left of the page. Each page passed breaks no rule, and leads to the next one.
abbrev pub Reaches : KeyIndex → (ℕ → List ℕ) → (Item → Bool) → ℕ → ℕ × ℕ → Type 0
Reaches index pages p zero at = (at.0 ≡ index.pages - 1) × (at.1 ≡ 0)
Reaches index pages p (suc steps) at =
    (above : ℕ × ℕ) × Reaches index pages p steps above × IsFineHead index pages above.0 ×
    IsNext index (index.height - 1 - steps) above.1 p (pages above.0) at

-- it stands at this leaf
abbrev pub ReachesLeaf : KeyIndex → (ℕ → List ℕ) → (Item → Bool) → ℕ × ℕ → Type 0
ReachesLeaf index pages p at = Reaches index pages p (index.height - 1) at

-- it stands above the leaves at a page whose first broken rule this is
pub record IsBadAbove (index : KeyIndex) (pages : ℕ → List ℕ)
    (p : Item → Bool) (bad : BadPage) : Type 0 where
  pub steps : ℕ
  pub left : ℕ
  pub above : suc steps < index.height
  pub way : Reaches index pages p steps (bad.page, left)
  pub breaks : FirstBroken index pages bad.page (BreaksAbove index (index.height - 1 - steps) left p (pages bad.page)) bad.rule

-- it stands at a leaf whose first broken rule this is
pub record IsBadLeaf (index : KeyIndex) (pages : ℕ → List ℕ)
    (p : Item → Bool) (Breaks : ℕ → List ℕ → ℕ → Type 0) (bad : BadPage) : Type 0 where
  pub left : ℕ
  pub way : ReachesLeaf index pages p (bad.page, left)
  pub breaks : FirstBroken index pages bad.page (Breaks left (pages bad.page)) bad.rule

-- ---- a rank

-- It is the rank of the leaf that the search reaches, whose page breaks no rule.
pub record IsRankFound (index : KeyIndex) (pages : ℕ → List ℕ)
    (p : Item → Bool) (rank : ℕ) : Type 0 where
  pub at : ℕ × ℕ
  pub way : ReachesLeaf index pages p at
  pub head : IsFineHead index pages at.0
  pub leaf : Ranks index at.1 p (pages at.0) rank

-- an index without entries has no page
abbrev pub HasRank : KeyIndex → (ℕ → List ℕ) → (Item → Bool) → ℕ → Type 0
HasRank index pages p rank = 0 < index.entries → IsRankFound index pages p rank

abbrev pub StopsRank : KeyIndex → (ℕ → List ℕ) → (Item → Bool) → BadPage → Type 0
StopsRank index pages p bad = (0 < index.entries) ×
    (IsBadAbove index pages p bad ⊎ IsBadLeaf index pages p (λ left. BreaksRank index left p) bad)

-- ---- an entry

-- It is the entry of the leaf that the search reaches, whose page breaks no rule.
pub record HasEntry (index : KeyIndex) (pages : ℕ → List ℕ)
    (number : ℕ) (found : ℕ × ℕ) : Type 0 where
  pub at : ℕ × ℕ
  pub way : ReachesLeaf index pages (upto_number number) at
  pub head : IsFineHead index pages at.0
  pub leaf : IsEntryAt index at.1 number (pages at.0) found

abbrev pub StopsEntry : KeyIndex → (ℕ → List ℕ) → ℕ → BadPage → Type 0
StopsEntry index pages number bad =
    IsBadAbove index pages (upto_number number) bad ⊎ IsBadLeaf index pages (upto_number number) (λ left. BreaksEntry index left number) bad

-- ---- an interval

-- the rank that is the first entry which the comparison with a constant leaves
abbrev pub HasLower : KeyIndex → (ℕ → List ℕ) → BoundOp → Value → ℕ → Type 0
HasLower index pages Equal c end = HasRank index pages (below_key c) end
HasLower index pages AtLeast c end = HasRank index pages (below_key c) end
HasLower index pages More c end = HasRank index pages (upto_key c) end
HasLower index pages Less c end = end ≡ 0
HasLower index pages AtMost c end = end ≡ 0

-- the rank that is the first entry behind those that it leaves
abbrev pub HasUpper : KeyIndex → (ℕ → List ℕ) → BoundOp → Value → ℕ → Type 0
HasUpper index pages Equal c end = HasRank index pages (upto_key c) end
HasUpper index pages AtMost c end = HasRank index pages (upto_key c) end
HasUpper index pages Less c end = HasRank index pages (below_key c) end
HasUpper index pages More c end = end ≡ index.entries
HasUpper index pages AtLeast c end = end ≡ index.entries

-- the bad page at which the one or the other search stops
abbrev pub StopsLower : KeyIndex → (ℕ → List ℕ) → BoundOp → Value → BadPage → Type 0
StopsLower index pages Equal c bad = StopsRank index pages (below_key c) bad
StopsLower index pages AtLeast c bad = StopsRank index pages (below_key c) bad
StopsLower index pages More c bad = StopsRank index pages (upto_key c) bad
StopsLower index pages Less c bad = ⊥
StopsLower index pages AtMost c bad = ⊥

abbrev pub StopsUpper : KeyIndex → (ℕ → List ℕ) → BoundOp → Value → BadPage → Type 0
StopsUpper index pages Equal c bad = StopsRank index pages (upto_key c) bad
StopsUpper index pages AtMost c bad = StopsRank index pages (upto_key c) bad
StopsUpper index pages Less c bad = StopsRank index pages (below_key c) bad
StopsUpper index pages More c bad = ⊥
StopsUpper index pages AtLeast c bad = ⊥

-- one more bound leaves these ends of an interval
abbrev pub IsNarrowed : KeyIndex → (ℕ → List ℕ) → Bound → Interval → Interval → Type 0
IsNarrowed index pages b ends now =
    (lower : ℕ) × (upper : ℕ) × HasLower index pages b.op b.value lower ×
    HasUpper index pages b.op b.value upper × (now.from ≡ max ends.from lower) ×
    (now.upto ≡ min ends.upto upper)

-- the greatest lower end, at least 0
abbrev pub AreLower : KeyIndex → (ℕ → List ℕ) → List Bound → ℕ → Type 0
AreLower index pages [] end = end ≡ 0
AreLower index pages (b ∷ bs) end = (one : ℕ) × (rest : ℕ) ×
    HasLower index pages b.op b.value one × AreLower index pages bs rest × (end ≡ max one rest)

-- the least upper end, at most the number of entries
abbrev pub AreUpper : KeyIndex → (ℕ → List ℕ) → List Bound → ℕ → Type 0
AreUpper index pages [] end = end ≡ index.entries
AreUpper index pages (b ∷ bs) end = (one : ℕ) × (rest : ℕ) ×
    HasUpper index pages b.op b.value one × AreUpper index pages bs rest × (end ≡ min one rest)

-- the interval between both, where the searches found their ends
abbrev pub HasInterval : KeyIndex → (ℕ → List ℕ) → List Bound → Interval → Type 0
HasInterval index pages bounds found = (upper : ℕ) × AreLower index pages bounds found.from ×
    AreUpper index pages bounds upper × (found.upto ≡ max found.from upper)

-- one of the searches stops at this bad page
abbrev pub StopsInterval : KeyIndex → (ℕ → List ℕ) → List Bound → BadPage → Type 0
StopsInterval index pages [] bad = ⊥
StopsInterval index pages (b ∷ bs) bad =
    StopsLower index pages b.op b.value bad ⊎ StopsUpper index pages b.op b.value bad ⊎ StopsInterval index pages bs bad
