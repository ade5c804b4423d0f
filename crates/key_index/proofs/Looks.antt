-- What a search takes from one page.
use Rattle.std.proofs.Common.{◌≡◌, ℕ, zero, suc, ◌+◌, ◌<◌, ◌≤◌, List, [], ◌∷◌, Option, Some, None, sym, ap, subst, ◌∙◌, arith}
use Rattle.std.specs.Prelude.{slice_get, ◌⊎◌}
use Rattle.std.specs.List.{AllByRecursion}
use Rattle.rows.specs.declared.plain.KeyIndex.{KeyIndex}
use Rattle.key_index.specs.declared.aim.Aim.{Aim}
use Rattle.key_index.specs.declared.page_entry.Step.{Step}
use Rattle.key_index.specs.Aims.{IsFront, Scans, chosen, count, first_of, passes, seen_item}
use Rattle.key_index.specs.Entries.{Item}
use Rattle.key_index.specs.Readings.{page_fault}
use Rattle.key_index.specs.Searches.{IsIndexPage, Leads, LeadsOut, Ranks, Uses}
use Rattle.key_index.proofs.Scanning.{same_items}

all_at : {X : Type 0} (P : X → Type 0) (xs : List X) (i : ℕ) (x : X) → AllByRecursion P xs → slice_get xs i ≡ Some x → P x
all_at P [] i x h e = absurd cc
all_at P (y ∷ ys) zero x h e = let k : y ≡ x = cc in subst P k h.0
all_at P (y ∷ ys) (suc i) x h e = all_at P ys i x h.1 e

module _ (index : KeyIndex) (level number : ℕ) (aim : Aim) (bytes : List ℕ) (step : Step) (s : Scans index.key_type level number aim bytes step) where
  pub used : Uses index level number (passes aim) bytes (seen_item step.entry)
  used = record {
    fine = s.fine;
    items = s.items;
    rest = s.rest;
    holds = s.holds;
    used = record { place = s.place; here = s.here; last = s.last };
  }

  module _ (page : ℕ) (items : List Item) (h : IsIndexPage index level number page bytes items) where
    same : s.items ≡ items
    same = same_items s.items items s.rest h.rest (sym s.holds ∙ h.holds)

    pub leads_on : Leads index level (seen_item step.entry)
    leads_on = all_at (Leads index level) items s.place (seen_item step.entry) h.leads (subst (λ (xs : List Item). slice_get xs s.place ≡ Some (seen_item step.entry)) same s.here)

    pub last_told : IsFront (passes aim) items → seen_item step.entry ≡ chosen (passes aim) (first_of items) items
    last_told front = subst (λ (xs : List Item). seen_item step.entry ≡ chosen (passes aim) (first_of xs) xs) same (s.last (subst (λ (xs : List Item). IsFront (passes aim) xs) (sym same) front))

    pub count_told : IsFront (passes aim) items → step.count ≡ count (passes aim) items
    count_told front = subst (λ (xs : List Item). step.count ≡ count (passes aim) xs) same (s.counts (subst (λ (xs : List Item). IsFront (passes aim) xs) (sym same) front))

pub ranked : (index : KeyIndex) (number rank : ℕ) (aim : Aim) (bytes : List ℕ) (step : Step) → Scans index.key_type 0 number aim bytes step → rank ≡ number + step.count → Ranks index number (passes aim) bytes rank
ranked index number rank aim bytes step s e = record {
  fine = s.fine;
  items = s.items;
  rest = s.rest;
  holds = s.holds;
  counts = λ front. e ∙ ap (λ (n : ℕ). number + n) (s.counts front);
}

pub no_fault : (index : KeyIndex) (level number page rule : ℕ) (bytes : List ℕ) (items : List Item) → IsIndexPage index level number page bytes items → page_fault index.key_type level number bytes ≡ Some rule → ⊥
no_fault index level number page rule bytes items h e = none_some rule (sym h.fine ∙ e) where
  none_some : (n : ℕ) → ◌≡◌ {A = Option ℕ} None (Some n) → ⊥
  none_some n f = absurd cc

pub leads_above : (index : KeyIndex) (level : ℕ) (e : Item) → 0 < level → Leads index level e → (e.page < index.pages) × (e.left ≤ index.entries)
leads_above index zero e lt h = absurd (omega arith)
leads_above index (suc level) e lt h = h

pub out_above : (index : KeyIndex) (level : ℕ) (e : Item) → 0 < level → (index.pages ≤ e.page) ⊎ (index.entries < e.left) → LeadsOut index level e
out_above index zero e lt h = absurd (omega arith)
out_above index (suc level) e lt h = h

pub at_start : (index : KeyIndex) (level start number : ℕ) (aim : Aim) (bytes : List ℕ) (step : Step) → start ≡ number → Scans index.key_type level start aim bytes step → Scans index.key_type level number aim bytes step
at_start index level start number aim bytes step e s = subst (λ (n : ℕ). Scans index.key_type level n aim bytes step) e s

-- the page that was fetched is the one told
pub told_page : (index : KeyIndex) (level number page : ℕ) (told found deref bytes : List ℕ) (items : List Item) → found ≡ told → deref ≡ found → bytes ≡ deref → IsIndexPage index level number page told items → IsIndexPage index level number page bytes items
told_page index level number page told found deref bytes items a b c h = subst (λ (xs : List ℕ). IsIndexPage index level number page xs items) (sym (c ∙ (b ∙ a))) h
