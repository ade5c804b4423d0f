-- Which rules a page of an index can break.
use Rattle.std.proofs.Common.{◌≡◌, ℕ, ◌<◌, Bool, true, false, List, Option, Some, None, if◌then◌else◌, refl, sym, ap, ◌∙◌, arith, inl, inr}
use Rattle.std.specs.Prelude.{IfErr, IfSome, MatchResult, Result, Ok, Err, ◌==◌, not, take}
use Rattle.std.specs.List.{list_all}
use Rattle.std.specs.Str.{bytes_eq}
use Rattle.heap_page.specs.Fields.{short_at, long_at}
use Rattle.std.specs.Option.{option_and_then}
use Rattle.heap_page.specs.declared.errors.FetchErr.{FetchErr}
use Rattle.heap_page.specs.declared.errors.FetchErr.TheVariants as fetch
use Rattle.heap_page.specs.declared.head.FileKind.{FileKind}
use Rattle.heap_page.specs.declared.head.FileKind.TheVariants.{Index}
use Rattle.heap_page.specs.declared.map.PageFile.{PageFile}
use Rattle.heap_page.specs.Pages.{head_fault, magic_of, version_of}
use Rattle.heap_page.specs.Sources.{FetchCause, IsRefused}
use Rattle.rows.specs.declared.field.ColType.{ColType}
use Rattle.rows.specs.declared.plain.KeyIndex.{KeyIndex}
use Rattle.key_index.specs.Entries.{Item}
use Rattle.key_index.specs.Paths.{answer_from}
use Rattle.key_index.specs.Readings.{page_fault, page_items, rest_fault}
use Rattle.key_index.specs.Searches.{BreaksAbove, BreaksEntry, BreaksRank, HasIndex, IsRule, SearchCause}

none_some : (n : ℕ) → ◌≡◌ {A = Option ℕ} None (Some n) → ⊥
none_some n e = absurd cc

some_is : (m n : ℕ) → Some m ≡ Some n → m ≡ n
some_is m n e = cc

first_rules : (a b c d e : Bool) (rule : ℕ) → (if a then Some 1 else if b then Some 2 else if c then Some 3 else if d then Some 4 else if e then Some 5 else None) ≡ Some rule → IsRule rule
first_rules true b c d e rule is = omega (arith, some_is 1 rule is)
first_rules false true c d e rule is = omega (arith, some_is 2 rule is)
first_rules false false true d e rule is = omega (arith, some_is 3 rule is)
first_rules false false false true e rule is = omega (arith, some_is 4 rule is)
first_rules false false false false true rule is = omega (arith, some_is 5 rule is)
first_rules false false false false false rule is = absurd (none_some rule is)

pub head_rule : (kind : FileKind) (file page rule : ℕ) (bytes : List ℕ) → head_fault kind file page bytes ≡ Some rule → IsRule rule
unfolding head_fault
head_rule kind file page rule bytes is =
    first_rules (not (bytes_eq (take 4 bytes) (magic_of kind))) (not (short_at bytes 4 == version_of kind)) (not (short_at bytes 18 == 0)) (not (long_at bytes 8 == file)) (not (long_at bytes 12 == page)) rule is

last_rule : (o : Option (List Item × List ℕ)) (rule : ℕ) → rest_fault o ≡ Some rule → IsRule rule
last_rule None rule is = omega (arith, some_is 7 rule is)
last_rule (Some r) rule is = by (list_all (λ b. b == 0) r.1) is where
  by : (b : Bool) → (if b then None else Some 8) ≡ Some rule → IsRule rule
  by true e = absurd (none_some rule e)
  by false e = omega (arith, some_is 8 rule e)

later_rules : (a b : Bool) (o : Option (List Item × List ℕ)) (rule : ℕ) → (if a then Some 6 else if b then Some 7 else rest_fault o) ≡ Some rule → IsRule rule
later_rules true b o rule is = omega (arith, some_is 6 rule is)
later_rules false true o rule is = omega (arith, some_is 7 rule is)
later_rules false false o rule is = last_rule o rule is

page_rule : (t : ColType) (level number rule : ℕ) (bytes : List ℕ) → page_fault t level number bytes ≡ Some rule → IsRule rule
unfolding page_fault
page_rule t level number rule bytes is = later_rules (not (short_at bytes 16 == level)) (short_at bytes 6 == 0) (page_items t level number bytes) rule is

last_one : (rule : ℕ) → rule ≡ 9 → IsRule rule
last_one rule is = omega (arith, is)

pub above_rule : (index : KeyIndex) (level number : ℕ) (p : Item → Bool) (bytes : List ℕ) (rule : ℕ) → BreaksAbove index level number p bytes rule → IsRule rule
above_rule index level number p bytes rule (inl is) = page_rule index.key_type level number rule bytes is
above_rule index level number p bytes rule (inr h) = last_one rule h.0

pub rank_rule : (index : KeyIndex) (number : ℕ) (p : Item → Bool) (bytes : List ℕ) (rule : ℕ) → BreaksRank index number p bytes rule → IsRule rule
rank_rule index number p bytes rule (inl is) = page_rule index.key_type 0 number rule bytes is
rank_rule index number p bytes rule (inr h) = last_one rule h.0

pub entry_rule : (index : KeyIndex) (number wanted : ℕ) (bytes : List ℕ) (rule : ℕ) → BreaksEntry index number wanted bytes rule → IsRule rule
entry_rule index number wanted bytes rule (inl is) = page_rule index.key_type 0 number rule bytes is
entry_rule index number wanted bytes rule (inr h) = last_one rule h.0

-- what was taken from a page that is there, or the rule that it breaks
pub answer_cause : {T : Type 0} (index : KeyIndex) (drives : ℕ) (before now : ℕ → ℕ) (page : ℕ) (r : Result T ℕ) (got : Result T FetchErr) (P : T → Type 0) (Breaks : ℕ → Type 0) →
    got ≡ answer_from index.file page r → page < index.pages → MatchResult r P Breaks → ((rule : ℕ) → Breaks rule → IsRule rule) → IfErr got (SearchCause index drives before now)
answer_cause index drives before now page (Ok x) got P Breaks is within h to = rw is tt
answer_cause index drives before now page (Err rule) got P Breaks is within h to = rw is (refl, within, to rule h)

-- a page of the index that was refused
pub refused : (files : List PageFile) (image : Option (ℕ → ℕ → List ℕ)) (index : KeyIndex) (page rule : ℕ) → HasIndex files index → IsRefused files image index.file page rule →
    (bytes : List ℕ) × (head_fault Index index.file page bytes ≡ Some rule) × IfSome image (λ pages. pages index.file page ≡ bytes)
refused files image index page rule has h =
    (h.bytes, sym (ap (λ (k : FileKind). head_fault k index.file page h.bytes) has.2) ∙ sym (ap (option_and_then (λ (f : PageFile). head_fault f.kind index.file page h.bytes)) has.1) ∙ h.head, h.told)

-- why a page of the index was not given
pub fetch_cause : (files : List PageFile) (image : Option (ℕ → ℕ → List ℕ)) (index : KeyIndex) (drives : ℕ) (before now : ℕ → ℕ) (page : ℕ) (e : FetchErr) → HasIndex files index → page < index.pages →
    FetchCause files image drives before now index.file page e → SearchCause index drives before now e
fetch_cause files image index drives before now page (fetch.DriveFault d) has within h = h
fetch_cause files image index drives before now page (fetch.BadPage bad) has within h =
    let r = refused files image index page bad.rule has h.2 in
    (h.0, rw h.1 within, head_rule Index index.file page bad.rule r.0 r.1)
fetch_cause files image index drives before now page fetch.NoMemory has within h = tt

pub fetch_causes : {T : Type 0} (files : List PageFile) (image : Option (ℕ → ℕ → List ℕ)) (index : KeyIndex) (drives : ℕ) (before now : ℕ → ℕ) (page : ℕ) (r : Result T FetchErr) → HasIndex files index → page < index.pages →
    IfErr r (FetchCause files image drives before now index.file page) → IfErr r (SearchCause index drives before now)
fetch_causes files image index drives before now page (Ok x) has within h = tt
fetch_causes files image index drives before now page (Err e) has within h = fetch_cause files image index drives before now page e has within h
