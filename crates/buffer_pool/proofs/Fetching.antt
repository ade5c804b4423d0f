-- What a fetch from one of many drives answers.
use Rattle.std.proofs.Common.{◌≡◌, ℕ, zero, suc, ◌<◌, List, [], ◌∷◌, map, Option, Some, None, Result, Ok, Err, refl, sym, ap, subst, ◌∙◌}
use Rattle.std.specs.Prelude.{IfOk, IfErr, IfSome, option_map, slice_get, slice_index_or}
use Rattle.std.specs.Option.{option_and_then}
use Rattle.std.specs.Arc.{arc_value}
use Rattle.std.specs.declared.sync.Arc.{Arc}
use Rattle.std.specs.declared.alloc.Global.{Global}
use Rattle.std.proofs.lemmas.Option.{get_or_from_slice_get, slice_get-map}
use Rattle.xp_outside.specs.declared.drive.Drive.{Ghosts}
use Rattle.heap_page.specs.declared.page.Page.{Page}
use Rattle.heap_page.specs.declared.map.PageFile.{PageFile}
use Rattle.heap_page.specs.declared.map.FileMap.{FileMap}
use Rattle.heap_page.specs.declared.head.FileKind.{FileKind}
use Rattle.heap_page.specs.declared.errors.FetchErr.{FetchErr}
use Rattle.heap_page.specs.declared.errors.FetchErr.TheVariants.{DriveFault, BadPage, NoMemory}
use Rattle.heap_page.specs.Maps.{HasPage, address_of}
use Rattle.heap_page.specs.Pages.{head_fault}
use Rattle.heap_page.specs.Sources.{FetchCause, IsGiven, IsRefused, head_fault_in}
use Rattle.buffer_pool.specs.Counts.{IsCounted}
use Rattle.buffer_pool.specs.Fetched.{IsFetched, error_of}
use Rattle.buffer_pool.specs.Images.{all_told, image_on, page_at}
use Rattle.buffer_pool.specs.Places.{IsPlaced}
use Rattle.buffer_pool.specs.Told.{IsTold}
use Rattle.buffer_pool.specs.Used.{IsToldBad}
use Rattle.buffer_pool.specs.declared.place.Place.{Place}

-- the error of a shard, handed on
pub handed_on : (told : Option (List (List ℕ))) (place : Place) (file page before now counter counter' : ℕ) (e : FetchErr) → IsCounted before now counter counter' e →
    IsToldBad told place.kind file page place.address e → IsFetched told place file page before now (Err (error_of place.drive e))
handed_on told place file page before now counter counter' (DriveFault d) counts bad = (refl, counts.1)
handed_on told place file page before now counter counter' (BadPage b) counts bad = bad
handed_on told place file page before now counter counter' NoMemory counts bad = tt

-- where all drives tell, this one does
told_at : (os : List (Option (List (List ℕ)))) (d : ℕ) (o : Option (List (List ℕ))) (drives : List (List (List ℕ))) → slice_get os d ≡ Some o → all_told os ≡ Some drives → o ≡ Some (slice_index_or drives d [])
told_at [] d o drives at all = absurd cc
told_at (None ∷ os) d o drives at all = absurd cc
told_at (Some pages ∷ os) zero o drives at all = by (all_told os) all where
  by : (rest : Option (List (List (List ℕ)))) → option_map (λ others. pages ∷ others) rest ≡ Some drives → o ≡ Some (slice_index_or drives 0 [])
  by None e = absurd cc
  by (Some others) e = let same : drives ≡ pages ∷ others = cc in let is : o ≡ Some pages = cc in is ∙ ap (λ (l : List (List (List ℕ))). Some (slice_index_or l 0 [])) (sym same)
told_at (Some pages ∷ os) (suc d) o drives at all = by (all_told os) refl (λ others is. told_at os d o others at is) all where
  by : (rest : Option (List (List (List ℕ)))) → all_told os ≡ rest → ((others : List (List (List ℕ))) → all_told os ≡ Some others → o ≡ Some (slice_index_or others d [])) →
      option_map (λ others. pages ∷ others) rest ≡ Some drives → o ≡ Some (slice_index_or drives (suc d) [])
  by None is told e = absurd cc
  by (Some others) is told e = let same : drives ≡ pages ∷ others = cc in told others is ∙ ap (λ (l : List (List (List ℕ))). Some (slice_index_or l (suc d) [])) (sym same)

-- the page at the place is the page of the file
page_is : (files : FileMap) (contents : List (List (List ℕ))) (file page : ℕ) (place : Place) (bytes : List ℕ) → IsPlaced files file page place →
    slice_get (slice_index_or contents place.drive []) place.address ≡ Some bytes → page_at files contents file page ≡ bytes
page_is files contents file page place bytes placed found =
    subst (λ (d : ℕ). slice_index_or (slice_index_or contents d []) (address_of files file page) [] ≡ bytes) placed.drive
    (subst (λ (a : ℕ). slice_index_or (slice_index_or contents place.drive []) a [] ≡ bytes) placed.address (get_or_from_slice_get (slice_index_or contents place.drive []) place.address bytes [] found))

module _ {D : Type 0} (g : Ghosts D) where
  told_drive : (drives : List D) (d : ℕ) (named : D) (contents : List (List (List ℕ))) → slice_get drives d ≡ Some named → all_told (map g.pages drives) ≡ Some contents → g.pages named ≡ Some (slice_index_or contents d [])
  told_drive drives d named contents at is = told_at (map g.pages drives) d (g.pages named) contents (slice_get-map g.pages drives d ∙ ap (option_map g.pages) at) is

  -- where a pool tells an image, the page at a place of a drive is the image's
  pub image_at : (files : FileMap) (drives : List D) (file page : ℕ) (place : Place) (named : D) (bytes : List ℕ) → IsPlaced files file page place → slice_get drives place.drive ≡ Some named →
      IsTold (g.pages named) place.address bytes → IfSome (image_on g files drives) (λ pages. pages file page ≡ bytes)
  image_at files drives file page place named bytes placed at told = by (all_told (map g.pages drives)) refl where
    by : (all : Option (List (List (List ℕ)))) → all_told (map g.pages drives) ≡ all → IfSome (option_map (page_at files) all) (λ pages. pages file page ≡ bytes)
    by None is = tt
    by (Some contents) is =
        let told_here = told_drive drives place.drive named contents at is in
        let found = told (slice_index_or contents place.drive []) told_here in
        page_is files contents file page place bytes placed found

  -- the kind of the file is that of the place
  head_at : (files : FileMap) (file page : ℕ) (place : Place) (bytes : List ℕ) → IsPlaced files file page place → HasPage files.files.items file page →
      head_fault_in files.files.items file page bytes ≡ head_fault place.kind file page bytes
  head_at files file page place bytes placed has =
      ap (option_and_then (λ (f : PageFile). head_fault f.kind file page bytes)) has.1 ∙ ap (λ (k : FileKind). head_fault k file page bytes) (placed.kind has.0 has.1)

  -- a page that breaks a rule was refused, and where a pool tells an image, it is the image's
  bad_at : (files : FileMap) (drives : List D) (file page : ℕ) (place : Place) (named : D) (rule : ℕ) → IsPlaced files file page place → HasPage files.files.items file page → slice_get drives place.drive ≡ Some named →
      ((bytes : List ℕ) × IsTold (g.pages named) place.address bytes × (head_fault place.kind file page bytes ≡ Some rule)) →
      IsRefused files.files.items (image_on g files drives) file page rule
  bad_at files drives file page place named rule placed has at bad = record {
    bytes = bad.0;
    head = head_at files file page place bad.0 placed has ∙ bad.2;
    told = image_at files drives file page place named bad.0 placed at bad.1;
  }

  module _ (files : FileMap) (drives : List D) (file page : ℕ) (place : Place) (named : D) (before now : ℕ → ℕ) (placed : IsPlaced files file page place) (has : HasPage files.files.items file page)
      (at : slice_get drives place.drive ≡ Some named) where
    pub given : (r : Result (Arc Page Global) FetchErr) → IsFetched (g.pages named) place file page (before place.drive) (now place.drive) r →
        IfOk r (λ found. IsGiven files.files.items (image_on g files drives) file page (arc_value found))
    given (Err e) h = tt
    given (Ok found) h = record {
      head = head_at files file page place (arc_value found) placed has ∙ h.0;
      told = image_at files drives file page place named (arc_value found) placed at h.1;
    }

    pub caused : (r : Result (Arc Page Global) FetchErr) → IsFetched (g.pages named) place file page (before place.drive) (now place.drive) r →
        IfErr r (FetchCause files.files.items (image_on g files drives) files.drives before now file page)
    caused (Ok found) h = tt
    caused (Err (DriveFault d)) h = let same : place.drive ≡ d = sym h.0 in (subst (λ n. n < files.drives) same placed.on_drive, rw h.0 h.1)
    caused (Err (BadPage bad)) h = (h.0, h.1, bad_at files drives file page place named bad.rule placed has at h.2)
    caused (Err NoMemory) h = tt

-- what a shard's fetch answers, at a place
pub at_place : (told : Option (List (List ℕ))) (place : Place) (file page before now : ℕ) (found : Arc Page Global) → head_fault place.kind file page (arc_value found) ≡ None → IsTold told place.address (arc_value found) → IsFetched told place file page before now (Ok found)
at_place told place file page before now found head t = (head, t)
