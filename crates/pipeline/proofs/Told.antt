-- The items of a told page are those that are stored.
use Rattle.std.proofs.Common.{◌≡◌, ℕ, ◌<◌, ◌^◌, List, [], None, Some, sym, ap, ◌∙◌, arith, get_or, length, slice_get}
use Rattle.std.proofs.lemmas.Option.{slice_get-get_or}
use Rattle.heap_page.specs.Pages.{Fits, fault_of, items_of, page_of}
use Rattle.plan_tree.specs.declared.fragment.Source.{Source}
use Rattle.plan_tree.specs.declared.fragment.Source.TheVariants as source
use Rattle.plan_tree.specs.Fragments.{Stored}
use Rattle.pipeline.specs.Images.{HoldsHeap, Image, IsTold, StoresRead}

abbrev ReadAgain : Type 0
ReadAgain = (file number : ℕ) (items : List (List ℕ)) → file < 2 ^ 32 → number < 2 ^ 32 → Fits items → items_of (page_of file number items) ≡ items

module _ (image : Image) (file count page : ℕ) (pages : List (List (List ℕ))) (holds : HoldsHeap image file count pages) (within : page < count) where
  stands : slice_get pages page ≡ Some (get_or pages page [])
  stands = slice_get-get_or pages page [] (omega (arith, within, holds.size))

  pub told_fine : ((file number : ℕ) (items : List (List ℕ)) → file < 2 ^ 32 → number < 2 ^ 32 → Fits items → fault_of file number (page_of file number items) ≡ None) → fault_of file page (image file page) ≡ None
  told_fine law =
      let each = holds.each page (get_or pages page []) stands in
      ap (fault_of file page) each.1 ∙ law file page (get_or pages page []) holds.small.0 (omega (arith, within, holds.small.1)) each.0

  pub told_items : ReadAgain → get_or pages page [] ≡ items_of (image file page)
  told_items law =
      let each = holds.each page (get_or pages page []) stands in
      sym (ap items_of each.1 ∙ law file page (get_or pages page []) holds.small.0 (omega (arith, within, holds.small.1)) each.0)

pub told_read : ReadAgain → (image : Image) (stored : Stored) (positions : ℕ) (s : Source) → IsTold image stored positions s → StoresRead image stored positions s
told_read law image stored positions source.One h = tt
told_read law image stored positions (source.Heap var file) h = λ page within. told_items image file positions page (stored.pages file) h within law
told_read law image stored positions (source.Index var index heap_file interval) h = (h.0, λ page within. told_items image heap_file index.heap_pages page (stored.pages heap_file) h.1 within law)
told_read law image stored positions (source.Merge left right keys left_layout right_layout) h = tt
