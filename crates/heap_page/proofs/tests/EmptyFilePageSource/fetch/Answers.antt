use Rattle.std.proofs.Common.{◌≡◌, ◌∙◌, ◌<◌, ◌^◌, ℕ, zero, suc, List, [], ◌∷◌, Some, sym, arith}
use Rattle.std.specs.Prelude.{slice_get}
use Rattle.heap_page.specs.declared.head.FileKind.TheVariants.{Heap}
use Rattle.heap_page.specs.declared.map.PageFile.{PageFile}
use Rattle.heap_page.specs.Maps.{HasPage}
use Rattle.heap_page.specs.Pages.{head_fault, body_fault, page_of}
use Rattle.heap_page.specs.Sources.{IsGiven}
use Rattle.heap_page.proofs.Read.{both_none}
use Rattle.heap_page.proofs.Written.{page_again}
use Rattle.heap_page.proofs.tests.EmptyFilePageSource.fetch.Goals as goal

only : (pages file : ℕ) (f : PageFile) → slice_get (record { kind = Heap; pages = pages } ∷ []) file ≡ Some f → f ≡ record { kind = Heap; pages = pages }
only pages zero f e = cc
only pages (suc file) f e = absurd cc

given : (pages file page : ℕ) (bytes : List ℕ) → HasPage (record { kind = Heap; pages = pages } ∷ []) file page → file < 2 ^ 32 → page < 2 ^ 32 → bytes ≡ page_of file page [] →
    IsGiven (record { kind = Heap; pages = pages } ∷ []) (Some (λ file page. page_of file page [])) file page bytes
given pages file page bytes h fs ps e =
    let head = (both_none (head_fault Heap file page (page_of file page [])) (body_fault (page_of file page [])) (page_again file page [] fs ps (omega arith)).rules).0 in
    record {
      head = rw (h.1, only pages file h.0 h.1, e) head;
      told = sym e;
    }

pub returns-clause-ok : goal.returns-clause-ok
returns-clause-ok c =
    given c.args.self.now.pages c.args.file c.args.page _ c.requires c.ranges.file.fits c.ranges.page.fits (c.in_ok-new.ensures.ok ∙ c.in_ok-page.ensures.empty)
