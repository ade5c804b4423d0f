-- The only file of a map.
use Rattle.std.proofs.Common.{◌≡◌, ℕ, List, [], ◌∷◌, refl}
use Rattle.heap_page.specs.declared.head.FileKind.{FileKind}
use Rattle.heap_page.specs.declared.head.FileKind.TheVariants.{Index}
use Rattle.heap_page.specs.declared.map.PageFile.{PageFile}
use Rattle.heap_page.specs.Maps.{HasPages}
use Rattle.rows.specs.declared.plain.KeyIndex.{KeyIndex}
use Rattle.key_index.specs.Searches.{HasIndex}

pub has_pages : (files : List PageFile) (kind : FileKind) (file pages wanted : ℕ) → files ≡ record { kind = kind; pages = pages } ∷ [] → file ≡ 0 → pages ≡ wanted → HasPages files file wanted
has_pages files kind file pages wanted e f p = rw (e, f) (record { kind = kind; pages = pages }, refl, p)

pub has_index : (files : List PageFile) (index : KeyIndex) → files ≡ record { kind = Index; pages = index.pages } ∷ [] → index.file ≡ 0 → HasIndex files index
has_index files index e f = rw (e, f) (record { kind = Index; pages = index.pages }, refl, refl, refl)
