-- What a cache holds after a page was used, and what a fetch answers.
use Rattle.std.specs.Prelude.{◌≡◌, ℕ, nat_eq, List, slice_get, Option, Some, None, Result, MatchResult, ⊤}
use Rattle.std.specs.Arc.{arc_value}
use Rattle.std.specs.declared.sync.Arc.{Arc}
use Rattle.std.specs.declared.alloc.Global.{Global}
use Rattle.lru.specs.LruCache.{LruCache, lru_cache, put_entries}
use Rattle.heap_page.specs.declared.page.Page.{Page}
use Rattle.heap_page.specs.declared.head.FileKind.{FileKind}
use Rattle.heap_page.specs.declared.errors.FetchErr.{FetchErr}
use Rattle.heap_page.specs.declared.errors.FetchErr.TheVariants.{DriveFault, BadPage, NoMemory}
use Rattle.heap_page.specs.Pages.{head_fault}
use Rattle.buffer_pool.specs.Told.{IsTold}

-- the page used last is the one at this address, and has these bytes
abbrev pub BeginsWith : ℕ → List ℕ → List (ℕ × Arc Page Global) → Type 0
BeginsWith address bytes entries = (page : Arc Page Global) × (arc_value page ≡ bytes) × (slice_get entries 0 ≡ Some (address, page))

-- the page at this address, which has these bytes, was used: it comes first, and where it is new to a full cache, the one not used for longest is gone
abbrev pub IsUsed : ℕ → List ℕ → LruCache ℕ (Arc Page Global) → LruCache ℕ (Arc Page Global) → Type 0
IsUsed address bytes old new = (page : Arc Page Global) × (arc_value page ≡ bytes) × (new ≡ lru_cache (put_entries nat_eq old address page) old.cap)

-- the error names this page and the first rule that its head breaks, or there was no memory
abbrev pub IsBad : FileKind → ℕ → ℕ → List ℕ → FetchErr → Type 0
IsBad kind file page bytes (DriveFault d) = ⊥
IsBad kind file page bytes (BadPage bad) = (bad.file ≡ file) × (bad.page ≡ page) × (head_fault kind file page bytes ≡ Some bad.rule)
IsBad kind file page bytes NoMemory = ⊤

-- the same of the page that is cached, if there is one
abbrev pub IsCachedBad : FileKind → ℕ → ℕ → Option (Arc Page Global) → FetchErr → Type 0
IsCachedBad kind file page None e = e ≡ NoMemory
IsCachedBad kind file page (Some cached) e = IsBad kind file page (arc_value cached) e

-- an answer from the page that has these bytes: it, where its head breaks no rule
abbrev pub IsAnswer : FileKind → ℕ → ℕ → List ℕ → Result (Arc Page Global) FetchErr → Type 0
IsAnswer kind file page bytes result = MatchResult result (λ found. (arc_value found ≡ bytes) × (head_fault kind file page bytes ≡ None)) (IsBad kind file page bytes)

-- a page breaks the rule of the error first, and where pages are told, it is the one at this address
abbrev pub IsToldBad : Option (List (List ℕ)) → FileKind → ℕ → ℕ → ℕ → FetchErr → Type 0
IsToldBad told kind file page address (DriveFault d) = ⊤
IsToldBad told kind file page address (BadPage bad) =
    (bad.file ≡ file) × (bad.page ≡ page) × ((bytes : List ℕ) × IsTold told address bytes × (head_fault kind file page bytes ≡ Some bad.rule))
IsToldBad told kind file page address NoMemory = ⊤
