-- Pages that a drive tells.
use Rattle.std.specs.Prelude.{◌≡◌, ℕ, List, slice_get, Option, Some}
use Rattle.std.specs.List.{Contains}
use Rattle.std.specs.Arc.{arc_value}
use Rattle.std.specs.declared.sync.Arc.{Arc}
use Rattle.std.specs.declared.alloc.Global.{Global}
use Rattle.heap_page.specs.declared.page.Page.{Page}

-- where pages are told, the one at this address has these bytes
abbrev pub IsTold : Option (List (List ℕ)) → ℕ → List ℕ → Type 0
IsTold told address bytes = (pages : List (List ℕ)) → told ≡ Some pages → slice_get pages address ≡ Some bytes

-- each cached page is the told one at its address
abbrev pub AreTold : Option (List (List ℕ)) → List (ℕ × Arc Page Global) → Type 0
AreTold told entries = (e : ℕ × Arc Page Global) → Contains entries e → IsTold told e.0 (arc_value e.1)
