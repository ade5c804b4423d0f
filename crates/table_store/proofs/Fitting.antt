-- The first items of some each fit an empty page.
use Rattle.std.proofs.Common.{◌≡◌, ℕ, ◌+◌, ◌≤◌, List, length, take, Some, sym, subst}
use Rattle.std.specs.List.{All}
use Rattle.std.specs.Prelude.{slice_get}
use Rattle.std.proofs.lemmas.List.{take_all}
use Rattle.std.proofs.lemmas.List.Elements.{All-push}
use Rattle.heap_page.specs.Blocks.{FitsAlone}
use Rattle.table_store.proofs.Encoded.{take_one}

pub one_fits : (items : List (List ℕ)) (i : ℕ) (x : List ℕ) → slice_get items i ≡ Some x → length x ≤ 8168 → All FitsAlone (take i items) → All FitsAlone (take (i + 1) items)
one_fits items i x at fit h = subst (All FitsAlone) (sym (take_one items i x at)) (All-push FitsAlone (take i items) x h fit)

pub all_fit : (items : List (List ℕ)) (i : ℕ) → length items ≤ i → All FitsAlone (take i items) → All FitsAlone items
all_fit items i le h = subst (All FitsAlone) (take_all i items le) h
