-- The rows of a slice of a merge are rows of the layout of both sides.
use Rattle.std.proofs.Common.{List, ℕ, map}
use Rattle.std.specs.List.{AllByRecursion, filter}
use Rattle.rows.specs.declared.value.Value.{Value}
use Rattle.rows.specs.declared.plain.KeyPair.{KeyPair}
use Rattle.rows.specs.declared.plain.LayoutPart.{LayoutPart}
use Rattle.rows.specs.Keys.{keys_match}
use Rattle.rows.specs.Layouts.{IsRowIn}
use Rattle.plan_tree.specs.Combining.{AreApart, IsOrdered, combined, merged}
use Rattle.plan_tree.specs.Fragments.{matched, slice_of}
use Rattle.plan_tree.proofs.Combined.{distinct_merged, part_of_merged}
use Rattle.plan_tree.proofs.Elements.{all_filter, all_flat, all_map, all_slice}
use Rattle.plan_tree.proofs.Shapes.{distinct_ordered}
use Rattle.plan_tree.proofs.Typing.{combined_fits}

pub matched_fits : (first second : List LayoutPart) (keys : List KeyPair) → IsOrdered first → IsOrdered second → AreApart first second → (left right : List (List Value)) →
    AllByRecursion (IsRowIn first) left → AllByRecursion (IsRowIn second) right → (p : ℕ) → AllByRecursion (IsRowIn (merged first second)) (matched first second keys (slice_of p left) right)
matched_fits first second keys up_first up_second apart left right left_fits right_fits p =
    let ld = distinct_ordered first up_first in
    let parts = part_of_merged first second apart ld in
    let distinct = distinct_merged first second apart ld (distinct_ordered second up_second) in
    all_flat (IsRowIn first) (IsRowIn (merged first second)) _
    (λ a fa. all_map (IsRowIn second) (IsRowIn (merged first second)) (λ b. combined (merged first second) first second a b)
    (λ b fb. combined_fits (merged first second) first second parts distinct a b fa fb) _ (all_filter (IsRowIn second) (λ b. keys_match first second keys a b) right right_fits))
    _ (all_slice (IsRowIn first) p left left_fits)
