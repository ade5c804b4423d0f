-- The lines of fragments and of plans, one at a time.
use Rattle.std.proofs.Common.{◌≡◌, ℕ, ◌+◌, ◌<◌, List, ◌∷◌, ◌++◌, length, map, drop, get_or, sym, ap, ◌∙◌, append_assoc, add-one}
use Rattle.std.specs.Option.{option_map}
use Rattle.std.proofs.Math.Seq.{drop-cons}
use Rattle.std.proofs.lemmas.Option.{slice_get-map, slice_get-get_or}
use Rattle.rows.specs.declared.plain.Machine.{Machine}
use Rattle.plan_tree.specs.declared.fragment.Fragment.{Fragment}
use Rattle.plan_tree.specs.declared.tree.Plan.{Plan}
use Rattle.plan_tree.specs.Explained.{explained, fragment_lines, line_if, statement_lines}
use Rattle.plan_tree.specs.Pieces.{Piece, piece_of, pieces_of}
use Rattle.plan_tree.specs.Views.{planned_of}
use Rattle.plan_tree.specs.WellFormed.{AreWellFormed, IsTimed}

drop_is : {X : Type 0} (xs : List X) (n : ℕ) (x : X) → n < length xs → x ≡ get_or xs n x → drop n xs ≡ x ∷ drop (n + 1) xs
drop_is xs n x h is = drop-cons xs n x h ∙ (λ i. sym is i ∷ drop (sym (add-one n) i) xs)

pub fragment_step : (machine : Machine) (statement : ℕ) (fragments : List Fragment) (n : ℕ) (f : Fragment) (out : List ℕ) → n < length fragments → f ≡ get_or fragments n f →
    (out ++ line_if machine statement n (piece_of f)) ++ fragment_lines machine statement (n + 1) (pieces_of (drop (n + 1) fragments)) ≡ out ++ fragment_lines machine statement n (pieces_of (drop n fragments))
fragment_step machine statement fragments n f out h is =
    append_assoc out (line_if machine statement n (piece_of f)) (fragment_lines machine statement (n + 1) (pieces_of (drop (n + 1) fragments)))
    ∙ ap (λ fs. out ++ fragment_lines machine statement n (pieces_of fs)) (sym (drop_is fragments n f h is))

pub plan_step : (machine : Machine) (pieces : List Piece) (plans : List Plan) (n : ℕ) (plan : Plan) (out : List ℕ) → n < length plans → plan ≡ get_or plans n plan →
    (out ++ statement_lines machine pieces n (planned_of plan)) ++ explained machine pieces (n + 1) (map planned_of (drop (n + 1) plans)) ≡ out ++ explained machine pieces n (map planned_of (drop n plans))
plan_step machine pieces plans n plan out h is =
    append_assoc out (statement_lines machine pieces n (planned_of plan)) (explained machine pieces (n + 1) (map planned_of (drop (n + 1) plans)))
    ∙ ap (λ ps. out ++ explained machine pieces n (map planned_of ps)) (sym (drop_is plans n plan h is))

pub timed : (fragments : List Fragment) → AreWellFormed (pieces_of fragments) → (k : ℕ) (d : Fragment) → k < length fragments → IsTimed (get_or fragments k d).pages (get_or fragments k d).time
timed fragments w k d h = (w.each k (piece_of (get_or fragments k d)) (slice_get-map piece_of fragments k ∙ ap (option_map piece_of) (slice_get-get_or fragments k d h))).timed
