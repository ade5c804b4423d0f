-- Kept relations by their names.
use Rattle.std.specs.Prelude.{ℕ, ◌==◌, List, Option, position}
use Rattle.std.specs.Cmp.Lexicographic.{pointwise}
use Rattle.kept_relations.specs.declared.kept.Kept.{Kept}

-- the place of the kept relation of a name, and none exactly where there is none
abbrev pub place_named : List ℕ → List Kept → Option ℕ
place_named name kept = position (λ k. pointwise ◌==◌ k.name name) kept
