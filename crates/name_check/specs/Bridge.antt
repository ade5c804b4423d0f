-- The layout of a query's range variables over relations.
use Rattle.std.specs.Prelude.{ℕ, ◌+◌, List, [], ◌∷◌, map, Some}
use Rattle.rel_meaning.specs.declared.query.Var.{Var}
use Rattle.rows.specs.declared.plain.LayoutColumn.{LayoutColumn}
use Rattle.rows.specs.declared.plain.LayoutPart.{LayoutPart}
use Rattle.name_check.specs.declared.heading.Heading.{Heading}
use Rattle.name_check.specs.Faults.{var_columns}

abbrev pub layouts_of : List Heading → Var → List LayoutColumn
layouts_of headings v = map (λ c. c.layout) (var_columns headings (Some v))

abbrev pub layout_from : List Heading → ℕ → List Var → List LayoutPart
layout_from headings number [] = []
layout_from headings number (v ∷ vs) = record { var = number; columns = layouts_of headings v } ∷ layout_from headings (number + 1) vs
