-- The queries of the tests over one relation of integers, and what the first of them keeps.
use Rattle.std.specs.Prelude.{true, false, ℕ, pos, List, [], ◌∷◌, map, Option, None, Some}
use Rattle.kept_relations.specs.declared.kept.Kept.{Kept}
use Rattle.rel_meaning.specs.declared.expr.CompareOp.TheVariants as op
use Rattle.rel_meaning.specs.Expression as ex
use Rattle.rel_meaning.specs.Expression.{Expression, Question}
use Rattle.rel_meaning.specs.Meaning.{layout_column}
use Rattle.rows.specs.declared.field.ColType.TheVariants as col
use Rattle.rows.specs.declared.plain.Column.{Column}
use Rattle.rows.specs.declared.plain.LayoutColumn.{LayoutColumn}

abbrev pub number_columns : List Column
number_columns = record { name = 110 ∷ []; col_type = col.Int4; nullable = false } ∷ []

abbrev pub number_layouts : List (List LayoutColumn)
number_layouts = map layout_column number_columns ∷ []

-- the column of one variable over a relation, where it passes a test
abbrev pub asked : ℕ → Option Expression → Question
asked relation test = record {
  vars = record { name = []; relation = relation } ∷ [];
  targets = record { name = []; expr = ex.column 0 0 } ∷ [];
  test = test;
  unique = false;
  keys = [];
}

-- a number above 995
abbrev pub above : Expression
above = ex.compare op.More (ex.column 0 0) (ex.number (pos 995))

-- one with a bound, one without, and one of what the first one keeps
abbrev pub sample : List Question
sample = asked 0 (Some above) ∷ asked 0 None ∷ asked 1 None ∷ []

abbrev pub sample_kept : Kept
sample_kept = record {
  name = [];
  statement = 0;
  columns = record { name = []; col_type = col.Int4; nullable = true } ∷ [];
  bounds = 2147483648 ∷ [];
}
