-- The columns of a layout from a place on.
use Rattle.std.proofs.Common.{◌≡◌, ℕ, ◌+◌, suc, zero, List, [], ◌∷◌, ◌++◌, Some, drop, slice_get, sym, ap, ◌∙◌, append_assoc, arith}
use Rattle.rows.specs.declared.plain.Column.{Column}
use Rattle.rows.specs.declared.plain.LayoutColumn.{LayoutColumn}
use Rattle.kept_relations.specs.KeptColumns.{kept_columns}

from_place : (columns : List Column) (bounds : List ℕ) (place : ℕ) (column : Column) (bound : ℕ) → slice_get columns place ≡ Some column → slice_get bounds place ≡ Some bound →
    kept_columns (drop place columns) (drop place bounds) ≡ record { col_type = column.col_type; bound = bound } ∷ kept_columns (drop (suc place) columns) (drop (suc place) bounds)
from_place [] bounds place column bound e f = cc
from_place (c ∷ cs) [] place column bound e f = cc
from_place (c ∷ cs) (b ∷ bs) zero column bound e f =
    let i : c ≡ column = cc in
    let j : b ≡ bound = cc in
    λ k. record { col_type = (i k).col_type; bound = j k } ∷ kept_columns cs bs
from_place (c ∷ cs) (b ∷ bs) (suc place) column bound e f = from_place cs bs place column bound e f

pub one_more : (front : List LayoutColumn) (columns : List Column) (bounds : List ℕ) (place : ℕ) (column : Column) (bound : ℕ) → slice_get columns place ≡ Some column → slice_get bounds place ≡ Some bound →
    (front ++ record { col_type = column.col_type; bound = bound } ∷ []) ++ kept_columns (drop (place + 1) columns) (drop (place + 1) bounds) ≡ front ++ kept_columns (drop place columns) (drop place bounds)
one_more front columns bounds place column bound e f =
    let n : suc place ≡ place + 1 = omega arith in
    append_assoc front (record { col_type = column.col_type; bound = bound } ∷ []) (kept_columns (drop (place + 1) columns) (drop (place + 1) bounds))
    ∙ ap (λ k. front ++ record { col_type = column.col_type; bound = bound } ∷ kept_columns (drop k columns) (drop k bounds)) (sym n)
    ∙ ap (λ t. front ++ t) (sym (from_place columns bounds place column bound e f))
