-- A query over two tables, as trees and as fragments over stored files, computed.
use Rattle.std.proofs.Common.{◌≡◌, ℕ, pos, Bool, true, false, cond, ◌==◌, List, [], ◌∷◌, map, take, drop, refl, Some}
use Rattle.std.specs.Prelude.{codes}
use Rattle.rows.specs.declared.value.Value.{Value}
use Rattle.rows.specs.declared.value.Value.TheVariants.{Null, Number}
use Rattle.rows.specs.declared.field.ColType.TheVariants as col
use Rattle.rows.specs.declared.plain.Column.{Column}
use Rattle.rows.specs.declared.plain.KeyPair.{KeyPair}
use Rattle.rows.specs.declared.plain.LayoutPart.{LayoutPart}
use Rattle.rows.specs.RowBytes.{row_bytes}
use Rattle.rel_meaning.specs.Expression.{Expression, column, compare, Question, number}
use Rattle.rel_meaning.specs.declared.expr.CompareOp.TheVariants as op
use Rattle.rel_meaning.specs.declared.query.Table.{Table}
use Rattle.rel_meaning.specs.Meaning.{meaning, layout_column}
use Rattle.rows.specs.declared.plain.Bound.{Bound}
use Rattle.rows.specs.declared.plain.BoundOp.{BoundOp}
use Rattle.rows.specs.declared.plain.BoundOp.TheVariants as bounds
use Rattle.aggregate_op.specs.declared.fold.Fold.{Fold}
use Rattle.aggregate_op.specs.declared.fold.FoldOp.TheVariants.{Count}
use Rattle.aggregate_op.specs.declared.fold.FoldPlace.TheVariants.{Op}
use Rattle.plan_tree.specs.declared.tree.Method.TheVariants as method
use Rattle.plan_tree.specs.declared.tree.Way.TheVariants as way
use Rattle.plan_tree.specs.declared.fragment.Source.{Source}
use Rattle.plan_tree.specs.declared.fragment.Source.TheVariants as source
use Rattle.plan_tree.specs.Conjuncts.{conjuncts}
use Rattle.plan_tree.specs.Trees.{Shape, scan, join, IsPlaced, HasMethods}
use Rattle.plan_tree.specs.Combining.{merged}
use Rattle.rows.specs.Layouts.{one_part}
use Rattle.plan_tree.specs.Intervals.{interval_end, lower_end, rank_high, rank_low}
use Rattle.plan_tree.specs.Pieces.{Piece, Ending, building, answering, folding, sorting}
use Rattle.plan_tree.specs.Fragments.{Stored, values_of, value_at, rows_in}

-- employees with a number and the number of a department, one without a department, and departments with a number and a floor

abbrev column_named : List ℕ → Bool → Column
column_named name nullable = record { name = name; col_type = col.Int4; nullable = nullable }

abbrev pub emp_columns : List Column
emp_columns = column_named (codes "eno") false ∷ column_named (codes "dept") true ∷ []

abbrev pub dept_columns : List Column
dept_columns = column_named (codes "dno") true ∷ column_named (codes "floor") false ∷ []

abbrev emp_rows : List (List Value)
emp_rows = (Number (pos 1) ∷ Number (pos 20) ∷ []) ∷ (Number (pos 2) ∷ Number (pos 20) ∷ []) ∷ (Number (pos 3) ∷ Number (pos 10) ∷ []) ∷ (Number (pos 4) ∷ Null ∷ []) ∷ []

abbrev dept_rows : List (List Value)
dept_rows = (Number (pos 20) ∷ Number (pos 2) ∷ []) ∷ (Number (pos 10) ∷ Number (pos 1) ∷ []) ∷ (Null ∷ Number (pos 5) ∷ []) ∷ []

abbrev tables : List Table
tables = record { columns = emp_columns; rows = emp_rows } ∷ record { columns = dept_columns; rows = dept_rows } ∷ []

-- the number and the floor of employees, where the department is the same

abbrev same_department : Expression
same_department = compare op.Equal (column 0 1) (column 1 0)

abbrev question : Question
question = record {
  vars = record { name = codes "e"; relation = 0 } ∷ record { name = codes "d"; relation = 1 } ∷ [];
  targets = record { name = codes "eno"; expr = column 0 0 } ∷ record { name = codes "floor"; expr = column 1 1 } ∷ [];
  test = Some same_department;
  unique = false;
  keys = [];
}

abbrev key : KeyPair
key = record { build = record { var = 0; col = 1 }; probe = record { var = 1; col = 0 } }

abbrev answer : List (List Value)
answer = (Number (pos 1) ∷ Number (pos 2) ∷ []) ∷ (Number (pos 2) ∷ Number (pos 2) ∷ []) ∷ (Number (pos 3) ∷ Number (pos 1) ∷ []) ∷ []

answer_is : meaning tables question ≡ answer
answer_is = refl

-- its trees under both methods

abbrev hash_tree : Shape
hash_tree = join method.Hash (scan 0 way.Heap []) (scan 1 way.Heap []) (key ∷ []) []

abbrev merge_tree : Shape
merge_tree = join method.Merge (scan 0 way.Heap []) (scan 1 way.Heap []) (key ∷ []) []

hash_placed : IsPlaced (conjuncts question.test) true hash_tree
hash_placed = (refl, refl, refl, refl)

hash_method : HasMethods method.Hash hash_tree
hash_method = (tt, tt, refl)

merge_placed : IsPlaced (conjuncts question.test) true merge_tree
merge_placed = (refl, refl, refl, refl)

merge_method : HasMethods method.Merge merge_tree
merge_method = (tt, tt, refl)

-- two pages of employees, a page of departments, and an index of the departments

abbrev pages : ℕ → List (List (List ℕ))
pages file = cond (file == 0) (map (row_bytes emp_columns) (take 3 emp_rows) ∷ map (row_bytes emp_columns) (drop 3 emp_rows) ∷ []) (map (row_bytes dept_columns) dept_rows ∷ [])

abbrev files : Stored
files = record { pages = pages; entries = λ file. record { page = 0; slot = 1 } ∷ record { page = 0; slot = 0 } ∷ [] }

read_again : rows_in dept_columns (map (row_bytes dept_columns) dept_rows) ≡ dept_rows
read_again = refl

abbrev pub emp_layout : List LayoutPart
emp_layout = one_part 0 (map layout_column emp_columns)

abbrev pub dept_layout : List LayoutPart
dept_layout = one_part 1 (map layout_column dept_columns)

abbrev scanning : Source → List Column → List LayoutPart → Ending → ℕ → Piece
scanning from columns layout end positions = record {
  statement = 0;
  pipe = record { source = from; columns = columns; tests = []; probes = [] };
  end = end;
  layout = layout;
  positions = positions;
  pages = positions;
  time = 1;
}

abbrev answering_end : Ending
answering_end = answering question.targets question.unique question.keys

-- employees are built by their department, and departments probe them

abbrev pub hash_pieces : Source → ℕ → List Piece
hash_pieces from positions =
    scanning (source.Heap 0 0) emp_columns emp_layout (building (key.build ∷ [])) 2
    ∷ record {
      statement = 0;
      pipe = record { source = from; columns = dept_columns; tests = []; probes = record { input = 0; keys = key ∷ []; tests = []; layout = merged emp_layout dept_layout } ∷ [] };
      end = answering_end;
      layout = merged emp_layout dept_layout;
      positions = positions;
      pages = positions;
      time = 1;
    }
    ∷ []

hash_value : value_at (values_of files (hash_pieces (source.Heap 1 1) 1)) 1 ≡ answer
hash_value = refl

index_value : value_at (values_of files (hash_pieces (source.Index 1 (record { file = 2; key_type = col.Int4; entries = 2; pages = 1; height = 1; heap_pages = 1 }) 1 (record { from = 0; upto = 2 })) 2)) 1 ≡ answer
index_value = refl

-- both sides are sorted by their departments and merged

abbrev pub merge_pieces : List Piece
merge_pieces =
    scanning (source.Heap 0 0) emp_columns emp_layout (sorting (record { column = 1; down = false } ∷ [])) 2
    ∷ scanning (source.Heap 1 1) dept_columns dept_layout (sorting (record { column = 0; down = false } ∷ [])) 1
    ∷ scanning (source.Merge 0 1 (key ∷ []) emp_layout dept_layout) [] (merged emp_layout dept_layout) answering_end 64
    ∷ []

merge_value : value_at (values_of files merge_pieces) 2 ≡ answer
merge_value = refl

-- ---- a kept answer is scanned by a probe without keys

abbrev kept_layout : List LayoutPart
kept_layout = one_part 0 (layout_column (column_named (codes "floor") true) ∷ [])

-- how many there are, whatever the floor
abbrev counted : Fold
counted = record { groups = 0; ops = Count ∷ []; places = Op 0 ∷ [] }

abbrev pub kept_pieces : List Piece
kept_pieces =
    scanning (source.Heap 1 1) dept_columns dept_layout (answering ((record { name = codes "floor"; expr = column 1 1 }) ∷ []) true []) 1
    ∷ (
    record {
      statement = 1;
      pipe = record {
        source = source.One;
        columns = [];
        tests = [];
        probes = record { input = 0; keys = []; tests = compare op.More (column 0 0) (number (pos 1)) ∷ []; layout = kept_layout } ∷ [];
      };
      end = folding ((record { name = codes "floor"; expr = column 0 0 }) ∷ []) counted;
      layout = kept_layout;
      positions = 1;
      pages = 0;
      time = 1;
    }
    ) ∷ []

-- two floors are above 1
kept_value : value_at (values_of files kept_pieces) 1 ≡ (Number (pos 2) ∷ Number (pos 2) ∷ []) ∷ []
kept_value = refl

-- ---- the interval of bounds over the keys 5, 5, 7 and 9

abbrev number_keys : List Value
number_keys = Number (pos 5) ∷ Number (pos 5) ∷ Number (pos 7) ∷ Number (pos 9) ∷ []

abbrev bound : BoundOp → ℕ → Bound
bound o n = record { op = o; value = Number (pos n) }

low_ranks : map (λ n. rank_low (Number (pos n)) number_keys) (5 ∷ 6 ∷ 9 ∷ 10 ∷ []) ≡ 0 ∷ 2 ∷ 3 ∷ 4 ∷ []
low_ranks = refl

high_ranks : map (λ n. rank_high (Number (pos n)) number_keys) (5 ∷ 6 ∷ 9 ∷ 10 ∷ []) ≡ 2 ∷ 2 ∷ 4 ∷ 4 ∷ []
high_ranks = refl

abbrev interval : List Bound → List ℕ
interval limits = lower_end limits number_keys ∷ interval_end limits number_keys ∷ []

above_five : interval (bound bounds.More 5 ∷ bound bounds.AtMost 7 ∷ []) ≡ 2 ∷ 3 ∷ []
above_five = refl

none_between : interval (bound bounds.More 9 ∷ bound bounds.Less 5 ∷ []) ≡ 4 ∷ 4 ∷ []
none_between = refl
