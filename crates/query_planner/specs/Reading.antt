-- The rows that each way to read a variable of a query gives, where its tables are stored.
use Rattle.std.specs.Prelude.{ℕ, ◌-◌, List, [], take, drop, Option, Some, None, slice_get, slice_index_or}
use Rattle.std.specs.List.{flat_map}
use Rattle.std.specs.Option.{option_and_then, option_to_list}
use Rattle.rows.specs.declared.plain.Column.{Column}
use Rattle.rows.specs.declared.plain.Interval.{Interval}
use Rattle.rows.specs.declared.plain.KeyEntry.{KeyEntry}
use Rattle.rows.specs.declared.value.Value.{Value}
use Rattle.rows.specs.RowFields.{row_in}
use Rattle.rel_meaning.specs.declared.query.Table.{Table}
use Rattle.rel_meaning.specs.declared.query.Var.{Var}
use Rattle.rel_meaning.specs.Expression.{Question}
use Rattle.plan_tree.specs.declared.tree.Way.{Way}
use Rattle.plan_tree.specs.declared.tree.Way.TheVariants as way
use Rattle.plan_tree.specs.Assignments.{rows_for}
use Rattle.table_store.specs.declared.files.StoredIndex.{StoredIndex}
use Rattle.table_store.specs.declared.files.StoredTable.{StoredTable}
use Rattle.table_store.specs.Files.{table_blocks}

-- the bytes to which an entry of an index leads: the item at its page and slot
abbrev pub entry_item : List (List (List ℕ)) → KeyEntry → Option (List ℕ)
entry_item blocks entry = slice_get (slice_index_or blocks entry.page []) entry.slot

-- the row whose bytes they are
abbrev pub entry_row : List Column → List (List (List ℕ)) → KeyEntry → Option (List Value)
entry_row columns blocks entry = option_and_then (row_in columns) (entry_item blocks entry)

-- the rows to which entries lead, in the order of the entries
abbrev pub entry_rows : List Column → List (List (List ℕ)) → List KeyEntry → List (List Value)
entry_rows columns blocks entries = flat_map (λ entry. option_to_list (entry_row columns blocks entry)) entries

-- the entries in an interval
abbrev pub entries_in : Interval → List KeyEntry → List KeyEntry
entries_in interval entries = take (interval.upto - interval.from) (drop interval.from entries)

-- the rows of the entries in an interval of a table's index; none where there is no index
abbrev pub index_rows : List Column → StoredTable → Interval → Option StoredIndex → List (List Value)
index_rows columns stored interval None = []
index_rows columns stored interval (Some index) = entry_rows columns (table_blocks stored) (entries_in interval index.entries)

-- the same of the index of a table that may be there
abbrev pub table_rows : Option Table → Option StoredTable → Interval → List (List Value)
table_rows None stored interval = []
table_rows (Some table) None interval = []
table_rows (Some table) (Some stored) interval = index_rows table.columns stored interval stored.index

-- the same of a variable's table
abbrev pub var_rows : List Table → List StoredTable → Option Var → Interval → List (List Value)
var_rows db tables None interval = []
var_rows db tables (Some var) interval = table_rows (slice_get db var.relation) (slice_get tables var.relation) interval

-- What a scan of a variable reads: by the heap file all rows of its relation's table, and by the index the rows to
-- which the entries in the interval lead.
abbrev pub read_by : List Table → List StoredTable → Question → ℕ → Way → List (List Value)
read_by db tables q v way.Heap = rows_for db q.vars v
read_by db tables q v (way.Index interval) = var_rows db tables (slice_get q.vars v) interval
