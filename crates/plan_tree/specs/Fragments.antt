-- What each fragment of a script gives over the stored files.
use Rattle.std.specs.Prelude.{ℕ, ◌+◌, ◌-◌, ◌*◌, ◌/◌, not, false, List, [], ◌∷◌, ◌++◌, map, length, take, drop, filter, Option, slice_get, slice_index_or}
use Rattle.std.specs.List.{flat_map, range_with_len}
use Rattle.std.specs.Option.{option_to_list, option_and_then}
use Rattle.rows.specs.declared.value.Value.{Value}
use Rattle.rows.specs.declared.plain.Column.{Column}
use Rattle.rows.specs.declared.plain.KeyPair.{KeyPair}
use Rattle.rows.specs.declared.plain.LayoutPart.{LayoutPart}
use Rattle.rows.specs.Values.{arranged}
use Rattle.rows.specs.RowFields.{row_in}
use Rattle.rel_meaning.specs.Expression.{Output}
use Rattle.rows.specs.Layouts.{column_in, one_part}
use Rattle.rel_meaning.specs.Meaning.{layout_column, project}
use Rattle.aggregate_op.specs.Partials.{partial}
use Rattle.plan_tree.specs.declared.fragment.Source.{Source}
use Rattle.plan_tree.specs.declared.fragment.Source.TheVariants as source
use Rattle.plan_tree.specs.Combining.{has_part, merged, combined}
use Rattle.plan_tree.specs.Rows.{kept, probed}
use Rattle.rows.specs.Keys.{keys_match}
use Rattle.plan_tree.specs.Pieces.{Probing, Piping, Ending, building, answering, folding, sorting, Piece}

-- ---- stored files

-- the heap page and the slot of an index's entry
pub record EntryPlace : Type 0 where
  pub page : ℕ
  pub slot : ℕ

-- by the number of a file: the pages of a heap file, each as the bytes of its items, and the entries of an index file in order
pub record Stored : Type 0 where
  pub pages : ℕ → List (List (List ℕ))
  pub entries : ℕ → List EntryPlace

-- a page of a heap file
abbrev pub page_items : Stored → ℕ → ℕ → List (List ℕ)
page_items stored file page = slice_index_or (stored.pages file) page []

-- the rows whose bytes these items are
abbrev pub rows_in : List Column → List (List ℕ) → List (List Value)
rows_in columns items = flat_map (λ item. option_to_list (row_in columns item)) items

-- the bytes to which an entry leads
abbrev pub entry_item : Stored → ℕ → EntryPlace → Option (List ℕ)
entry_item stored heap_file at = slice_get (page_items stored heap_file at.page) at.slot

-- the row whose bytes an entry leads to
abbrev pub row_at : Stored → List Column → ℕ → EntryPlace → Option (List Value)
row_at stored columns heap_file at = option_and_then (row_in columns) (entry_item stored heap_file at)

-- the row of an entry by its number
abbrev pub entry_row : Stored → List Column → ℕ → ℕ → ℕ → Option (List Value)
entry_row stored columns heap_file file entry = option_and_then (row_at stored columns heap_file) (slice_get (stored.entries file) entry)

-- ---- merges

-- a merge's left side is read in so many slices of nearly equal length
abbrev pub merge_slices : ℕ
merge_slices = 64

-- the place of the first row of a slice
abbrev pub slice_start : ℕ → ℕ → ℕ
slice_start rows slice = slice * rows / merge_slices

abbrev pub slice_of : ℕ → List (List Value) → List (List Value)
slice_of slice rows = take (slice_start (length rows) (slice + 1) - slice_start (length rows) slice) (drop (slice_start (length rows) slice) rows)

-- each left row with each right row that has its keys, in the order of the left rows and then of the right ones
abbrev pub matched : List LayoutPart → List LayoutPart → List KeyPair → List (List Value) → List (List Value) → List (List Value)
matched first second keys left right = flat_map (λ a. map (λ b. combined (merged first second) first second a b) (filter (λ b. keys_match first second keys a b) right)) left

-- ---- the rows of a position

-- the value of an earlier fragment
abbrev pub value_at : List (List (List Value)) → ℕ → List (List Value)
value_at values n = slice_index_or values n []

-- the layout of a source's rows
abbrev pub source_layout : Source → List Column → List LayoutPart
source_layout source.One columns = []
source_layout (source.Heap var file) columns = one_part var (map layout_column columns)
source_layout (source.Index var index heap_file interval) columns = one_part var (map layout_column columns)
source_layout (source.Merge left right keys left_layout right_layout) columns = merged left_layout right_layout

-- the rows with which a position begins
abbrev pub begun : Stored → List (List (List Value)) → Source → List Column → ℕ → List (List Value)
begun stored values source.One columns p = [] ∷ []
begun stored values (source.Heap var file) columns p = rows_in columns (page_items stored file p)
begun stored values (source.Index var index heap_file interval) columns p = option_to_list (entry_row stored columns heap_file index.file (interval.from + p))
begun stored values (source.Merge left right keys left_layout right_layout) columns p = matched left_layout right_layout keys (slice_of p (value_at values left)) (value_at values right)

-- the parts of a layout that were not there before
abbrev pub added : List LayoutPart → List LayoutPart → List LayoutPart
added before after = filter (λ part. not (has_part before part.var)) after

-- the rows after a probe: each row with the rows of the input that have its keys, in the input's order, where the tests are true
abbrev pub after_probe : List (List (List Value)) → List LayoutPart → Probing → List (List Value) → List (List Value)
after_probe values layout p rows = kept p.layout p.tests (probed p.layout (added layout p.layout) layout p.keys (value_at values p.input) rows)

-- the rows after all probes
abbrev pub through : List (List (List Value)) → List LayoutPart → List Probing → List (List Value) → List (List Value)
through values layout [] rows = rows
through values layout (p ∷ ps) rows = through values p.layout ps (after_probe values layout p rows)

-- the rows of a position before the end
abbrev pub piped : Stored → List (List (List Value)) → Piping → ℕ → List (List Value)
piped stored values pipe p =
    let layout = source_layout pipe.source pipe.columns in through values layout pipe.probes (kept layout pipe.tests (begun stored values pipe.source pipe.columns p))

-- ---- the ends

abbrev pub targets_of : List Output → List LayoutPart → List (List Value) → List (List Value)
targets_of targets layout rows = map (λ row. project targets (column_in layout row)) rows

-- the values of the targets, where the end has targets
abbrev pub projected : Ending → List LayoutPart → List (List Value) → List (List Value)
projected (building keys) layout rows = rows
projected (answering targets unique keys) layout rows = targets_of targets layout rows
projected (folding targets fold) layout rows = targets_of targets layout rows
projected (sorting keys) layout rows = rows

-- what a position gives of its rows
abbrev pub given : Ending → List (List Value) → List (List Value)
given (building keys) rows = rows
given (answering targets unique keys) rows = rows
given (folding targets fold) rows = partial fold rows
given (sorting keys) rows = rows

-- what all rows become: an answer in its order, rows in the order of a merge, or what is known of their groups
abbrev pub ended : Ending → List (List Value) → List (List Value)
ended (building keys) rows = rows
ended (answering targets unique keys) rows = arranged unique keys rows
ended (folding targets fold) rows = partial fold rows
ended (sorting keys) rows = arranged false keys rows

-- ---- fragments

-- the rows of a position, as the end takes them
abbrev pub position_rows : Stored → List (List (List Value)) → Piece → ℕ → List (List Value)
position_rows stored values piece p = projected piece.end piece.layout (piped stored values piece.pipe p)

-- what a position of a fragment gives, where the earlier fragments have these values
abbrev pub out : Stored → List (List (List Value)) → Piece → ℕ → List (List Value)
out stored values piece p = given piece.end (position_rows stored values piece p)

-- the rows of all positions, in order
abbrev pub all_rows : Stored → List (List (List Value)) → Piece → List (List Value)
all_rows stored values piece = flat_map (position_rows stored values piece) (range_with_len 0 piece.positions)

-- the value of a fragment, where the earlier fragments have these values
abbrev pub value_of : Stored → List (List (List Value)) → Piece → List (List Value)
value_of stored values piece = ended piece.end (all_rows stored values piece)

-- the values of fragments, behind those of the earlier ones
abbrev pub values_after : Stored → List (List (List Value)) → List Piece → List (List (List Value))
values_after stored values [] = values
values_after stored values (piece ∷ pieces) = values_after stored (values ++ value_of stored values piece ∷ []) pieces

-- the values of the fragments of a list
abbrev pub values_of : Stored → List Piece → List (List (List Value))
values_of stored pieces = values_after stored [] pieces
