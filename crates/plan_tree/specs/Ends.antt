-- Fragments by their source and their end.
use Rattle.std.specs.Prelude.{Bool, true, false, ⊤}
use Rattle.aggregate_op.specs.declared.fold.Fold.{Fold}
use Rattle.plan_tree.specs.declared.fragment.Source.{Source}
use Rattle.plan_tree.specs.declared.fragment.Source.TheVariants as source
use Rattle.plan_tree.specs.declared.fragment.End.{End}
use Rattle.plan_tree.specs.declared.fragment.End.TheVariants as end
use Rattle.plan_tree.specs.declared.fragment.Fragment.{Fragment}

-- whether the positions are entries of an index or slices of a merge
abbrev pub is_by_entries : Source → Bool
is_by_entries source.One = false
is_by_entries (source.Heap var file) = false
is_by_entries (source.Index var index heap_file interval) = true
is_by_entries (source.Merge left right keys left_layout right_layout) = true

abbrev pub IsAnswer : End → Type 0
IsAnswer (end.Build keys) = ⊥
IsAnswer (end.Answer targets unique keys) = ⊤
IsAnswer (end.Fold targets fold) = ⊥
IsAnswer (end.Sort keys) = ⊥

-- an answer's targets, folded
abbrev pub end_with : End → Fold → End
end_with (end.Build keys) fold = end.Build keys
end_with (end.Answer targets unique keys) fold = end.Fold targets fold
end_with (end.Fold targets other) fold = end.Fold targets other
end_with (end.Sort keys) fold = end.Sort keys

abbrev pub fragment_with : Fragment → Fold → Fragment
fragment_with f fold = record {
  statement = f.statement;
  pipe = f.pipe;
  end = end_with f.end fold;
  layout = f.layout;
  positions = f.positions;
  pages = f.pages;
  time = f.time;
}
