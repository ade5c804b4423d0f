use Rattle.plan_tree.proofs.Positions.{entries_read, merge_probes, merge_whole, pages_read}
use Rattle.plan_tree.proofs.laws.position_laws.Goals as goal

pub returns : goal.returns
returns c = record {
  pages = λ stored file columns rows bytes few are same. pages_read columns stored file rows bytes few are same;
  entries = λ stored heap_file file columns rows from count same. entries_read columns stored heap_file file rows same from count;
  slices = λ first second keys left right. merge_whole first second keys right left;
  merge = λ first second keys left right. merge_probes first second keys right left;
}
