use Rattle.std.proofs.Common.{◌≡◌, ◌+◌, ◌<◌, ◌≤◌, ℕ, List, length, get_or, sym, ap, subst, ◌∙◌, arith, flat_map}
use Rattle.std.specs.Prelude.{slice_range, IfOk}
use Rattle.std.specs.List.{All}
use Rattle.key_index.specs.Bytes.{item_bytes, page_of}
use Rattle.key_index.specs.Entries.{Item}
use Rattle.key_index.specs.declared.node.Node.{Node}
use Rattle.key_index.specs.Nodes.{IsNode, node_items}
use Rattle.key_index.proofs.Nodes.{base_small, number_small}
use Rattle.key_index.proofs.Drives.{in_order, items_are, part_few, part_fits, part_nodes, within}
use Rattle.key_index.proofs.writing.level_page.Goals as goal

pub overflow_cast-number : goal.overflow_cast-number
overflow_cast-number c = omega (arith, c.requires.place, base_small c.args.entries.now c.args.level.now c.requires.level c.requires.keys c.requires.few)

pub overflow_add-number : goal.overflow_add-number
overflow_add-number c = omega (arith, c.requires.place, base_small c.args.entries.now c.args.level.now c.requires.level c.requires.keys c.requires.few)

pub page_with-requires-clause-level : goal.page_with-requires-clause-level
page_with-requires-clause-level c = omega (arith, number_small c.args.entries.now c.args.level.now c.requires.level c.requires.keys c.requires.few)

pub part-requires-clause-order : goal.part-requires-clause-order
part-requires-clause-order c = in_order c.args.entries.now c.args.level.now c.requires.level c.requires.keys c.args.place (get_or c.as_slice-starts.result.now c.args.place 0) c.end_of-upto.result 0 c.requires.place (ap (λ (ss : List ℕ). get_or ss c.args.place 0) c.as_slice-starts.ensures.value) c.end_of-upto.ensures

pub part-requires-clause-within : goal.part-requires-clause-within
part-requires-clause-within c = omega (arith, within c.args.entries.now c.args.level.now c.requires.level c.requires.keys c.args.place (get_or c.as_slice-starts.result.now c.args.place 0) c.end_of-upto.result 0 c.requires.place (ap (λ (ss : List ℕ). get_or ss c.args.place 0) c.as_slice-starts.ensures.value) c.end_of-upto.ensures, ap length c.as_slice-nodes.ensures.value)

pub page_with-requires-clause-nodes : goal.page_with-requires-clause-nodes
page_with-requires-clause-nodes c =
    let e = c.part.ensures ∙ ap (λ (ns : List Node). slice_range ns (get_or c.as_slice-starts.result.now c.args.place 0) c.end_of-upto.result) c.as_slice-nodes.ensures.value in
    subst (λ (ns : List Node). All (IsNode c.args.entries.now) ns) (sym e) (part_nodes c.args.entries.now c.args.level.now c.requires.level c.requires.keys c.args.place (get_or c.as_slice-starts.result.now c.args.place 0) c.end_of-upto.result 0 c.requires.place (ap (λ (ss : List ℕ). get_or ss c.args.place 0) c.as_slice-starts.ensures.value) c.end_of-upto.ensures)

pub page_with-requires-clause-few : goal.page_with-requires-clause-few
page_with-requires-clause-few c =
    let e = c.part.ensures ∙ ap (λ (ns : List Node). slice_range ns (get_or c.as_slice-starts.result.now c.args.place 0) c.end_of-upto.result) c.as_slice-nodes.ensures.value in
    subst (λ (ns : List Node). length ns < 65536) (sym e) (part_few c.args.entries.now c.args.level.now c.requires.level c.requires.keys c.args.place (get_or c.as_slice-starts.result.now c.args.place 0) c.end_of-upto.result 0 c.requires.place (ap (λ (ss : List ℕ). get_or ss c.args.place 0) c.as_slice-starts.ensures.value) c.end_of-upto.ensures)

pub page_with-requires-clause-fits : goal.page_with-requires-clause-fits
page_with-requires-clause-fits c =
    let e = c.part.ensures ∙ ap (λ (ns : List Node). slice_range ns (get_or c.as_slice-starts.result.now c.args.place 0) c.end_of-upto.result) c.as_slice-nodes.ensures.value in
    subst (λ (ns : List Node). length (flat_map (item_bytes c.args.level.now.number) (node_items c.args.entries.now ns)) ≤ 8172) (sym e) (part_fits c.args.entries.now c.args.level.now c.requires.level c.requires.keys c.args.place (get_or c.as_slice-starts.result.now c.args.place 0) c.end_of-upto.result 0 c.requires.place (ap (λ (ss : List ℕ). get_or ss c.args.place 0) c.as_slice-starts.ensures.value) c.end_of-upto.ensures)

pub returns : goal.returns
returns c =
    let e = c.part.ensures ∙ ap (λ (ns : List Node). slice_range ns (get_or c.as_slice-starts.result.now c.args.place 0) c.end_of-upto.result) c.as_slice-nodes.ensures.value in
    let same = ap (node_items c.args.entries.now) e ∙ items_are c.args.entries.now c.args.level.now c.requires.level c.requires.keys c.args.place (get_or c.as_slice-starts.result.now c.args.place 0) c.end_of-upto.result 0 c.requires.place (ap (λ (ss : List ℕ). get_or ss c.args.place 0) c.as_slice-starts.ensures.value) c.end_of-upto.ensures in
    subst (λ (b : List Item). IfOk c.page_with.result (λ page. page ≡ page_of c.args.file (c.args.level.now.base + c.args.place) c.args.level.now.number b)) same c.page_with.ensures
