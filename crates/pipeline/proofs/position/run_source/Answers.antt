use Rattle.std.proofs.Common.{◌≡◌, ◌∙◌, ◌+◌, ◌<◌, ◌∷◌, None, [], ap, arith, map, subst, sym}
use Rattle.heap_page.specs.Pages.{items_of}
use Rattle.rel_meaning.specs.Expression.{expression_of}
use Rattle.plan_tree.specs.Fragments.{matched, position_rows, slice_of, value_at}
use Rattle.plan_tree.specs.Combining.{merged}
use Rattle.plan_tree.specs.Inputs.{probe_inputs}
use Rattle.plan_tree.specs.Rows.{kept}
use Rattle.hash_join.specs.Table.{Table, rows_of}
use Rattle.std.proofs.lemmas.List.{take_rest}
use Rattle.plan_tree.specs.Pieces.{ending_of, piece_of, probing_of}
use Rattle.plan_tree.specs.declared.fragment.Source.TheVariants as source
use Rattle.pipeline.specs.Ends.{CanFinish, IsPartOf, led_to_end}
use Rattle.pipeline.specs.Images.{StoresRead}
use Rattle.pipeline.specs.Positions.{ReadsFine}
use Rattle.pipeline.specs.Probes.{AreValues}
use Rattle.pipeline.specs.Scans.{passing, scan_fault, scanned}
use Rattle.pipeline.proofs.Formed.{can_heap, can_index, can_merge, can_one, entry_begun, entry_within, heap_values, index_values, merge_all, merge_inputs, one_values, part_moved, rest_is, rows_at, stored_entry}
use Rattle.pipeline.proofs.Oks.{if_ok_more}
use Rattle.pipeline.proofs.position.run_source.Goals as goal

pub run_one-requires-clause-can : goal.run_one-requires-clause-can
run_one-requires-clause-can g c =
    let piece = piece_of c.args.fragment.now in
    subst (λ xs. CanFinish [] piece (map (λ x. x.value) xs)) (sym c.items.ensures) (can_one piece (map (λ x. x.value) c.args.inputs.now) c.requires.formed c.requires.inputs c.in-One.is)

pub run_page-requires-clause-can : goal.run_page-requires-clause-can
run_page-requires-clause-can g c =
    let piece = piece_of c.args.fragment.now in
    subst (λ xs. CanFinish (scanned c.in-Heap.var c.args.fragment.now.pipe.columns) piece (map (λ x. x.value) xs)) (sym c.items-in-Heap.ensures)
    (can_heap piece (map (λ x. x.value) c.args.inputs.now) c.requires.formed c.requires.inputs c.in-Heap.var c.in-Heap.file c.in-Heap.is)

pub overflow_add-number : goal.overflow_add-number
overflow_add-number g c =
    let within = entry_within c.requires.formed.before (piece_of c.args.fragment.now) c.args.position c.in-Index.var c.in-Index.index c.in-Index.heap_file c.in-Index.interval c.requires.formed.is c.in-Index.is c.requires.position in
    omega (arith, within.0)

pub run_index-requires-clause-can : goal.run_index-requires-clause-can
run_index-requires-clause-can g c =
    let piece = piece_of c.args.fragment.now in
    subst (λ xs. CanFinish (scanned c.in-Index.var c.args.fragment.now.pipe.columns) piece (map (λ x. x.value) xs)) (sym c.items-in-Index.ensures)
    (can_index piece (map (λ x. x.value) c.args.inputs.now) c.requires.formed c.requires.inputs c.in-Index.var c.in-Index.index c.in-Index.heap_file c.in-Index.interval c.in-Index.is)

pub returns-in_ok-run_one-in-One-clause-rows : goal.returns-in_ok-run_one-in-One-clause-rows
returns-in_ok-run_one-in-One-clause-rows g c = λ image stored values is reads are.
    let piece = piece_of c.args.fragment.now in
    let all = subst (λ xs. AreValues values (map probing_of c.args.fragment.now.pipe.probes) (map (λ x. x.value) xs)) (sym c.items.ensures) (one_values values piece (map (λ x. x.value) c.args.inputs.now) are c.in-One.is) in
    part_moved piece.end _ (position_rows stored values piece c.args.position) c.in_ok-run_one-in-One.field-0 (rows_at stored values piece c.args.position source.One c.in-One.is) (c.in_ok-run_one-in-One.ensures.output values all)

pub returns-in-Heap-clause-fine : goal.returns-in-Heap-clause-fine
returns-in-Heap-clause-fine g c = λ image is.
    if_ok_more c.run_page.result (λ rows. scan_fault c.args.fragment.now.pipe.columns c.in-Heap.file c.args.position (image c.in-Heap.file c.args.position) ≡ None)
    (λ rows. ReadsFine c.args.fragment.now.pipe.source c.args.fragment.now.pipe.columns image c.args.position)
    (λ rows fine. subst (λ s. ReadsFine s c.args.fragment.now.pipe.columns image c.args.position) (sym c.in-Heap.is) fine) (c.run_page.ensures.fine image is)

pub returns-in-Heap-clause-rows : goal.returns-in-Heap-clause-rows
returns-in-Heap-clause-rows g c = λ image stored values is reads are.
    let piece = piece_of c.args.fragment.now in
    let columns = c.args.fragment.now.pipe.columns in
    let tests = map expression_of c.args.fragment.now.pipe.tests in
    let var = c.in-Heap.var in
    let at = (subst (λ s. StoresRead image stored c.args.fragment.now.positions s) c.in-Heap.is reads) c.args.position c.requires.position in
    let all = subst (λ xs. AreValues values (map probing_of c.args.fragment.now.pipe.probes) (map (λ x. x.value) xs)) (sym c.items-in-Heap.ensures) (heap_values values piece (map (λ x. x.value) c.args.inputs.now) are var c.in-Heap.file c.in-Heap.is) in
    if_ok_more c.run_page.result _ (IsPartOf piece.end (position_rows stored values piece c.args.position))
    (λ found told. part_moved piece.end _ (position_rows stored values piece c.args.position) found
    (ap (λ items. led_to_end values piece (scanned var columns) (passing (scanned var columns) columns tests items)) (sym at) ∙ rows_at stored values piece c.args.position (source.Heap var c.in-Heap.file) c.in-Heap.is) told)
    (c.run_page.ensures.told image values is all)

pub returns-in-Index-clause-rows : goal.returns-in-Index-clause-rows
returns-in-Index-clause-rows g c = λ image stored values is reads are.
    let piece = piece_of c.args.fragment.now in
    let columns = c.args.fragment.now.pipe.columns in
    let tests = map expression_of c.args.fragment.now.pipe.tests in
    let var = c.in-Index.var in
    let index = c.in-Index.index in
    let heap_file = c.in-Index.heap_file in
    let interval = c.in-Index.interval in
    let s = source.Index var index heap_file interval in
    let within = entry_within c.requires.formed.before piece c.args.position var index heap_file interval c.requires.formed.is c.in-Index.is c.requires.position in
    let told = subst (λ s. StoresRead image stored c.args.fragment.now.positions s) c.in-Index.is reads in
    let entry = stored_entry image stored index heap_file (interval.from + c.args.position) told.0 told.1 (omega (arith, within.0, within.1)) in
    let all = subst (λ xs. AreValues values (map probing_of c.args.fragment.now.pipe.probes) (map (λ x. x.value) xs)) (sym c.items-in-Index.ensures) (index_values values piece (map (λ x. x.value) c.args.inputs.now) are var index heap_file interval c.in-Index.is) in
    if_ok_more c.run_index.result _ (IsPartOf piece.end (position_rows stored values piece c.args.position))
    (λ found told. part_moved piece.end _ (position_rows stored values piece c.args.position) found
    (ap (led_to_end values piece (scanned var columns)) (entry_begun stored values var index heap_file interval columns tests c.args.position entry.e (items_of (image heap_file entry.e.page)) entry.lies entry.items)
    ∙ rows_at stored values piece c.args.position s c.in-Index.is) told)
    (c.run_index.ensures.told image entry.entries entry.e values is entry.holds entry.here all)

pub run_merge-requires-clause-can : goal.run_merge-requires-clause-can
run_merge-requires-clause-can g c =
    let piece = piece_of c.args.fragment.now in
    let m = c.in-Merge in
    subst (CanFinish (merged m.left_layout m.right_layout) piece) (rest_is (λ x. x.value) c.items-in-Merge.result.now c.args.inputs.now c.items-in-Merge.ensures)
    (can_merge piece (map (λ x. x.value) c.args.inputs.now) c.requires.formed c.requires.inputs m.left m.right m.keys m.left_layout m.right_layout m.is)

pub returns-in_ok-run_merge-in-Merge-clause-rows : goal.returns-in_ok-run_merge-in-Merge-clause-rows
returns-in_ok-run_merge-in-Merge-clause-rows g c = λ image stored values is reads are.
    let piece = piece_of c.args.fragment.now in
    let m = c.in-Merge in
    let first = m.left_layout in
    let second = m.right_layout in
    let tests = map expression_of c.args.fragment.now.pipe.tests in
    let probes = map probing_of c.args.fragment.now.pipe.probes in
    let items = c.items-in-Merge.result.now in
    let inputs = merge_inputs values piece (map (λ x. x.value) c.args.inputs.now) m.left m.right m.keys first second are m.is in
    let all = merge_all (λ x. x.value) values m.left m.right probes items c.left-item.result c.right-item.result c.in-len2-up.len_at_least c.left-item.is c.right-item.is
    (subst (λ xs. map (value_at values) (m.left ∷ m.right ∷ probe_inputs probes) ≡ map (λ (t : Table). rows_of t.lists) (map (λ x. x.value) xs)) (sym c.items-in-Merge.ensures) inputs) in
    let rest = subst (λ xs. AreValues values probes (map (λ x. x.value) xs)) (sym (take_rest items 2)) all.2 in
    let l : rows_of c.deref.result.now.lists ≡ value_at values m.left = ap (λ (t : Table). rows_of t.lists) c.deref.ensures ∙ sym all.0 in
    let r : rows_of c.deref-in-Merge.result.now.lists ≡ value_at values m.right = ap (λ (t : Table). rows_of t.lists) c.deref-in-Merge.ensures ∙ sym all.1 in
    part_moved piece.end _ (position_rows stored values piece c.args.position) c.in_ok-run_merge-in-Merge.field-0
    ((λ i. led_to_end values piece (merged first second) (kept (merged first second) tests (matched first second m.keys (slice_of c.args.position (l i)) (r i))))
    ∙ rows_at stored values piece c.args.position (source.Merge m.left m.right m.keys first second) m.is)
    (c.in_ok-run_merge-in-Merge.ensures.output values rest)
