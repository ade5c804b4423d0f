use Rattle.std.proofs.Common.{◌<◌, ℕ, List, length, get_or, ap, arith}
use Rattle.heap_page.proofs.Itemised.{length-pieces, piece, piece_within}
use Rattle.heap_page.proofs.items.ItemList.get.Goals as goal

pub start_of-start-requires : goal.start_of-start-requires
start_of-start-requires c = omega (arith, length-pieces c.self.inside.bytes.items 0 c.self.inside.ends.items, ap length c.self.view_is, c.as_slice-ends.ensures.len)

pub bounds-ends-number : goal.bounds-ends-number
bounds-ends-number c = omega (arith, length-pieces c.self.inside.bytes.items 0 c.self.inside.ends.items, ap length c.self.view_is, c.as_slice-ends.ensures.len)

pub offset_bounds-ends-number : goal.offset_bounds-ends-number
offset_bounds-ends-number c = omega (arith, length-pieces c.self.inside.bytes.items 0 c.self.inside.ends.items, ap length c.self.view_is, c.as_slice-ends.ensures.len)

pub slice_bounds-result-count : goal.slice_bounds-result-count
slice_bounds-result-count c =
    let n : c.args.number < length c.self.inside.ends.items = omega (arith, length-pieces c.self.inside.bytes.items 0 c.self.inside.ends.items, ap length c.self.view_is) in
    let start = rw c.as_slice-ends.ensures.value at c.start_of-start.ensures in
    rw (start, c.as_slice-ends.ensures.value) (piece_within 0 c.self.inside.ends.items (length c.self.inside.bytes.items) c.args.number c.self.invariant n).0

pub slice_bounds-result-start : goal.slice_bounds-result-start
slice_bounds-result-start c =
    let n : c.args.number < length c.self.inside.ends.items = omega (arith, length-pieces c.self.inside.bytes.items 0 c.self.inside.ends.items, ap length c.self.view_is) in
    let within = piece_within 0 c.self.inside.ends.items (length c.self.inside.bytes.items) c.args.number c.self.invariant n in
    let start = rw c.as_slice-ends.ensures.value at c.start_of-start.ensures in
    let end = ap (λ (es : List ℕ). get_or es c.args.number 0) c.as_slice-ends.ensures.value in
    omega (arith, within, start, end, c.deref.ensures.len)

pub slice_bounds-result-end : goal.slice_bounds-result-end
slice_bounds-result-end c =
    let n : c.args.number < length c.self.inside.ends.items = omega (arith, length-pieces c.self.inside.bytes.items 0 c.self.inside.ends.items, ap length c.self.view_is) in
    let within = piece_within 0 c.self.inside.ends.items (length c.self.inside.bytes.items) c.args.number c.self.invariant n in
    let start = rw c.as_slice-ends.ensures.value at c.start_of-start.ensures in
    let end = ap (λ (es : List ℕ). get_or es c.args.number 0) c.as_slice-ends.ensures.value in
    omega (arith, within, start, end, c.deref.ensures.len)

pub returns : goal.returns
returns c =
    let n : c.args.number < length c.self.inside.ends.items = omega (arith, length-pieces c.self.inside.bytes.items 0 c.self.inside.ends.items, ap length c.self.view_is) in
    let start = rw c.as_slice-ends.ensures.value at c.start_of-start.ensures in
    rw (← c.self.view_is, start, c.as_slice-ends.ensures.value, c.deref.ensures.value) (piece c.self.inside.bytes.items 0 c.self.inside.ends.items c.args.number n)
