use Rattle.std.proofs.Common.{◌≡◌, ◌+◌, length, vec_len, arith}
use Rattle.std.proofs.lemmas.List.{length-append}
use Rattle.heap_page.proofs.Itemised.{pushed, ascend_more}
use Rattle.heap_page.proofs.items.ItemList.push.Goals as goal

pub invariant_of-self-2 : goal.invariant_of-self-2
invariant_of-self-2 c =
    let n : vec_len c.extend_from_slice.new.self ≡ length c.self.inside.bytes.items + length c.args.item.now = omega (arith, c.in_ok-extend_from_slice.ensures.len) in
    rw (c.push_reserved.ensures.items, c.len.ensures, n, c.in_ok-extend_from_slice.ensures.items, c.reserve.ensures.items, length-append c.self.inside.bytes.items c.args.item.now)
    (ascend_more 0 c.self.inside.ends.items (length c.self.inside.bytes.items) (length c.args.item.now) c.self.invariant)

pub returns-clause-ok : goal.returns-clause-ok
returns-clause-ok c =
    let n : vec_len c.extend_from_slice.new.self ≡ length c.self.inside.bytes.items + length c.args.item.now = omega (arith, c.in_ok-extend_from_slice.ensures.len) in
    rw (← c.self.view_is, c.push_reserved.ensures.items, c.len.ensures, n, c.in_ok-extend_from_slice.ensures.items, c.reserve.ensures.items)
    (pushed c.self.inside.bytes.items c.args.item.now 0 c.self.inside.ends.items c.self.invariant)
