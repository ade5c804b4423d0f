use Rattle.std.proofs.Common.{◌≡◌, length, vec_len, ap, arith}
use Rattle.heap_page.proofs.Itemised.{length-pieces}
use Rattle.heap_page.proofs.items.ItemList.is_empty.Goals as goal

pub returns : goal.returns
returns c =
    let n : vec_len c.self.inside.ends ≡ length c.args.self.now = omega (arith, length-pieces c.self.inside.bytes.items 0 c.self.inside.ends.items, ap length c.self.view_is) in
    rw (← n) c.is_empty.ensures
