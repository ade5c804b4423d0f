use Rattle.std.proofs.Common.{length, ap, arith}
use Rattle.heap_page.proofs.Itemised.{length-pieces}
use Rattle.heap_page.proofs.items.ItemList.len.Goals as goal

pub returns : goal.returns
returns c = omega (arith, length-pieces c.self.inside.bytes.items 0 c.self.inside.ends.items, ap length c.self.view_is)
