use Rattle.std.proofs.lemmas.Result.{on_ok_weaker}
use Rattle.key_index.proofs.PageBytes.{above_put, leaf_put}
use Rattle.key_index.proofs.index_page.put_node.Goals as goal

pub returns-then-level-eq0 : goal.returns-then-level-eq0
returns-then-level-eq0 c =
    on_ok_weaker c.put_leaf_tail.result (λ e. leaf_put c.args.entries.now c.args.node c.args.level _ c.args.out.now.items _ c.put_leaf_tail.new.out.items c.requires.node.0 c.in_ok-put_value.ensures.ok c.if-level-eq0.true e) c.put_leaf_tail.ensures

pub returns-else-level-eq0 : goal.returns-else-level-eq0
returns-else-level-eq0 c =
    on_ok_weaker c.put_above_tail.result (λ e. above_put c.args.entries.now c.args.node c.args.level _ c.args.out.now.items _ c.put_above_tail.new.out.items c.requires.node.0 c.in_ok-put_value.ensures.ok c.if-level-eq0.false e) c.put_above_tail.ensures
