use Rattle.std.proofs.Common.{◌∙◌, ap, sym, ◌++◌, [], List, Option, map, take}
use Rattle.rows.specs.declared.plain.KeyPair.{KeyPair}
use Rattle.plan_tree.specs.Keys.{key_of, keys_of, with_key}
use Rattle.seq_optimizer.specs.Compared.{expression_at}
use Rattle.seq_optimizer.specs.Sets.{in_set}
use Rattle.seq_optimizer.proofs.Walks.{keys_more}
use Rattle.seq_optimizer.proofs.placing.join_keys.Goals as goal

pub loop-conjunct-preserved : goal.loop-conjunct-preserved
loop-conjunct-preserved c =
    let first = in_set c.args.first in
    let second = in_set c.args.second in
    let before = keys_of first second (map expression_at (take c.loop-conjunct.conjunct-index c.args.conjuncts.now)) in
    let more = keys_more first second c.args.conjuncts.now c.loop-conjunct.conjunct-index c.conjunct-item.result c.loop-conjunct-test.true in
    c.in_ok-put_key.ensures ∙ ap (λ (ks : List KeyPair). ks ++ with_key c.key_of.result []) c.loop-conjunct.invariant
    ∙ ap (λ (o : Option KeyPair). before ++ with_key o []) c.key_of.ensures
    ∙ ap (λ x. before ++ with_key (key_of first second (expression_at x)) []) c.conjunct-item.is ∙ sym more
