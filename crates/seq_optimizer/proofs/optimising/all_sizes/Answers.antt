use Rattle.std.proofs.Common.{arith, ◌≡◌, ◌∙◌, ap, sym, ℕ, List}
use Rattle.std.specs.Option.{option_map}
use Rattle.std.proofs.lemmas.List.FromFn.{map-range_with_len_more}
use Rattle.rel_meaning.specs.Expression.{expression_of}
use Rattle.plan_tree.specs.Conjuncts.{conjuncts}
use Rattle.seq_optimizer.specs.Estimates.{set_size, variable_sizes}
use Rattle.seq_optimizer.specs.Sets.{in_set}
use Rattle.seq_optimizer.proofs.optimising.all_sizes.Goals as goal

pub loop-set-preserved : goal.loop-set-preserved
loop-set-preserved c =
    let cs = conjuncts (option_map expression_of c.args.test.now) in
    let size = λ (s : ℕ). set_size cs (variable_sizes cs c.args.stats.now) (in_set s) in
    let here : c.set_size.result ≡ size c.loop-set.set = c.set_size.ensures ∙ ap (λ (ns : List ℕ). set_size cs ns (in_set c.loop-set.set)) c.fill_sizes.ensures in
    rw (c.in_ok-push.ensures.items, c.loop-set.invariant, here) (sym (map-range_with_len_more size 0 c.loop-set.set c.loop-set.set (omega arith)))
