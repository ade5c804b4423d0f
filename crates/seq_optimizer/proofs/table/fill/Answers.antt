use Rattle.std.proofs.Common.{arith, refl, ap, ℕ, ◌≡◌, ◌∙◌, ◌<◌, ◌+◌, ◌^◌, length}
use Rattle.std.proofs.lemmas.List.{length_push}
use Rattle.seq_optimizer.specs.Tables.{BestBelow, planned, split_price}
use Rattle.seq_optimizer.proofs.Filled.{below_one_more, settled_join, settled_scan}
use Rattle.seq_optimizer.proofs.Sets.{last_below, no_variable}
use Rattle.seq_optimizer.proofs.table.fill.Goals as goal

pub loop-before-init : goal.loop-before-init
loop-before-init c =
    let inv = c.loop-var.invariant in
    let w = planned c.args.planner.now in
    let table = c.loop-var.table.items in
    rw c.in_ok-push-2.ensures.items (record {
      len = length_push table c.best_scan.result ∙ ap (λ (n : ℕ). n + 1) inv.len;
      var = c.loop-var-test.true;
      settled = below_one_more w table c.best_scan.result (2 ^ c.loop-var.var) inv.len inv.settled (settled_scan w table c.best_scan.result c.loop-var.var (2 ^ c.loop-var.var) inv.len refl c.loop-var-test.true c.best_scan.ensures);
    })

pub larger-entry-requires-clause-set : goal.larger-entry-requires-clause-set
larger-entry-requires-clause-set c =
    let inv = c.loop-before.invariant in
    let room = last_below c.loop-var.var (length c.args.planner.now.stats.now) inv.var in
    let low : c.loop-before.before < 2 ^ c.loop-var.var = omega arith in
    let len : length c.as_slice.result.now ≡ 2 ^ c.loop-var.var + c.loop-before.before = ap length c.as_slice.ensures.value ∙ inv.len in
    (omega (arith, len), omega (arith, low, room))

pub loop-before-preserved : goal.loop-before-preserved
loop-before-preserved c =
    let inv = c.loop-before.invariant in
    let w = planned c.args.planner.now in
    let table = c.loop-before.table.items in
    let m = 2 ^ c.loop-var.var + c.loop-before.before in
    let low : c.loop-before.before < 2 ^ c.loop-var.var = omega arith in
    let next : 2 ^ c.loop-var.var + (c.loop-before.before + 1) ≡ 2 ^ c.loop-var.var + c.loop-before.before + 1 = omega arith in
    let best : BestBelow (split_price w table m) m m c.larger-entry.result = rw c.as_slice.ensures.value at c.larger-entry.ensures in
    let one = settled_join w table c.larger-entry.result m inv.len inv.settled best (λ v e. no_variable v c.loop-var.var c.loop-before.before c.loop-before.auto.before low e) in
    rw (c.in_ok-push-3.ensures.items, next) (record {
      len = length_push table c.larger-entry.result ∙ ap (λ (n : ℕ). n + 1) inv.len;
      var = inv.var;
      settled = below_one_more w table c.larger-entry.result m inv.len inv.settled one;
    })
