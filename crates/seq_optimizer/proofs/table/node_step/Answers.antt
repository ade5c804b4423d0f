use Rattle.std.proofs.Common.{arith, ◌∙◌, refl, map, ◌+◌}
use Rattle.seq_optimizer.specs.Compared.{expression_at}
use Rattle.seq_optimizer.specs.Tables.{node_step}
use Rattle.seq_optimizer.proofs.Sizes.{size_read, sizes_many}
use Rattle.seq_optimizer.proofs.table.node_step.Goals as goal

pub bounds-planner-first : goal.bounds-planner-first
bounds-planner-first c =
    let many = sizes_many (map expression_at c.args.planner.now.conjuncts.now) c.args.planner.now.stats.now c.args.planner.now.sizes.now c.requires.planner.sizes in
    omega (arith, c.requires.sets)

pub bounds-planner-second : goal.bounds-planner-second
bounds-planner-second c =
    let many = sizes_many (map expression_at c.args.planner.now.conjuncts.now) c.args.planner.now.stats.now c.args.planner.now.sizes.now c.requires.planner.sizes in
    omega (arith, c.requires.sets)

pub bounds-planner-first-2 : goal.bounds-planner-first-2
bounds-planner-first-2 c =
    let many = sizes_many (map expression_at c.args.planner.now.conjuncts.now) c.args.planner.now.stats.now c.args.planner.now.sizes.now c.requires.planner.sizes in
    omega (arith, c.requires.sets)

pub returns-clause-value : goal.returns-clause-value
unfolding node_step
returns-clause-value c =
    let cs = map expression_at c.args.planner.now.conjuncts.now in
    let stats = c.args.planner.now.stats.now in
    let sizes = c.args.planner.now.sizes.now in
    let a = size_read cs stats sizes c.args.first c.requires.planner.sizes (omega (arith, c.requires.sets)) in
    let b = size_read cs stats sizes c.args.second c.requires.planner.sizes (omega (arith, c.requires.sets)) in
    let both = size_read cs stats sizes (c.args.first + c.args.second) c.requires.planner.sizes c.requires.sets in
    c.step_cost.ensures.value ∙ rw (c.kind_of-kind.ensures, a, b, both) refl
