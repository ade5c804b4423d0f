use Rattle.std.proofs.Common.{◌+◌, ◌<◌, ℕ, List, length, ap, ap₂, subst, ◌∙◌, arith}
use Rattle.key_index.specs.declared.node.Node.{Node}
use Rattle.key_index.specs.Nodes.{level_blocks, nodes_over, starts_of}
use Rattle.key_index.proofs.Nodes.{above_is, above_nodes, base_small, inside, length-over, number_small, shrinks}
use Rattle.key_index.proofs.level.level_above.Goals as goal

pub overflow_cast-base : goal.overflow_cast-base
overflow_cast-base c = let b = base_small c.args.entries.now c.args.level.now c.requires.level c.requires.keys c.requires.few in omega (arith, b, c.len.ensures)

pub overflow_add-base : goal.overflow_add-base
overflow_add-base c = let b = base_small c.args.entries.now c.args.level.now c.requires.level c.requires.keys c.requires.few in omega (arith, b, c.len.ensures)

pub overflow_add-number : goal.overflow_add-number
overflow_add-number c = let b = number_small c.args.entries.now c.args.level.now c.requires.level c.requires.keys c.requires.few in omega (arith, b)

pub over-requires-clause-inside : goal.over-requires-clause-inside
over-requires-clause-inside c = λ k d lt.
    let h = inside c.args.entries.now c.args.level.now c.requires.level c.requires.keys in
    rw (c.deref.ensures.value, c.deref-2.ensures.value) (h k d (subst (λ (ss : List ℕ). k < length ss) c.deref-2.ensures.value lt))

pub over-requires-clause-small : goal.over-requires-clause-small
over-requires-clause-small c = let b = base_small c.args.entries.now c.args.level.now c.requires.level c.requires.keys c.requires.few in omega (arith, b, ap length c.deref-2.ensures.value)

pub cut-requires-clause-nodes : goal.cut-requires-clause-nodes
cut-requires-clause-nodes c =
    above_nodes c.args.entries.now c.args.level.now c.requires.level c.requires.keys c.deref-3.result.now
    (c.deref-3.ensures.value ∙ (c.in_ok-nodes.ensures ∙ ap₂ (λ (ns : List Node) (ss : List ℕ). nodes_over c.args.level.now.base ns ss) c.deref.ensures.value c.deref-2.ensures.value))

pub cut-requires-clause-some : goal.cut-requires-clause-some
cut-requires-clause-some c =
    let e = ap length (c.deref-3.ensures.value ∙ c.in_ok-nodes.ensures) in
    omega (arith, e, length-over c.args.level.now.base c.deref.result.now c.deref-2.result.now, ap length c.deref-2.ensures.value, c.requires.several)

pub cut-requires-clause-few : goal.cut-requires-clause-few
cut-requires-clause-few c =
    let e = ap length (c.deref-3.ensures.value ∙ c.in_ok-nodes.ensures) in
    omega (arith, e, length-over c.args.level.now.base c.deref.result.now c.deref-2.result.now, ap length c.deref-2.ensures.value, base_small c.args.entries.now c.args.level.now c.requires.level c.requires.keys c.requires.few)

pub returns-clause-above : goal.returns-clause-above
returns-clause-above c =
    let nodes_are = c.in_ok-nodes.ensures ∙ ap₂ (λ (ns : List Node) (ss : List ℕ). nodes_over c.args.level.now.base ns ss) c.deref.ensures.value c.deref-2.ensures.value in
    above_is c.args.entries.now c.args.level.now c.requires.level c.requires.keys c.in_ok-nodes.nodes c.in_ok-starts.starts (c.args.level.now.number + 1) (c.args.level.now.base + c.len.result) c.requires.several (omega arith) (omega (arith, c.len.ensures)) nodes_are
    (c.in_ok-starts.ensures ∙ ap (λ (ns : List Node). starts_of 0 (level_blocks c.args.entries.now ns (c.args.level.now.number + 1))) c.deref-3.ensures.value)

pub returns-clause-fewer : goal.returns-clause-fewer
returns-clause-fewer c =
    let e = ap length c.in_ok-nodes.ensures in
    omega (arith, e, length-over c.args.level.now.base c.deref.result.now c.deref-2.result.now, ap length c.deref-2.ensures.value, shrinks c.args.entries.now c.args.level.now c.requires.level c.requires.keys c.requires.several)
