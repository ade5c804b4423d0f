use Rattle.std.proofs.Common.{List, length, sym, ap, subst, ◌∙◌, arith}
use Rattle.std.specs.List.{All}
use Rattle.key_index.specs.declared.node.Node.{Node}
use Rattle.key_index.specs.Nodes.{IsNode, level_blocks, starts_of}
use Rattle.key_index.proofs.Nodes.{first_is, leaves_nodes, length-leaves}
use Rattle.key_index.proofs.level.first_level.Goals as goal

pub cut-requires-clause-nodes : goal.cut-requires-clause-nodes
cut-requires-clause-nodes c = subst (λ (ns : List Node). All (IsNode c.args.entries.now) ns) (sym (c.deref.ensures.value ∙ c.in_ok-nodes.ensures)) (leaves_nodes c.args.entries.now c.requires.slots)

pub cut-requires-clause-some : goal.cut-requires-clause-some
cut-requires-clause-some c = omega (arith, ap length (c.deref.ensures.value ∙ c.in_ok-nodes.ensures), length-leaves 0 c.args.entries.now, c.requires.some)

pub cut-requires-clause-few : goal.cut-requires-clause-few
cut-requires-clause-few c = omega (arith, ap length (c.deref.ensures.value ∙ c.in_ok-nodes.ensures), length-leaves 0 c.args.entries.now, c.requires.few)

pub returns-clause-level : goal.returns-clause-level
returns-clause-level c = first_is c.args.entries.now c.in_ok-nodes.nodes c.in_ok-starts.starts c.requires.some c.requires.slots c.in_ok-nodes.ensures (c.in_ok-starts.ensures ∙ ap (λ (ns : List Node). starts_of 0 (level_blocks c.args.entries.now ns 0)) c.deref.ensures.value)
