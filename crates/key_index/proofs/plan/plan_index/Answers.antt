use Rattle.std.proofs.Common.{◌+◌, List, sym, subst, ◌∙◌, refl, arith, eqb-true}
use Rattle.rows.specs.declared.plain.KeyEntry.{KeyEntry}
use Rattle.key_index.specs.Nodes.{IsLevel}
use Rattle.key_index.proofs.Nodes.{base_small, keys_of, number_small, planned, planned_none}
use Rattle.key_index.proofs.plan.plan_index.Goals as goal

pub returns-then-is_empty : goal.returns-then-is_empty
returns-then-is_empty c =
    planned_none c.args.key_type c.args.file c.args.heap_pages c.len.result c.args.entries.now (eqb-true _ _ (sym c.is_empty.ensures ∙ c.if-is_empty.true)) c.len.ensures

pub overflow_add-index : goal.overflow_add-index
overflow_add-index c =
    let h = subst (λ (es : List KeyEntry). IsLevel es c.in_ok-root.root) c.items.ensures c.in_ok-root.ensures.level in
    let b = base_small c.args.entries.now c.in_ok-root.root h (keys_of c.args.key_type c.args.heap_pages c.args.entries.now c.requires.each) c.requires.few in
    omega (arith, b)

pub overflow_add-index-2 : goal.overflow_add-index-2
overflow_add-index-2 c =
    let h = subst (λ (es : List KeyEntry). IsLevel es c.in_ok-root.root) c.items.ensures c.in_ok-root.ensures.level in
    let b = number_small c.args.entries.now c.in_ok-root.root h (keys_of c.args.key_type c.args.heap_pages c.args.entries.now c.requires.each) c.requires.few in
    omega (arith, b)

pub returns : goal.returns
returns c =
    let h = subst (λ (es : List KeyEntry). IsLevel es c.in_ok-root.root) c.items.ensures c.in_ok-root.ensures.level in
    planned c.args.key_type c.args.file c.args.heap_pages c.args.entries.now c.in_ok-root.root c.len.result (c.in_ok-root.root.base + 1) (c.in_ok-root.root.number + 1) h c.requires c.in_ok-root.ensures.root c.len.ensures refl refl
