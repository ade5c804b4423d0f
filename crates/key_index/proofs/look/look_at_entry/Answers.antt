use Rattle.std.proofs.Common.{refl, sym, ap, ◌∙◌, arith}
use Rattle.key_index.specs.Aims.{seen_item}
use Rattle.key_index.specs.Entries.{Item}
use Rattle.key_index.specs.declared.aim.Aim.TheVariants.{Number}
use Rattle.key_index.proofs.Looks.{at_start, used, leads_on, last_told}
use Rattle.key_index.proofs.look.look_at_entry.Goals as goal
use Rattle.key_index.proofs.look.look_at_entry.Goals.{then-step-from-via-then-step-from, then-step-from-via-else-step-from+then-step-index}

pub returns-then-step-from-clause-told : goal.returns-then-step-from-clause-told
returns-then-step-from-clause-told c = λ page items h front same.
    let here = last_told c.args.index.now 0 c.args.left (Number c.args.number) c.args.bytes.now c.in_ok-step.step (at_start c.args.index.now 0 c.from.result c.args.left (Number c.args.number) c.args.bytes.now c.in_ok-step.step c.from.ensures c.in_ok-step.ensures) page items h front in
    let leads = leads_on c.args.index.now 0 c.args.left (Number c.args.number) c.args.bytes.now c.in_ok-step.step (at_start c.args.index.now 0 c.from.result c.args.left (Number c.args.number) c.args.bytes.now c.in_ok-step.step c.from.ensures c.in_ok-step.ensures) page items h in
    elim c.then-step-from.branch [
      | then-step-from-via-then-step-from w ↦ absurd (w.if-step-from.true (ap (λ (x : Item). x.left) here ∙ (same ∙ sym c.from-2.ensures)))
      | then-step-from-via-else-step-from+then-step-index w ↦ absurd (omega (arith, leads, w.if-step-index.true))
    ]

pub returns-clause-rules : goal.returns-clause-rules
returns-clause-rules c = record {
  e = seen_item c.in_ok-step.step.entry;
  uses = used c.args.index.now 0 c.args.left (Number c.args.number) c.args.bytes.now c.in_ok-step.step (at_start c.args.index.now 0 c.from.result c.args.left (Number c.args.number) c.args.bytes.now c.in_ok-step.step c.from.ensures c.in_ok-step.ensures);
  asked = omega (arith, c.from-2.ensures, c.if-step-from.false);
  page = refl;
  slot = refl;
  leads = omega (arith, c.if-step-index.false);
}

pub returns-clause-told : goal.returns-clause-told
returns-clause-told c = λ page items h front same.
    let here = last_told c.args.index.now 0 c.args.left (Number c.args.number) c.args.bytes.now c.in_ok-step.step (at_start c.args.index.now 0 c.from.result c.args.left (Number c.args.number) c.args.bytes.now c.in_ok-step.step c.from.ensures c.in_ok-step.ensures) page items h front in
    (ap (λ (x : Item). x.page) here, ap (λ (x : Item). x.slot) here)
