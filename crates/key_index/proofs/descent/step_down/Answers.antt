use Rattle.std.proofs.Common.{◌≡◌}
use Rattle.key_index.specs.Aims.{chosen, first_of, passes}
use Rattle.key_index.proofs.Looks.{told_page}
use Rattle.key_index.proofs.Passing.{taken}
use Rattle.key_index.proofs.Rules.{answer_cause, above_rule}
use Rattle.key_index.proofs.descent.step_down.Goals as goal

pub returns-clause-told : goal.returns-clause-told
returns-clause-told g c = λ f items is h front.
    taken c.args.index.now.file c.args.page c.look_above-looked.result c.answer_of.result (λ next. (next.0 ≡ (chosen (passes c.args.aim) (first_of items) items).page) × (next.1 ≡ (chosen (passes c.args.aim) (first_of items) items).left)) c.answer_of.ensures
    (c.look_above-looked.ensures.told c.args.page items (told_page c.args.index.now c.args.level c.args.left c.args.page (f c.args.index.now.file c.args.page) _ _ c.bytes.result.now items (c.in_ok-found.ensures.told f is) c.deref.ensures c.bytes.ensures.value h) front)

pub returns-clause-err : goal.returns-clause-err
returns-clause-err g c =
    answer_cause c.args.index.now _ _ _ c.args.page c.look_above-looked.result c.answer_of.result _ _ c.answer_of.ensures c.requires.page c.look_above-looked.ensures.rules (above_rule c.args.index.now c.args.level c.args.left (passes c.args.aim) c.bytes.result.now)
