use Rattle.std.proofs.Common.{◌≡◌}
use Rattle.key_index.specs.Aims.{chosen, first_of, upto_number}
use Rattle.key_index.proofs.Looks.{told_page}
use Rattle.key_index.proofs.Passing.{taken}
use Rattle.key_index.proofs.Rules.{answer_cause, entry_rule}
use Rattle.key_index.proofs.descent.leaf_entry.Goals as goal

pub returns-clause-told : goal.returns-clause-told
returns-clause-told g c = λ f items is h front same.
    taken c.args.index.now.file c.args.page c.look_at_entry-looked.result c.answer_of.result (λ at. (at.0 ≡ (chosen (upto_number c.args.number) (first_of items) items).page) × (at.1 ≡ (chosen (upto_number c.args.number) (first_of items) items).slot)) c.answer_of.ensures
    (c.look_at_entry-looked.ensures.told c.args.page items (told_page c.args.index.now 0 c.args.left c.args.page (f c.args.index.now.file c.args.page) _ _ c.bytes.result.now items (c.in_ok-found.ensures.told f is) c.deref.ensures c.bytes.ensures.value h) front same)

pub returns-clause-err : goal.returns-clause-err
returns-clause-err g c =
    answer_cause c.args.index.now _ _ _ c.args.page c.look_at_entry-looked.result c.answer_of.result _ _ c.answer_of.ensures c.requires.page c.look_at_entry-looked.ensures.rules (entry_rule c.args.index.now c.args.left c.args.number c.bytes.result.now)
