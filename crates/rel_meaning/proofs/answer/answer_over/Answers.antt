use Rattle.std.proofs.Common.{◌∙◌, ap, IsSome}
use Rattle.rel_meaning.specs.Expression.{question_of, output_of}
use Rattle.rows.specs.Layouts.{column_type}
use Rattle.rel_meaning.specs.Typing.{type_of}
use Rattle.rel_meaning.specs.Meaning.{layout_over, listed}
use Rattle.rows.specs.Values.{arranged}
use Rattle.rel_meaning.proofs.Choices.{answers_are, joined_fit, all_from_map}
use Rattle.rel_meaning.proofs.answer.answer_over.Goals as goal

pub visit-requires-clause-rows : goal.visit-requires-clause-rows
visit-requires-clause-rows c =
    rw (c.new-front.ensures, c.items-2.ensures, c.in_ok-layout.ensures, c.items.ensures) (joined_fit c.args.db.now (listed c.args.columns.now) c.args.query.now.vars c.requires.asked.tables)

pub visit-requires-clause-targets : goal.visit-requires-clause-targets
visit-requires-clause-targets c =
    rw (c.in_ok-layout.ensures, c.items.ensures)
    (all_from_map (λ target. IsSome (type_of target.expr (column_type (layout_over (listed c.args.columns.now) 0 c.args.query.now.vars)))) output_of c.args.query.now.targets c.requires.asked.targets)

pub returns : goal.returns
returns c =
    let q = question_of c.args.query.now in
    c.from_vec.ensures ∙ c.in_ok-arrange_rows.ensures.ok ∙ rw c.items-3.ensures (ap (arranged q.unique q.keys)
    (c.in_ok-visit.ensures ∙ rw (c.new-rows.ensures.items, c.new-front.ensures, c.items-2.ensures, c.in_ok-layout.ensures, c.items.ensures) (answers_are c.args.db.now (listed c.args.columns.now) q c.requires.asked.tables)))
