use Rattle.key_index.specs.Aims.{passes}
use Rattle.key_index.proofs.Rules.{answer_cause, rank_rule}
use Rattle.key_index.proofs.descent.leaf_rank.Goals as goal

pub returns-clause-err : goal.returns-clause-err
returns-clause-err g c =
    answer_cause c.args.index.now _ _ _ c.args.page c.look_at_rank-looked.result c.answer_of.result _ _ c.answer_of.ensures c.requires.page c.look_at_rank-looked.ensures.rules (rank_rule c.args.index.now c.args.left (passes c.args.aim) c.bytes.result.now)
