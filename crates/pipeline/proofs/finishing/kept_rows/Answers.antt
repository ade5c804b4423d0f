use Rattle.std.proofs.Common.{map, subst, sym}
use Rattle.std.specs.List.{AllByRecursion}
use Rattle.rows.specs.Layouts.{IsRowIn, column_in}
use Rattle.rel_meaning.specs.Expression.{expression_of}
use Rattle.plan_tree.specs.Conjuncts.{all_met}
use Rattle.plan_tree.proofs.Elements.{all_filter}
use Rattle.pipeline.proofs.Oks.{if_ok_more}
use Rattle.pipeline.proofs.finishing.kept_rows.Goals as goal

pub returns-clause-fit : goal.returns-clause-fit
returns-clause-fit c =
    if_ok_more c.tested_rows.result _ (AllByRecursion (IsRowIn c.args.layout.now))
    (λ found is. subst (AllByRecursion (IsRowIn c.args.layout.now)) (sym is) (all_filter (IsRowIn c.args.layout.now) (λ row. all_met (map expression_of c.args.tests.now) (column_in c.args.layout.now row)) c.args.rows c.requires.rows)) c.tested_rows.ensures
