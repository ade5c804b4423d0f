use Rattle.query_planner.proofs.OneList.{one_database, one_list, one_table}
use Rattle.query_planner.proofs.laws.one_plan_list.Goals as goal

pub returns : goal.returns
returns c = record {
  stored = λ relations db tables others count h k.
      one_database relations db tables others count h k;
  counted = λ relations tables kept qs table other count may h k.
      one_table relations tables kept qs count may table other h k;
  plans = λ relations db tables others kept m qs table other ps rs count may h k best second.
      one_list relations db tables others kept m qs table other ps rs count may h k best second;
}
