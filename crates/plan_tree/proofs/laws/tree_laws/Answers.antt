use Rattle.plan_tree.proofs.TreeAnswers.{answers, answers_over}
use Rattle.plan_tree.proofs.laws.tree_laws.Goals as goal

pub returns : goal.returns
returns c = record {
  tables = λ db q m t scanned ok tree h. answers db q ok m t scanned tree h;
  columns = λ db q m t columns scanned fit names tree h. answers_over db q m t columns scanned fit names tree h;
}
