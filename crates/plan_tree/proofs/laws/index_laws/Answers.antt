use Rattle.plan_tree.proofs.IndexReads.{index_reads}
use Rattle.plan_tree.proofs.laws.index_laws.Goals as goal

pub returns : goal.returns
returns c = λ layout v k tests bounds rows entries some all are. index_reads layout v k tests bounds rows entries some all are
