use Rattle.xprs_top.proofs.OneJob.{one_job}
use Rattle.xprs_top.proofs.OneText.{one_text}
use Rattle.xprs_top.proofs.laws.one_text.Goals as goal

pub returns : goal.returns
returns c = record {
  job = λ files request found other h k. one_job files request found other h k;
  text = λ files request job text other j h k. one_text files request job text other j h k;
}
