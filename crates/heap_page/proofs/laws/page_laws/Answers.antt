use Rattle.heap_page.proofs.Parts.{are_bytes}
use Rattle.heap_page.proofs.Written.{page_again}
use Rattle.heap_page.proofs.Read.{page_back}
use Rattle.heap_page.proofs.laws.page_laws.Goals as goal

pub returns : goal.returns
returns c = record {
  length = λ file number items fs ns fits. (page_again file number items fs ns fits).len;
  accepted = λ file number items fs ns fits. (page_again file number items fs ns fits).rules;
  again = λ file number items fs ns fits. (page_again file number items fs ns fits).items_are;
  only = λ file number bytes small len h. (page_back file number bytes (are_bytes bytes small) len h).same;
  fit = λ file number bytes small len h. (page_back file number bytes (are_bytes bytes small) len h).fits;
}
