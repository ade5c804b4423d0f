use Rattle.heap_page.proofs.Parts.{are_bytes}
use Rattle.key_index.proofs.PagesBack.{items_read, page_back}
use Rattle.key_index.proofs.laws.page_laws.Goals as goal

pub returns : goal.returns
returns c = record {
  only = λ t file page level left bytes small len h k items rest holds. page_back t file page level left bytes (are_bytes bytes small) len h k items rest holds;
  read = λ t level left bytes small len k. items_read t level left bytes (are_bytes bytes small) len k;
}
