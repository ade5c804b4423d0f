use Rattle.heap_page.proofs.Striping.{one_file, one_page}
use Rattle.heap_page.proofs.laws.place_laws.Goals as goal

pub returns : goal.returns
returns c = record {
  file = λ map file page other number m h k same e. one_file map file page other number m h k same e;
  page = λ map file page other number m h k same e. one_page map file page other number m h k same e;
}
