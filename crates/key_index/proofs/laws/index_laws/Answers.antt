use Rattle.key_index.proofs.Indexed.{made_of}
use Rattle.key_index.proofs.LevelLaws.{only_levels, page_lengths}
use Rattle.key_index.proofs.laws.index_laws.Goals as goal

pub returns : goal.returns
returns c = record {
  are = λ t heap entries h. made_of t heap entries h;
  only = λ t heap entries levels h k. only_levels t heap entries levels h k;
  length = λ t heap file n entries page h e. page_lengths t heap file n entries page h e;
}
