use Rattle.heap_page.specs.Blocks.{item_weight}
use Rattle.heap_page.proofs.Cut.{are_blocks, only_blocks}
use Rattle.heap_page.proofs.Counted.{light, block_again}
use Rattle.heap_page.proofs.laws.block_laws.Goals as goal

pub returns : goal.returns
returns c = record {
  are = λ items each. are_blocks item_weight 8172 items (light items each);
  only = λ items bs cs h k. only_blocks item_weight 8172 items bs cs h k;
  accepted = λ file number items block blocks fs ns h e. (block_again file number items block blocks fs ns h e).rules;
  again = λ file number items block blocks fs ns h e. (block_again file number items block blocks fs ns h e).items_are;
}
