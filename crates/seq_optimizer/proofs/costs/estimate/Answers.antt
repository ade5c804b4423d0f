use Rattle.std.proofs.Common.{◌∙◌, refl}
use Rattle.seq_optimizer.proofs.costs.estimate.Goals as goal

pub returns : goal.returns
returns c = c.set_size.ensures ∙ rw (c.fill_sizes.ensures, c.items.ensures, c.first_vars.ensures.set, c.len-2.ensures, c.requires.each) refl
