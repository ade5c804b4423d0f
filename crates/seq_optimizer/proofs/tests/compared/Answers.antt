use Rattle.std.proofs.Common.{◌≡◌, ◌∙◌, ap, Some, refl}
use Rattle.rel_meaning.specs.Typing.{truth_type}
use Rattle.seq_optimizer.proofs.tests.compared.Goals as goal

pub returns : goal.returns
returns c = (λ v k. Some truth_type, rw (c.in_ok-left.ensures.ok, c.in_ok-right.ensures.ok, c.requires.left, c.requires.right) refl)
