use Rattle.name_check.proofs.Numbers.{read_numbers}
use Rattle.name_check.proofs.parts.numbers_fit.Goals as goal

pub returns : goal.returns
returns c = read_numbers
