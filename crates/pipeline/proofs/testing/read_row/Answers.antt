use Rattle.std.proofs.Math.Facts.{Fits-lt-pow}
use Rattle.pipeline.proofs.Read.{read_fits}
use Rattle.pipeline.proofs.testing.read_row.Goals as goal

pub returns-clause-fits : goal.returns-clause-fits
returns-clause-fits c = read_fits c.args.reader.now c.args.item.now c.read.result (λ i. Fits-lt-pow (c.type_inv.item i)) c.read.ensures
