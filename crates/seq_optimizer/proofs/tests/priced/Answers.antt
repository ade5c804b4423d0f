use Rattle.std.proofs.Common.{◌≡◌}
use Rattle.plan_tree.specs.Views.{shape_of}
use Rattle.seq_optimizer.proofs.Intervals.{fits_intervals}
use Rattle.seq_optimizer.proofs.tests.priced.Goals as goal

pub cost-price-requires-clause-intervals : goal.cost-price-requires-clause-intervals
cost-price-requires-clause-intervals c = fits_intervals c.args.stats.now c.requires.intervals (shape_of c.in_ok-plan.plan.tree) c.in_ok-plan.ensures.tree.fits
