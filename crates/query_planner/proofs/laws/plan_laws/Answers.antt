use Rattle.query_planner.proofs.PlansMean.{trees_mean}
use Rattle.query_planner.proofs.laws.plan_laws.Goals as goal

pub returns : goal.returns
returns c = record {
  meaning = λ relations db made tables kept qs table q m t stats ok may laid counted tree fits.
      trees_mean q relations db made tables kept qs table stats ok may laid counted m t tree fits;
  planned = λ relations db made tables kept qs table q m p stats ok may laid counted is.
      trees_mean q relations db made tables kept qs table stats ok may laid counted m p.tree
      is.best.tree is.best.fits;
}
