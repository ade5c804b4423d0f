use Rattle.xprs_top.proofs.Explained.{few_rows}
use Rattle.xprs_top.proofs.explaining.lay_counted.Goals as goal

pub row_counts-requires : goal.row_counts-requires
row_counts-requires g c = few_rows c.args.catalog.now c.args.db c.requires.stored
