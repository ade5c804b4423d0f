use Rattle.catalog_load.proofs.OneCatalog.{one_catalog}
use Rattle.catalog_load.proofs.catalog.one_catalog.Goals as goal

pub returns : goal.returns
returns c = one_catalog
