use Rattle.buffer_pool.proofs.Alone.{unloaded}
use Rattle.buffer_pool.proofs.lone.LonePool.into_drives.Goals as goal

pub returns-clause-read : goal.returns-clause-read
returns-clause-read g c = unloaded g.D.Drive c.args.self.mounted c.args.self.shards.items c.unload.result.items c.args.self.sound c.unload.ensures
