use Rattle.std.proofs.Common.{arith}
use Rattle.run_lock.proofs.Keeps.{notes_once}
use Rattle.run_lock.proofs.lock.RunLock.unmark.Goals as goal

pub compare_exchange-requires : goal.compare_exchange-requires
compare_exchange-requires g c =
    let wide = c.args.self.now.shape.0 in
    (c.requires.0, omega arith, notes_once g.F.Named.fits g.F.Named.log _ _ _ _ _ _ _ c.requires.1)
