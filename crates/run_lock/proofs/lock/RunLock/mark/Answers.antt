use Rattle.std.proofs.Common.{arith, bit_or}
use Rattle.run_lock.proofs.Keeps.{notes}
use Rattle.run_lock.proofs.lock.RunLock.mark.Goals as goal

pub fetch_or-before-requires : goal.fetch_or-before-requires
fetch_or-before-requires g c =
    let wide = c.args.self.now.shape.0 in
    (c.requires.0, omega arith, notes g.F.Named.fits g.F.Named.log _ _ _ _ _ (λ n. bit_or n 1) c.requires.1)
