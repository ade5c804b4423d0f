use Rattle.std.proofs.Common.{arith}
use Rattle.run_lock.proofs.Keeps.{splits}
use Rattle.run_lock.proofs.lock.Pass.split.Goals as goal

pub split_seat-seat-requires : goal.split_seat-seat-requires
split_seat-seat-requires g c =
    let wide = c.args.lock.now.shape.0 in
    (c.requires.0, omega arith, splits g.F.Named.fits g.F.Named.log _ _ _)
