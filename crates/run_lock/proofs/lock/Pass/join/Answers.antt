use Rattle.std.proofs.Common.{◌∙◌, ap, arith}
use Rattle.run_lock.specs.Carries.{carried}
use Rattle.run_lock.proofs.Keeps.{joins}
use Rattle.run_lock.proofs.lock.Pass.join.Goals as goal

pub join_seat-requires : goal.join_seat-requires
join_seat-requires g c =
    let wide = c.args.lock.now.shape.0 in (
      c.requires.kept.0.0,
      c.requires.other.0.0,
      c.args.other.place.carries ∙ ap carried c.requires.other.1,
      omega arith,
      joins g.F.Named.fits g.F.Named.log _ _ _ _ _ c.requires.kept.1 c.requires.other.1,
    )
