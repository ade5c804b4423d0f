use Rattle.std.proofs.Common.{arith}
use Rattle.run_lock.proofs.Keeps.{gives_laid, prefix_length}
use Rattle.run_lock.proofs.lock.RunLock.put.Goals as goal

pub store-requires : goal.store-requires
store-requires g c =
    let wide = c.args.self.now.shape.0 in
    let length_of = c.length-seen.ensures.counts in (
      c.lay_in.ensures.0,
      omega arith,
      gives_laid g.F.Named.fits g.F.Named.log _ _ _ _ _ _ _ _ c.lay_in.ensures.1 c.requires.turn c.requires.fits
          length_of
          (let longer = prefix_length _ _ c.requires.log in omega arith)
          c.length-seen.ensures.short,
    )
