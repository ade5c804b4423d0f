use Rattle.std.proofs.Common.{◌∙◌, ap, arith, Some}
use Rattle.run_lock.specs.Passes.{lock_name}
use Rattle.run_lock.proofs.Keeps.{wins, head_of}
use Rattle.run_lock.proofs.lock.RunLock.try_take.Goals as goal

pub swap-requires : goal.swap-requires
swap-requires g c =
    let wide = c.args.self.now.shape.0 in
    (c.requires.0.0, omega arith, wins g.F.Named.fits g.F.Named.log _ _ _ _ (lock_name c.args.self.now) c.requires.0.1)

pub exchange-requires : goal.exchange-requires
exchange-requires g c =
    let won = c.swap.ensures.2.1 c.if-swap.false in
    (c.swap.ensures.0 ∙ c.requires.0.0, (Some won.1, head_of _ _ _ (ap (λ m. m.1) won.6)))
