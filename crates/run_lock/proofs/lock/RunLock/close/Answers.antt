use Rattle.std.proofs.Common.{◌≡◌, arith, subst, length, ◌≤◌}
use Rattle.run_lock.specs.Passes.{lock_name}
use Rattle.run_lock.proofs.Keeps.{closes}
use Rattle.run_lock.proofs.lock.RunLock.close.Goals as goal

pub unreachable-requires-in_default : goal.unreachable-requires-in_default
unreachable-requires-in_default g c =
    let out = closes g.F.Named.fits g.F.Named.log (lock_name c.args.self) _ c.args.pass.place.seat.me.0 _ _ _ c.close_with-closed.ensures.values.2 c.word.ensures c.if-word.false in
    cc (out.3, c.take.ensures.value, c.in_default.is)

pub returns-clause-fits : goal.returns-clause-fits
returns-clause-fits g c =
    let out = closes g.F.Named.fits g.F.Named.log (lock_name c.args.self) _ c.args.pass.place.seat.me.0 _ _ _ c.close_with-closed.ensures.values.2 c.word.ensures c.if-word.false in
    let same : out.0 ≡ c.in-Some-take.value = cc (out.3, c.take.ensures.value, c.in-Some-take.is) in
    subst (g.F.Named.fits (lock_name c.args.self)) same out.1

pub returns-clause-grown : goal.returns-clause-grown
returns-clause-grown g c =
    let out = closes g.F.Named.fits g.F.Named.log (lock_name c.args.self) _ c.args.pass.place.seat.me.0 _ _ _ c.close_with-closed.ensures.values.2 c.word.ensures c.if-word.false in
    let same : out.0 ≡ c.in-Some-take.value = cc (out.3, c.take.ensures.value, c.in-Some-take.is) in
    let less : c.args.pass.place.seat.me.0.seen ≤ length (g.F.Named.log c.in-Some-take.value) = subst (λ v. c.args.pass.place.seat.me.0.seen ≤ length (g.F.Named.log v)) same out.2 in
    let is = c.args.pass.place.counts in
    omega arith
