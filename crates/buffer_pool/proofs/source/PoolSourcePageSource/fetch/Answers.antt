use Rattle.std.proofs.Common.{◌<◌, ap, sym, refl, arith, length}
use Rattle.std.proofs.lemmas.Option.{slice_get_read}
use Rattle.run_lock.specs.Passes.{seen_of}
use Rattle.buffer_pool.specs.Counts.{count_of}
use Rattle.buffer_pool.specs.Seats.{counts_at}
use Rattle.buffer_pool.proofs.Lists.{set_at}
use Rattle.buffer_pool.proofs.Sharing.{answered, seen_here}
use Rattle.buffer_pool.proofs.source.PoolSourcePageSource.fetch.Goals as goal

pub returns-clause-ok : goal.returns-clause-ok
returns-clause-ok g c =
    let pool = c.args.self.now.pool.now in
    let place = c.place_of-place.result in
    let on : place.drive < length pool.locks.items = omega (arith, pool.sound.len, c.place_of-place.ensures.on_drive) in
    let lock = slice_get_read pool.locks.items (length pool.locks.items) place.drive c.index-lock.result.now refl on c.index-lock.ensures in
    (answered pool.map pool.locks.items c.index-lock.result.now c.args.file c.args.page place (λ _. count_of (seen_of c.index_mut-pass.result.now)) (λ _. count_of (seen_of c.fetch_in_turn.new.pass)) _ _ c.fetch_in_turn.result c.place_of-place.ensures c.requires lock refl refl c.fetch_in_turn.ensures.fetched).0

pub returns-clause-err : goal.returns-clause-err
returns-clause-err g c =
    let pool = c.args.self.now.pool.now in
    let seat = c.args.self.now.seat in
    let place = c.place_of-place.result in
    let on : place.drive < length pool.locks.items = omega (arith, pool.sound.len, c.place_of-place.ensures.on_drive) in
    let in_seat : place.drive < length seat.passes.items = omega (arith, on, c.args.self.now.seated.count) in
    let lock = slice_get_read pool.locks.items (length pool.locks.items) place.drive c.index-lock.result.now refl on c.index-lock.ensures in
    let pass = slice_get_read seat.passes.items (length seat.passes.items) place.drive c.index_mut-pass.result.now refl in_seat c.index_mut-pass.ensures.value in
    let was = ap count_of (seen_here seat.passes.items place.drive c.index_mut-pass.result.now pass) in
    let is = ap count_of (seen_here _ place.drive c.fetch_in_turn.new.pass (set_at seat.passes.items place.drive c.fetch_in_turn.new.pass in_seat)) in
    (answered pool.map pool.locks.items c.index-lock.result.now c.args.file c.args.page place (λ d. counts_at seat d) _ _ _ c.fetch_in_turn.result c.place_of-place.ensures c.requires lock (sym was) (sym is) c.fetch_in_turn.ensures.fetched).1
