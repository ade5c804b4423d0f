use Rattle.std.proofs.Common.{refl}
use Rattle.buffer_pool.proofs.Counting.{error_goes_on, handed_over}
use Rattle.buffer_pool.proofs.Fetching.{handed_on}
use Rattle.buffer_pool.proofs.turn.fetch_at.Goals as goal

pub returns-in-Ok-clause-fetched : goal.returns-in-Ok-clause-fetched
returns-in-Ok-clause-fetched g c = λ named fits. (c.in-Ok.ensures.head, c.in-Ok.ensures.told named fits)

pub returns-in-Ok-clause-seen : goal.returns-in-Ok-clause-seen
returns-in-Ok-clause-seen g c = λ named seen fits less. (c.in-Ok.ensures.head, c.in-Ok.ensures.told named fits)

pub returns-in-Err-clause-fetched : goal.returns-in-Err-clause-fetched
returns-in-Err-clause-fetched g c = λ named fits.
    rw c.of_drive.ensures (handed_on (g.D.Drive.pages named) c.args.place c.args.file c.args.page _ _ _ _ c.in-Err.error c.in-Err.ensures.err (c.in-Err.ensures.bad named fits))

pub returns-in-Err-clause-counter : goal.returns-in-Err-clause-counter
returns-in-Err-clause-counter g c = error_goes_on _ _ _ _ c.in-Err.error c.args.shard.now.room c.in-Err.ensures.err

pub returns-in-Err-clause-seen : goal.returns-in-Err-clause-seen
returns-in-Err-clause-seen g c = λ named seen fits less.
    rw c.of_drive.ensures (handed_over (g.D.Drive.pages named) c.args.place c.args.file c.args.page _ _ seen c.args.shard.now.counter _ _ c.in-Err.error less c.args.shard.now.room refl c.in-Err.ensures.err (c.in-Err.ensures.bad named fits))
