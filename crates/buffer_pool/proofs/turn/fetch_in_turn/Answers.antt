use Rattle.std.proofs.Common.{◌≡◌, ◌≤◌, ◌∙◌, ap, sym, subst, arith}
use Rattle.run_lock.specs.Passes.{seen_of}
use Rattle.buffer_pool.specs.Counts.{count_of}
use Rattle.buffer_pool.specs.Fetched.{IsFetched}
use Rattle.buffer_pool.specs.Locks.{lock_drive}
use Rattle.buffer_pool.specs.Shards.{Fits}
use Rattle.buffer_pool.proofs.Counting.{length-up_to, log_begins, no_less}
use Rattle.buffer_pool.proofs.turn.fetch_in_turn.Goals as goal

pub put-requires-clause-log : goal.put-requires-clause-log
put-requires-clause-log g c =
    let same : c.take-held.result.taken.value.counter ≡ c.value.result.now.counter = ap (λ s. s.counter) (c.take-held.ensures.taken ∙ sym c.value.ensures.value) in
    log_begins _ _ _ same c.fetch_at-answer.ensures.counter

pub returns-clause-count : goal.returns-clause-count
returns-clause-count g c =
    let is : c.take-held.result.value.counter ≡ c.value.result.now.counter = ap (λ s. s.counter) (sym c.value.ensures.value) in
    let less : seen_of c.args.pass.now ≤ c.value.result.now.counter = omega (arith, c.take-held.ensures.grown, length-up_to c.take-held.result.value.counter, is) in
    let more = no_less (seen_of c.args.pass.now) c.value.result.now.counter c.fetch_at-answer.new.shard.counter less c.fetch_at-answer.ensures.counter in
    omega (arith, more, c.put.ensures.seen, length-up_to c.fetch_at-answer.new.shard.counter)

pub returns-clause-fetched : goal.returns-clause-fetched
returns-clause-fetched g c =
    let is : c.take-held.result.value.counter ≡ c.value.result.now.counter = ap (λ s. s.counter) (sym c.value.ensures.value) in
    let less : seen_of c.args.pass.now ≤ c.value.result.now.counter = omega (arith, c.take-held.ensures.grown, length-up_to c.take-held.result.value.counter, is) in
    let fits = subst (λ s. Fits (lock_drive c.args.lock.now) s) (sym c.value.ensures.value) c.take-held.ensures.fits.0 in
    subst (λ n. IsFetched (g.D.Drive.pages (lock_drive c.args.lock.now)) c.args.place c.args.file c.args.page (count_of (seen_of c.args.pass.now)) (count_of n) c.fetch_at-answer.result)
    (sym (c.put.ensures.seen ∙ length-up_to c.fetch_at-answer.new.shard.counter)) (c.fetch_at-answer.ensures.seen (lock_drive c.args.lock.now) (seen_of c.args.pass.now) fits less)
