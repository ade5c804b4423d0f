use Rattle.std.proofs.Common.{◌≡◌, ◌∙◌, ap, subst, sym}
use Rattle.std.proofs.lemmas.List.Elements.{All-push}
use Rattle.run_lock.specs.Passes.{IsFree}
use Rattle.buffer_pool.specs.Locks.{KeepFrames, lock_frames}
use Rattle.buffer_pool.proofs.Fitting.{fits_empty}
use Rattle.buffer_pool.proofs.Pairs.{each_more}
use Rattle.buffer_pool.proofs.Sharing.{seen_more}
use Rattle.buffer_pool.proofs.opening.Opening.lock.Goals as goal

pub new-requires : goal.new-requires
new-requires g c =
    let empty = c.with_cache.ensures.2 ∙ c.requires.cache in
    (fits_empty g.D.Drive c.of.result.value c.with_cache.result (c.with_cache.ensures.0 ∙ sym c.of.ensures) c.with_cache.ensures.1 (ap (λ cache. cache.entries) empty), ap (λ cache. cache.cap) empty)

pub returns-in-Ok-clause-pairs : goal.returns-in-Ok-clause-pairs
returns-in-Ok-clause-pairs g c = λ pairs. each_more IsFree _ _ _ _ _ _ pairs c.in-Ok.ensures.pass.0 c.push_reserved.ensures.items c.push_reserved-in-Ok.ensures.items

pub returns-in-Ok-clause-seen : goal.returns-in-Ok-clause-seen
returns-in-Ok-clause-seen g c = λ seen. seen_more _ _ c.in-Ok.pass c.with_cache.result.counter seen c.in-Ok.ensures.pass.1 c.with_cache.ensures.1 c.push_reserved-in-Ok.ensures.items

pub returns-in-Ok-clause-frames : goal.returns-in-Ok-clause-frames
returns-in-Ok-clause-frames g c = λ keep. subst (KeepFrames c.args.frames) (sym c.push_reserved.ensures.items) (All-push (λ lock. lock_frames lock ≡ c.args.frames) _ c.in-Ok.lock keep (ap (λ name. name.frames) c.in-Ok.ensures.name))
