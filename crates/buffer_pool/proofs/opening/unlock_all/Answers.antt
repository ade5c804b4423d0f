use Rattle.std.proofs.Common.{rules, ◌≡◌, ◌<◌, length, ◌∙◌, subst, sym, arith, [], ◌++◌, ◌∷◌}
use Rattle.run_lock.specs.Passes.{IsFree, seen_of}
use Rattle.heap_page.specs.Stores.{IsRead}
use Rattle.buffer_pool.specs.Locks.{CoversSeen, Each, lock_drive}
use Rattle.buffer_pool.proofs.Counting.{length-up_to}
use Rattle.buffer_pool.proofs.Lists.{none_left, removed_first}
use Rattle.buffer_pool.proofs.Pairs.{each_first, each_length, each_more}
use Rattle.buffer_pool.proofs.Sharing.{covers_less, seen_all_unlocked, seen_more_unlocked, unlocked_all, unlocked_more}
use Rattle.buffer_pool.proofs.opening.unlock_all.Goals as goal

pub each-preserved : goal.each-preserved
each-preserved g c =
    let inv = c.each.invariant in
    let some : 0 < length c.each.locks.items = search rules in
    let some_pass : 0 < length c.each.passes.items = omega (arith, some, each_length IsFree c.each.locks.items c.each.passes.items inv.pairs) in
    let locks = removed_first _ _ c.remove-lock.result some c.remove-lock.ensures.value c.remove-lock.ensures.items in
    let passes = removed_first _ _ c.remove-pass.result some_pass c.remove-pass.ensures.value c.remove-pass.ensures.items in
    record {
      pairs = (each_first IsFree _ _ _ _ _ _ locks passes inv.pairs).1;
      room = search rules;
      capacity = c.push_reserved.ensures.capacity ∙ inv.capacity;
      len = search rules;
      came = (
        inv.came.0 ++ lock_drive c.remove-lock.result ∷ [],
        unlocked_more _ inv.came.0 c.each.locks.items c.remove-lock.new.self.items c.remove-lock.result inv.came.1 locks,
        each_more (IsRead g.D.Drive) inv.came.0 _ c.each.room.items _ (lock_drive c.remove-lock.result) c.into_drive.result inv.came.2 (subst (λ d. IsRead g.D.Drive (lock_drive c.remove-lock.result) d) (sym c.into_drive.ensures) c.close.ensures.fits.0.drive) (λ _. inv.came.0 ++ lock_drive c.remove-lock.result ∷ []) c.push_reserved.ensures.items,
      );
      seen = (
        inv.seen.0 ++ (lock_drive c.remove-lock.result, seen_of c.remove-pass.result) ∷ [],
        seen_more_unlocked _ inv.seen.0 c.each.locks.items c.remove-lock.new.self.items c.each.passes.items c.remove-pass.new.self.items c.remove-lock.result c.remove-pass.result inv.seen.1 locks passes,
        each_more (CoversSeen g.D.Drive) inv.seen.0 _ c.each.room.items _ (lock_drive c.remove-lock.result, seen_of c.remove-pass.result) c.into_drive.result inv.seen.2
            (subst (λ d. CoversSeen g.D.Drive (lock_drive c.remove-lock.result, seen_of c.remove-pass.result) d) (sym c.into_drive.ensures)
            (covers_less (g.D.Drive.faults (lock_drive c.remove-lock.result)) (seen_of c.remove-pass.result) c.close.result.counter (g.D.Drive.faults c.close.result.drive) (omega (arith, c.close.ensures.grown, length-up_to c.close.result.counter)) c.close.ensures.fits.0.count))
            (λ _. inv.seen.0 ++ (lock_drive c.remove-lock.result, seen_of c.remove-pass.result) ∷ []) c.push_reserved.ensures.items,
      );
    }

pub returns-clause-drives : goal.returns-clause-drives
returns-clause-drives g c =
    let came = c.each.invariant.came in
    let zero : length c.each.locks.items ≡ 0 = search rules in
    subst (λ named. Each (IsRead g.D.Drive) named c.each.room.items) (sym (unlocked_all _ came.0 c.each.locks.items came.1 (none_left c.each.locks.items zero))) came.2

pub returns-clause-seen : goal.returns-clause-seen
returns-clause-seen g c =
    let seen = c.each.invariant.seen in
    let zero : length c.each.locks.items ≡ 0 = search rules in
    subst (λ named. Each (CoversSeen g.D.Drive) named c.each.room.items) (sym (seen_all_unlocked _ seen.0 c.each.locks.items c.each.passes.items seen.1 (none_left c.each.locks.items zero))) seen.2
