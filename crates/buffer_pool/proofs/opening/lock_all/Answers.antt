use Rattle.std.proofs.Common.{rules, ◌≡◌, ◌<◌, length}
use Rattle.std.proofs.lemmas.List.Elements.{All-pop}
use Rattle.buffer_pool.specs.Locks.{lock_drives}
use Rattle.buffer_pool.specs.Lone.{IsEmptyCache}
use Rattle.buffer_pool.proofs.Lists.{none_left, removed_first}
use Rattle.buffer_pool.proofs.Sharing.{locked_all, locked_more}
use Rattle.buffer_pool.proofs.opening.lock_all.Goals as goal

pub each-preserved : goal.each-preserved
each-preserved g c =
    let inv = c.each.invariant in
    let some : 0 < length c.each.drives.items = search rules in
    let first = removed_first _ _ c.remove.result some c.remove.ensures.value c.remove.ensures.items in
    record {
      same = locked_more c.args.drives.items (lock_drives c.each.opening.locks.items) (lock_drives c.lock.new.self.locks.items) c.each.drives.items c.remove.new.self.items c.remove.result c.in_default-lock.ensures.drives first inv.same;
      pairs = c.lock.ensures.pairs inv.pairs;
      seen = c.lock.ensures.seen inv.seen;
      frames = c.lock.ensures.frames inv.frames;
      new = (All-pop (IsEmptyCache c.args.frames) c.each.caches.items c.pop.new.self.items c.pop.result c.pop.ensures.items inv.new).0;
      caches = search rules;
      locks = search rules;
      passes = search rules;
      room = search rules;
      empty = search rules;
    }

pub returns-clause-drives : goal.returns-clause-drives
returns-clause-drives g c =
    let zero : length c.each.drives.items ≡ 0 = search rules in
    locked_all c.args.drives.items (lock_drives c.each.opening.locks.items) c.each.drives.items c.each.invariant.same (none_left c.each.drives.items zero)
