use Rattle.std.proofs.Common.{rules, ◌≡◌, ◌<◌, length, ◌∙◌, ◌++◌, ap, sym, arith, append-nil}
use Rattle.std.proofs.lemmas.List.Elements.{All-pop, All-push}
use Rattle.buffer_pool.specs.Lone.{IsEmpty, IsEmptyCache, drives_in}
use Rattle.buffer_pool.proofs.Alone.{filled}
use Rattle.buffer_pool.proofs.Lists.{none_left, removed_first}
use Rattle.buffer_pool.proofs.lone.fill.Goals as goal

pub each-preserved : goal.each-preserved
each-preserved g c =
    let some : 0 < length c.each.drives.items = search rules in
    let first = removed_first _ _ c.remove.result some c.remove.ensures.value c.remove.ensures.items in
    record {
      same = filled c.each.shards.items c.push_reserved.new.self.items c.with_cache.result c.args.drives.items c.each.drives.items c.remove.new.self.items c.remove.result c.each.invariant.same first c.with_cache.ensures.0 c.push_reserved.ensures.items;
      empty = λ frames new.
          let was = c.each.invariant.empty frames new in
          let popped = All-pop (IsEmptyCache frames) c.each.caches.items c.pop.new.self.items c.pop.result c.pop.ensures.items was.1 in
          let mine : IsEmptyCache frames c.in-Some.cache = rw c.in-Some.is at popped.1 in
          (rw c.push_reserved.ensures.items (All-push (IsEmpty frames) c.each.shards.items c.with_cache.result was.0 (c.with_cache.ensures.1, c.with_cache.ensures.2 ∙ mine)), popped.0);
      caches = search rules;
      room = omega arith;
    }

pub returns : goal.returns
returns g c = λ frames new.
    let zero : length c.each.drives.items ≡ 0 = search rules in
    record {
      same = sym (append-nil (drives_in c.each.shards.items)) ∙ ap (λ ds. drives_in c.each.shards.items ++ ds) (sym (none_left c.each.drives.items zero)) ∙ c.each.invariant.same;
      empty = (c.each.invariant.empty frames new).0;
    }
