use Rattle.std.proofs.Common.{rules, length, drop, refl, subst}
use Rattle.buffer_pool.specs.Lone.{IsTurnAt, map_of}
use Rattle.buffer_pool.specs.declared.place.Place.{Place}
use Rattle.buffer_pool.proofs.Alone.{answered, calm, counts_on, place_same, still, within}
use Rattle.buffer_pool.proofs.Lists.{front_is}
use Rattle.buffer_pool.proofs.lone.LonePoolPageSource.fetch.Goals as goal

pub fetch_from-requires-clause-within : goal.fetch_from-requires-clause-within
fetch_from-requires-clause-within g c = rw c.deref_mut.ensures.value (within c.args.self.now.mounted c.args.self.now.shards.items c.args.file c.args.page c.place_of-place.result c.args.self.now.sound c.place_of-place.ensures)

pub invariant_of-self : goal.invariant_of-self
invariant_of-self g c =
    let on = rw c.deref_mut.ensures.value at c.fetch_from.ensures.on in
    let after = front_is c.fetch_from.new.shards (drop (length c.fetch_from.new.shards) c.args.self.now.shards.items) c.args.self.now.shards.len (search (rules, on.len)) in
    record {
      sound = rw after (still c.args.self.now.mounted c.place_of-place.result.drive c.args.self.now.shards.items c.fetch_from.new.shards c.args.self.now.sound on);
      space = c.args.self.now.space;
    }

pub returns-clause-counts : goal.returns-clause-counts
returns-clause-counts g c =
    let on = rw c.deref_mut.ensures.value at c.fetch_from.ensures.on in
    let after = front_is c.fetch_from.new.shards (drop (length c.fetch_from.new.shards) c.args.self.now.shards.items) c.args.self.now.shards.len (search (rules, on.len)) in
    rw after (counts_on c.place_of-place.result.drive c.args.self.now.shards.items c.fetch_from.new.shards on)

pub returns-clause-ok : goal.returns-clause-ok
returns-clause-ok g c =
    (answered c.args.self.now.mounted c.args.self.now.shards.items c.fetch_from.new.shards c.fetch_from.new.shards c.args.file c.args.page c.place_of-place.result c.fetch_from.result refl
    c.args.self.now.sound c.place_of-place.ensures c.requires (rw c.deref_mut.ensures.value at c.fetch_from.ensures.fetched)).0

pub returns-clause-err : goal.returns-clause-err
returns-clause-err g c =
    let on = rw c.deref_mut.ensures.value at c.fetch_from.ensures.on in
    let after = front_is c.fetch_from.new.shards (drop (length c.fetch_from.new.shards) c.args.self.now.shards.items) c.args.self.now.shards.len (search (rules, on.len)) in
    (answered c.args.self.now.mounted c.args.self.now.shards.items c.fetch_from.new.shards _ c.args.file c.args.page c.place_of-place.result c.fetch_from.result after
    c.args.self.now.sound c.place_of-place.ensures c.requires (rw c.deref_mut.ensures.value at c.fetch_from.ensures.fetched)).1

pub returns-clause-turn : goal.returns-clause-turn
returns-clause-turn g c = λ place placed.
    let on = rw c.deref_mut.ensures.value at c.fetch_from.ensures.on in
    let after = front_is c.fetch_from.new.shards (drop (length c.fetch_from.new.shards) c.args.self.now.shards.items) c.args.self.now.shards.len (search (rules, on.len)) in
    let same = place_same (map_of c.args.self.now.mounted) c.args.file c.args.page c.place_of-place.result place c.requires c.place_of-place.ensures placed in
    rw after (subst (λ (p : Place). IsTurnAt p c.args.file c.args.page c.args.self.now.shards.items c.fetch_from.new.shards c.fetch_from.result) same (rw c.deref_mut.ensures.value at c.fetch_from.ensures.turn))

pub returns-clause-quiet : goal.returns-clause-quiet
returns-clause-quiet g c =
    let on = rw c.deref_mut.ensures.value at c.fetch_from.ensures.on in
    let after = front_is c.fetch_from.new.shards (drop (length c.fetch_from.new.shards) c.args.self.now.shards.items) c.args.self.now.shards.len (search (rules, on.len)) in
    calm c.args.self.now.mounted c.args.self.now.shards.items c.fetch_from.new.shards _ c.args.file c.args.page c.place_of-place.result c.fetch_from.result after
    c.args.self.now.sound c.place_of-place.ensures on (rw c.deref_mut.ensures.value at c.fetch_from.ensures.quiet) (rw c.deref_mut.ensures.value at c.fetch_from.ensures.fetched)
