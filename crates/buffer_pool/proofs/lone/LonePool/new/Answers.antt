use Rattle.std.proofs.Common.{rules, ◌≡◌, length, ◌∙◌, ap, sym, arith}
use Rattle.std.proofs.lemmas.List.{length-map}
use Rattle.buffer_pool.proofs.Alone.{shards_new}
use Rattle.buffer_pool.proofs.lone.LonePool.new.Goals as goal

pub invariant_of-result : goal.invariant_of-result
invariant_of-result g c =
    let new = c.fill.ensures c.max-frames.result c.in-Ok-caches.ensures.empty in
    let count : length c.fill.result.items ≡ length c.args.drives.items = sym (length-map c.fill.result.items (λ s. s.drive)) ∙ ap length new.same in
    let drives : length c.args.drives.items ≡ c.args.map.now.drives = search rules in
    record {
      sound = shards_new g.D.Drive c.args.map.now _ c.args.drives.items c.max-frames.result c.fill.result.items c.requires.map drives c.requires.room c.in-Ok.ensures.0 c.in-Ok.ensures.1 (ap (λ v. v.items) c.of.ensures) new;
      space = (omega (arith, count, c.in-Ok-reserved.ensures.room.1), c.in-Ok-reserved.ensures.empty.1);
    }
