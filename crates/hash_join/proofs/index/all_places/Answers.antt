use Rattle.std.proofs.Common.{rules, ◌≡◌, map, length, get_or, []}
use Rattle.hash_join.proofs.Places.{position_more, at_map}
use Rattle.hash_join.proofs.index.all_places.Goals as goal

pub loop-position-preserved : goal.loop-position-preserved
loop-position-preserved c =
    let e : c.len.result ≡ length (get_or (map (λ x. x.value) c.args.parts.now) c.loop-position.position []) = search (rules, at_map) in
    position_more (map (λ x. x.value) c.args.parts.now) _ _ c.loop-position.position c.len.result c.loop-position.invariant c.in_ok-put_places.ensures e
