use Rattle.std.proofs.Common.{◌≡◌, ◌≤◌, ◌+◌, ◌++◌, vec_len, vec_capacity}
use Rattle.buffer_pool.specs.Lone.{drives_in}
use Rattle.buffer_pool.proofs.lone.unload.Given as goal

abbrev pub invariant-each : goal.invariant-each
invariant-each g l = record {
  items : l.room.items ++ drives_in l.shards.items ≡ drives_in l.initial.shards.items;
  room : vec_len l.room + vec_len l.shards ≤ vec_capacity l.room;
}

abbrev pub decreases-each : goal.decreases-each
decreases-each g l = vec_len l.shards
