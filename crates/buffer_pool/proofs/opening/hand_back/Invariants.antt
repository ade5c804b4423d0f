use Rattle.std.proofs.Common.{◌≡◌, ◌≤◌, ◌+◌, ◌++◌, vec_len, vec_capacity}
use Rattle.buffer_pool.proofs.opening.hand_back.Given as goal

abbrev pub invariant-rest : goal.invariant-rest
invariant-rest g l = record {
  room : vec_len l.back + vec_len l.drives ≤ vec_capacity l.back;
  same : l.back.items ++ l.drives.items ≡ l.initial.back.items ++ l.initial.drives.items;
}

abbrev pub decreases-rest : goal.decreases-rest
decreases-rest g l = vec_len l.drives
