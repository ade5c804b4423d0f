-- A log begins with every shorter one.
use Rattle.std.proofs.Common.{◌≡◌, ℕ, ◌≤◌, ◌-◌, ◌+◌, ap, ◌∙◌, arith}
use Rattle.std.proofs.lemmas.List.{replicate-append-replicate}
use mathlib.Core.List.{IsPrefix}
use Rattle.engine_bench.specs.Turns.{entries}

pub grows : (few many : ℕ) → few ≤ many → IsPrefix (entries few) (entries many)
grows few many more =
    let sum : few + (many - few) ≡ many = omega arith in
    (entries (many - few), replicate-append-replicate few (many - few) tt ∙ ap entries sum)
