use Rattle.std.proofs.Common.{◌≡◌, ◌++◌, ◌+◌, drop}
use Rattle.key_index.specs.Nodes.{nodes_over}
use Rattle.key_index.proofs.level.over.Given as goal

abbrev pub invariant-loop-page : goal.invariant-loop-page
invariant-loop-page l = l.found.items ++ nodes_over (l.base + l.page) l.nodes (drop l.page l.starts) ≡ nodes_over l.base l.nodes l.starts
