use Rattle.std.proofs.Common.{◌≡◌, ◌++◌, drop}
use Rattle.master.specs.Lasts.{last_flags}
use Rattle.master.proofs.answers.last_flags.Given as goal

abbrev pub invariant-loop-number : goal.invariant-loop-number
invariant-loop-number l = l.flags.items ++ last_flags (drop l.number l.fragments) ≡ last_flags l.fragments
