use Rattle.std.proofs.Common.{◌≡◌, length, map}
use Rattle.postquel_tokens.specs.Names.{is_among}
use Rattle.postquel_tokens.proofs.name.is_among.Given as goal

abbrev pub invariant-loop-names : goal.invariant-loop-names
invariant-loop-names l = is_among (map (λ k. k.now) l.names) l.text ≡ is_among (map (λ k. k.now) l.initial.names) l.text

abbrev pub decreases-loop-names : goal.decreases-loop-names
decreases-loop-names l = length l.names
