-- What a board's call says, said of the fragment that has the board.
use Rattle.std.proofs.Common.{◌≡◌, subst}
use Rattle.adjust_protocol.specs.Moves.{Running}

pub carry : {R : Type 0} (P : Running → Running → R → Type 0) (b b' s s' : Running) (r r' : R) → b ≡ s → b' ≡ s' → r ≡ r' → P b b' r → P s s' r'
carry P b b' s s' r r' e e' q a = subst (P s s') q (subst (λ (z : Running). P s z r) e' (subst (λ (z : Running). P z b' r) e a))
