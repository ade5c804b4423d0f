-- What a `Held` is once its value was lent.
use Rattle.std.specs.Borrow.{Lends, MutBor, Fml}
use Rattle.run_lock.specs.declared.lock.Held.{Held}
use Rattle.run_lock.specs.contracts.lock.Held.{the_row}
use denote.RattleType.{RattleType}

-- another value, taken out of the lock as before
abbrev pub with_value : {F N E : Type 0} → Held F N E → F → Held F N E
with_value held value = record held { value = value }

-- the `Held` ends with the last value that was written through the borrow
abbrev pub LendsValue : (R N E : RattleType) → MutBor (Held R.Denot N.Denot E.Denot) → MutBor R.Denot → Fml
LendsValue R N E held borrow = Lends (the_row R N E) R held borrow (with_value held.now)
