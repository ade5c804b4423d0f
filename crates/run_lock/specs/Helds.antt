-- What clauses say of a value that is out of its lock.
use Rattle.run_lock.specs.declared.lock.Held.{Held}

module _ {F N E : Type 0} where
  -- the value as it is
  abbrev pub value_of : Held F N E → F
  value_of held = held.value

  -- the value as it was when it was taken
  abbrev pub value_taken : Held F N E → F
  value_taken held = held.taken.value
