-- What clauses say of a lock and its passes.
use Rattle.std.specs.Prelude.{◌≡◌, ℕ, Option, Some, None}
use Rattle.atomic_table.specs.declared.shared.Seat.{Seat}
use Rattle.run_lock.specs.declared.rule.View.{View}
use Rattle.run_lock.specs.declared.lock.RunLock.{RunLock}
use Rattle.run_lock.specs.declared.lock.Pass.{Pass}

module _ {F N E : Type 0} where
  -- the name that the lock was made with
  abbrev pub lock_name : RunLock F N E → N
  lock_name lock = lock.table.shared.key.name

  -- the pass is of this lock, and carries its name
  abbrev pub IsPassOf : RunLock F N E → Pass F N E → Type 0
  IsPassOf lock pass = (pass.place.seat.table_id ≡ lock.table.shared.table_id) × (pass.place.seat.me.0.name ≡ Some (lock_name lock))

  -- how long the log was when the pass last saw it
  abbrev pub seen_of : Pass F N E → ℕ
  seen_of pass = pass.place.seen

  -- from which length of log the pass has the turn, if it has it
  abbrev pub turn_of : Pass F N E → Option ℕ
  turn_of pass = pass.place.seat.me.0.turn

  -- the pass is of this lock, and doesn't have the turn
  abbrev pub IsFree : RunLock F N E → Pass F N E → Type 0
  IsFree lock pass = IsPassOf lock pass × (turn_of pass ≡ None)

  -- both are of one lock, and carry the same name
  abbrev pub IsSamePass : Pass F N E → Pass F N E → Type 0
  IsSamePass old new = (new.place.seat.table_id ≡ old.place.seat.table_id) × (new.place.seat.me.0.name ≡ old.place.seat.me.0.name)

  -- the pass has the lock, the name, the turn and the number that it had
  abbrev pub IsAsBefore : Pass F N E → Pass F N E → Type 0
  IsAsBefore old new = IsSamePass old new × (turn_of new ≡ turn_of old) × (seen_of new ≡ seen_of old)

  -- the seat is one of the lock's table
  abbrev pub IsSeatOf : RunLock F N E → Seat (Option F) (View N) → Type 0
  IsSeatOf lock seat = seat.table_id ≡ lock.table.shared.table_id

-- the seat is of the same table, and knows and carries the same
abbrev pub IsSameSeat : {F N : Type 0} → Seat (Option F) (View N) → Seat (Option F) (View N) → Type 0
IsSameSeat old new = (new.table_id ≡ old.table_id) × (new.me ≡ old.me)
