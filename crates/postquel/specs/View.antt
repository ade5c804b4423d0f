use Rattle.postquel.specs.declared.cursor.Cursor.TheInside.{Inside}
use Rattle.postquel.specs.Limits.{room, bar}
use Rattle.postquel.specs.Input.{Input}

abbrev pub input_of : Inside → Input
input_of c = record { rest = c.rest.now; room = room c.counts c.rest.now; bar = bar c.counts c.rest.now }
