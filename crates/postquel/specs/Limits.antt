-- The limits on statements, as counts of the tokens before.
use Rattle.std.specs.Prelude.{ℕ, suc, ◌+◌, ◌&&◌, ◌==◌, nat_le, if◌then◌else◌, List, [], ◌∷◌, Option, Some, None}
use Rattle.postquel.specs.declared.counts.Counts.{Counts}
use Rattle.postquel_tokens.specs.declared.fault.What.{What}
use Rattle.postquel_tokens.specs.declared.fault.What.TheVariants as what
use Rattle.postquel_tokens.specs.declared.token.Token.{Token}
use Rattle.postquel.specs.declared.class.Class.{Class}
use Rattle.postquel.specs.declared.class.Class.TheVariants as class
use Rattle.postquel_tokens.specs.declared.name.Key.TheVariants as key
use Rattle.postquel_tokens.specs.declared.token.Sign.TheVariants as sign
use Rattle.postquel.specs.Class.{class_of}

abbrev pub begins : Counts → Class → Option What
begins c (class.Key key.Retrieve) = if c.tokens == 0 && nat_le 16 c.statements then Some what.TooManyStatements else None
begins c _ = None

-- the limit that a token of this class would pass
abbrev pub barred : Counts → Class → Option What
barred c k = if nat_le 1000 c.tokens then Some what.StatementTooLong else begins c k

abbrev pub one_more : Counts → Counts
one_more c = record { tokens = c.tokens + 1; statements = c.statements }

abbrev pub after : Counts → Class → Counts
after c (class.Mark sign.Go) = record { tokens = 0; statements = c.statements }
after c (class.Key key.Retrieve) = if c.tokens == 0 then record { tokens = 1; statements = c.statements + 1 } else one_more c
after c _ = one_more c

abbrev pub room_by : Option What → ℕ → ℕ
room_by None n = suc n
room_by (Some w) n = 0

-- how many tokens come before the one that a limit bars
abbrev pub room : Counts → List Token → ℕ
room c [] = 0
room c (t ∷ ts) = room_by (barred c (class_of t.kind)) (room (after c (class_of t.kind)) ts)

abbrev pub bar_by : Option What → What → What
bar_by None w = w
bar_by (Some w) _ = w

-- that limit
abbrev pub bar : Counts → List Token → What
bar c [] = what.StatementTooLong
bar c (t ∷ ts) = bar_by (barred c (class_of t.kind)) (bar (after c (class_of t.kind)) ts)
