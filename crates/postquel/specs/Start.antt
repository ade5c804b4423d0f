use Rattle.std.specs.Prelude.{◌≡◌, List, [], ◌∷◌, Result, Ok, Err}
use Rattle.postquel_tokens.specs.declared.token.Token.{Token}
use Rattle.postquel_tokens.specs.declared.fault.Spot.{Spot}
use Rattle.postquel.specs.declared.counts.Counts.{Counts}
use Rattle.postquel_tokens.specs.declared.fault.TextErr.{TextErr}
use Rattle.postquel_tokens.specs.declared.fault.TextErr.TheVariants.{Fault, NoMemory}
use Rattle.postquel.specs.Limits.{room, bar}
use Rattle.postquel.specs.Input.{Input, Outcome}

abbrev pub none_yet : Counts
none_yet = record { tokens = 0; statements = 0 }

abbrev pub start_of : List Token → Input
start_of ts = record { rest = ts; room = room none_yet ts; bar = bar none_yet ts }

abbrev pub spot_of : List Token → Spot
spot_of [] = record { line = 1; col = 1 }
spot_of (t ∷ ts) = t.spot

-- what was parsed is what the rule gives, with its view, and a fault stands at the token where the rule stops
abbrev pub Parses : {A B : Type 0} → (A → B) → Result A TextErr → Outcome B → Type 0
Parses view (Ok a) (Ok p) = view a ≡ p.0
Parses view (Ok a) (Err e) = ⊥
Parses view (Err (Fault line col what)) (Err e) = (what ≡ e.what) × (record { line = line; col = col } ≡ spot_of e.rest)
Parses view (Err (Fault line col what)) (Ok p) = ⊥
Parses view (Err NoMemory) p = Unit {0}
