-- What a rule reads from, and the steps that every rule is made of.
use Rattle.std.specs.Prelude.{◌≡◌, ℕ, zero, suc, List, [], ◌∷◌, Result, Ok, Err, Bool, false, if◌then◌else◌}
use denote.Enum.Bare.{sameb}
use Rattle.postquel_tokens.specs.contracts.token.Sign as sign_type
use Rattle.postquel_tokens.specs.contracts.name.Key as key_type
use Rattle.postquel_tokens.specs.declared.token.Sign.{Sign}
use Rattle.postquel_tokens.specs.declared.name.Key.{Key}
use Rattle.postquel_tokens.specs.declared.token.Token.{Token}
use Rattle.postquel_tokens.specs.declared.fault.What.{What}
use Rattle.postquel_tokens.specs.declared.fault.What.TheVariants as what
use Rattle.postquel.specs.declared.class.Class.{Class}
use Rattle.postquel.specs.declared.class.Class.TheVariants as class
use Rattle.postquel.specs.declared.cursor.Halt.{Halt}
use Rattle.postquel.specs.declared.cursor.Halt.TheVariants.{Refused, NoMemory}
use Rattle.postquel.specs.Class.{class_of}

-- the tokens that are left, how many of them may be taken, and the fault of the one after these
pub record Input : Type 0 where
  pub rest : List Token
  pub room : ℕ
  pub bar : What

pub record Stop : Type 0 where
  pub what : What
  pub rest : List Token

abbrev pub first : List Token → Class
first [] = class.End
first (t ∷ ts) = class_of t.kind

-- the class of the token behind the first
abbrev pub second : List Token → Class
second [] = class.End
second (t ∷ ts) = first ts

abbrev pub Outcome : Type 0 → Type 0
Outcome A = Result (A × Input) Stop

abbrev pub Parser : Type 0 → Type 0
Parser A = Input → Outcome A

abbrev pub and_then : {A B : Type 0} → Outcome A → (A → Parser B) → Outcome B
and_then (Ok p) f = f p.0 p.1
and_then (Err e) f = Err e

infixl 10 ◌>>=◌
abbrev pub ◌>>=◌ : {A B : Type 0} → Parser A → (A → Parser B) → Parser B
p >>= f = λ i. and_then (p i) f

infixl 10 ◌>>◌
abbrev pub ◌>>◌ : {A B : Type 0} → Parser A → Parser B → Parser B
p >> q = p >>= (λ _. q)

abbrev pub pure : {A : Type 0} → A → Parser A
pure a = λ i. Ok (a, i)

abbrev pub stop : {A : Type 0} → What → Parser A
stop w = λ i. Err (record { what = w; rest = i.rest })

abbrev pub is_mark : Sign → Class → Bool
is_mark s (class.Mark found) = sameb sign_type.the_type found s
is_mark s _ = false

abbrev pub is_key : Key → Class → Bool
is_key k (class.Key found) = sameb key_type.the_type found k
is_key k _ = false

abbrev pub take_at : List Token → ℕ → What → Outcome Token
take_at [] room bar = Err (record { what = what.Unexpected; rest = [] })
take_at (t ∷ ts) zero bar = Err (record { what = bar; rest = t ∷ ts })
take_at (t ∷ ts) (suc room) bar = Ok (t, record { rest = ts; room = room; bar = bar })

-- the next token, unless a limit bars it
unfoldable pub take : Parser Token
take i = take_at i.rest i.room i.bar

unfoldable pub expect : Sign → Parser (Unit {0})
expect s = λ i. if is_mark s (first i.rest) then (take >> pure tt) i else stop what.Unexpected i

unfoldable pub expect_key : Key → Parser (Unit {0})
expect_key k = λ i. if is_key k (first i.rest) then (take >> pure tt) i else stop what.Unexpected i

-- what begins with a key, or else nothing
unfoldable pub or_none : {A : Type 0} → A → Key → Parser A → Parser A
or_none none k p = λ i. if is_key k (first i.rest) then p i else pure none i

abbrev pub peek : Parser Class
peek = λ i. Ok (first i.rest, i)

-- what a function that parses ensures: the rule's outcome, unless memory fails
abbrev pub Reads : {A : Type 0} → Outcome A → Result A Halt → Input → Type 0
Reads outcome (Ok a) new = outcome ≡ Ok (a, new)
Reads outcome (Err (Refused w)) new = outcome ≡ Err (record { what = w; rest = new.rest })
Reads outcome (Err NoMemory) new = Unit {0}

-- the same of a value with a view
abbrev pub ReadsAs : {A B : Type 0} → (A → B) → Outcome B → Result A Halt → Input → Type 0
ReadsAs view outcome (Ok a) new = outcome ≡ Ok (view a, new)
ReadsAs view outcome (Err (Refused w)) new = outcome ≡ Err (record { what = w; rest = new.rest })
ReadsAs view outcome (Err NoMemory) new = Unit {0}
