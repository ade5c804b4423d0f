-- Parts that any rule may have: what may be left out, and lists with commas.
use Rattle.std.specs.Prelude.{◌≡◌, List, [], ◌∷◌, ◌++◌}
use Rattle.postquel_tokens.specs.declared.token.Token.{Token}
use Rattle.postquel_tokens.specs.declared.token.Sign.TheVariants as sign
use Rattle.postquel.specs.declared.class.Class.TheVariants as class
use Rattle.postquel.specs.Class.{looks}

-- this part, or no token and the value for that
pub data OrNone {A : Type 0} (none : A) (D : A → List Token → Type 0) : A → List Token → Type 0 where
  absent : OrNone none D none []
  present : {a : A} {u : List Token} → D a u → OrNone none D a u

-- further ones, each behind a comma
pub data More {A : Type 0} (D : A → List Token → Type 0) : List A → List Token → Type 0 where
  none : More D [] []
  more : {a : A} {xs : List A} {u w : List Token} (c : Token) → looks c ≡ class.Mark sign.Comma → D a u → More D xs w → More D (a ∷ xs) (c ∷ (u ++ w))

-- one or more, with commas between them
pub data Listed {A : Type 0} (D : A → List Token → Type 0) : List A → List Token → Type 0 where
  listed : {a : A} {xs : List A} {u w : List Token} → D a u → More D xs w → Listed D (a ∷ xs) (u ++ w)
