-- A rule that goes on as long as the token in front says so.
use Rattle.std.specs.Prelude.{ℕ, zero, suc, List, [], ◌∷◌, ◌++◌, length, Option, Some, None}
use Rattle.postquel_tokens.specs.declared.token.Sign.TheVariants as sign
use Rattle.postquel.specs.declared.class.Class.{Class}
use Rattle.postquel.specs.declared.class.Class.TheVariants as class
use Rattle.postquel.specs.Input.{Parser, ◌>>=◌, ◌>>◌, pure, peek, take}

abbrev pub go_on : {S : Type 0} → Option (Parser S) → (S → Parser S) → S → Parser S
go_on None more s = pure s
go_on (Some p) more s = p >>= more

unfoldable pub turns : {S : Type 0} → (S → Class → Option (Parser S)) → ℕ → S → Parser S
turns next zero s = pure s
turns next (suc n) s = peek >>= λ c. go_on (next s c) (turns next n) s

-- each turn takes a token
unfoldable pub repeat : {S : Type 0} → (S → Class → Option (Parser S)) → S → Parser S
repeat next s = λ i. turns next (length i.rest) s i

abbrev pub next_item : {A : Type 0} → Parser A → List A → Class → Option (Parser (List A))
next_item p found (class.Mark sign.Comma) = Some (take >> p >>= λ x. pure (found ++ x ∷ []))
next_item p found _ = None

unfoldable pub more_items : {A : Type 0} → Parser A → List A → Parser (List A)
more_items p found = repeat (next_item p) found

-- one or more of these, with commas between them
unfoldable pub listed : {A : Type 0} → Parser A → Parser (List A)
listed p = p >>= λ x. more_items p (x ∷ [])
