-- What the tokens of a text are made of.
use Rattle.std.proofs.Common.{◌≡◌, ◌⊎◌, ℕ, ◌^◌, ◌<◌, ℤ, pos, List, [], ◌∷◌, ◌++◌, Option, Some, None, inl, inr}
use Rattle.postquel_tokens.specs.declared.token.Token.{Token}
use Rattle.postquel_tokens.specs.declared.token.TokenKind.{TokenKind}
use Rattle.postquel_tokens.specs.declared.token.TokenKind.TheVariants as kind
use Rattle.postquel.specs.declared.class.Class.TheVariants as class
use Rattle.postquel_tokens.specs.declared.name.Key.{Key}
use Rattle.postquel.specs.declared.class.Soft.{Soft}
use Rattle.postquel.specs.Class.{class_of, named}
use Rattle.postquel_tokens.specs.Names.{key_of}
use Rattle.postquel.specs.Grammar.{number_of, text_of}
use Rattle.postquel_round_trip.proofs.Literals.{IsName, IsWord}

abbrev pub IsNumber : ℤ → Type 0
IsNumber n = (m : ℕ) × (n ≡ pos m) × (m < 2 ^ 63)

abbrev pub ValidKind : TokenKind → Type 0
ValidKind (kind.Name n) = IsName n
ValidKind (kind.Number n) = IsNumber n
ValidKind (kind.Word w) = IsWord w
ValidKind _ = Unit {0}

abbrev pub Valid : List Token → Type 0
Valid [] = Unit {0}
Valid (t ∷ ts) = ValidKind t.kind × Valid ts

pub valid_left : (u w : List Token) → Valid (u ++ w) → Valid u
valid_left [] w h = tt
valid_left (t ∷ u) w h = (h.0, valid_left u w h.1)

pub valid_right : (u w : List Token) → Valid (u ++ w) → Valid w
valid_right [] w h = h
valid_right (t ∷ u) w h = valid_right u w h.1

named_name : (o : Option Key) (n : List ℕ) → (named o n ≡ class.Number) ⊎ (named o n ≡ class.Word) → ⊥
named_name None n (inl e) = absurd cc
named_name None n (inr e) = absurd cc
named_name (Some k) n (inl e) = absurd cc
named_name (Some k) n (inr e) = absurd cc

pub number_valid : (k : TokenKind) → ValidKind k → class_of k ≡ class.Number → IsNumber (number_of k)
number_valid (kind.Number n) h e = h
number_valid (kind.Name n) h e = absurd (named_name (key_of n) n (inl e))
number_valid (kind.Word n) h e = absurd cc
number_valid (kind.Mark s) h e = absurd cc
number_valid kind.End h e = absurd cc

pub word_valid : (k : TokenKind) → ValidKind k → class_of k ≡ class.Word → IsWord (text_of k)
word_valid (kind.Word n) h e = h
word_valid (kind.Name n) h e = absurd (named_name (key_of n) n (inr e))
word_valid (kind.Number n) h e = absurd cc
word_valid (kind.Mark s) h e = absurd cc
word_valid kind.End h e = absurd cc

pub name_valid : (k : TokenKind) (s : Soft) → ValidKind k → class_of k ≡ class.Name s → IsName (text_of k)
name_valid (kind.Name n) s h e = h
name_valid (kind.Word n) s h e = absurd cc
name_valid (kind.Number n) s h e = absurd cc
name_valid (kind.Mark g) s h e = absurd cc
name_valid kind.End s h e = absurd cc

pub name_class : (k : TokenKind) (s : Soft) → class_of k ≡ class.Name s → class_of (kind.Name (text_of k)) ≡ class.Name s
name_class (kind.Name n) s e = e
name_class (kind.Word n) s e = absurd cc
name_class (kind.Number n) s e = absurd cc
name_class (kind.Mark g) s e = absurd cc
name_class kind.End s e = absurd cc
