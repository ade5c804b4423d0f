-- What the grammar sees of a token.
use Rattle.std.specs.Prelude.{ℕ, if◌then◌else◌, List, Option, Some, None, codes}
use Rattle.std.specs.Str.{bytes_eq}
use Rattle.postquel_tokens.specs.declared.token.Token.{Token}
use Rattle.postquel_tokens.specs.declared.token.TokenKind.{TokenKind}
use Rattle.postquel_tokens.specs.declared.token.TokenKind.TheVariants as kind
use Rattle.postquel_tokens.specs.declared.name.Key.{Key}
use Rattle.postquel_tokens.specs.Names.{key_of, is_fold}
use Rattle.postquel.specs.declared.class.Class.{Class}
use Rattle.postquel.specs.declared.class.Class.TheVariants as class
use Rattle.postquel.specs.declared.class.Soft.{Soft}
use Rattle.postquel.specs.declared.class.Soft.TheVariants as soft

-- what a name that is no key may stand for
unfoldable pub soft_of : List ℕ → Soft
soft_of text =
    if bytes_eq text (codes "after") then soft.After else if is_fold text then soft.Fold else soft.Plain

abbrev pub named : Option Key → List ℕ → Class
named None text = class.Name (soft_of text)
named (Some k) text = class.Key k

abbrev pub class_of : TokenKind → Class
class_of (kind.Name text) = named (key_of text) text
class_of (kind.Number n) = class.Number
class_of (kind.Word text) = class.Word
class_of (kind.Mark sign) = class.Mark sign
class_of kind.End = class.End

abbrev pub looks : Token → Class
looks t = class_of t.kind
