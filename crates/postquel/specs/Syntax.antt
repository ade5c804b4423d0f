-- The grammar of expressions, one rule a line. The number of the level is how tightly its operators bind.
use Rattle.std.specs.Prelude.{◌≡◌, ℕ, zero, suc, true, false, List, [], ◌∷◌, ◌++◌, Option, Some, None, Bool}
use Rattle.postquel_tokens.specs.declared.token.Token.{Token}
use Rattle.postquel.specs.declared.class.Class.{Class}
use Rattle.postquel.specs.declared.class.Class.TheVariants as class
use Rattle.postquel_tokens.specs.declared.name.Key.TheVariants as key
use Rattle.postquel_tokens.specs.declared.token.Sign.TheVariants as sign
use Rattle.postquel_tokens.specs.declared.form.UnaryOp.{UnaryOp}
use Rattle.postquel_tokens.specs.declared.form.BinaryOp.{BinaryOp}
use Rattle.postquel_tokens.specs.Forms.{Phrase}
use Rattle.postquel_tokens.specs.Forms as form
use Rattle.postquel.specs.declared.level.Level.{Level}
use Rattle.postquel.specs.declared.level.Level.TheVariants as level
use Rattle.postquel.specs.declared.class.Soft.{Soft}
use Rattle.postquel.specs.Class.{looks}
use Rattle.postquel.specs.Level.{next, between, before}
use Rattle.postquel.specs.Grammar.{number_of, text_of, ident_of}

-- which levels have chains of operators
abbrev pub has_chains : Level → Bool
has_chains level.Or = true
has_chains level.And = true
has_chains level.Sum = true
has_chains level.Product = true
has_chains _ = false

abbrev pub is_atom : Level → Bool
is_atom level.Atom = true
is_atom _ = false

pub data Derives : Level → Phrase → List Token → Type 0 where
  number : (t : Token) → looks t ≡ class.Number → Derives level.Atom (form.Number (number_of t.kind)) (t ∷ [])
  word : (t : Token) → looks t ≡ class.Word → Derives level.Atom (form.Word (text_of t.kind)) (t ∷ [])
  truth : (t : Token) → looks t ≡ class.Key key.True → Derives level.Atom (form.Truth true) (t ∷ [])
  falsity : (t : Token) → looks t ≡ class.Key key.False → Derives level.Atom (form.Truth false) (t ∷ [])
  dotted : {s q : Soft} (v d c : Token) → looks v ≡ class.Name s → looks d ≡ class.Mark sign.Dot → looks c ≡ class.Name q
      → Derives level.Atom (form.Dotted (ident_of v) (ident_of c)) (v ∷ d ∷ c ∷ [])
  parens : (l r : Token) {f : Phrase} {u : List Token} → looks l ≡ class.Mark sign.Left → looks r ≡ class.Mark sign.Right → Derives level.Or f u
      → Derives level.Atom f (l ∷ (u ++ r ∷ []))
  tighter : {l : Level} {f : Phrase} {u : List Token} → is_atom l ≡ false → Derives (next l) f u → Derives l f u
  prefixed : {l : Level} {f : Phrase} {u : List Token} (t : Token) (op : UnaryOp) → before l (looks t) ≡ Some op → Derives (next l) f u
      → Derives l (form.Unary op t.spot f) (t ∷ u)
  compared : {a b : Phrase} {u w : List Token} (t : Token) (op : BinaryOp) → Derives level.Sum a u → between level.Comparison (looks t) ≡ Some op → Derives level.Sum b w
      → Derives level.Comparison (form.Binary op t.spot a b) (u ++ t ∷ w)
  null : {a : Phrase} {u : List Token} (t n : Token) → Derives level.Sum a u → looks t ≡ class.Key key.Is → looks n ≡ class.Key key.Null
      → Derives level.Comparison (form.IsNull t.spot a false) (u ++ t ∷ n ∷ [])
  not_null : {a : Phrase} {u : List Token} (t m n : Token) → Derives level.Sum a u → looks t ≡ class.Key key.Is → looks m ≡ class.Key key.Not → looks n ≡ class.Key key.Null
      → Derives level.Comparison (form.IsNull t.spot a true) (u ++ t ∷ m ∷ n ∷ [])
  chained : {l : Level} {a b : Phrase} {u w : List Token} (t : Token) (op : BinaryOp) → has_chains l ≡ true → Derives l a u → between l (looks t) ≡ Some op → Derives (next l) b w
      → Derives l (form.Binary op t.spot a b) (u ++ t ∷ w)

-- the depth that is left behind tokens, of which each `(` takes one; none where it is passed
abbrev pub nest_step : Class → ℕ → Option ℕ
nest_step (class.Mark sign.Left) zero = None
nest_step (class.Mark sign.Left) (suc d) = Some d
nest_step (class.Mark sign.Right) d = Some (suc d)
nest_step _ d = Some d

abbrev pub opt_then : Option ℕ → (ℕ → Option ℕ) → Option ℕ
opt_then None f = None
opt_then (Some d) f = f d

abbrev pub nest : ℕ → List Token → Option ℕ
nest d [] = Some d
nest d (t ∷ ts) = opt_then (nest_step (looks t) d) (λ e. nest e ts)
