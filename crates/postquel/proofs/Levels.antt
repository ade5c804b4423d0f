-- Which tokens may begin a form of a level, and which go on with it.
use Rattle.std.proofs.Common.{◌≡◌, Bool, true, false, ◌||◌, List, [], ◌∷◌, ◌++◌, Option, Some, None, refl, append_assoc}
use Rattle.std.specs.Prelude.{is_some}
use Rattle.postquel_tokens.specs.declared.token.Token.{Token}
use Rattle.postquel.specs.declared.class.Class.{Class}
use Rattle.postquel.specs.declared.class.Class.TheVariants as class
use Rattle.postquel_tokens.specs.declared.name.Key.TheVariants as key
use Rattle.postquel_tokens.specs.declared.token.Sign.TheVariants as sign
use Rattle.postquel_tokens.specs.declared.form.UnaryOp.{UnaryOp}
use Rattle.postquel_tokens.specs.declared.form.BinaryOp.{BinaryOp}
use Rattle.postquel_tokens.specs.Forms.{Phrase}
use Rattle.postquel.specs.declared.level.Level.{Level}
use Rattle.postquel.specs.declared.level.Level.TheVariants as level
use Rattle.postquel.specs.Level.{next, between, before}
use Rattle.postquel.specs.Input.{first}
use Rattle.postquel.specs.Class.{looks}
use Rattle.postquel.specs.Syntax.{is_atom, Derives, number, word, truth, falsity, dotted, parens, tighter, prefixed, compared, null, not_null, chained}

abbrev pub atom_starts : Class → Bool
atom_starts (class.Name s) = true
atom_starts class.Number = true
atom_starts class.Word = true
atom_starts (class.Key key.True) = true
atom_starts (class.Key key.False) = true
atom_starts (class.Mark sign.Left) = true
atom_starts _ = false

abbrev pub sign_starts : Class → Bool
sign_starts (class.Mark sign.Minus) = true
sign_starts c = atom_starts c

abbrev pub not_starts : Class → Bool
not_starts (class.Key key.Not) = true
not_starts c = sign_starts c

abbrev pub starts : Level → Class → Bool
starts level.Atom = atom_starts
starts level.Sign = sign_starts
starts level.Product = sign_starts
starts level.Sum = sign_starts
starts level.Comparison = sign_starts
starts level.Not = not_starts
starts level.And = not_starts
starts level.Or = not_starts

sign_up : (c : Class) → atom_starts c ≡ true → sign_starts c ≡ true
sign_up (class.Mark sign.Minus) h = refl
sign_up (class.Mark sign.Left) h = refl
sign_up (class.Key key.True) h = refl
sign_up (class.Key key.False) h = refl
sign_up (class.Name s) h = refl
sign_up class.Number h = refl
sign_up class.Word h = refl
sign_up _ h = absurd cc

not_up : (c : Class) → sign_starts c ≡ true → not_starts c ≡ true
not_up (class.Key key.Not) h = refl
not_up (class.Mark sign.Minus) h = refl
not_up (class.Mark sign.Left) h = refl
not_up (class.Key key.True) h = refl
not_up (class.Key key.False) h = refl
not_up (class.Name s) h = refl
not_up class.Number h = refl
not_up class.Word h = refl
not_up _ h = absurd cc

pub starts_up : (l : Level) (c : Class) → is_atom l ≡ false → starts (next l) c ≡ true → starts l c ≡ true
starts_up level.Atom c a h = absurd cc
starts_up level.Sign c a h = sign_up c h
starts_up level.Product c a h = h
starts_up level.Sum c a h = h
starts_up level.Comparison c a h = h
starts_up level.Not c a h = not_up c h
starts_up level.And c a h = h
starts_up level.Or c a h = h

pub before_starts : (l : Level) (c : Class) (op : UnaryOp) → before l c ≡ Some op → starts l c ≡ true
before_starts level.Not (class.Key key.Not) op h = refl
before_starts level.Sign (class.Mark sign.Minus) op h = refl
before_starts _ _ op h = absurd cc

pub before_apart : (l : Level) (c : Class) (op : UnaryOp) → before l c ≡ Some op → starts (next l) c ≡ false
before_apart level.Not (class.Key key.Not) op h = refl
before_apart level.Sign (class.Mark sign.Minus) op h = refl
before_apart _ _ op h = absurd cc

pub heads : {l : Level} {f : Phrase} {u : List Token} → Derives l f u → (r : List Token) → starts l (first (u ++ r)) ≡ true
heads (number t e) r = rw e refl
heads (word t e) r = rw e refl
heads (truth t e) r = rw e refl
heads (falsity t e) r = rw e refl
heads (dotted v d c e f g) r = rw e refl
heads (parens l r e f x) s = rw e refl
heads {l} {f} {u} (tighter a x) r = starts_up l (first (u ++ r)) a (heads x r)
heads {l} (prefixed t op h x) r = before_starts l (looks t) op h
heads (compared {a} {b} {u} {w} t op x h y) r = rw (append_assoc u (t ∷ w) r) (heads x (t ∷ (w ++ r)))
heads (null {a} {u} t n x h k) r = rw (append_assoc u (t ∷ n ∷ []) r) (heads x (t ∷ n ∷ r))
heads (not_null {a} {u} t m n x h k j) r = rw (append_assoc u (t ∷ m ∷ n ∷ []) r) (heads x (t ∷ m ∷ n ∷ r))
heads (chained {l} {a} {b} {u} {w} t op c x h y) r = rw (append_assoc u (t ∷ w) r) (heads x (t ∷ (w ++ r)))

-- ---- what goes on

abbrev pub product_goes : Class → Bool
product_goes c = is_some (between level.Product c)

abbrev pub sum_goes : Class → Bool
sum_goes c = is_some (between level.Sum c) || product_goes c

abbrev pub is_test : Class → Bool
is_test (class.Key key.Is) = true
is_test _ = false

abbrev pub compares : Class → Bool
compares c = is_some (between level.Comparison c) || is_test c

abbrev pub comparison_goes : Class → Bool
comparison_goes c = compares c || sum_goes c

abbrev pub and_goes : Class → Bool
and_goes c = is_some (between level.And c) || comparison_goes c

abbrev pub or_goes : Class → Bool
or_goes c = is_some (between level.Or c) || and_goes c

abbrev pub goes : Level → Class → Bool
goes level.Atom c = false
goes level.Sign c = false
goes level.Product c = product_goes c
goes level.Sum c = sum_goes c
goes level.Comparison c = comparison_goes c
goes level.Not c = comparison_goes c
goes level.And c = and_goes c
goes level.Or c = or_goes c

or_false : (a b : Bool) → (a || b) ≡ false → (a ≡ false) × (b ≡ false)
or_false true b h = absurd cc
or_false false b h = (refl, h)

none_of : {A : Type 0} (o : Option A) → is_some o ≡ false → o ≡ None
none_of None h = refl
none_of (Some x) h = absurd cc

pub ends_down : (l : Level) (c : Class) → goes l c ≡ false → goes (next l) c ≡ false
ends_down level.Atom c h = refl
ends_down level.Sign c h = refl
ends_down level.Product c h = refl
ends_down level.Sum c h = (or_false (is_some (between level.Sum c)) (product_goes c) h).1
ends_down level.Comparison c h = (or_false (compares c) (sum_goes c) h).1
ends_down level.Not c h = h
ends_down level.And c h = (or_false (is_some (between level.And c)) (comparison_goes c) h).1
ends_down level.Or c h = (or_false (is_some (between level.Or c)) (and_goes c) h).1

pub ends_none : (l : Level) (c : Class) → goes l c ≡ false → between l c ≡ None
ends_none level.Atom c h = refl
ends_none level.Sign c h = refl
ends_none level.Product c h = none_of (between level.Product c) h
ends_none level.Sum c h = none_of (between level.Sum c) (or_false (is_some (between level.Sum c)) (product_goes c) h).0
ends_none level.Comparison c h = none_of (between level.Comparison c) (or_false (is_some (between level.Comparison c)) (is_test c) (or_false (compares c) (sum_goes c) h).0).0
ends_none level.Not c h = refl
ends_none level.And c h = none_of (between level.And c) (or_false (is_some (between level.And c)) (comparison_goes c) h).0
ends_none level.Or c h = none_of (between level.Or c) (or_false (is_some (between level.Or c)) (and_goes c) h).0

-- an operator of a level ends a form of the next
pub operator_ends : (l : Level) (c : Class) (op : BinaryOp) → between l c ≡ Some op → goes (next l) c ≡ false
operator_ends level.Or (class.Key key.Or) op h = refl
operator_ends level.And (class.Key key.And) op h = refl
operator_ends level.Comparison (class.Mark sign.Equal) op h = refl
operator_ends level.Comparison (class.Mark sign.NotEqual) op h = refl
operator_ends level.Comparison (class.Mark sign.Less) op h = refl
operator_ends level.Comparison (class.Mark sign.AtMost) op h = refl
operator_ends level.Comparison (class.Mark sign.More) op h = refl
operator_ends level.Comparison (class.Mark sign.AtLeast) op h = refl
operator_ends level.Sum (class.Mark sign.Plus) op h = refl
operator_ends level.Sum (class.Mark sign.Minus) op h = refl
operator_ends level.Product (class.Mark sign.Times) op h = refl
operator_ends _ _ op h = absurd cc

-- and so does `is`, which goes on with a comparison's first operand
pub test_ends : (c : Class) → goes level.Comparison c ≡ false → is_test c ≡ false
test_ends c h = (or_false (is_some (between level.Comparison c)) (is_test c) (or_false (compares c) (sum_goes c) h).0).1
