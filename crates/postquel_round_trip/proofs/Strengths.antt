-- The strength of an operator is that of its level.
use Rattle.std.proofs.Common.{◌≡◌, ℕ, ◌≤◌, true, List, Some, refl, ap, arith}
use Rattle.postquel_tokens.specs.declared.token.Token.{Token}
use Rattle.postquel_tokens.specs.declared.token.Sign.TheVariants as sign
use Rattle.postquel_tokens.specs.declared.form.UnaryOp.{UnaryOp}
use Rattle.postquel_tokens.specs.declared.form.UnaryOp.TheVariants as unary
use Rattle.postquel_tokens.specs.declared.form.BinaryOp.{BinaryOp}
use Rattle.postquel_tokens.specs.declared.form.BinaryOp.TheVariants as binary
use Rattle.postquel_tokens.specs.Forms.{Phrase}
use Rattle.postquel_tokens.specs.Forms as form
use Rattle.postquel.specs.declared.class.Class.{Class}
use Rattle.postquel.specs.declared.class.Class.TheVariants as class
use Rattle.postquel_tokens.specs.declared.name.Key.TheVariants as key
use Rattle.postquel.specs.declared.level.Level.{Level}
use Rattle.postquel.specs.declared.level.Level.TheVariants as level
use Rattle.postquel.specs.Level.{next, before, between}
use Rattle.postquel.specs.Print.{strength, least_left, least_right, least_behind}
use Rattle.postquel.specs.Syntax.{has_chains, Derives, tighter}

-- how tightly a level binds
abbrev pub bind : Level → ℕ
bind level.Or = 1
bind level.And = 2
bind level.Not = 3
bind level.Comparison = 4
bind level.Sum = 5
bind level.Product = 6
bind level.Sign = 7
bind level.Atom = 8

abbrev pub binds : BinaryOp → Level
binds binary.Or = level.Or
binds binary.And = level.And
binds binary.Add = level.Sum
binds binary.Sub = level.Sum
binds binary.Mul = level.Product
binds _ = level.Comparison

abbrev pub prefix_binds : UnaryOp → Level
prefix_binds unary.Not = level.Not
prefix_binds unary.Negate = level.Sign

abbrev pub left_of : Level → Level
left_of level.Comparison = level.Sum
left_of l = l

-- the level of a form without parentheses
abbrev pub own : Phrase → Level
own (form.Unary op s a) = prefix_binds op
own (form.Binary op s a b) = binds op
own (form.IsNull s a n) = level.Comparison
own _ = level.Atom

pub own_is : (f : Phrase) → strength f ≡ bind (own f)
own_is (form.Number n) = refl
own_is (form.Word w) = refl
own_is (form.Truth b) = refl
own_is (form.Dotted v c) = refl
own_is (form.Unary unary.Not s a) = refl
own_is (form.Unary unary.Negate s a) = refl
own_is (form.Binary binary.Or s a b) = refl
own_is (form.Binary binary.And s a b) = refl
own_is (form.Binary binary.Equal s a b) = refl
own_is (form.Binary binary.NotEqual s a b) = refl
own_is (form.Binary binary.Less s a b) = refl
own_is (form.Binary binary.AtMost s a b) = refl
own_is (form.Binary binary.More s a b) = refl
own_is (form.Binary binary.AtLeast s a b) = refl
own_is (form.Binary binary.Add s a b) = refl
own_is (form.Binary binary.Sub s a b) = refl
own_is (form.Binary binary.Mul s a b) = refl
own_is (form.IsNull s a n) = refl

pub left_is : (op : BinaryOp) → least_left op ≡ bind (left_of (binds op))
left_is binary.Or = refl
left_is binary.And = refl
left_is binary.Equal = refl
left_is binary.NotEqual = refl
left_is binary.Less = refl
left_is binary.AtMost = refl
left_is binary.More = refl
left_is binary.AtLeast = refl
left_is binary.Add = refl
left_is binary.Sub = refl
left_is binary.Mul = refl

pub right_is : (op : BinaryOp) → least_right op ≡ bind (next (binds op))
right_is binary.Or = refl
right_is binary.And = refl
right_is binary.Equal = refl
right_is binary.NotEqual = refl
right_is binary.Less = refl
right_is binary.AtMost = refl
right_is binary.More = refl
right_is binary.AtLeast = refl
right_is binary.Add = refl
right_is binary.Sub = refl
right_is binary.Mul = refl

pub behind_is : (op : UnaryOp) → least_behind op ≡ bind (next (prefix_binds op))
behind_is unary.Not = refl
behind_is unary.Negate = refl

-- ---- a form that binds tightly stands where one that binds less tightly may

lift_atom : {f : Phrase} {u : List Token} (m : Level) → 8 ≤ bind m → Derives m f u → Derives level.Atom f u
lift_atom level.Atom h d = d
lift_atom _ h d = absurd (omega arith)

lift_sign : {f : Phrase} {u : List Token} (m : Level) → 7 ≤ bind m → Derives m f u → Derives level.Sign f u
lift_sign level.Sign h d = d
lift_sign level.Atom h d = tighter refl d
lift_sign _ h d = absurd (omega arith)

lift_product : {f : Phrase} {u : List Token} (m : Level) → 6 ≤ bind m → Derives m f u → Derives level.Product f u
lift_product level.Product h d = d
lift_product m h d = tighter refl (lift_sign m (omega arith) d)

lift_sum : {f : Phrase} {u : List Token} (m : Level) → 5 ≤ bind m → Derives m f u → Derives level.Sum f u
lift_sum level.Sum h d = d
lift_sum m h d = tighter refl (lift_product m (omega arith) d)

lift_comparison : {f : Phrase} {u : List Token} (m : Level) → 4 ≤ bind m → Derives m f u → Derives level.Comparison f u
lift_comparison level.Comparison h d = d
lift_comparison m h d = tighter refl (lift_sum m (omega arith) d)

lift_not : {f : Phrase} {u : List Token} (m : Level) → 3 ≤ bind m → Derives m f u → Derives level.Not f u
lift_not level.Not h d = d
lift_not m h d = tighter refl (lift_comparison m (omega arith) d)

lift_and : {f : Phrase} {u : List Token} (m : Level) → 2 ≤ bind m → Derives m f u → Derives level.And f u
lift_and level.And h d = d
lift_and m h d = tighter refl (lift_not m (omega arith) d)

lift_or : {f : Phrase} {u : List Token} (m : Level) → 1 ≤ bind m → Derives m f u → Derives level.Or f u
lift_or level.Or h d = d
lift_or m h d = tighter refl (lift_and m (omega arith) d)

pub lift : {f : Phrase} {u : List Token} (l m : Level) → bind l ≤ bind m → Derives m f u → Derives l f u
lift level.Atom m h d = lift_atom m h d
lift level.Sign m h d = lift_sign m h d
lift level.Product m h d = lift_product m h d
lift level.Sum m h d = lift_sum m h d
lift level.Comparison m h d = lift_comparison m h d
lift level.Not m h d = lift_not m h d
lift level.And m h d = lift_and m h d
lift level.Or m h d = lift_or m h d

pub bind_low : (m : Level) → 1 ≤ bind m
bind_low level.Or = omega arith
bind_low _ = omega arith

pub bind_high : (m : Level) → bind m ≤ 8
bind_high level.Or = omega arith
bind_high _ = omega arith

pub bind_next : (l : Level) → bind l ≤ bind (next l)
bind_next level.Or = omega arith
bind_next _ = omega arith

pub before_binds : (l : Level) (c : Class) (op : UnaryOp) → before l c ≡ Some op → prefix_binds op ≡ l
before_binds level.Not (class.Key key.Not) op h = let e : op ≡ unary.Not = cc in ap prefix_binds e
before_binds level.Sign (class.Mark sign.Minus) op h = let e : op ≡ unary.Negate = cc in ap prefix_binds e
before_binds _ _ op h = absurd cc

pub between_binds : (l : Level) (c : Class) (op : BinaryOp) → between l c ≡ Some op → binds op ≡ l
between_binds level.Or (class.Key key.Or) op h = let e : op ≡ binary.Or = cc in ap binds e
between_binds level.And (class.Key key.And) op h = let e : op ≡ binary.And = cc in ap binds e
between_binds level.Comparison (class.Mark sign.Equal) op h = let e : op ≡ binary.Equal = cc in ap binds e
between_binds level.Comparison (class.Mark sign.NotEqual) op h = let e : op ≡ binary.NotEqual = cc in ap binds e
between_binds level.Comparison (class.Mark sign.Less) op h = let e : op ≡ binary.Less = cc in ap binds e
between_binds level.Comparison (class.Mark sign.AtMost) op h = let e : op ≡ binary.AtMost = cc in ap binds e
between_binds level.Comparison (class.Mark sign.More) op h = let e : op ≡ binary.More = cc in ap binds e
between_binds level.Comparison (class.Mark sign.AtLeast) op h = let e : op ≡ binary.AtLeast = cc in ap binds e
between_binds level.Sum (class.Mark sign.Plus) op h = let e : op ≡ binary.Add = cc in ap binds e
between_binds level.Sum (class.Mark sign.Minus) op h = let e : op ≡ binary.Sub = cc in ap binds e
between_binds level.Product (class.Mark sign.Times) op h = let e : op ≡ binary.Mul = cc in ap binds e
between_binds _ _ op h = absurd cc

pub chain_left : (l : Level) → has_chains l ≡ true → left_of l ≡ l
chain_left level.Comparison h = absurd cc
chain_left _ h = refl
