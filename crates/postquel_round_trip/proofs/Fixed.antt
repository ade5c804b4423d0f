-- Keys and marks are lexed as themselves.
use Rattle.std.proofs.Common.{◌≡◌, ◌≢◌, ℕ, cond, eqb, false, List, [], ◌∷◌, ◌++◌, Some, refl, sym, ap, ◌∙◌, arith}
use Rattle.std.specs.Prelude.{codes, slice_index_or}
use Rattle.postquel_tokens.specs.declared.fault.Spot.{Spot}
use Rattle.postquel_tokens.specs.declared.token.Sign.TheVariants as sign
use Rattle.postquel_tokens.specs.declared.token.TokenKind.TheVariants as kind
use Rattle.postquel_tokens.specs.declared.form.UnaryOp.{UnaryOp}
use Rattle.postquel_tokens.specs.declared.form.UnaryOp.TheVariants as unary
use Rattle.postquel_tokens.specs.declared.form.BinaryOp.{BinaryOp}
use Rattle.postquel_tokens.specs.declared.form.BinaryOp.TheVariants as binary
use Rattle.postquel_tokens.specs.Lex.{after, piece, marked, mark, prepend, behind, tokens_from}
use Rattle.postquel.specs.declared.class.Class.{Class}
use Rattle.postquel.specs.declared.class.Class.TheVariants as class
use Rattle.postquel_tokens.specs.declared.name.Key.TheVariants as key
use Rattle.postquel.specs.declared.class.Soft.TheVariants as soft
use Rattle.postquel.specs.declared.level.Level.{Level}
use Rattle.postquel.specs.declared.level.Level.TheVariants as level
use Rattle.postquel.specs.Class.{soft_of}
use Rattle.postquel_tokens.specs.Names.{key_of}
use Rattle.postquel.specs.Level.{before, between}
use Rattle.postquel.specs.Print.{symbol, prefix_symbol}
use Rattle.postquel_round_trip.proofs.Strengths.{binds, prefix_binds}
use Rattle.postquel_round_trip.proofs.Lexing.{token, low_utf8, front_one, Gives, Any, Apart, One, one, fixed}
use Rattle.postquel_round_trip.proofs.Literals.{key_gives}

-- ---- marks

pub left_gives : Gives (codes "(") Any (One (class.Mark sign.Left))
unfolding piece mark
left_gives = fixed (codes "(") [] (kind.Mark sign.Left) (class.Mark sign.Left) refl (λ s r. refl) (omega arith) refl

pub right_gives : Gives (codes ")") Any (One (class.Mark sign.Right))
unfolding piece mark
right_gives = fixed (codes ")") [] (kind.Mark sign.Right) (class.Mark sign.Right) refl (λ s r. refl) (omega arith) refl

pub dot_gives : Gives (codes ".") Any (One (class.Mark sign.Dot))
unfolding piece mark
dot_gives = fixed (codes ".") [] (kind.Mark sign.Dot) (class.Mark sign.Dot) refl (λ s r. refl) (omega arith) refl

pub comma_gives : Gives (codes ", ") Any (One (class.Mark sign.Comma))
unfolding piece mark
comma_gives = fixed (codes ", ") [] (kind.Mark sign.Comma) (class.Mark sign.Comma) refl (λ s r. refl) (omega arith) refl

pub equal_gives : Gives (codes " = ") Any (One (class.Mark sign.Equal))
unfolding piece mark
equal_gives = fixed (codes " = ") (codes " ") (kind.Mark sign.Equal) (class.Mark sign.Equal) refl (λ s r. refl) (omega arith) refl

more_is : (s : Spot) (r : List ℕ) → eqb (slice_index_or r 0 0) 61 ≡ false → tokens_from 0 s (62 ∷ r) ≡ prepend (token (kind.Mark sign.More) s) (tokens_from 0 (after s 62) r)
unfolding piece mark
more_is s r p = ap (λ q. behind (cond q (marked sign.AtLeast 2) (marked sign.More 1)) s (λ n. tokens_from n (after s 62) r)) p

pub more_gives : Gives (codes ">") Apart (One (class.Mark sign.More))
more_gives s r p =
    record {
      tokens = token (kind.Mark sign.More) s ∷ [];
      to = after s 62;
      is = more_is s r p.1 ∙ front_one (token (kind.Mark sign.More) s) (tokens_from 0 (after s 62) r);
      derives = one (token (kind.Mark sign.More) s) refl;
      short = omega arith;
      utf8 = low_utf8 (codes ">") refl;
    }

pub go_gives : Gives (codes " \\g\n") Any (One (class.Mark sign.Go))
unfolding piece mark
go_gives = fixed (codes " \\g\n") (codes " ") (kind.Mark sign.Go) (class.Mark sign.Go) refl (λ s r. refl) (omega arith) refl

-- ---- keys with a blank behind them

pub retrieve_gives : Gives (codes "retrieve ") Any (One (class.Key key.Retrieve))
unfolding piece mark key_of soft_of
retrieve_gives = fixed (codes "retrieve ") (codes "") (kind.Name (codes "retrieve")) (class.Key key.Retrieve) refl (λ s r. refl) (omega arith) refl

pub machine_gives : Gives (codes "machine ") Any (One (class.Key key.Machine))
unfolding piece mark key_of soft_of
machine_gives = fixed (codes "machine ") (codes "") (kind.Name (codes "machine")) (class.Key key.Machine) refl (λ s r. refl) (omega arith) refl

pub unique_gives : Gives (codes "unique ") Any (One (class.Key key.Unique))
unfolding piece mark key_of soft_of
unique_gives = fixed (codes "unique ") (codes "") (kind.Name (codes "unique")) (class.Key key.Unique) refl (λ s r. refl) (omega arith) refl

pub into_gives : Gives (codes "into ") Any (One (class.Key key.Into))
unfolding piece mark key_of soft_of
into_gives = fixed (codes "into ") (codes "") (kind.Name (codes "into")) (class.Key key.Into) refl (λ s r. refl) (omega arith) refl

pub not_gives : Gives (codes "not ") Any (One (class.Key key.Not))
unfolding piece mark key_of soft_of
not_gives = fixed (codes "not ") (codes "") (kind.Name (codes "not")) (class.Key key.Not) refl (λ s r. refl) (omega arith) refl

pub by_gives : Gives (codes "by ") Any (One (class.Key key.By))
unfolding piece mark key_of soft_of
by_gives = fixed (codes "by ") (codes "") (kind.Name (codes "by")) (class.Key key.By) refl (λ s r. refl) (omega arith) refl

pub from_gives : Gives (codes " from ") Any (One (class.Key key.From))
unfolding piece mark key_of soft_of
from_gives = fixed (codes " from ") (codes " ") (kind.Name (codes "from")) (class.Key key.From) refl (λ s r. refl) (omega arith) refl

pub where_gives : Gives (codes " where ") Any (One (class.Key key.Where))
unfolding piece mark key_of soft_of
where_gives = fixed (codes " where ") (codes " ") (kind.Name (codes "where")) (class.Key key.Where) refl (λ s r. refl) (omega arith) refl

pub sort_gives : Gives (codes " sort ") Any (One (class.Key key.Sort))
unfolding piece mark key_of soft_of
sort_gives = fixed (codes " sort ") (codes " ") (kind.Name (codes "sort")) (class.Key key.Sort) refl (λ s r. refl) (omega arith) refl

pub using_gives : Gives (codes " using ") Any (One (class.Key key.Using))
unfolding piece mark key_of soft_of
using_gives = fixed (codes " using ") (codes " ") (kind.Name (codes "using")) (class.Key key.Using) refl (λ s r. refl) (omega arith) refl

pub in_gives : Gives (codes " in ") Any (One (class.Key key.In))
unfolding piece mark key_of soft_of
in_gives = fixed (codes " in ") (codes " ") (kind.Name (codes "in")) (class.Key key.In) refl (λ s r. refl) (omega arith) refl

pub is_gives : Gives (codes " is ") Any (One (class.Key key.Is))
unfolding piece mark key_of soft_of
is_gives = fixed (codes " is ") (codes " ") (kind.Name (codes "is")) (class.Key key.Is) refl (λ s r. refl) (omega arith) refl

pub after_gives : Gives (codes " after ") Any (One (class.Name soft.After))
unfolding piece mark key_of soft_of
after_gives = fixed (codes " after ") (codes " ") (kind.Name (codes "after")) (class.Name soft.After) refl (λ s r. refl) (omega arith) refl

-- ---- keys that something else follows

pub all_gives : Gives (codes "all") Apart (One (class.Key key.All))
unfolding key_of
all_gives = key_gives (codes "all") (class.Key key.All) (refl, refl, omega arith, omega arith) refl

pub null_gives : Gives (codes "null") Apart (One (class.Key key.Null))
unfolding key_of
null_gives = key_gives (codes "null") (class.Key key.Null) (refl, refl, omega arith, omega arith) refl

pub true_gives : Gives (codes "true") Apart (One (class.Key key.True))
unfolding key_of
true_gives = key_gives (codes "true") (class.Key key.True) (refl, refl, omega arith, omega arith) refl

pub false_gives : Gives (codes "false") Apart (One (class.Key key.False))
unfolding key_of
false_gives = key_gives (codes "false") (class.Key key.False) (refl, refl, omega arith, omega arith) refl

-- ---- operators

abbrev pub class_at : BinaryOp → Class
class_at binary.Or = class.Key key.Or
class_at binary.And = class.Key key.And
class_at binary.Equal = class.Mark sign.Equal
class_at binary.NotEqual = class.Mark sign.NotEqual
class_at binary.Less = class.Mark sign.Less
class_at binary.AtMost = class.Mark sign.AtMost
class_at binary.More = class.Mark sign.More
class_at binary.AtLeast = class.Mark sign.AtLeast
class_at binary.Add = class.Mark sign.Plus
class_at binary.Sub = class.Mark sign.Minus
class_at binary.Mul = class.Mark sign.Times

abbrev pub prefix_class : UnaryOp → Class
prefix_class unary.Not = class.Key key.Not
prefix_class unary.Negate = class.Mark sign.Minus

pub operator_gives : (op : BinaryOp) → Gives (32 ∷ (symbol op ++ 32 ∷ [])) Any (One (class_at op))
unfolding piece mark key_of
operator_gives binary.Or = fixed (codes " or ") (codes " ") (kind.Name (codes "or")) (class.Key key.Or) refl (λ s r. refl) (omega arith) refl
operator_gives binary.And = fixed (codes " and ") (codes " ") (kind.Name (codes "and")) (class.Key key.And) refl (λ s r. refl) (omega arith) refl
operator_gives binary.Equal = fixed (codes " = ") (codes " ") (kind.Mark sign.Equal) (class.Mark sign.Equal) refl (λ s r. refl) (omega arith) refl
operator_gives binary.NotEqual = fixed (codes " != ") (codes " ") (kind.Mark sign.NotEqual) (class.Mark sign.NotEqual) refl (λ s r. refl) (omega arith) refl
operator_gives binary.Less = fixed (codes " < ") (codes " ") (kind.Mark sign.Less) (class.Mark sign.Less) refl (λ s r. refl) (omega arith) refl
operator_gives binary.AtMost = fixed (codes " <= ") (codes " ") (kind.Mark sign.AtMost) (class.Mark sign.AtMost) refl (λ s r. refl) (omega arith) refl
operator_gives binary.More = fixed (codes " > ") (codes " ") (kind.Mark sign.More) (class.Mark sign.More) refl (λ s r. refl) (omega arith) refl
operator_gives binary.AtLeast = fixed (codes " >= ") (codes " ") (kind.Mark sign.AtLeast) (class.Mark sign.AtLeast) refl (λ s r. refl) (omega arith) refl
operator_gives binary.Add = fixed (codes " + ") (codes " ") (kind.Mark sign.Plus) (class.Mark sign.Plus) refl (λ s r. refl) (omega arith) refl
operator_gives binary.Sub = fixed (codes " - ") (codes " ") (kind.Mark sign.Minus) (class.Mark sign.Minus) refl (λ s r. refl) (omega arith) refl
operator_gives binary.Mul = fixed (codes " * ") (codes " ") (kind.Mark sign.Times) (class.Mark sign.Times) refl (λ s r. refl) (omega arith) refl

pub prefix_gives : (op : UnaryOp) → Gives (prefix_symbol op) Any (One (prefix_class op))
unfolding piece mark
prefix_gives unary.Not = not_gives
prefix_gives unary.Negate = fixed (codes "-") [] (kind.Mark sign.Minus) (class.Mark sign.Minus) refl (λ s r. refl) (omega arith) refl

pub between_at : (op : BinaryOp) → between (binds op) (class_at op) ≡ Some op
between_at binary.Or = refl
between_at binary.And = refl
between_at binary.Equal = refl
between_at binary.NotEqual = refl
between_at binary.Less = refl
between_at binary.AtMost = refl
between_at binary.More = refl
between_at binary.AtLeast = refl
between_at binary.Add = refl
between_at binary.Sub = refl
between_at binary.Mul = refl

pub before_at : (op : UnaryOp) → before (prefix_binds op) (prefix_class op) ≡ Some op
before_at unary.Not = refl
before_at unary.Negate = refl

pub class_no_go : (op : BinaryOp) → class_at op ≢ class.Mark sign.Go
class_no_go binary.Or = λ e. absurd cc
class_no_go binary.And = λ e. absurd cc
class_no_go binary.Equal = λ e. absurd cc
class_no_go binary.NotEqual = λ e. absurd cc
class_no_go binary.Less = λ e. absurd cc
class_no_go binary.AtMost = λ e. absurd cc
class_no_go binary.More = λ e. absurd cc
class_no_go binary.AtLeast = λ e. absurd cc
class_no_go binary.Add = λ e. absurd cc
class_no_go binary.Sub = λ e. absurd cc
class_no_go binary.Mul = λ e. absurd cc

pub prefix_no_go : (op : UnaryOp) → prefix_class op ≢ class.Mark sign.Go
prefix_no_go unary.Not = λ e. absurd cc
prefix_no_go unary.Negate = λ e. absurd cc

pub between_class : (l : Level) (c : Class) (op : BinaryOp) → between l c ≡ Some op → c ≡ class_at op
between_class level.Or (class.Key key.Or) op h = let e : op ≡ binary.Or = cc in ap class_at (sym e)
between_class level.And (class.Key key.And) op h = let e : op ≡ binary.And = cc in ap class_at (sym e)
between_class level.Comparison (class.Mark sign.Equal) op h = let e : op ≡ binary.Equal = cc in ap class_at (sym e)
between_class level.Comparison (class.Mark sign.NotEqual) op h = let e : op ≡ binary.NotEqual = cc in ap class_at (sym e)
between_class level.Comparison (class.Mark sign.Less) op h = let e : op ≡ binary.Less = cc in ap class_at (sym e)
between_class level.Comparison (class.Mark sign.AtMost) op h = let e : op ≡ binary.AtMost = cc in ap class_at (sym e)
between_class level.Comparison (class.Mark sign.More) op h = let e : op ≡ binary.More = cc in ap class_at (sym e)
between_class level.Comparison (class.Mark sign.AtLeast) op h = let e : op ≡ binary.AtLeast = cc in ap class_at (sym e)
between_class level.Sum (class.Mark sign.Plus) op h = let e : op ≡ binary.Add = cc in ap class_at (sym e)
between_class level.Sum (class.Mark sign.Minus) op h = let e : op ≡ binary.Sub = cc in ap class_at (sym e)
between_class level.Product (class.Mark sign.Times) op h = let e : op ≡ binary.Mul = cc in ap class_at (sym e)
between_class _ _ op h = absurd cc

pub before_class : (l : Level) (c : Class) (op : UnaryOp) → before l c ≡ Some op → c ≡ prefix_class op
before_class level.Not (class.Key key.Not) op h = let e : op ≡ unary.Not = cc in ap prefix_class (sym e)
before_class level.Sign (class.Mark sign.Minus) op h = let e : op ≡ unary.Negate = cc in ap prefix_class (sym e)
before_class _ _ op h = absurd cc
