-- What a test of a token tells, and what a token of a kind passes.
use Rattle.std.proofs.Common.{◌≡◌, ◌∙◌, ℕ, Bool, true, false, cond, List, Some, None, refl, ap, subst, codes}
use Rattle.std.proofs.lemmas.Slice.Eq.{bytes_eq-Decides}
use denote.Enum.Bare.{sameb}
use Rattle.postquel_tokens.specs.contracts.token.Sign as sign_type
use Rattle.postquel_tokens.specs.declared.fault.Spot.{Spot}
use Rattle.postquel_tokens.specs.declared.form.Ident.{Ident}
use Rattle.postquel_tokens.specs.declared.token.Token.{Token}
use Rattle.postquel_tokens.specs.declared.token.TokenKind.{TokenKind}
use Rattle.postquel_tokens.specs.declared.token.TokenKind.TheVariants as kind
use Rattle.postquel_tokens.specs.declared.token.Sign.{Sign}
use Rattle.postquel_tokens.specs.declared.token.Sign.TheVariants as sign
use Rattle.rows.specs.declared.field.ColType.{ColType}
use Rattle.rows.specs.declared.field.ColType.TheVariants as col
use Rattle.catalog_load.specs.Catalogs.{IsPiece, Named, Quoted, is_key, type_word}
use Rattle.catalog_load.specs.Machine.{mark_is, name_in, name_of, quoted_in, quoted_of, type_of, word_is}

pub word_told : (word : List ℕ) (k : TokenKind) → word_is word k ≡ true → k ≡ kind.Name word
word_told word (kind.Name text) e = ap kind.Name ((bytes_eq-Decides text word).0 e)
word_told word (kind.Number n) e = cc
word_told word (kind.Word text) e = cc
word_told word (kind.Mark s) e = cc
word_told word kind.End e = cc

pub word_passes : (word : List ℕ) (k : TokenKind) → k ≡ kind.Name word → word_is word k ≡ true
word_passes word k e = ap (word_is word) e ∙ (bytes_eq-Decides word word).1 refl

left_is : (s : Sign) → sameb sign_type.the_type s sign.Left ≡ true → s ≡ sign.Left
left_is sign.Left e = refl
left_is _ e = cc

right_is : (s : Sign) → sameb sign_type.the_type s sign.Right ≡ true → s ≡ sign.Right
right_is sign.Right e = refl
right_is _ e = cc

comma_is : (s : Sign) → sameb sign_type.the_type s sign.Comma ≡ true → s ≡ sign.Comma
comma_is sign.Comma e = refl
comma_is _ e = cc

equal_is : (s : Sign) → sameb sign_type.the_type s sign.Equal ≡ true → s ≡ sign.Equal
equal_is sign.Equal e = refl
equal_is _ e = cc

mark_told : (s : Sign) → ((f : Sign) → sameb sign_type.the_type f s ≡ true → f ≡ s) → (k : TokenKind) → mark_is s k ≡ true → k ≡ kind.Mark s
mark_told s same (kind.Mark f) e = ap kind.Mark (same f e)
mark_told s same (kind.Name text) e = cc
mark_told s same (kind.Number n) e = cc
mark_told s same (kind.Word text) e = cc
mark_told s same kind.End e = cc

pub left_told : (k : TokenKind) → mark_is sign.Left k ≡ true → k ≡ kind.Mark sign.Left
left_told = mark_told sign.Left left_is

pub right_told : (k : TokenKind) → mark_is sign.Right k ≡ true → k ≡ kind.Mark sign.Right
right_told = mark_told sign.Right right_is

pub comma_told : (k : TokenKind) → mark_is sign.Comma k ≡ true → k ≡ kind.Mark sign.Comma
comma_told = mark_told sign.Comma comma_is

pub equal_told : (k : TokenKind) → mark_is sign.Equal k ≡ true → k ≡ kind.Mark sign.Equal
equal_told = mark_told sign.Equal equal_is

named_by : (b : Bool) (text : List ℕ) (spot : Spot) (name : Ident) → is_key text ≡ b → cond b None (Some (record { text = text; spot = spot })) ≡ Some name → (kind.Name text ≡ kind.Name name.text) × (spot ≡ name.spot) × (is_key name.text ≡ false)
named_by true text spot name k e = cc
named_by false text spot name k e = let same : record { text = text; spot = spot } ≡ name = cc in subst (λ (n : Ident). (kind.Name text ≡ kind.Name n.text) × (spot ≡ n.spot) × (is_key n.text ≡ false)) same (refl, refl, k)

name_told_in : (spot : Spot) (k : TokenKind) (name : Ident) → name_in spot k ≡ Some name → (k ≡ kind.Name name.text) × (spot ≡ name.spot) × (is_key name.text ≡ false)
name_told_in spot (kind.Name text) name e = named_by (is_key text) text spot name refl e
name_told_in spot (kind.Number n) name e = cc
name_told_in spot (kind.Word text) name e = cc
name_told_in spot (kind.Mark s) name e = cc
name_told_in spot kind.End name e = cc

pub name_told : (t : Token) (name : Ident) → name_of t ≡ Some name → IsPiece (Named name) t
name_told t name e = name_told_in t.spot t.kind name e

pub name_passes : (t : Token) (name : Ident) → IsPiece (Named name) t → name_of t ≡ Some name
name_passes t name p = ap (name_in t.spot) p.0 ∙ rw (p.1, p.2) refl

pub quoted_told : (t : Token) (text : List ℕ) → quoted_of t ≡ Some text → IsPiece (Quoted text) t
quoted_told t text e = by t.kind e where
  by : (k : TokenKind) → quoted_in k ≡ Some text → k ≡ kind.Word text
  by (kind.Word w) e = let same : w ≡ text = cc in ap kind.Word same
  by (kind.Name w) e = cc
  by (kind.Number n) e = cc
  by (kind.Mark s) e = cc
  by kind.End e = cc

type_by : (a b c : Bool) (t : Token) (k : ColType) → word_is (codes "int4") t.kind ≡ a → word_is (codes "text") t.kind ≡ b → word_is (codes "bool") t.kind ≡ c
    → cond a (Some col.Int4) (cond b (Some col.Text) (cond c (Some col.Bool) None)) ≡ Some k → t.kind ≡ kind.Name (type_word k)
type_by true b c t k p q r e = let same : col.Int4 ≡ k = cc in subst (λ (x : ColType). t.kind ≡ kind.Name (type_word x)) same (word_told (codes "int4") t.kind p)
type_by false true c t k p q r e = let same : col.Text ≡ k = cc in subst (λ (x : ColType). t.kind ≡ kind.Name (type_word x)) same (word_told (codes "text") t.kind q)
type_by false false true t k p q r e = let same : col.Bool ≡ k = cc in subst (λ (x : ColType). t.kind ≡ kind.Name (type_word x)) same (word_told (codes "bool") t.kind r)
type_by false false false t k p q r e = cc

pub type_told : (t : Token) (k : ColType) → type_of t ≡ Some k → t.kind ≡ kind.Name (type_word k)
type_told t k e = type_by (word_is (codes "int4") t.kind) (word_is (codes "text") t.kind) (word_is (codes "bool") t.kind) t k refl refl refl e

pub type_passes : (t : Token) (k : ColType) → t.kind ≡ kind.Name (type_word k) → type_of t ≡ Some k
type_passes t col.Int4 e = rw e refl
type_passes t col.Text e = rw e refl
type_passes t col.Bool e = rw e refl
