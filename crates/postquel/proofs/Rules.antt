-- Each rule of the grammar, over what stands in it.
use Rattle.std.proofs.Common.{◌≡◌, ◌≢◌, ◌⊎◌, ℕ, pos, Bool, true, false, List, [], ◌∷◌, ◌++◌, Option, Some, None, refl, sym, ap, ◌∙◌, inl, inr}
use Rattle.std.proofs.lemmas.List.{append-nil}
use Rattle.postquel_tokens.specs.declared.token.Token.{Token}
use Rattle.postquel_tokens.specs.declared.token.TokenKind.TheVariants as kind
use Rattle.postquel_tokens.specs.declared.fault.What.{What}
use Rattle.postquel_tokens.specs.declared.fault.What.TheVariants as what
use Rattle.postquel.specs.declared.class.Class.{Class}
use Rattle.postquel.specs.declared.class.Class.TheVariants as class
use Rattle.postquel_tokens.specs.declared.name.Key.TheVariants as key
use Rattle.postquel_tokens.specs.declared.token.Sign.TheVariants as sign
use Rattle.postquel_tokens.specs.declared.form.UnaryOp.{UnaryOp}
use Rattle.postquel_tokens.specs.Forms.{Phrase}
use Rattle.postquel_tokens.specs.Forms as form
use Rattle.postquel.specs.declared.level.Level.{Level}
use Rattle.postquel.specs.declared.level.Level.TheVariants as level
use Rattle.postquel.specs.Level.{next, before}
use Rattle.postquel.specs.Input.{Parser, ◌>>=◌, pure, take, first}
use Rattle.postquel.specs.Grammar.{prefixed_by, prefixed as prefixed_rule}
use Rattle.postquel.specs.Class.{looks}
use Rattle.postquel.specs.Syntax.{has_chains, is_atom, Derives, number, word, truth, falsity, dotted, parens, tighter, prefixed, compared, null, not_null, chained}
use Rattle.postquel.proofs.Good.{Then, Good}
use Rattle.postquel.proofs.Combine.{Any, Is, pure_good, convert, in_turn, by_head, Steps, One, take_good}
use Rattle.postquel.proofs.Levels.{before_apart, heads, goes, ends_down}

abbrev pub Ends : Level → Class → Type 0
Ends l c = goes l c ≡ false

-- ---- a sentence of each level

abbrev pub zero_token : Token
zero_token = record { kind = kind.Number (pos 0); spot = record { line = 1; col = 1 } }

abbrev pub zero_form : Phrase
zero_form = form.Number (pos 0)

abbrev pub zero_text : List Token
zero_text = zero_token ∷ []

pub zero_at : (l : Level) → Derives l zero_form zero_text
zero_at level.Atom = number zero_token refl
zero_at level.Sign = tighter refl (number zero_token refl)
zero_at level.Product = tighter refl (tighter refl (number zero_token refl))
zero_at level.Sum = tighter refl (tighter refl (tighter refl (number zero_token refl)))
zero_at level.Comparison = tighter refl (tighter refl (tighter refl (tighter refl (number zero_token refl))))
zero_at level.Not = tighter refl (tighter refl (tighter refl (tighter refl (tighter refl (number zero_token refl)))))
zero_at level.And = tighter refl (tighter refl (tighter refl (tighter refl (tighter refl (tighter refl (number zero_token refl))))))
zero_at level.Or = tighter refl (tighter refl (tighter refl (tighter refl (tighter refl (tighter refl (tighter refl (number zero_token refl)))))))

-- ---- operators before an operand

abbrev pub is_prefix : Level → Bool
is_prefix level.Not = true
is_prefix level.Sign = true
is_prefix _ = false

prefix_no_chain : (l : Level) → is_prefix l ≡ true → has_chains l ≡ true → ⊥
prefix_no_chain level.Not p c = absurd cc
prefix_no_chain level.Sign p c = absurd cc
prefix_no_chain _ p c = absurd cc

pub prefix_no_atom : (l : Level) → is_prefix l ≡ true → is_atom l ≡ false
prefix_no_atom level.Not p = refl
prefix_no_atom level.Sign p = refl
prefix_no_atom _ p = absurd cc

pub before_steps : (l : Level) (c : Class) (op : UnaryOp) (d : ℕ) → before l c ≡ Some op → Steps c d d
before_steps level.Not (class.Key key.Not) op d h = record { here = λ e. absurd cc; flat = refl }
before_steps level.Sign (class.Mark sign.Minus) op d h = record { here = λ e. absurd cc; flat = refl }
before_steps _ _ op d h = absurd cc

pub record Before (l : Level) (f : Phrase) (u : List Token) : Type 0 where
  pub token : Token
  pub op : UnaryOp
  pub inner : Phrase
  pub tail : List Token
  pub is : f ≡ form.Unary op token.spot inner
  pub parts : u ≡ token ∷ tail
  pub reads : before l (looks token) ≡ Some op
  pub derives : Derives (next l) inner tail

pub split_prefixed : {l : Level} {f : Phrase} {u : List Token} → Derives l f u → is_prefix l ≡ true → Derives (next l) f u ⊎ Before l f u
split_prefixed (number t e) p = absurd cc
split_prefixed (word t e) p = absurd cc
split_prefixed (truth t e) p = absurd cc
split_prefixed (falsity t e) p = absurd cc
split_prefixed (dotted v d c e f g) p = absurd cc
split_prefixed (parens l r e f x) p = absurd cc
split_prefixed (tighter a x) p = inl x
split_prefixed (prefixed {l} {f} {u} t op h x) p = inr (record { token = t; op = op; inner = f; tail = u; is = refl; parts = refl; reads = h; derives = x })
split_prefixed (compared t op x h y) p = absurd cc
split_prefixed (null t n x h k) p = absurd cc
split_prefixed (not_null t m n x h k j) p = absurd cc
split_prefixed (chained {l} t op c x h y) p = absurd (prefix_no_chain l p c)

module _ (bar : What) (barred : bar ≢ what.Unexpected) where
  abbrev PrefixTail : Level → UnaryOp → Token → Phrase → List Token → Type 0
  PrefixTail l op t = Then (Derives (next l)) (λ f. Is (form.Unary op t.spot f))

  join_prefixed : (l : Level) (c : Class) (op : UnaryOp) → before l c ≡ Some op → (a : Phrase) (u : List Token) → Then (One c) (PrefixTail l op) a u → Derives l a u
  join_prefixed l c op h a u x =
      let y = x.two in
      let parts : u ≡ x.middle ∷ y.front = x.parts ∙ ap (λ (v : List Token). v ++ x.back) x.one.0 ∙ ap (λ (v : List Token). x.middle ∷ v) (y.parts ∙ ap (λ (v : List Token). y.front ++ v) y.two.1 ∙ append-nil y.front) in
      rw (parts, y.two.0) (prefixed x.middle op (ap (before l) x.one.1 ∙ h) y.one)

  part_prefixed : (l : Level) (c : Class) (op : UnaryOp) → is_prefix l ≡ true → before l c ≡ Some op → (a : Phrase) (u r : List Token) → Derives l a u → first (u ++ r) ≡ c → Then (One c) (PrefixTail l op) a u
  part_prefixed l c op p h a u r x e =
      elim (split_prefixed x p) [
        | inl y ↦ let yes = heads y r in let no = before_apart l c op h in absurd cc
        | inr y ↦
            let head : looks y.token ≡ c = ap (λ (v : List Token). first (v ++ r)) (sym y.parts) ∙ e in
            let op_is : op ≡ y.op = cc in
            record {
              middle = y.token;
              front = y.token ∷ [];
              back = y.tail;
              parts = y.parts;
              one = (refl, head);
              two = record { middle = y.inner; front = y.tail; back = []; parts = sym (append-nil y.tail); one = y.derives; two = (rw op_is y.is, refl) };
            }
      ]

  prefixed_case : (l : Level) (d : ℕ) (operand : Parser Phrase) → is_prefix l ≡ true → Good bar Any d d (Ends (next l)) (Derives (next l)) operand
      → (c : Class) (o : Option UnaryOp) → before l c ≡ o → Good bar (λ k. k ≡ c) d d (Ends l) (Derives l) (prefixed_by operand o)
  prefixed_case l d operand p g c None h = convert bar barred operand g (λ k e. tt) (λ k e. ends_down l k e) (λ a u x. tighter (prefix_no_atom l p) x)
      (λ a u r x e f. elim (split_prefixed x p) [
        | inl y ↦ y
        | inr y ↦ let head : looks y.token ≡ c = ap (λ (v : List Token). first (v ++ r)) (sym y.parts) ∙ e in let reads = y.reads in absurd cc
      ])
  prefixed_case l d operand p g c (Some op) h =
      convert bar barred (take >>= λ t. operand >>= λ f. pure (form.Unary op t.spot f))
      (in_turn bar barred {F = PrefixTail l op} take (λ t. operand >>= λ f. pure (form.Unary op t.spot f)) (take_good bar barred c d d Any (before_steps l c op d h))
      (λ t. in_turn bar barred {F = λ f. Is (form.Unary op t.spot f)} operand (λ f. pure (form.Unary op t.spot f)) g (λ f. pure_good bar barred (form.Unary op t.spot f) d (Ends (next l)))
      (λ f. (form.Unary op t.spot f, [], (refl, refl))) (λ f b w r x e. rw x.1 e))
      (λ t. (form.Unary op t.spot zero_form, zero_text, record { middle = zero_form; front = zero_text; back = []; parts = refl; one = zero_at (next l); two = (refl, refl) }))
      (λ t b w r x e. tt))
      (λ k e. e) (λ k e. ends_down l k e) (join_prefixed l c op h) (λ a u r x e f. part_prefixed l c op p h a u r x e)

  pub prefixed_good : (l : Level) (d : ℕ) (operand : Parser Phrase) → is_prefix l ≡ true → Good bar Any d d (Ends (next l)) (Derives (next l)) operand
      → Good bar Any d d (Ends l) (Derives l) (prefixed_rule l operand)
  unfolding prefixed_rule
  prefixed_good l d operand p g = by_head bar barred (λ c. prefixed_by operand (before l c)) (λ c. prefixed_case l d operand p g c (before l c) refl)
