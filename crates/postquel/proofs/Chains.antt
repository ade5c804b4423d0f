-- Operators between operands.
use Rattle.std.proofs.Common.{◌≡◌, ◌≢◌, ◌⊎◌, ℕ, zero, suc, ◌+◌, ◌≤◌, Bool, true, false, List, [], ◌∷◌, ◌++◌, length, Option, Some, None, Ok, Err, refl, sym, ap, subst, ◌∙◌, inl, inr, append_assoc, length-append, arith}
use Rattle.std.proofs.lemmas.List.{append-nil, append_cancel_right}
use Rattle.postquel_tokens.specs.declared.token.Token.{Token}
use Rattle.postquel_tokens.specs.declared.fault.What.{What}
use Rattle.postquel_tokens.specs.declared.fault.What.TheVariants as what
use Rattle.postquel.specs.declared.class.Class.{Class}
use Rattle.postquel.specs.declared.class.Class.TheVariants as class
use Rattle.postquel_tokens.specs.declared.name.Key.TheVariants as key
use Rattle.postquel_tokens.specs.declared.token.Sign.TheVariants as sign
use Rattle.postquel_tokens.specs.declared.form.BinaryOp.{BinaryOp}
use Rattle.postquel_tokens.specs.declared.form.UnaryOp.{UnaryOp}
use Rattle.postquel_tokens.specs.Forms.{Phrase}
use Rattle.postquel_tokens.specs.Forms as form
use Rattle.postquel.specs.declared.level.Level.{Level}
use Rattle.postquel.specs.declared.level.Level.TheVariants as level
use Rattle.postquel.specs.Level.{next, between, before}
use Rattle.postquel_tokens.specs.declared.token.TokenKind.TheVariants as kind
use Rattle.postquel_tokens.specs.declared.name.Key.{Key}
use Rattle.postquel_tokens.specs.Names.{key_of}
use Rattle.postquel.specs.Parts.{OrNone, absent, present}
use Rattle.postquel.specs.Input.{Input, Stop, Outcome, Parser, and_then, ◌>>=◌, ◌>>◌, pure, peek, take, first, expect_key}
use Rattle.postquel.specs.Grammar.{longer_by, climb, denial, null_test, compared_by, chained as chained_rule, compared as compared_rule}
use Rattle.postquel.specs.Class.{looks}
use Rattle.postquel.specs.Syntax.{has_chains, is_atom, Derives, number, word, truth, falsity, dotted, parens, tighter, prefixed, compared, null, not_null, chained}
use Rattle.postquel.proofs.Good.{CanEnd, Then, at, Took, Halted, Good}
use Rattle.postquel.proofs.Combine.{Any, Is, pure_good, convert, in_turn, by_head, Steps, One, take_good, Single, Lead, Image, This, IsKey, lead_first, lead, image, this_good, expect_key_good, or_none_good}
use Rattle.postquel.proofs.Levels.{ends_down, ends_none, operator_ends, is_test, test_ends}
use Rattle.postquel.proofs.Rules.{Ends, is_prefix, zero_form, zero_text, zero_at}

pub between_steps : (l : Level) (c : Class) (op : BinaryOp) (d : ℕ) → between l c ≡ Some op → Steps c d d
between_steps level.Or (class.Key key.Or) op d h = record { here = λ e. absurd cc; flat = refl }
between_steps level.And (class.Key key.And) op d h = record { here = λ e. absurd cc; flat = refl }
between_steps level.Comparison (class.Mark sign.Equal) op d h = record { here = λ e. absurd cc; flat = refl }
between_steps level.Comparison (class.Mark sign.NotEqual) op d h = record { here = λ e. absurd cc; flat = refl }
between_steps level.Comparison (class.Mark sign.Less) op d h = record { here = λ e. absurd cc; flat = refl }
between_steps level.Comparison (class.Mark sign.AtMost) op d h = record { here = λ e. absurd cc; flat = refl }
between_steps level.Comparison (class.Mark sign.More) op d h = record { here = λ e. absurd cc; flat = refl }
between_steps level.Comparison (class.Mark sign.AtLeast) op d h = record { here = λ e. absurd cc; flat = refl }
between_steps level.Sum (class.Mark sign.Plus) op d h = record { here = λ e. absurd cc; flat = refl }
between_steps level.Sum (class.Mark sign.Minus) op d h = record { here = λ e. absurd cc; flat = refl }
between_steps level.Product (class.Mark sign.Times) op d h = record { here = λ e. absurd cc; flat = refl }
between_steps _ _ op d h = absurd cc

pub before_is_prefix : (l : Level) (c : Class) (op : UnaryOp) → before l c ≡ Some op → is_prefix l ≡ true
before_is_prefix level.Not (class.Key key.Not) op h = refl
before_is_prefix level.Sign (class.Mark sign.Minus) op h = refl
before_is_prefix _ _ op h = absurd cc

-- an operator, an operand and what goes on
pub record Step (l : Level) (More : Phrase → Phrase → List Token → Type 0) (left f : Phrase) (u : List Token) : Type 0 where
  pub token : Token
  pub op : BinaryOp
  pub right : Phrase
  pub front : List Token
  pub back : List Token
  pub parts : u ≡ token ∷ (front ++ back)
  pub reads : between l (looks token) ≡ Some op
  pub derives : Derives (next l) right front
  pub more : More (form.Binary op token.spot left right) f back

abbrev pub Longer : Level → (Phrase → Phrase → List Token → Type 0) → Phrase → Phrase → List Token → Type 0
Longer l More left f u = Is left f u ⊎ Step l More left f u

pub longer_ends : (l : Level) (More : Phrase → Phrase → List Token → Type 0) (left f : Phrase) (u r : List Token) → Longer l More left f u → Ends l (first r) → Ends (next l) (first (u ++ r))
longer_ends l More left f u r (inl x) e = rw x.1 (ends_down l (first r) e)
longer_ends l More left f u r (inr x) e = rw x.parts (operator_ends l (looks x.token) x.op x.reads)

pub between_end : (l : Level) → between l class.End ≡ None
between_end level.Or = refl
between_end level.And = refl
between_end level.Not = refl
between_end level.Comparison = refl
between_end level.Sum = refl
between_end level.Product = refl
between_end level.Sign = refl
between_end level.Atom = refl

-- `not`, and `null` behind it or without it
abbrev pub Denied : Bool → List Token → Type 0
Denied = Image (Single (This (class.Key key.Not))) (λ t. true)

abbrev pub NullWord : Phrase → Token → Bool → Phrase → List Token → Type 0
NullWord left t b = Image (Single (IsKey key.Null)) (λ x. form.IsNull t.spot left b)

abbrev pub NullTail : Phrase → Phrase → List Token → Type 0
NullTail left = Lead (This (class.Key key.Is)) (λ t. Then (OrNone false Denied) (NullWord left t))

abbrev pub Compared : Level → Phrase → Phrase → List Token → Type 0
Compared l left f u = Longer l Is left f u ⊎ NullTail left f u

tested_by : (a f : Phrase) (u : List Token) (t : Token) (b : Bool) (v back w : List Token) → Derives level.Sum a u → looks t ≡ class.Key key.Is → OrNone false Denied b v → w ≡ v ++ back → NullWord a t b f back → Derives level.Comparison f (u ++ t ∷ w)
tested_by a f u t b v back w x h absent p y =
    let n = y.derives.0 in
    rw (p, y.derives.1, y.gives) (null t n x h y.derives.2)
tested_by a f u t b v back w x h (present z) p y =
    let n = y.derives.0 in
    let m = z.derives.0 in
    rw (p, z.derives.1, y.derives.1, y.gives, z.gives) (not_null t m n x h z.derives.2.1 y.derives.2)

module _ (bar : What) (barred : bar ≢ what.Unexpected) where
  abbrev Right : Level → (Phrase → Phrase → List Token → Type 0) → Phrase → BinaryOp → Token → Phrase → List Token → Type 0
  Right l More left op t = Then (Derives (next l)) (λ right. More (form.Binary op t.spot left right))

  join_longer : (l : Level) (More : Phrase → Phrase → List Token → Type 0) (left : Phrase) (c : Class) (op : BinaryOp) → between l c ≡ Some op → (f : Phrase) (u : List Token) → Then (One c) (Right l More left op) f u → Longer l More left f u
  join_longer l More left c op h f u x =
      let y = x.two in
      inr (record {
        token = x.middle;
        op = op;
        right = y.middle;
        front = y.front;
        back = y.back;
        parts = x.parts ∙ ap (λ (v : List Token). v ++ x.back) x.one.0 ∙ ap (λ (v : List Token). x.middle ∷ v) y.parts;
        reads = ap (between l) x.one.1 ∙ h;
        derives = y.one;
        more = y.two;
      })

  part_longer : (l : Level) (More : Phrase → Phrase → List Token → Type 0) (left : Phrase) (c : Class) (op : BinaryOp) → between l c ≡ Some op → (f : Phrase) (u r : List Token) → Longer l More left f u → first (u ++ r) ≡ c → Ends l (first r) → Then (One c) (Right l More left op) f u
  part_longer l More left c op h f u r (inl x) e ends =
      let none = ends_none l (first r) ends in
      let same : first r ≡ c = ap (λ (v : List Token). first (v ++ r)) (sym x.1) ∙ e in
      absurd cc
  part_longer l More left c op h f u r (inr x) e ends =
      let head : looks x.token ≡ c = ap (λ (v : List Token). first (v ++ r)) (sym x.parts) ∙ e in
      let reads = x.reads in
      let op_is : x.op ≡ op = cc in
      record {
        middle = x.token;
        front = x.token ∷ [];
        back = x.front ++ x.back;
        parts = x.parts;
        one = (refl, head);
        two = record { middle = x.right; front = x.front; back = x.back; parts = refl; one = x.derives; two = rw (← op_is) x.more };
      }

  module _ (l : Level) (d : ℕ) (operand : Parser Phrase) (g : Good bar Any d d (Ends (next l)) (Derives (next l)) operand)
      (More : Phrase → Phrase → List Token → Type 0) (more : Phrase → Parser Phrase) (k : (left : Phrase) → Good bar Any d d (Ends l) (More left) (more left))
      (last : (left : Phrase) → (f : Phrase) × (w : List Token) × More left f w)
      (ends : (left f : Phrase) (w r : List Token) → More left f w → Ends l (first r) → Ends (next l) (first (w ++ r))) where
    longer_case : (left : Phrase) (c : Class) (o : Option BinaryOp) → between l c ≡ o → Good bar (λ k. k ≡ c) d d (Ends l) (Longer l More left) (longer_by operand more left o)
    longer_case left c None h = convert bar barred (pure left) (pure_good bar barred left d (Ends l)) (λ k e. tt) (λ k e. e) (λ a u x. inl x)
        (λ a u r x e f. elim x [
          | inl y ↦ y
          | inr y ↦ let head : looks y.token ≡ c = ap (λ (v : List Token). first (v ++ r)) (sym y.parts) ∙ e in let reads = y.reads in absurd cc
        ])
    longer_case left c (Some op) h =
        convert bar barred (take >>= λ t. operand >>= λ right. more (form.Binary op t.spot left right))
        (in_turn bar barred {F = Right l More left op} take (λ t. operand >>= λ right. more (form.Binary op t.spot left right)) (take_good bar barred c d d Any (between_steps l c op d h))
        (λ t. in_turn bar barred {F = λ right. More (form.Binary op t.spot left right)} operand (λ right. more (form.Binary op t.spot left right)) g (λ right. k (form.Binary op t.spot left right))
        (λ right. last (form.Binary op t.spot left right)) (λ right f w r x e. ends (form.Binary op t.spot left right) f w r x e))
        (λ t. let y = last (form.Binary op t.spot left zero_form) in
        (y.0, zero_text ++ y.1, record { middle = zero_form; front = zero_text; back = y.1; parts = refl; one = zero_at (next l); two = y.2 }))
        (λ t b w r x e. tt))
        (λ k e. e) (λ k e. e) (join_longer l More left c op h) (λ f u r x e ends. part_longer l More left c op h f u r x e ends)

    pub longer_good : (left : Phrase) → Good bar Any d d (Ends l) (Longer l More left) (peek >>= λ c. longer_by operand more left (between l c))
    longer_good left = by_head bar barred (λ c. longer_by operand more left (between l c)) (λ c. longer_case left c (between l c) refl)

  -- ---- comparisons

  split_compared : {l : Level} {f : Phrase} {u : List Token} → Derives l f u → l ≡ level.Comparison → Then (Derives (next l)) (Compared l) f u
  split_compared (number t e) p = absurd cc
  split_compared (word t e) p = absurd cc
  split_compared (truth t e) p = absurd cc
  split_compared (falsity t e) p = absurd cc
  split_compared (dotted v d c e f g) p = absurd cc
  split_compared (parens l r e f x) p = absurd cc
  split_compared (tighter {l} {f} {u} a x) p = record { middle = f; front = u; back = []; parts = sym (append-nil u); one = x; two = inl (inl (refl, refl)) }
  split_compared (prefixed {l} t op h x) p = let none = subst (λ (m : Level). before m (looks t) ≡ Some op) p h in let yes = before_is_prefix level.Comparison (looks t) op none in absurd cc
  split_compared (compared {a} {b} {u} {w} t op x h y) p = record {
    middle = a;
    front = u;
    back = t ∷ w;
    parts = refl;
    one = x;
    two = inl (inr (record { token = t; op = op; right = b; front = w; back = []; parts = ap (λ (v : List Token). t ∷ v) (sym (append-nil w)); reads = h; derives = y; more = (refl, refl) }));
  }
  split_compared (null {a} {u} t n x h k) p = record {
    middle = a;
    front = u;
    back = t ∷ n ∷ [];
    parts = refl;
    one = x;
    two = inr (record { token = t; value = t; rest = n ∷ []; parts = refl; is = (refl, h); two = record { middle = false; front = []; back = n ∷ []; parts = refl; one = absent; two = record { value = tt; derives = (n, refl, k); gives = refl } } });
  }
  split_compared (not_null {a} {u} t m n x h j k) p = record {
    middle = a;
    front = u;
    back = t ∷ m ∷ n ∷ [];
    parts = refl;
    one = x;
    two = inr (record { token = t; value = t; rest = m ∷ n ∷ []; parts = refl; is = (refl, h); two = record { middle = true; front = m ∷ []; back = n ∷ []; parts = refl; one = present (record { value = m; derives = (m, refl, (refl, j)); gives = refl }); two = record { value = tt; derives = (n, refl, k); gives = refl } } });
  }
  split_compared (chained {l} t op c x h y) p = let none : has_chains level.Comparison ≡ true = subst (λ (m : Level). has_chains m ≡ true) p c in absurd cc

  tested : (a f : Phrase) (u : List Token) (t : Token) (w : List Token) → Derives level.Sum a u → looks t ≡ class.Key key.Is → Then (OrNone false Denied) (NullWord a t) f w → Derives level.Comparison f (u ++ t ∷ w)
  tested a f u t w x h y = tested_by a f u t y.middle y.front y.back w x h y.one y.parts y.two

  join_compared : (f : Phrase) (u : List Token) → Then (Derives level.Sum) (Compared level.Comparison) f u → Derives level.Comparison f u
  join_compared f u x = elim x.two [
    | inl z ↦ elim z [
      | inl y ↦ rw (x.parts, y.0, y.1, append-nil x.front) (tighter {l = level.Comparison} refl x.one)
      | inr y ↦
          let back : x.back ≡ y.token ∷ y.front = y.parts ∙ ap (λ (v : List Token). y.token ∷ (y.front ++ v)) y.more.1 ∙ ap (λ (v : List Token). y.token ∷ v) (append-nil y.front) in
          rw (x.parts, y.more.0, back) (compared y.token y.op x.one y.reads y.derives)
    ]
    | inr y ↦
        let same : y.value ≡ y.token = y.is.0 in
        rw (x.parts, y.parts) (tested x.middle f x.front y.token y.rest x.one y.is.1 (subst (λ (t : Token). Then (OrNone false Denied) (NullWord x.middle t) f y.rest) same y.two))
  ]

  null_token : Token
  null_token = record { kind = kind.Name (110 ∷ 117 ∷ 108 ∷ 108 ∷ []); spot = record { line = 1; col = 1 } }

  null_is : looks null_token ≡ class.Key key.Null
  unfolding null_token key_of
  null_is = refl

  denied_first : (b : Bool) (u r : List Token) → Denied b u → first (u ++ r) ≡ class.Key key.Not
  denied_first b u r x = ap (λ (v : List Token). first (v ++ r)) x.derives.1 ∙ x.derives.2.1

  plain_key : (k : Key) (d : ℕ) → Steps (class.Key k) d d
  plain_key k d = record { here = λ e. absurd cc; flat = refl }

  denial_good : (d : ℕ) → Good bar Any d d (λ c. Any c × (c ≢ class.Key key.Not)) (OrNone false Denied) denial
  unfolding denial
  denial_good d = or_none_good bar barred false key.Not (take >> pure true) (image bar barred take (λ t. true) (this_good bar barred (class.Key key.Not) d d (plain_key key.Not d))) denied_first

  null_word_good : (left : Phrase) (t : Token) (b : Bool) (d : ℕ) → Good bar Any d d Any (NullWord left t b) (expect_key key.Null >>= λ x. pure (form.IsNull t.spot left b))
  null_word_good left t b d = image bar barred (expect_key key.Null) (λ x. form.IsNull t.spot left b) (expect_key_good bar barred key.Null null_token null_is d)

  word_sample : (left : Phrase) (t : Token) (b : Bool) → NullWord left t b (form.IsNull t.spot left b) (null_token ∷ [])
  word_sample left t b = record { value = tt; derives = (null_token, refl, null_is); gives = refl }

  null_good : (left : Phrase) (d : ℕ) → Good bar (λ c. c ≡ class.Key key.Is) d d Any (NullTail left) (null_test left)
  unfolding null_test
  null_good left d =
      lead bar barred {F = λ t. Then (OrNone false Denied) (NullWord left t)} take (λ t. denial >>= λ b. expect_key key.Null >>= λ x. pure (form.IsNull t.spot left b)) (this_good bar barred (class.Key key.Is) d d (plain_key key.Is d))
      (λ t. in_turn bar barred {F = NullWord left t} denial (λ b. expect_key key.Null >>= λ x. pure (form.IsNull t.spot left b)) (denial_good d) (λ b. null_word_good left t b d)
      (λ b. (form.IsNull t.spot left b, null_token ∷ [], word_sample left t b))
      (λ b f w r x e. (tt, λ q. let head : first (w ++ r) ≡ class.Key key.Null = ap (λ (v : List Token). first (v ++ r)) x.derives.1 ∙ x.derives.2 in absurd cc)))
      (λ t. (form.IsNull t.spot left false, null_token ∷ [], record { middle = false; front = []; back = null_token ∷ []; parts = refl; one = absent; two = word_sample left t false }))

  null_first : (left f : Phrase) (u r : List Token) → NullTail left f u → first (u ++ r) ≡ class.Key key.Is
  null_first left f u r x = lead_first x r ∙ x.is.1

  tail_ends_sum : (left f : Phrase) (w r : List Token) → Compared level.Comparison left f w → Ends level.Comparison (first r) → Ends level.Sum (first (w ++ r))
  tail_ends_sum left f w r (inl x) e = longer_ends level.Comparison Is left f w r x e
  tail_ends_sum left f w r (inr x) e = rw (null_first left f w r x) refl

  not_test : (c : Class) → c ≡ class.Key key.Is → is_test c ≡ true
  not_test c e = ap is_test e

  module _ (d : ℕ) (operand : Parser Phrase) (g : Good bar Any d d (Ends level.Sum) (Derives level.Sum) operand) where
    plain_case : (left : Phrase) (c : Class) → (c ≢ class.Key key.Is) → Good bar (λ k. k ≡ c) d d (Ends level.Comparison) (Compared level.Comparison left) (longer_by operand pure left (between level.Comparison c))
    plain_case left c n = convert bar barred (longer_by operand pure left (between level.Comparison c))
        (longer_case level.Comparison d operand g Is pure (λ left. pure_good bar barred left d (Ends level.Comparison)) (λ left. (left, [], (refl, refl))) (λ left f w r x e. rw x.1 (ends_down level.Comparison (first r) e)) left c (between level.Comparison c) refl)
        (λ k e. e) (λ k e. e) (λ f u x. inl x)
        (λ f u r x e h. elim x [
          | inl y ↦ y
          | inr y ↦ absurd (n (sym e ∙ null_first left f u r y))
        ])

    compared_case : (left : Phrase) (c : Class) → Good bar (λ k. k ≡ c) d d (Ends level.Comparison) (Compared level.Comparison left) (compared_by operand left c)
    compared_case left (class.Key key.Is) = convert bar barred (null_test left) (null_good left d) (λ k e. e) (λ k e. tt) (λ f u x. inr x)
        (λ f u r x e h. elim x [
          | inr y ↦ y
          | inl z ↦ elim z [
            | inl y ↦
                let same : first r ≡ class.Key key.Is = ap (λ (v : List Token). first (v ++ r)) (sym y.1) ∙ e in
                let no = test_ends (first r) h in
                let yes = not_test (first r) same in
                absurd cc
            | inr y ↦
                let head : looks y.token ≡ class.Key key.Is = ap (λ (v : List Token). first (v ++ r)) (sym y.parts) ∙ e in
                let reads : between level.Comparison (class.Key key.Is) ≡ Some y.op = subst (λ c. between level.Comparison c ≡ Some y.op) head y.reads in
                absurd cc
          ]
        ])
    compared_case left c = plain_case left c (λ e. absurd cc)

    pub compared_good : Good bar Any d d (Ends level.Comparison) (Derives level.Comparison) (compared_rule operand)
    unfolding compared_rule
    compared_good =
        convert bar barred (operand >>= λ left. peek >>= compared_by operand left)
        (in_turn bar barred {F = Compared level.Comparison} operand (λ left. peek >>= compared_by operand left) g
        (λ left. by_head bar barred (compared_by operand left) (compared_case left))
        (λ left. (left, [], inl (inl (refl, refl))))
        tail_ends_sum)
        (λ k e. e) (λ k e. e) join_compared (λ a u r x e f. split_compared x refl)

  -- ---- chains

  pub data Tail (l : Level) : Phrase → Phrase → List Token → Type 0 where
    none : (left : Phrase) → Tail l left left []
    more : {left f : Phrase} {w v : List Token} (t : Token) (op : BinaryOp) (right : Phrase) → between l (looks t) ≡ Some op → Derives (next l) right w → Tail l (form.Binary op t.spot left right) f v
        → Tail l left f (t ∷ (w ++ v))

  -- of at most so many operators
  abbrev pub Bounded : Level → ℕ → Phrase → Phrase → List Token → Type 0
  Bounded l zero = Is
  Bounded l (suc n) = Longer l (Bounded l n)

  unbound : (l : Level) (n : ℕ) (left f : Phrase) (u : List Token) → Bounded l n left f u → Tail l left f u
  unbound l zero left f u x = rw (x.0, x.1) (none left)
  unbound l (suc n) left f u (inl x) = rw (x.0, x.1) (none left)
  unbound l (suc n) left f u (inr x) = rw x.parts (more x.token x.op x.right x.reads x.derives (unbound l n (form.Binary x.op x.token.spot left x.right) f x.back x.more))

  bound : {l : Level} {left f : Phrase} {u : List Token} → Tail l left f u → (n : ℕ) → length u ≤ n → Bounded l n left f u
  bound (none left) zero h = (refl, refl)
  bound (none left) (suc n) h = inl (refl, refl)
  bound (more t op right e x y) zero h = absurd (omega arith)
  bound (more {left} {f} {w} {v} t op right e x y) (suc n) h = inr (record {
    token = t;
    op = op;
    right = right;
    front = w;
    back = v;
    parts = refl;
    reads = e;
    derives = x;
    more = bound y n (omega (arith, length-append w v));
  })

  bounded_ends : (l : Level) (n : ℕ) (left f : Phrase) (w r : List Token) → Bounded l n left f w → Ends l (first r) → Ends (next l) (first (w ++ r))
  bounded_ends l zero left f w r x e = rw x.1 (ends_down l (first r) e)
  bounded_ends l (suc n) left f w r x e = longer_ends l (Bounded l n) left f w r x e

  bounded_last : (l : Level) (n : ℕ) (left : Phrase) → (f : Phrase) × (w : List Token) × Bounded l n left f w
  bounded_last l zero left = (left, [], (refl, refl))
  bounded_last l (suc n) left = (left, [], inl (refl, refl))

  module _ (l : Level) (d : ℕ) (operand : Parser Phrase) (g : Good bar Any d d (Ends (next l)) (Derives (next l)) operand) where
    climb_good : (n : ℕ) (left : Phrase) → Good bar Any d d (Ends l) (Bounded l n left) (climb l operand n left)
    unfolding climb
    climb_good zero left = pure_good bar barred left d (Ends l)
    climb_good (suc n) left = longer_good l d operand g (Bounded l n) (climb l operand n) (climb_good n) (bounded_last l n) (bounded_ends l n) left

    climb_stops : (n : ℕ) (left : Phrase) (rest : List Token) (room : ℕ) → between l (first rest) ≡ None → climb l operand n left (at bar rest room) ≡ Ok (left, at bar rest room)
    unfolding climb
    climb_stops zero left rest room h = refl
    climb_stops (suc n) left rest room h = rw h refl

    -- more turns than tokens make no difference
    same_turns : (n m : ℕ) (left : Phrase) (rest : List Token) (room : ℕ) → length rest ≤ n → length rest ≤ m → climb l operand n left (at bar rest room) ≡ climb l operand m left (at bar rest room)
    unfolding climb take
    same_turns n m left [] room p q = climb_stops n left [] room (between_end l) ∙ sym (climb_stops m left [] room (between_end l))
    same_turns zero m left (t ∷ ts) room p q = absurd (omega arith)
    same_turns (suc n) zero left (t ∷ ts) room p q = absurd (omega arith)
    same_turns (suc n) (suc m) left (t ∷ ts) room p q =
        let after : (op : BinaryOp) (spare : ℕ) (o : Outcome Phrase) → operand (at bar ts spare) ≡ o
        → and_then o (λ right. climb l operand n (form.Binary op t.spot left right)) ≡ and_then o (λ right. climb l operand m (form.Binary op t.spot left right)) =
        λ op spare o h. elim o as (λ (o : Outcome Phrase). operand (at bar ts spare) ≡ o → and_then o (λ right. climb l operand n (form.Binary op t.spot left right)) ≡ and_then o (λ right. climb l operand m (form.Binary op t.spot left right))) [
          | Err s ↦ λ h. refl
          | Ok x ↦ λ h.
              let took = g.took ts spare x.0 x.1 tt h in
              let shorter : length took.left ≤ length ts = omega (arith, ap length took.split, length-append took.used took.left) in
              let F : Input → Type 0 = λ j. climb l operand n (form.Binary op t.spot left x.0) j ≡ climb l operand m (form.Binary op t.spot left x.0) j in
              subst F (sym took.is) (same_turns n m (form.Binary op t.spot left x.0) took.left took.spare (omega arith) (omega arith))
        ] h in
        elim (between l (looks t)) as (λ o. longer_by operand (climb l operand n) left o (at bar (t ∷ ts) room) ≡ longer_by operand (climb l operand m) left o (at bar (t ∷ ts) room)) [
          | None ↦ refl
          | Some op ↦ elim room as (λ k. longer_by operand (climb l operand n) left (Some op) (at bar (t ∷ ts) k) ≡ longer_by operand (climb l operand m) left (Some op) (at bar (t ∷ ts) k)) [
            | zero ↦ refl
            | suc spare ↦ after op spare (operand (at bar ts spare)) refl
          ]
        ]

    abbrev all_turns : Phrase → Parser Phrase
    all_turns left = λ i. climb l operand (length i.rest) left i

    tail_took : (left : Phrase) (rest : List Token) (room : ℕ) (a : Phrase) (j : Input) → all_turns left (at bar rest room) ≡ Ok (a, j) → Took bar (all_turns left) (Tail l left) d d rest room a j
    tail_took left rest room a j e =
        let t = (climb_good (length rest) left).took rest room a j tt e in
        record {
          used = t.used;
          left = t.left;
          spare = t.spare;
          is = t.is;
          split = t.split;
          spent = t.spent;
          derives = unbound l (length rest) left a t.used t.derives;
          nests = t.nests;
          clean = t.clean;
          local = λ r same.
              let n : ℕ = length rest + length (t.used ++ r) in
              let more : climb l operand n left (at bar rest room) ≡ Ok (a, j) = same_turns n (length rest) left rest room (omega arith) (omega arith) ∙ e in
              let s = (climb_good n left).took rest room a j tt more in
              let left_is : t.left ≡ s.left = ap (λ (i : Input). i.rest) (sym t.is ∙ s.is) in
              let spare_is : t.spare ≡ s.spare = ap (λ (i : Input). i.room) (sym t.is ∙ s.is) in
              let used_is : t.used ≡ s.used = append_cancel_right t.used s.used t.left (sym t.split ∙ s.split ∙ ap (λ (w : List Token). s.used ++ w) (sym left_is)) in
              let F : List Token → Type 0 = λ u. climb l operand n left (at bar (u ++ r) room) ≡ Ok (a, at bar r t.spare) in
              same_turns (length (t.used ++ r)) n left (t.used ++ r) room (omega arith) (omega arith)
              ∙ subst F (sym used_is) (s.local r (same ∙ ap first left_is) ∙ ap (λ k. Ok (a, at bar r k)) (sym spare_is));
        }

    tail_halted : (left : Phrase) (rest : List Token) (room : ℕ) (s : Stop) → all_turns left (at bar rest room) ≡ Err s → Halted bar (all_turns left) (Tail l left) d rest room s
    tail_halted left rest room s e =
        let t = (climb_good (length rest) left).halted rest room s tt e in
        let can : (v : List Token) → CanEnd (Bounded l (length rest) left) v → CanEnd (Tail l left) v = λ v c.
        record { value = c.value; more = c.more; derives = unbound l (length rest) left c.value (v ++ c.more) c.derives } in
        record {
          used = t.used;
          split = t.split;
          depth = t.depth;
          nests = t.nests;
          within = t.within;
          clean = t.clean;
          local = λ r same.
              let n : ℕ = length rest + length (t.used ++ r) in
              let more : climb l operand n left (at bar rest room) ≡ Err s = same_turns n (length rest) left rest room (omega arith) (omega arith) ∙ e in
              let x = (climb_good n left).halted rest room s tt more in
              let used_is : t.used ≡ x.used = append_cancel_right t.used x.used s.rest (sym t.split ∙ x.split) in
              let F : List Token → Type 0 = λ u. climb l operand n left (at bar (u ++ r) room) ≡ Err (record { what = s.what; rest = r }) in
              same_turns (length (t.used ++ r)) n left (t.used ++ r) room (omega arith) (omega arith)
              ∙ subst F (sym used_is) (x.local r same);
          end = elim t.end [
            | inl x ↦ inl (x.0, can t.used x.1)
            | inr x ↦ inr (record { token = x.token; more = x.more; next = x.next; real = x.real; can = can (t.used ++ x.token ∷ []) x.can; which = x.which })
          ];
        }

    tail_good : (left : Phrase) → Good bar Any d d (Ends l) (Tail l left) (all_turns left)
    tail_good left = record {
      took = λ rest room a j h e. tail_took left rest room a j e;
      halted = λ rest room s h e. tail_halted left rest room s e;
      again = λ a u r room x e h. (climb_good (length (u ++ r)) left).again a u r room (bound x (length (u ++ r)) (omega (arith, length-append u r))) e tt;
    }

  tail_ends : {l : Level} {left f : Phrase} {w : List Token} → Tail l left f w → (r : List Token) → Ends l (first r) → Ends (next l) (first (w ++ r))
  tail_ends {l} (none left) r e = ends_down l (first r) e
  tail_ends {l} (more t op right h x y) r e = operator_ends l (looks t) op h

  grow : {l : Level} {a b : Phrase} {u v : List Token} → has_chains l ≡ true → Derives l a u → Tail l a b v → Derives l b (u ++ v)
  grow {u = u} c x (none left) = rw (append-nil u) x
  grow {l} {a} {b} {u} c x (more {left} {f} {w} {v} t op right h y z) = rw (← append_assoc u (t ∷ w) v) (grow c (chained t op c x h y) z)

  snoc : {l : Level} {a b right : Phrase} {v w : List Token} (t : Token) (op : BinaryOp) → Tail l a b v → between l (looks t) ≡ Some op → Derives (next l) right w → Tail l a (form.Binary op t.spot b right) (v ++ t ∷ w)
  snoc {l = l} {right = right} {w = w} t op (none left) h y = subst (λ (s : List Token). Tail l left (form.Binary op t.spot left right) (t ∷ s)) (append-nil w) (more t op right h y (none (form.Binary op t.spot left right)))
  snoc {l = l} {b = b} {right = right} {w = w} t op (more {left = left} {w = x} {v = v} s q third k z tail) h y =
      subst (λ (r : List Token). Tail l left (form.Binary op t.spot b right) (s ∷ r)) (sym (append_assoc x v (t ∷ w))) (more s q third k z (snoc t op tail h y))

  chain_level : (l : Level) (c : Class) (op : UnaryOp) → before l c ≡ Some op → has_chains l ≡ true → ⊥
  chain_level level.Not (class.Key key.Not) op h c = absurd cc
  chain_level level.Sign (class.Mark sign.Minus) op h c = absurd cc
  chain_level _ _ op h c = absurd cc

  split_chained : {l : Level} {f : Phrase} {u : List Token} → Derives l f u → has_chains l ≡ true → Then (Derives (next l)) (Tail l) f u
  split_chained (number t e) p = absurd cc
  split_chained (word t e) p = absurd cc
  split_chained (truth t e) p = absurd cc
  split_chained (falsity t e) p = absurd cc
  split_chained (dotted v d c e f g) p = absurd cc
  split_chained (parens l r e f x) p = absurd cc
  split_chained (tighter {l} {f} {u} a x) p = record { middle = f; front = u; back = []; parts = sym (append-nil u); one = x; two = none f }
  split_chained (prefixed {l} t op h x) p = absurd (chain_level l (looks t) op h p)
  split_chained (compared t op x h y) p = absurd cc
  split_chained (null t n x h k) p = absurd cc
  split_chained (not_null t m n x h j k) p = absurd cc
  split_chained (chained {l} {a} {b} {u} {w} t op c x h y) p =
      let s = split_chained x p in
      record { middle = s.middle; front = s.front; back = s.back ++ t ∷ w; parts = ap (λ (v : List Token). v ++ t ∷ w) s.parts ∙ append_assoc s.front s.back (t ∷ w); one = s.one; two = snoc t op s.two h y }

  chain_no_atom : (l : Level) → has_chains l ≡ true → is_atom l ≡ false
  chain_no_atom level.Or p = refl
  chain_no_atom level.And p = refl
  chain_no_atom level.Sum p = refl
  chain_no_atom level.Product p = refl
  chain_no_atom _ p = absurd cc

  pub chained_good : (l : Level) → has_chains l ≡ true → (d : ℕ) (operand : Parser Phrase) → Good bar Any d d (Ends (next l)) (Derives (next l)) operand → Good bar Any d d (Ends l) (Derives l) (chained_rule l operand)
  unfolding chained_rule
  chained_good l p d operand g =
      convert bar barred (operand >>= all_turns l d operand g)
      (in_turn bar barred {F = Tail l} operand (all_turns l d operand g) g (tail_good l d operand g) (λ left. (left, [], none left)) (λ left f w r x e. tail_ends x r e))
      (λ k e. e) (λ k e. e)
      (λ f u x. rw x.parts (grow p (tighter (chain_no_atom l p) x.one) x.two))
      (λ f u r x e ends. split_chained x p)
