-- Atoms, parentheses and the whole grammar of expressions.
use Rattle.std.proofs.Common.{◌≡◌, ◌≢◌, ℕ, zero, suc, true, false, List, [], ◌∷◌, ◌++◌, Some, refl, sym, ap, subst, ◌∙◌, inl, inr, arith}
use Rattle.std.proofs.lemmas.List.{append-nil}
use Rattle.postquel_tokens.specs.declared.token.Token.{Token}
use Rattle.postquel_tokens.specs.declared.token.TokenKind.TheVariants as kind
use Rattle.postquel_tokens.specs.declared.fault.What.{What}
use Rattle.postquel_tokens.specs.declared.fault.What.TheVariants as what
use Rattle.postquel.specs.declared.class.Class.{Class}
use Rattle.postquel.specs.declared.class.Class.TheVariants as class
use Rattle.postquel_tokens.specs.declared.name.Key.TheVariants as key
use Rattle.postquel_tokens.specs.declared.token.Sign.TheVariants as sign
use Rattle.postquel_tokens.specs.declared.form.Ident.{Ident}
use Rattle.postquel_tokens.specs.declared.form.UnaryOp.{UnaryOp}
use Rattle.postquel_tokens.specs.Forms.{Phrase}
use Rattle.postquel_tokens.specs.Forms as form
use Rattle.postquel.specs.declared.level.Level.{Level}
use Rattle.postquel.specs.declared.level.Level.TheVariants as level
use Rattle.postquel.specs.Level.{before}
use Rattle.postquel.specs.Class.{soft_of}
use Rattle.postquel_tokens.specs.Names.{key_of}
use Rattle.postquel.specs.declared.class.Soft.{Soft}
use Rattle.postquel.specs.declared.class.Soft.TheVariants as soft
use Rattle.postquel.specs.Input.{Parser, ◌>>=◌, pure, take, first, expect}
use Rattle.postquel.specs.Grammar.{number_of, text_of, ident_of, ident, ident_by, dotted as dotted_rule, leaf, leaf_by, atom, atom_by, nested, form_at, disjunction}
use Rattle.postquel.specs.Class.{looks}
use Rattle.postquel.specs.Syntax.{has_chains, is_atom, Derives, number, word, truth, falsity, dotted, parens, tighter, prefixed, compared, null, not_null, chained}
use Rattle.postquel.proofs.Good.{Then, Limit, Halted, Good}
use Rattle.postquel.proofs.Combine.{Any, Is, pure_good, convert, in_turn, by_head, at_head, Steps, take_good, refuse_good, Mark, mark_token, expect_good, Single, image, this_good}
use Rattle.postquel.proofs.Rules.{Ends, zero_form, zero_text, zero_at, prefixed_good}
use Rattle.postquel.proofs.Chains.{compared_good, chained_good}

atom_before : (c : Class) (op : UnaryOp) → before level.Atom c ≡ Some op → ⊥
atom_before _ op h = absurd cc

-- a name that is no key
abbrev pub name_token : Token
name_token = record { kind = kind.Name (120 ∷ []); spot = record { line = 1; col = 1 } }

pub name_is : looks name_token ≡ class.Name soft.Plain
unfolding key_of soft_of
name_is = refl

abbrev pub Name : Token → Type 0
Name t = (s : Soft) × (looks t ≡ class.Name s)

abbrev pub IsIdent : Token → Ident → Type 0
IsIdent t x = Name t × (x ≡ ident_of t)

abbrev pub Names : Ident → List Token → Type 0
Names = Single IsIdent

pub name_given : Names (ident_of name_token) (name_token ∷ [])
name_given = (name_token, refl, ((soft.Plain, name_is), refl))

abbrev pub Dots : Phrase → List Token → Type 0
Dots f u = (v : Token) × (d : Token) × (c : Token) × (u ≡ v ∷ d ∷ c ∷ []) × Name v × (looks d ≡ class.Mark sign.Dot) × Name c × (f ≡ form.Dotted (ident_of v) (ident_of c))

pub record Parens (f : Phrase) (u : List Token) : Type 0 where
  pub left : Token
  pub right : Token
  pub inner : List Token
  pub parts : u ≡ left ∷ (inner ++ right ∷ [])
  pub left_is : looks left ≡ class.Mark sign.Left
  pub right_is : looks right ≡ class.Mark sign.Right
  pub derives : Derives level.Or f inner

-- what an atom is that begins with a class
abbrev pub AtomBy : Class → Phrase → List Token → Type 0
AtomBy class.Number f u = (t : Token) × (u ≡ t ∷ []) × (looks t ≡ class.Number) × (f ≡ form.Number (number_of t.kind))
AtomBy class.Word f u = (t : Token) × (u ≡ t ∷ []) × (looks t ≡ class.Word) × (f ≡ form.Word (text_of t.kind))
AtomBy (class.Key key.True) f u = (t : Token) × (u ≡ t ∷ []) × (looks t ≡ class.Key key.True) × (f ≡ form.Truth true)
AtomBy (class.Key key.False) f u = (t : Token) × (u ≡ t ∷ []) × (looks t ≡ class.Key key.False) × (f ≡ form.Truth false)
AtomBy (class.Name s) f u = Dots f u
AtomBy (class.Mark sign.Left) f u = Parens f u
AtomBy _ f u = ⊥

split_atom : {l : Level} {f : Phrase} {u : List Token} → Derives l f u → l ≡ level.Atom → (r : List Token) → AtomBy (first (u ++ r)) f u
split_atom (number t e) p r = subst (λ (c : Class). AtomBy c (form.Number (number_of t.kind)) (t ∷ [])) (sym e) (t, refl, e, refl)
split_atom (word t e) p r = subst (λ (c : Class). AtomBy c (form.Word (text_of t.kind)) (t ∷ [])) (sym e) (t, refl, e, refl)
split_atom (truth t e) p r = subst (λ (c : Class). AtomBy c (form.Truth true) (t ∷ [])) (sym e) (t, refl, e, refl)
split_atom (falsity t e) p r = subst (λ (c : Class). AtomBy c (form.Truth false) (t ∷ [])) (sym e) (t, refl, e, refl)
split_atom (dotted {s} {q} v d c e f g) p r = subst (λ (k : Class). AtomBy k (form.Dotted (ident_of v) (ident_of c)) (v ∷ d ∷ c ∷ [])) (sym e) (v, d, c, refl, (s, e), f, (q, g), refl)
split_atom (parens s t {f} {u} e g x) p r = subst (λ (k : Class). AtomBy k f (s ∷ (u ++ t ∷ []))) (sym e) (record { left = s; right = t; inner = u; parts = refl; left_is = e; right_is = g; derives = x })
split_atom (tighter {l} a x) p r = let no : is_atom level.Atom ≡ false = subst (λ (m : Level). is_atom m ≡ false) p a in absurd cc
split_atom (prefixed {l} t op h x) p r = absurd (atom_before (looks t) op (subst (λ (m : Level). before m (looks t) ≡ Some op) p h))
split_atom (compared t op x h y) p r = absurd cc
split_atom (null t n x h k) p r = absurd cc
split_atom (not_null t m n x h j k) p r = absurd cc
split_atom (chained {l} t op c x h y) p r = let no : has_chains level.Atom ≡ true = subst (λ (m : Level). has_chains m ≡ true) p c in absurd cc

join_dots : (f : Phrase) (u : List Token) → Dots f u → Derives level.Atom f u
join_dots f u x = rw (x.3, x.7) (dotted x.0 x.1 x.2 x.4.1 x.5 x.6.1)

join_parens : (f : Phrase) (u : List Token) → Parens f u → Derives level.Atom f u
join_parens f u x = rw x.parts (parens x.left x.right x.left_is x.right_is x.derives)

module _ (bar : What) (barred : bar ≢ what.Unexpected) where
  ident_case : (d : ℕ) (c : Class) → Good bar (λ k. k ≡ c) d d Any Names (ident_by c)
  ident_case d (class.Name s) =
      convert bar barred (take >>= λ t. pure (ident_of t))
      (image bar barred take ident_of (this_good bar barred (class.Name s) d d (record { here = λ e. absurd cc; flat = refl })))
      (λ k e. e) (λ k e. e)
      (λ x u y. (y.derives.0, y.derives.1, ((s, y.derives.2.1), y.gives ∙ ap ident_of y.derives.2.0)))
      (λ x u r m e f.
      let head : looks m.0 ≡ class.Name s = ap (λ (v : List Token). first (v ++ r)) (sym m.1) ∙ e in
      record { value = m.0; derives = (m.0, m.1, (refl, head)); gives = m.2.1 })
  ident_case d c = refuse_good bar barred c (record { value = ident_of name_token; more = name_token ∷ []; derives = name_given })
      (λ x u r m e. let head : class.Name m.2.0.0 ≡ c = sym m.2.0.1 ∙ ap (λ (v : List Token). first (v ++ r)) (sym m.1) ∙ e in absurd cc)

  pub ident_good : (d : ℕ) → Good bar Any d d Any Names ident
  unfolding ident
  ident_good d = by_head bar barred ident_by (ident_case d)

  abbrev ColTail : Token → Unit {0} → Phrase → List Token → Type 0
  ColTail v x = Then Names (λ col. Is (form.Dotted (ident_of v) col))

  abbrev DotTail : Ident → Phrase → List Token → Type 0
  DotTail var = Then (Mark sign.Dot) (λ x. Then Names (λ col. Is (form.Dotted var col)))

  dot_sample : (var : Ident) → DotTail var (form.Dotted var (ident_of name_token)) (mark_token sign.Dot ∷ name_token ∷ [])
  dot_sample var = record {
    middle = tt;
    front = mark_token sign.Dot ∷ [];
    back = name_token ∷ [];
    parts = refl;
    one = (mark_token sign.Dot, refl, refl);
    two = record { middle = ident_of name_token; front = name_token ∷ []; back = []; parts = refl; one = name_given; two = (refl, refl) };
  }

  join_dotted : (f : Phrase) (u : List Token) → Then Names DotTail f u → Dots f u
  join_dotted f u x =
      let v = x.one in
      let y = x.two in
      let d = y.one in
      let z = y.two in
      let c = z.one in
      let last : z.front ++ z.back ≡ c.0 ∷ [] = ap (λ (w : List Token). z.front ++ w) z.two.1 ∙ append-nil z.front ∙ c.1 in
      let parts : u ≡ v.0 ∷ d.0 ∷ c.0 ∷ [] = x.parts ∙ ap (λ (w : List Token). w ++ x.back) v.1 ∙ ap (λ (w : List Token). v.0 ∷ w) (y.parts ∙ ap (λ (w : List Token). w ++ y.back) d.1 ∙ ap (λ (w : List Token). d.0 ∷ w) (z.parts ∙ last)) in
      (v.0, d.0, c.0, parts, v.2.0, d.2, c.2.0, z.two.0 ∙ ap (λ (n : Ident). form.Dotted n z.middle) v.2.1 ∙ ap (λ (n : Ident). form.Dotted (ident_of v.0) n) c.2.1)

  part_dotted : (f : Phrase) (u : List Token) → Dots f u → Then Names DotTail f u
  part_dotted f u x = record {
    middle = ident_of x.0;
    front = x.0 ∷ [];
    back = x.1 ∷ x.2 ∷ [];
    parts = x.3;
    one = (x.0, refl, (x.4, refl));
    two = record {
      middle = tt;
      front = x.1 ∷ [];
      back = x.2 ∷ [];
      parts = refl;
      one = (x.1, refl, x.5);
      two = record { middle = ident_of x.2; front = x.2 ∷ []; back = []; parts = refl; one = (x.2, refl, (x.6, refl)); two = (x.7, refl) };
    };
  }

  dotted_good : (d : ℕ) → Good bar Any d d Any Dots dotted_rule
  unfolding dotted_rule dot_sample
  dotted_good d =
      convert bar barred dotted_rule
      (in_turn bar barred {F = DotTail} ident (λ var. expect sign.Dot >>= λ x. ident >>= λ col. pure (form.Dotted var col)) (ident_good d)
      (λ var. in_turn bar barred {F = λ x. Then Names (λ col. Is (form.Dotted var col))} (expect sign.Dot) (λ x. ident >>= λ col. pure (form.Dotted var col))
      (expect_good bar barred sign.Dot d d Any (record { here = λ e. absurd cc; flat = refl }))
      (λ x. in_turn bar barred {F = λ col. Is (form.Dotted var col)} ident (λ col. pure (form.Dotted var col)) (ident_good d) (λ col. pure_good bar barred (form.Dotted var col) d Any) (λ col. (form.Dotted var col, [], (refl, refl))) (λ a b w r x e. tt))
      (λ x. (form.Dotted var (ident_of name_token), name_token ∷ [], (dot_sample var).two)) (λ a b w r x e. tt))
      (λ var. (form.Dotted var (ident_of name_token), mark_token sign.Dot ∷ name_token ∷ [], dot_sample var)) (λ a b w r x e. tt))
      (λ k e. e) (λ k e. e) join_dotted (λ f u r x e g. part_dotted f u x)

  -- an atom that is a token
  abbrev Alone : Class → (Token → Phrase) → Phrase → List Token → Type 0
  Alone k g f u = (t : Token) × (u ≡ t ∷ []) × (looks t ≡ k) × (f ≡ g t)

  single_good : (k : Class) (g : Token → Phrase) (d : ℕ) → Steps k d d → Good bar (λ c. c ≡ k) d d Any (Alone k g) (take >>= λ t. pure (g t))
  single_good k g d steps =
      convert bar barred (take >>= λ t. pure (g t))
      (in_turn bar barred {F = λ t. Is (g t)} take (λ t. pure (g t)) (take_good bar barred k d d Any steps) (λ t. pure_good bar barred (g t) d Any) (λ t. (g t, [], (refl, refl))) (λ t b w r x e. tt))
      (λ k e. e) (λ k e. e)
      (λ x u y. (y.middle, y.parts ∙ ap (λ (v : List Token). y.front ++ v) y.two.1 ∙ append-nil y.front ∙ y.one.0, y.one.1, y.two.0))
      (λ x u r m e f. record { middle = m.0; front = u; back = []; parts = sym (append-nil u); one = (m.1, m.2); two = (m.3, refl) })

  -- what begins with no atom's class is refused where a name is wanted
  by_dots : (d : ℕ) (c : Class) → ((f : Phrase) (u : List Token) → AtomBy c f u → Dots f u) → Good bar (λ k. k ≡ c) d d Any (Derives level.Atom) dotted_rule
  by_dots d c h = convert bar barred dotted_rule (dotted_good d) (λ k e. tt) (λ k e. e) join_dots (λ f u r x e g. h f u (subst (λ (k : Class). AtomBy k f u) e (split_atom x refl r)))

  by_single : (k : Class) (g : Token → Phrase) (d : ℕ) → Steps k d d → ((f : Phrase) (u : List Token) → Alone k g f u → Derives level.Atom f u) → ((f : Phrase) (u : List Token) → AtomBy k f u → Alone k g f u)
      → Good bar (λ c. c ≡ k) d d Any (Derives level.Atom) (take >>= λ t. pure (g t))
  by_single k g d steps to from = convert bar barred (take >>= λ t. pure (g t)) (single_good k g d steps) (λ k e. e) (λ k e. e) to (λ f u r x e h. from f u (subst (λ (c : Class). AtomBy c f u) e (split_atom x refl r)))

  leaf_case : (d : ℕ) (c : Class) → (c ≢ class.Mark sign.Left) → Good bar (λ k. k ≡ c) d d Any (Derives level.Atom) (leaf_by c)
  leaf_case d class.Number n = by_single class.Number (λ t. form.Number (number_of t.kind)) d (record { here = λ e. absurd cc; flat = refl }) (λ f u x. rw (x.1, x.3) (number x.0 x.2)) (λ f u x. x)
  leaf_case d class.Word n = by_single class.Word (λ t. form.Word (text_of t.kind)) d (record { here = λ e. absurd cc; flat = refl }) (λ f u x. rw (x.1, x.3) (word x.0 x.2)) (λ f u x. x)
  leaf_case d (class.Key key.True) n = by_single (class.Key key.True) (λ t. form.Truth true) d (record { here = λ e. absurd cc; flat = refl }) (λ f u x. rw (x.1, x.3) (truth x.0 x.2)) (λ f u x. x)
  leaf_case d (class.Key key.False) n = by_single (class.Key key.False) (λ t. form.Truth false) d (record { here = λ e. absurd cc; flat = refl }) (λ f u x. rw (x.1, x.3) (falsity x.0 x.2)) (λ f u x. x)
  leaf_case d (class.Name s) n = by_dots d (class.Name s) (λ f u x. x)
  leaf_case d (class.Mark sign.Left) n = absurd (n refl)
  leaf_case d c n = by_dots d c (λ f u x. absurd x)

  leaf_good : (d : ℕ) (c : Class) → (c ≢ class.Mark sign.Left) → Good bar (λ k. k ≡ c) d d Any (Derives level.Atom) leaf
  unfolding leaf
  leaf_good d c n = at_head bar barred leaf_by c (leaf_case d c n)

  module _ (d : ℕ) (inner : Parser Phrase) (g : Good bar (λ k. k ≡ class.Mark sign.Left) d d Any Parens inner) where
    atom_case : (c : Class) → Good bar (λ k. k ≡ c) d d Any (Derives level.Atom) (atom_by inner c)
    atom_case (class.Mark sign.Left) = convert bar barred inner g (λ k e. e) (λ k e. e) join_parens (λ f u r x e h. subst (λ (k : Class). AtomBy k f u) e (split_atom x refl r))
    atom_case c = leaf_good d c (λ e. absurd cc)

    atom_good : Good bar Any d d Any (Derives level.Atom) (atom inner)
    unfolding atom
    atom_good = by_head bar barred (atom_by inner) atom_case

    weaken : Good bar Any d d (Ends level.Atom) (Derives level.Atom) (atom inner)
    weaken = convert bar barred (atom inner) atom_good (λ k e. e) (λ k e. tt) (λ f u x. x) (λ f u r x e h. x)

    at_sign : Good bar Any d d (Ends level.Sign) (Derives level.Sign) (form_at inner level.Sign)
    at_sign = prefixed_good bar barred level.Sign d (atom inner) refl weaken

    at_product : Good bar Any d d (Ends level.Product) (Derives level.Product) (form_at inner level.Product)
    at_product = chained_good bar barred level.Product refl d (form_at inner level.Sign) at_sign

    at_sum : Good bar Any d d (Ends level.Sum) (Derives level.Sum) (form_at inner level.Sum)
    at_sum = chained_good bar barred level.Sum refl d (form_at inner level.Product) at_product

    at_comparison : Good bar Any d d (Ends level.Comparison) (Derives level.Comparison) (form_at inner level.Comparison)
    at_comparison = compared_good bar barred d (form_at inner level.Sum) at_sum

    at_not : Good bar Any d d (Ends level.Not) (Derives level.Not) (form_at inner level.Not)
    at_not = prefixed_good bar barred level.Not d (form_at inner level.Comparison) refl at_comparison

    at_and : Good bar Any d d (Ends level.And) (Derives level.And) (form_at inner level.And)
    at_and = chained_good bar barred level.And refl d (form_at inner level.Not) at_not

    pub at_or : Good bar Any d d (Ends level.Or) (Derives level.Or) (disjunction inner)
    at_or = chained_good bar barred level.Or refl d (form_at inner level.And) at_and

  -- ---- parentheses

  abbrev ParenTail : Phrase → Phrase → List Token → Type 0
  ParenTail f = Then (Mark sign.Right) (λ x. Is f)

  abbrev paren_text : List Token
  paren_text = mark_token sign.Left ∷ (zero_text ++ mark_token sign.Right ∷ [])

  deep_at : (rest : List Token) (room : ℕ) → first rest ≡ class.Mark sign.Left → Limit bar Parens 0 [] room what.TooDeep rest
  deep_at [] room h = absurd cc
  deep_at (t ∷ ts) room h = record {
    token = t;
    more = ts;
    next = refl;
    real = λ q. let clash : class.Mark sign.Left ≡ class.End = sym h ∙ q in absurd cc;
    can = record {
      value = zero_form;
      more = zero_text ++ mark_token sign.Right ∷ [];
      derives = record { left = t; right = mark_token sign.Right; inner = zero_text; parts = refl; left_is = h; right_is = refl; derives = zero_at level.Or };
    };
    which = inl (refl, h, refl);
  }

  nested_zero : Good bar (λ k. k ≡ class.Mark sign.Left) 0 0 Any Parens (nested 0)
  unfolding nested
  nested_zero = record {
    took = λ rest room a j h e. absurd cc;
    halted = λ rest room s h e.
        let is : record { what = what.TooDeep; rest = rest } ≡ s = cc in
        subst (Halted bar (nested 0) Parens 0 rest room) is (record { used = []; split = refl; depth = 0; nests = refl; within = omega arith; clean = tt; local = λ r same. refl; end = inr (deep_at rest room h) });
    again = λ a u r room given follows h. inr (record { what = what.TooDeep; rest = u ++ r }, refl, λ e. absurd cc);
  }

  nested_suc : (d : ℕ) → Good bar (λ k. k ≡ class.Mark sign.Left) d d Any Parens (nested d) → Good bar (λ k. k ≡ class.Mark sign.Left) (suc d) (suc d) Any Parens (nested (suc d))
  unfolding nested
  nested_suc d g =
      convert bar barred (nested (suc d))
      (in_turn bar barred {F = λ t. Then (Derives level.Or) ParenTail} take (λ t. disjunction (nested d) >>= λ f. expect sign.Right >>= λ x. pure f)
      (take_good bar barred (class.Mark sign.Left) (suc d) d Any (record { here = λ e. absurd cc; flat = refl }))
      (λ t. in_turn bar barred {F = ParenTail} (disjunction (nested d)) (λ f. expect sign.Right >>= λ x. pure f) (at_or d (nested d) g)
      (λ f. in_turn bar barred {F = λ x. Is f} (expect sign.Right) (λ x. pure f) (expect_good bar barred sign.Right d (suc d) Any (record { here = λ e. absurd cc; flat = refl })) (λ x. pure_good bar barred f (suc d) Any)
      (λ x. (f, [], (refl, refl))) (λ a b w r x e. tt))
      (λ f. (f, mark_token sign.Right ∷ [], record { middle = tt; front = mark_token sign.Right ∷ []; back = []; parts = refl; one = (mark_token sign.Right, refl, refl); two = (refl, refl) }))
      (λ f b w r x e. rw (x.parts, x.one.1, x.one.2) refl))
      (λ t. (
        zero_form,
        zero_text ++ mark_token sign.Right ∷ [],
        record {
          middle = zero_form;
          front = zero_text;
          back = mark_token sign.Right ∷ [];
          parts = refl;
          one = zero_at level.Or;
          two = record { middle = tt; front = mark_token sign.Right ∷ []; back = []; parts = refl; one = (mark_token sign.Right, refl, refl); two = (refl, refl) };
        },
      ))
      (λ t b w r x e. tt))
      (λ k e. e) (λ k e. e)
      (λ f u x.
      let y = x.two in
      let z = y.two in
      let last : z.front ++ z.back ≡ z.one.0 ∷ [] = ap (λ (w : List Token). z.front ++ w) z.two.1 ∙ append-nil z.front ∙ z.one.1 in
      let parts : u ≡ x.middle ∷ (y.front ++ z.one.0 ∷ []) = x.parts ∙ ap (λ (w : List Token). w ++ x.back) x.one.0 ∙ ap (λ (w : List Token). x.middle ∷ w) (y.parts ∙ ap (λ (w : List Token). y.front ++ w) (z.parts ∙ last)) in
      record { left = x.middle; right = z.one.0; inner = y.front; parts = parts; left_is = x.one.1; right_is = z.one.2; derives = subst (λ (g : Phrase). Derives level.Or g y.front) (sym z.two.0) y.one })
      (λ f u r x e h. record {
        middle = x.left;
        front = x.left ∷ [];
        back = x.inner ++ x.right ∷ [];
        parts = x.parts;
        one = (refl, x.left_is);
        two = record {
          middle = f;
          front = x.inner;
          back = x.right ∷ [];
          parts = refl;
          one = x.derives;
          two = record { middle = tt; front = x.right ∷ []; back = []; parts = refl; one = (x.right, refl, x.right_is); two = (refl, refl) };
        };
      })

  nested_good : (d : ℕ) → Good bar (λ k. k ≡ class.Mark sign.Left) d d Any Parens (nested d)
  nested_good zero = nested_zero
  nested_good (suc d) = nested_suc d (nested_good d)

  -- what a whole expression owes, with so many parentheses left
  pub whole_good : (d : ℕ) → Good bar Any d d (Ends level.Or) (Derives level.Or) (disjunction (nested d))
  whole_good d = at_or d (nested d) (nested_good d)
