-- What a target is behind its `=`: a fold, where a fold's name stands directly before a parenthesis, or an expression.
use Rattle.std.proofs.Common.{◌≡◌, ◌≢◌, ◌⊎◌, ℕ, ◌<◌, true, List, [], ◌∷◌, ◌++◌, length, Some, None, Ok, Err, refl, sym, ap, subst, ◌∙◌, inl, inr, append_assoc, arith}
use Rattle.postquel_tokens.specs.declared.fault.What.{What}
use Rattle.postquel_tokens.specs.declared.fault.What.TheVariants as what
use Rattle.postquel_tokens.specs.declared.token.Token.{Token}
use Rattle.postquel_tokens.specs.declared.token.TokenKind.TheVariants as kind
use Rattle.postquel_tokens.specs.declared.token.Sign.TheVariants as sign
use Rattle.postquel_tokens.specs.declared.form.Ident.{Ident}
use Rattle.postquel_tokens.specs.declared.form.UnaryOp.{UnaryOp}
use Rattle.postquel_tokens.specs.Forms.{Phrase, Wish, Titled, Folded}
use Rattle.postquel_tokens.specs.Forms as form
use Rattle.postquel.specs.declared.class.Class.{Class}
use Rattle.postquel.specs.declared.class.Class.TheVariants as class
use Rattle.postquel_tokens.specs.declared.name.Key.TheVariants as key
use Rattle.postquel.specs.declared.class.Soft.{Soft}
use Rattle.postquel.specs.declared.class.Soft.TheVariants as soft
use Rattle.postquel.specs.declared.level.Level.{Level}
use Rattle.postquel.specs.declared.level.Level.TheVariants as level
use Rattle.postquel.specs.Class.{looks, soft_of}
use Rattle.postquel_tokens.specs.Names.{key_of}
use Rattle.postquel.specs.Level.{before}
use Rattle.postquel.specs.Input.{Input, Stop, Outcome, Parser, and_then, ◌>>=◌, pure, take, first, second, expect}
use Rattle.postquel.specs.Grammar.{ident, ident_by, ident_of, disjunction, nested, prefixed as prefixed_rule, compared as compared_rule, chained as chained_rule, prefixed_by, form_at, atom, atom_by, leaf, leaf_by, dotted as dotted_rule}
use Rattle.postquel.specs.Script.{titled, folded, value_by, value_of}
use Rattle.postquel.specs.Syntax.{Derives, number, word, truth, falsity, dotted, parens, tighter, prefixed, compared, null, not_null, chained}
use Rattle.postquel.proofs.Good.{same_first, CanEnd, Then, at, Took, Halted, Again, Good}
use Rattle.postquel.proofs.Combine.{Any, convert, in_turn, at_head, Single, Lead, Image, IsMark, lead_first, lead, image, this_good, Mark, mark_token, expect_good}
use Rattle.postquel.proofs.Levels.{starts, heads}
use Rattle.postquel.proofs.Rules.{Ends, zero_form, zero_text, zero_at}
use Rattle.postquel.proofs.Forms.{name_token, name_is, whole_good}

-- ---- a form that begins with a name goes on with a dot

abbrev Dotty : List Token → Type 0
Dotty v = (s : Soft) → first v ≡ class.Name s → second v ≡ class.Mark sign.Dot

none_at : (l : Level) (s : Soft) → before l (class.Name s) ≡ None
none_at level.Or s = refl
none_at level.And s = refl
none_at level.Not s = refl
none_at level.Comparison s = refl
none_at level.Sum s = refl
none_at level.Product s = refl
none_at level.Sign s = refl
none_at level.Atom s = refl

no_name : (l : Level) (c : Class) (s : Soft) (op : UnaryOp) → before l c ≡ Some op → c ≡ class.Name s → ⊥
no_name l c s op h e = let none : before l c ≡ None = ap (before l) e ∙ none_at l s in absurd cc

pub name_then_dot : {l : Level} {f : Phrase} {u : List Token} → Derives l f u → (r : List Token) → Dotty (u ++ r)
name_then_dot (number t e) r s h = let clash : class.Number ≡ class.Name s = sym e ∙ h in absurd cc
name_then_dot (word t e) r s h = let clash : class.Word ≡ class.Name s = sym e ∙ h in absurd cc
name_then_dot (truth t e) r s h = let clash : class.Key key.True ≡ class.Name s = sym e ∙ h in absurd cc
name_then_dot (falsity t e) r s h = let clash : class.Key key.False ≡ class.Name s = sym e ∙ h in absurd cc
name_then_dot (dotted v d c e f g) r s h = f
name_then_dot (parens l t e g x) r s h = let clash : class.Mark sign.Left ≡ class.Name s = sym e ∙ h in absurd cc
name_then_dot (tighter a x) r s h = name_then_dot x r s h
name_then_dot (prefixed {l} t op e x) r s h = absurd (no_name l (looks t) s op e h)
name_then_dot (compared {a} {b} {u} {w} t op x e y) r s k = subst Dotty (sym (append_assoc u (t ∷ w) r)) (name_then_dot x (t ∷ (w ++ r))) s k
name_then_dot (null {a} {u} t n x e f) r s k = subst Dotty (sym (append_assoc u (t ∷ n ∷ []) r)) (name_then_dot x (t ∷ n ∷ r)) s k
name_then_dot (not_null {a} {u} t m n x e f g) r s k = subst Dotty (sym (append_assoc u (t ∷ m ∷ n ∷ []) r)) (name_then_dot x (t ∷ m ∷ n ∷ r)) s k
name_then_dot (chained {l} {a} {b} {u} {w} t op c x e y) r s k = subst Dotty (sym (append_assoc u (t ∷ w) r)) (name_then_dot x (t ∷ (w ++ r))) s k

no_start : (l : Level) → starts l class.End ≡ true → ⊥
no_start level.Or h = absurd cc
no_start level.And h = absurd cc
no_start level.Not h = absurd cc
no_start level.Comparison h = absurd cc
no_start level.Sum h = absurd cc
no_start level.Product h = absurd cc
no_start level.Sign h = absurd cc
no_start level.Atom h = absurd cc

pub derives_some : (l : Level) (f : Phrase) (u : List Token) → Derives l f u → 0 < length u
derives_some l f [] x = absurd (no_start l (heads x []))
derives_some l f (t ∷ u) x = omega arith

-- ---- the relation

abbrev pub IsFold : Token → Ident → Type 0
IsFold t g = (looks t ≡ class.Name soft.Fold) × (g ≡ ident_of t)

abbrev pub FoldTail : Ident → Wish → List Token → Type 0
FoldTail n = Lead IsFold (λ g. Lead (IsMark sign.Left) (λ x. Then (Derives level.Or) (λ f. Image (Mark sign.Right) (λ y. Folded n g f))))

abbrev pub TitleTail : Ident → Wish → List Token → Type 0
TitleTail n = Image (Derives level.Or) (Titled n)

abbrev pub ValueTail : Ident → Wish → List Token → Type 0
ValueTail n w u = TitleTail n w u ⊎ FoldTail n w u

-- ---- which of both it is

abbrev Choice : Class → Class → Type 0
Choice c k = ((c ≡ class.Name soft.Fold) × (k ≡ class.Mark sign.Left)) ⊎ ((n : Ident) → value_by n c k ≡ titled n)

choice : (c k : Class) → Choice c k
choice (class.Name soft.Fold) (class.Mark sign.Left) = inl (refl, refl)
choice _ _ = inr (λ n. refl)

folds : (n : Ident) (c k : Class) → c ≡ class.Name soft.Fold → k ≡ class.Mark sign.Left → value_by n c k ≡ folded n
folds n c k e f = rw (e, f) refl

same_second : (u r s : List Token) → 0 < length u → first r ≡ first s → second (u ++ r) ≡ second (u ++ s)
same_second [] r s h e = absurd (omega arith)
same_second (t ∷ []) r s h e = e
same_second (t ∷ x ∷ u) r s h e = refl

fold_token : Token
fold_token = record { kind = kind.Name (99 ∷ 111 ∷ 117 ∷ 110 ∷ 116 ∷ []); spot = record { line = 1; col = 1 } }

fold_is : looks fold_token ≡ class.Name soft.Fold
unfolding key_of soft_of fold_token
fold_is = refl

ok_err : {A : Type 0} (o : Outcome A) (x : A × Input) (s : Stop) → o ≡ Ok x → o ≡ Err s → ⊥
ok_err (Ok y) x s p q = absurd cc
ok_err (Err t) x s p q = absurd cc

err_one : {A : Type 0} (o : Outcome A) (s t : Stop) → o ≡ Err s → o ≡ Err t → s ≡ t
err_one (Ok y) s t p q = absurd cc
err_one (Err u) s t p q = cc

module _ (bar : What) (barred : bar ≢ what.Unexpected) where
  -- where nothing was taken before a name, the limit bars it
  module _ {A : Type 0} {H : Class → Type 0} {d e : ℕ} {E : Class → Type 0} {D : A → List Token → Type 0} (p : Parser A) (g : Good bar H d e E D p) (ends : E class.End) (a : A) (u : List Token) (x : D a u) (c : Soft) (head : first (u ++ []) ≡ class.Name c) where
    stuck : (rest : List Token) (room : ℕ) (s : Stop) → first rest ≡ class.Name c → H (first rest) → Halted bar p D d rest room s → (t : Halted bar p D d rest room s) → t.used ≡ [] → (s.what ≡ bar) × (room ≡ 0)
    stuck rest room s is h k t none =
        let here : rest ≡ s.rest = t.split ∙ ap (λ (v : List Token). v ++ s.rest) none in
        let same : first (u ++ []) ≡ first s.rest = head ∙ sym is ∙ ap first here in
        elim t.end [
          | inl y ↦
              let err : p (at bar (u ++ []) room) ≡ Err (record { what = s.what; rest = u ++ [] }) = subst (λ (v : List Token). p (at bar (v ++ (u ++ [])) room) ≡ Err (record { what = s.what; rest = u ++ [] })) none (t.local (u ++ []) same) in
              elim (g.again a u [] room x ends (subst H (is ∙ sym head) h)) [
                | inl z ↦ absurd (ok_err (p (at bar (u ++ []) room)) (a, at bar [] z.0) (record { what = s.what; rest = u ++ [] }) z.1 err)
                | inr z ↦ absurd (z.2 (ap (λ (q : Stop). q.what) (err_one (p (at bar (u ++ []) room)) z.0 (record { what = s.what; rest = u ++ [] }) z.1 err) ∙ y.0))
              ]
          | inr l ↦ elim l.which [
            | inl y ↦ let clash : class.Mark sign.Left ≡ class.Name c = sym y.1 ∙ ap first (sym l.next) ∙ ap first (sym here) ∙ is in absurd cc
            | inr y ↦ (y.0, y.1 ∙ ap length none)
          ]
        ]

  fold_blocked : (n : Ident) (r : List Token) → first r ≡ class.Name soft.Fold → folded n (at bar r 0) ≡ Err (record { what = bar; rest = r })
  unfolding folded ident take
  fold_blocked n [] h = absurd cc
  fold_blocked n (t ∷ ts) h = rw h refl

  dotted_blocked : (s : Soft) (t : Token) (ts : List Token) → looks t ≡ class.Name s → dotted_rule (at bar (t ∷ ts) 0) ≡ Err (record { what = bar; rest = t ∷ ts })
  unfolding dotted_rule ident take
  dotted_blocked s t ts h = rw h refl

  atom_blocked : (s : Soft) (inner : Parser Phrase) (t : Token) (ts : List Token) → looks t ≡ class.Name s → atom inner (at bar (t ∷ ts) 0) ≡ Err (record { what = bar; rest = t ∷ ts })
  unfolding atom leaf
  atom_blocked s inner t ts h = ap (λ c. atom_by inner c (at bar (t ∷ ts) 0)) h ∙ ap (λ c. leaf_by c (at bar (t ∷ ts) 0)) h ∙ dotted_blocked s t ts h

  chained_blocked : (l : Level) (operand : Parser Phrase) (i : Input) (e : Stop) → operand i ≡ Err e → chained_rule l operand i ≡ Err e
  unfolding chained_rule
  chained_blocked l operand i e h = rw h refl

  compared_blocked : (operand : Parser Phrase) (i : Input) (e : Stop) → operand i ≡ Err e → compared_rule operand i ≡ Err e
  unfolding compared_rule
  compared_blocked operand i e h = rw h refl

  prefixed_blocked : (s : Soft) (l : Level) (operand : Parser Phrase) (t : Token) (ts : List Token) (e : Stop) → looks t ≡ class.Name s → operand (at bar (t ∷ ts) 0) ≡ Err e → prefixed_rule l operand (at bar (t ∷ ts) 0) ≡ Err e
  unfolding prefixed_rule
  prefixed_blocked s l operand t ts e h k = ap (λ o. prefixed_by operand o (at bar (t ∷ ts) 0)) (ap (before l) h ∙ none_at l s) ∙ k

  title_blocked : (n : Ident) (s : Soft) (r : List Token) → first r ≡ class.Name s → titled n (at bar r 0) ≡ Err (record { what = bar; rest = r })
  unfolding titled
  title_blocked n s [] h = absurd cc
  title_blocked n s (t ∷ ts) h =
      let i = at bar (t ∷ ts) 0 in
      let e : Stop = record { what = bar; rest = t ∷ ts } in
      let p = nested 31 in
      let one = prefixed_blocked s level.Sign (form_at p level.Atom) t ts e h (atom_blocked s p t ts h) in
      let two = chained_blocked level.Sum (form_at p level.Product) i e (chained_blocked level.Product (form_at p level.Sign) i e one) in
      let three = prefixed_blocked s level.Not (form_at p level.Comparison) t ts e h (compared_blocked (form_at p level.Sum) i e two) in
      let four = chained_blocked level.Or (form_at p level.And) i e (chained_blocked level.And (form_at p level.Not) i e three) in
      ap (λ (o : Outcome Phrase). and_then o (λ f. pure (Titled n f))) four

  -- ---- both

  fold_ident_good : Good bar (λ c. c ≡ class.Name soft.Fold) 31 31 Any (Single IsFold) ident
  unfolding ident
  fold_ident_good = at_head bar barred ident_by (class.Name soft.Fold)
      (convert bar barred (take >>= λ t. pure (ident_of t)) (image bar barred take ident_of (this_good bar barred (class.Name soft.Fold) 31 31 (record { here = λ e. absurd cc; flat = refl })))
      (λ k e. e) (λ k e. e)
      (λ x u y. (y.derives.0, y.derives.1, (y.derives.2.1, y.gives ∙ ap ident_of y.derives.2.0)))
      (λ x u r m e f. record { value = m.0; derives = (m.0, m.1, (refl, m.2.0)); gives = m.2.1 }))

  close_good : (n g : Ident) (f : Phrase) → Good bar Any 30 31 Any (Image (Mark sign.Right) (λ y. Folded n g f)) (expect sign.Right >>= λ y. pure (Folded n g f))
  close_good n g f = image bar barred (expect sign.Right) (λ y. Folded n g f) (expect_good bar barred sign.Right 30 31 Any (record { here = λ e. absurd cc; flat = refl }))

  close_sample : (n g : Ident) (f : Phrase) → Image (Mark sign.Right) (λ y. Folded n g f) (Folded n g f) (mark_token sign.Right ∷ [])
  close_sample n g f = record { value = tt; derives = (mark_token sign.Right, refl, refl); gives = refl }

  inner_sample : (n g : Ident) → Then (Derives level.Or) (λ f. Image (Mark sign.Right) (λ y. Folded n g f)) (Folded n g zero_form) (zero_text ++ mark_token sign.Right ∷ [])
  inner_sample n g = record { middle = zero_form; front = zero_text; back = mark_token sign.Right ∷ []; parts = refl; one = zero_at level.Or; two = close_sample n g zero_form }

  left_sample : (n g : Ident) → Lead (IsMark sign.Left) (λ x. Then (Derives level.Or) (λ f. Image (Mark sign.Right) (λ y. Folded n g f))) (Folded n g zero_form) (mark_token sign.Left ∷ (zero_text ++ mark_token sign.Right ∷ []))
  left_sample n g = record { token = mark_token sign.Left; value = tt; rest = zero_text ++ mark_token sign.Right ∷ []; parts = refl; is = refl; two = inner_sample n g }

  fold_good : (n : Ident) → Good bar (λ c. c ≡ class.Name soft.Fold) 31 31 Any (FoldTail n) (folded n)
  unfolding folded
  fold_good n =
      lead bar barred {F = λ g. Lead (IsMark sign.Left) (λ x. Then (Derives level.Or) (λ f. Image (Mark sign.Right) (λ y. Folded n g f)))} ident (λ g. expect sign.Left >>= λ x. disjunction (nested 30) >>= λ f. expect sign.Right >>= λ y. pure (Folded n g f)) fold_ident_good
      (λ g. lead bar barred {F = λ x. Then (Derives level.Or) (λ f. Image (Mark sign.Right) (λ y. Folded n g f))} (expect sign.Left) (λ x. disjunction (nested 30) >>= λ f. expect sign.Right >>= λ y. pure (Folded n g f))
      (expect_good bar barred sign.Left 31 30 Any (record { here = λ e. absurd cc; flat = refl }))
      (λ x. in_turn bar barred {F = λ f. Image (Mark sign.Right) (λ y. Folded n g f)} (disjunction (nested 30)) (λ f. expect sign.Right >>= λ y. pure (Folded n g f)) (whole_good bar barred 30) (close_good n g)
      (λ f. (Folded n g f, mark_token sign.Right ∷ [], close_sample n g f))
      (λ f b w r y e. let head : first (w ++ r) ≡ class.Mark sign.Right = ap (λ (v : List Token). first (v ++ r)) y.derives.1 ∙ y.derives.2 in subst (Ends level.Or) (sym head) refl))
      (λ x. (Folded n g zero_form, zero_text ++ mark_token sign.Right ∷ [], inner_sample n g)))
      (λ g. (Folded n g zero_form, mark_token sign.Left ∷ (zero_text ++ mark_token sign.Right ∷ []), left_sample n g))

  title_good : (n : Ident) → Good bar Any 31 31 (Ends level.Or) (TitleTail n) (titled n)
  unfolding titled
  title_good n = image bar barred (disjunction (nested 31)) (Titled n) (whole_good bar barred 31)

  dotted_sample : (n : Ident) (s : Soft) (t : Token) → looks t ≡ class.Name s → TitleTail n (Titled n (form.Dotted (ident_of t) (ident_of name_token))) (t ∷ mark_token sign.Dot ∷ name_token ∷ [])
  dotted_sample n s t h = record {
    value = form.Dotted (ident_of t) (ident_of name_token);
    gives = refl;
    derives = tighter refl (tighter refl (tighter refl (tighter refl (tighter refl (tighter refl (tighter refl (dotted t (mark_token sign.Dot) name_token h refl name_is)))))));
  }

  fold_sample : (n : Ident) → FoldTail n (Folded n (ident_of fold_token) zero_form) (fold_token ∷ mark_token sign.Left ∷ (zero_text ++ mark_token sign.Right ∷ []))
  fold_sample n = record { token = fold_token; value = ident_of fold_token; rest = mark_token sign.Left ∷ (zero_text ++ mark_token sign.Right ∷ []); parts = refl; is = (fold_is, refl); two = left_sample n (ident_of fold_token) }

  abbrev chosen : Ident → List Token → ℕ → Outcome Wish
  chosen n rest room = value_by n (first rest) (second rest) (at bar rest room)

  -- the choice is the same where one token ahead is, once a token was taken
  same_choice : (n : Ident) (u r s : List Token) (room : ℕ) → 0 < length u → first r ≡ first s → (p : Parser Wish) → value_by n (first (u ++ s)) (second (u ++ s)) ≡ p → chosen n (u ++ r) room ≡ p (at bar (u ++ r) room)
  same_choice n u r s room h e p q = ap (λ (c : Parser Wish). c (at bar (u ++ r) room)) (ap (λ k. value_by n k (second (u ++ r))) (same_first u r s e) ∙ ap (λ k. value_by n (first (u ++ s)) k) (same_second u r s h e) ∙ q)

  by_path : {D : Wish → List Token → Type 0} {H : Class → Type 0} {E : Class → Type 0} (n : Ident) (p : Parser Wish) → Good bar H 31 31 E D p → ((a : Wish) (u : List Token) → D a u → ValueTail n a u) → ((a : Wish) (u : List Token) → D a u → 0 < length u)
      → (rest : List Token) (room : ℕ) → H (first rest) → value_by n (first rest) (second rest) ≡ p → (a : Wish) (j : Input) → p (at bar rest room) ≡ Ok (a, j) → Took bar (λ i. value_by n (first i.rest) (second i.rest) i) (ValueTail n) 31 31 rest room a j
  by_path n p g to some rest room h is a j e =
      let t = g.took rest room a j h e in
      record {
        used = t.used;
        left = t.left;
        spare = t.spare;
        is = t.is;
        split = t.split;
        spent = t.spent;
        derives = to a t.used t.derives;
        nests = t.nests;
        clean = t.clean;
        local = λ r same. same_choice n t.used r t.left room (some a t.used t.derives) same p (subst (λ (v : List Token). value_by n (first v) (second v) ≡ p) t.split is) ∙ t.local r same;
      }

  by_halt : {D : Wish → List Token → Type 0} {H : Class → Type 0} {E : Class → Type 0} (n : Ident) (p : Parser Wish) → Good bar H 31 31 E D p → ((a : Wish) (u : List Token) → D a u → ValueTail n a u)
      → (rest : List Token) (room : ℕ) → H (first rest) → value_by n (first rest) (second rest) ≡ p → (s : Stop) → p (at bar rest room) ≡ Err s
      → ((t : Halted bar p D 31 rest room s) → t.used ≡ [] → (r : List Token) → first r ≡ first s.rest → chosen n r room ≡ Err (record { what = s.what; rest = r }))
      → Halted bar (λ i. value_by n (first i.rest) (second i.rest) i) (ValueTail n) 31 rest room s
  by_halt {D = D} n p g to rest room h is s e first_case =
      let t = g.halted rest room s h e in
      let can : (v : List Token) → CanEnd D v → CanEnd (ValueTail n) v = λ v c. record { value = c.value; more = c.more; derives = to c.value (v ++ c.more) c.derives } in
      record {
        used = t.used;
        split = t.split;
        depth = t.depth;
        nests = t.nests;
        within = t.within;
        clean = t.clean;
        local = λ r same. elim t.used as (λ (u : List Token). t.used ≡ u → chosen n (u ++ r) room ≡ Err (record { what = s.what; rest = r })) [
          | [] ↦ λ q. first_case t q r same
          | x ∷ u ↦ λ q.
              let split : rest ≡ (x ∷ u) ++ s.rest = t.split ∙ ap (λ (v : List Token). v ++ s.rest) q in
              same_choice n (x ∷ u) r s.rest room (omega arith) same p (subst (λ (v : List Token). value_by n (first v) (second v) ≡ p) split is) ∙ subst (λ (v : List Token). p (at bar (v ++ r) room) ≡ Err (record { what = s.what; rest = r })) q (t.local r same)
        ] refl;
        end = elim t.end [
          | inl y ↦ inl (y.0, can t.used y.1)
          | inr l ↦ inr (record { token = l.token; more = l.more; next = l.next; real = l.real; can = can (t.used ++ l.token ∷ []) l.can; which = l.which })
        ];
      }

  barred_at : (n : Ident) (r : List Token) (s : Stop) (room : ℕ) → first r ≡ class.Name soft.Fold → (s.what ≡ bar) × (room ≡ 0) → chosen n r room ≡ Err (record { what = s.what; rest = r })
  barred_at n r s room h k =
      let P : What → ℕ → Type 0 = λ w m. chosen n r m ≡ Err (record { what = w; rest = r }) in
      subst (λ w. P w room) (sym k.0) (subst (P bar) (sym k.1) (elim (choice (first r) (second r)) [
        | inl c ↦ ap (λ (p : Parser Wish). p (at bar r 0)) (folds n (first r) (second r) c.0 c.1) ∙ fold_blocked n r h
        | inr c ↦ ap (λ (p : Parser Wish). p (at bar r 0)) (c n) ∙ title_blocked n soft.Fold r h
      ]))

  fold_some : (n : Ident) (a : Wish) (u : List Token) → FoldTail n a u → 0 < length u
  fold_some n a u x = omega (arith, ap length x.parts)

  title_some : (n : Ident) (a : Wish) (u : List Token) → TitleTail n a u → 0 < length u
  title_some n a u x = derives_some level.Or x.value u x.derives

  value_took : (n : Ident) (rest : List Token) (room : ℕ) (a : Wish) (j : Input) → chosen n rest room ≡ Ok (a, j) → Took bar (λ i. value_by n (first i.rest) (second i.rest) i) (ValueTail n) 31 31 rest room a j
  value_took n rest room a j e = elim (choice (first rest) (second rest)) [
    | inl c ↦ let is = folds n (first rest) (second rest) c.0 c.1 in by_path n (folded n) (fold_good n) (λ a u x. inr x) (fold_some n) rest room c.0 is a j (ap (λ (p : Parser Wish). p (at bar rest room)) (sym is) ∙ e)
    | inr c ↦ by_path n (titled n) (title_good n) (λ a u x. inl x) (title_some n) rest room tt (c n) a j (ap (λ (p : Parser Wish). p (at bar rest room)) (sym (c n)) ∙ e)
  ]

  fold_first_case : (n : Ident) (rest : List Token) (room : ℕ) (s : Stop) → first rest ≡ class.Name soft.Fold → (t : Halted bar (folded n) (FoldTail n) 31 rest room s) → t.used ≡ [] → (r : List Token) → first r ≡ first s.rest → chosen n r room ≡ Err (record { what = s.what; rest = r })
  fold_first_case n rest room s h t none r same =
      let here : rest ≡ s.rest = t.split ∙ ap (λ (v : List Token). v ++ s.rest) none in
      let k = stuck (folded n) (fold_good n) tt (Folded n (ident_of fold_token) zero_form) (fold_token ∷ mark_token sign.Left ∷ (zero_text ++ mark_token sign.Right ∷ [])) (fold_sample n) soft.Fold fold_is rest room s h h t t none in
      barred_at n r s room (same ∙ ap first (sym here) ∙ h) k

  title_first_case : (n : Ident) (rest : List Token) (room : ℕ) (s : Stop) → (t : Halted bar (titled n) (TitleTail n) 31 rest room s) → t.used ≡ [] → (r : List Token) → first r ≡ first s.rest → chosen n r room ≡ Err (record { what = s.what; rest = r })
  title_first_case n rest room s t none r same =
      let here : rest ≡ s.rest = t.split ∙ ap (λ (v : List Token). v ++ s.rest) none in
      elim (choice (first r) (second r)) [
        | inr c ↦ ap (λ (p : Parser Wish). p (at bar r room)) (c n) ∙ subst (λ (v : List Token). titled n (at bar (v ++ r) room) ≡ Err (record { what = s.what; rest = r })) none (t.local r same)
        | inl c ↦
            let is : first rest ≡ class.Name soft.Fold = ap first here ∙ sym same ∙ c.0 in
            let k = stuck (titled n) (title_good n) refl (Titled n (form.Dotted (ident_of fold_token) (ident_of name_token))) (fold_token ∷ mark_token sign.Dot ∷ name_token ∷ []) (dotted_sample n soft.Fold fold_token fold_is) soft.Fold fold_is rest room s is tt t t none in
            barred_at n r s room c.0 k
      ]

  value_halted : (n : Ident) (rest : List Token) (room : ℕ) (s : Stop) → chosen n rest room ≡ Err s → Halted bar (λ i. value_by n (first i.rest) (second i.rest) i) (ValueTail n) 31 rest room s
  value_halted n rest room s e = elim (choice (first rest) (second rest)) [
    | inl c ↦ let is = folds n (first rest) (second rest) c.0 c.1 in by_halt n (folded n) (fold_good n) (λ a u x. inr x) rest room c.0 is s (ap (λ (p : Parser Wish). p (at bar rest room)) (sym is) ∙ e) (fold_first_case n rest room s c.0)
    | inr c ↦ by_halt n (titled n) (title_good n) (λ a u x. inl x) rest room tt (c n) s (ap (λ (p : Parser Wish). p (at bar rest room)) (sym (c n)) ∙ e) (title_first_case n rest room s)
  ]

  value_again : (n : Ident) (a : Wish) (u r : List Token) (room : ℕ) → ValueTail n a u → Ends level.Or (first r) → Again bar (λ i. value_by n (first i.rest) (second i.rest) i) a u r room
  value_again n a u r room (inl x) e = elim (choice (first (u ++ r)) (second (u ++ r))) [
    | inl c ↦ let dot = name_then_dot x.derives r soft.Fold c.0 in let clash : class.Mark sign.Dot ≡ class.Mark sign.Left = sym dot ∙ c.1 in absurd cc
    | inr c ↦ subst (λ (p : Parser Wish). ((spare : ℕ) × (p (at bar (u ++ r) room) ≡ Ok (a, at bar r spare))) ⊎ ((s : Stop) × (p (at bar (u ++ r) room) ≡ Err s) × (s.what ≢ what.Unexpected))) (sym (c n)) ((title_good n).again a u r room x e tt)
  ]
  value_again n a u r room (inr x) e =
      let head : first (u ++ r) ≡ class.Name soft.Fold = lead_first x r ∙ x.is.0 in
      let left : second (u ++ r) ≡ class.Mark sign.Left = ap (λ (v : List Token). second (v ++ r)) (x.parts ∙ ap (λ (v : List Token). x.token ∷ v) x.two.parts) ∙ x.two.is in
      subst (λ (p : Parser Wish). ((spare : ℕ) × (p (at bar (u ++ r) room) ≡ Ok (a, at bar r spare))) ⊎ ((s : Stop) × (p (at bar (u ++ r) room) ≡ Err s) × (s.what ≢ what.Unexpected))) (sym (folds n (first (u ++ r)) (second (u ++ r)) head left)) ((fold_good n).again a u r room x tt head)

  pub value_good : (n : Ident) → Good bar Any 31 31 (Ends level.Or) (ValueTail n) (value_of n)
  unfolding value_of
  value_good n = record {
    took = λ rest room a j h e. value_took n rest room a j e;
    halted = λ rest room s h e. value_halted n rest room s e;
    again = λ a u r room x e h. value_again n a u r room x e;
  }
