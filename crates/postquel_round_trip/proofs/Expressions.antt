-- A printed expression is lexed to tokens that are the same expression, in the same parentheses or in fewer.
use Rattle.std.proofs.Common.{◌≡◌, ◌≢◌, ℕ, ◌<◌, ◌≤◌, ℤ, pos, Bool, true, false, cond, ltb, List, [], ◌∷◌, ◌++◌, Some, refl, sym, ap, subst, ◌∙◌, append_assoc, arith}
use Rattle.std.proofs.lemmas.List.{append-nil}
use Rattle.std.proofs.lemmas.Bool.{ltb-true, ltb-false}
use Rattle.std.specs.Prelude.{codes}
use Rattle.std.specs.Fmt.{signed_decimal}
use Rattle.postquel_tokens.specs.declared.fault.Spot.{Spot}
use Rattle.postquel_tokens.specs.declared.token.Token.{Token}
use Rattle.postquel_tokens.specs.declared.token.Sign.TheVariants as sign
use Rattle.postquel_tokens.specs.declared.form.Ident.{Ident}
use Rattle.postquel_tokens.specs.declared.form.UnaryOp.{UnaryOp}
use Rattle.postquel_tokens.specs.declared.form.BinaryOp.{BinaryOp}
use Rattle.postquel_tokens.specs.declared.form.BinaryOp.TheVariants as binary
use Rattle.postquel_tokens.specs.Forms.{Phrase}
use Rattle.postquel_tokens.specs.Forms as form
use Rattle.postquel.specs.declared.class.Class.{Class}
use Rattle.postquel.specs.declared.class.Class.TheVariants as class
use Rattle.postquel_tokens.specs.declared.name.Key.TheVariants as key
use Rattle.postquel.specs.declared.class.Soft.{Soft}
use Rattle.postquel.specs.declared.level.Level.{Level}
use Rattle.postquel.specs.declared.level.Level.TheVariants as level
use Rattle.postquel.specs.Class.{looks}
use Rattle.postquel.specs.Grammar.{number_of, text_of, ident_of}
use Rattle.postquel.specs.Level.{next, before, between}
use Rattle.postquel.specs.Print.{strength, least_left, least_right, least_behind, symbol, prefix_symbol, wrapped, quoted, truth_text, null_text, dotted_text, text}
use Rattle.postquel.specs.Syntax.{Derives, number, word, truth, falsity, dotted, parens, tighter, prefixed, compared, null, not_null, chained}
use Rattle.postquel_round_trip.specs.Bare.{nowhere, bare_ident, bare_phrase}
use Rattle.postquel_round_trip.proofs.Strengths.{bind, binds, prefix_binds, left_of, own, own_is, left_is, right_is, behind_is, lift, bind_low, bind_high, bind_next, before_binds, between_binds, chain_left}
use Rattle.postquel_round_trip.proofs.Trims.{Trims, none, keep, shed, trims_append}
use Rattle.postquel_round_trip.proofs.Lexing.{Gives, Apart, Both, both, One, one, then, means, loose}
use Rattle.postquel_round_trip.proofs.Literals.{Named, named, Counted, counted, Worded, worded_as, name_gives, number_gives, word_gives}
use Rattle.postquel_round_trip.proofs.Fixed.{left_gives, right_gives, dot_gives, is_gives, not_gives, null_gives, true_gives, false_gives, class_at, prefix_class, operator_gives, prefix_gives, between_at, before_at, class_no_go, prefix_no_go, between_class, before_class}
use Rattle.postquel_round_trip.proofs.Valid.{Valid, ValidKind, valid_left, valid_right, number_valid, word_valid, name_valid, name_class}

-- ---- what each form prints as, and is without places

text_number : (n : ℤ) → text (form.Number n) ≡ signed_decimal n
unfolding text
text_number n = refl

text_word : (w : List ℕ) → text (form.Word w) ≡ quoted w
unfolding text
text_word w = refl

text_truth : (b : Bool) → text (form.Truth b) ≡ truth_text b
unfolding text
text_truth b = refl

text_dotted : (v c : Ident) → text (form.Dotted v c) ≡ dotted_text v.text c.text
unfolding text
text_dotted v c = refl

text_unary : (op : UnaryOp) (s : Spot) (a : Phrase) → text (form.Unary op s a) ≡ prefix_symbol op ++ wrapped (least_behind op) (strength a) (text a)
unfolding text
text_unary op s a = refl

text_binary : (op : BinaryOp) (s : Spot) (a b : Phrase)
    → text (form.Binary op s a b) ≡ wrapped (least_left op) (strength a) (text a) ++ ((32 ∷ (symbol op ++ 32 ∷ [])) ++ wrapped (least_right op) (strength b) (text b))
unfolding text
text_binary op s a b = ap (λ (v : List ℕ). wrapped (least_left op) (strength a) (text a) ++ 32 ∷ v) (sym (append_assoc (symbol op) (32 ∷ []) (wrapped (least_right op) (strength b) (text b))))

text_null : (s : Spot) (a : Phrase) (n : Bool) → text (form.IsNull s a n) ≡ wrapped 5 (strength a) (text a) ++ null_text n
unfolding text
text_null s a n = refl

bare_dotted : (v c : Ident) → bare_phrase (form.Dotted v c) ≡ form.Dotted (bare_ident v) (bare_ident c)
unfolding bare_phrase
bare_dotted v c = refl

bare_unary : (op : UnaryOp) (s : Spot) (a : Phrase) → bare_phrase (form.Unary op s a) ≡ form.Unary op nowhere (bare_phrase a)
unfolding bare_phrase
bare_unary op s a = refl

bare_binary : (op : BinaryOp) (s : Spot) (a b : Phrase) → bare_phrase (form.Binary op s a b) ≡ form.Binary op nowhere (bare_phrase a) (bare_phrase b)
unfolding bare_phrase
bare_binary op s a b = refl

bare_null : (s : Spot) (a : Phrase) (n : Bool) → bare_phrase (form.IsNull s a n) ≡ form.IsNull nowhere (bare_phrase a) n
unfolding bare_phrase
bare_null s a n = refl

-- ---- the same form, from other tokens

-- Derived at its own level. Where the level of the first tokens binds more tightly, they had parentheses.
pub record Same (f : Phrase) (l : Level) (u ts : List Token) : Type 0 where
  pub again : Phrase
  pub derives : Derives (own f) again ts
  pub same : bare_phrase again ≡ bare_phrase f
  pub trims : Trims u ts
  pub around : bind (own f) < bind l → (a b : Token) → looks a ≡ class.Mark sign.Left → looks b ≡ class.Mark sign.Right → Trims u (a ∷ (ts ++ b ∷ []))

-- derived at a level
pub record Operand (f : Phrase) (l : Level) (u ts : List Token) : Type 0 where
  pub again : Phrase
  pub derives : Derives l again ts
  pub same : bare_phrase again ≡ bare_phrase f
  pub trims : Trims u ts

abbrev pub Prints : Phrase → Level → List Token → Type 0
Prints f l u = Gives (text f) Apart (Same f l u)

plain : (f : Phrase) (l : Level) (u ts : List Token) → bind l ≤ bind (own f) → Same f l u ts → Operand f l u ts
plain f l u ts h x = record { again = x.again; derives = lift l (own f) h x.derives; same = x.same; trims = x.trims }

inside : (f : Phrase) (l : Level) (u ts : List Token) → bind (own f) < bind l → Both (One (class.Mark sign.Left)) (Both (Same f l u) (One (class.Mark sign.Right))) ts → Operand f l u ts
inside f l u _ h (both (one a p) (both {u = ts} x (one b q))) =
    let inner = lift level.Or (own f) (bind_low (own f)) x.derives in
    record { again = x.again; derives = lift l level.Atom (bind_high l) (parens a b p q inner); same = x.same; trims = x.around h a b p q }

pub wrap : (f : Phrase) (l : Level) (u : List Token) → Prints f l u → Gives (wrapped (bind l) (strength f) (text f)) Apart (Operand f l u)
wrap f l u x =
    elim (ltb (strength f) (bind l)) as (λ q. ltb (strength f) (bind l) ≡ q → Gives (cond q (40 ∷ (text f ++ 41 ∷ [])) (text f)) Apart (Operand f l u)) [
      | true ↦ λ e.
          let less : bind (own f) < bind l = subst (λ n. n < bind l) (own_is f) (ltb-true _ _ e) in
          means (40 ∷ (text f ++ 41 ∷ [])) (λ ts. inside f l u ts less) (then (codes "(") (text f ++ 41 ∷ []) left_gives (λ r p. tt) (then (text f) (codes ")") x (λ r p. (refl, refl)) (loose Apart (codes ")") right_gives)))
      | false ↦ λ e.
          let enough : bind l ≤ bind (own f) = subst (λ n. bind l ≤ n) (own_is f) (ltb-false _ _ e) in
          means (text f) (λ ts. plain f l u ts enough) x
    ] refl

-- the tightest form has no parentheses
own_trims : (f : Phrase) (l : Level) (u ts : List Token) → bind l ≤ bind (own f) → (again : Phrase) → Derives (own f) again ts → bare_phrase again ≡ bare_phrase f → Trims u ts → Same f l u ts
own_trims f l u ts h again d s t = record { again = again; derives = d; same = s; trims = t; around = λ less. absurd (omega (arith, less, h)) }

-- ---- atoms

pub keep_one : (t s : Token) (c : Class) → c ≢ class.Mark sign.Go → looks t ≡ c → looks s ≡ c → {u w : List Token} → Trims u w → Trims (t ∷ u) (s ∷ w)
keep_one t s c n p q x = keep t s (p ∙ sym q) (λ e. n (sym p ∙ e)) x

number_same : (t : Token) → looks t ≡ class.Number → (ts : List Token) → Counted (number_of t.kind) ts → Same (form.Number (number_of t.kind)) level.Atom (t ∷ []) ts
number_same t e _ (counted s p q) =
    let f = form.Number (number_of t.kind) in
    own_trims f level.Atom (t ∷ []) (s ∷ []) (omega arith) (form.Number (number_of s.kind)) (number s p) (ap (λ (n : ℤ). bare_phrase (form.Number n)) q) (keep_one t s class.Number (λ n. absurd cc) e p none)

number_prints : (t : Token) → looks t ≡ class.Number → ValidKind t.kind → Prints (form.Number (number_of t.kind)) level.Atom (t ∷ [])
number_prints t e h =
    let v = number_valid t.kind h e in
    let D = Same (form.Number (number_of t.kind)) level.Atom (t ∷ []) in
    let is : text (form.Number (number_of t.kind)) ≡ signed_decimal (pos v.0) = text_number (number_of t.kind) ∙ ap signed_decimal v.1 in
    subst (λ (z : List ℕ). Gives z Apart D) (sym is) (means (signed_decimal (pos v.0)) (λ ts x. number_same t e ts (subst (λ (n : ℤ). Counted n ts) (sym v.1) x)) (number_gives v.0 v.2))

word_same : (t : Token) → looks t ≡ class.Word → (ts : List Token) → Worded (text_of t.kind) ts → Same (form.Word (text_of t.kind)) level.Atom (t ∷ []) ts
word_same t e _ (worded_as s p q) =
    let f = form.Word (text_of t.kind) in
    own_trims f level.Atom (t ∷ []) (s ∷ []) (omega arith) (form.Word (text_of s.kind)) (word s p) (ap (λ (n : List ℕ). bare_phrase (form.Word n)) q) (keep_one t s class.Word (λ n. absurd cc) e p none)

word_prints : (t : Token) → looks t ≡ class.Word → ValidKind t.kind → Prints (form.Word (text_of t.kind)) level.Atom (t ∷ [])
word_prints t e h =
    subst (λ (z : List ℕ). Gives z Apart (Same (form.Word (text_of t.kind)) level.Atom (t ∷ []))) (sym (text_word (text_of t.kind)))
    (means (quoted (text_of t.kind)) (λ ts x. word_same t e ts x) (loose Apart (quoted (text_of t.kind)) (word_gives (text_of t.kind) (word_valid t.kind h e))))

truth_same : (t : Token) → looks t ≡ class.Key key.True → (ts : List Token) → One (class.Key key.True) ts → Same (form.Truth true) level.Atom (t ∷ []) ts
truth_same t e _ (one s p) = own_trims (form.Truth true) level.Atom (t ∷ []) (s ∷ []) (omega arith) (form.Truth true) (truth s p) refl (keep_one t s (class.Key key.True) (λ n. absurd cc) e p none)

falsity_same : (t : Token) → looks t ≡ class.Key key.False → (ts : List Token) → One (class.Key key.False) ts → Same (form.Truth false) level.Atom (t ∷ []) ts
falsity_same t e _ (one s p) = own_trims (form.Truth false) level.Atom (t ∷ []) (s ∷ []) (omega arith) (form.Truth false) (falsity s p) refl (keep_one t s (class.Key key.False) (λ n. absurd cc) e p none)

called : List ℕ → Ident
called n = record { text = n; spot = nowhere }

pub ident_same : (t s : Token) → text_of s.kind ≡ text_of t.kind → bare_ident (ident_of s) ≡ bare_ident (ident_of t)
unfolding called
ident_same t s q = ap called q

abbrev pub NamedAs : Token → Soft → List Token → Type 0
NamedAs t s = Named (text_of t.kind) (class.Name s)

pub name_prints : (t : Token) (s : Soft) → looks t ≡ class.Name s → ValidKind t.kind → Gives (text_of t.kind) Apart (NamedAs t s)
name_prints t s e h = name_gives (text_of t.kind) (class.Name s) (name_valid t.kind s h e) (name_class t.kind s e)

pub keep_name : (t n : Token) (s : Soft) → looks t ≡ class.Name s → looks n ≡ class.Name s → {u w : List Token} → Trims u w → Trims (t ∷ u) (n ∷ w)
keep_name t n s p q x = keep_one t n (class.Name s) (λ e. absurd cc) p q x

dotted_same : {s q : Soft} (v d c : Token) → looks v ≡ class.Name s → looks d ≡ class.Mark sign.Dot → looks c ≡ class.Name q → (ts : List Token) → Both (NamedAs v s) (Both (One (class.Mark sign.Dot)) (NamedAs c q)) ts
    → Same (form.Dotted (ident_of v) (ident_of c)) level.Atom (v ∷ d ∷ c ∷ []) ts
dotted_same {s} {q} v d c e f g _ (both (named x p i) (both (one y o) (named z r j))) =
    own_trims (form.Dotted (ident_of v) (ident_of c)) level.Atom (v ∷ d ∷ c ∷ []) (x ∷ y ∷ z ∷ []) (omega arith) (form.Dotted (ident_of x) (ident_of z)) (dotted x y z p o r)
    (bare_dotted (ident_of x) (ident_of z) ∙ ap (λ (n : Ident). form.Dotted n (bare_ident (ident_of z))) (ident_same v x i) ∙ ap (λ (n : Ident). form.Dotted (bare_ident (ident_of v)) n) (ident_same c z j) ∙ sym (bare_dotted (ident_of v) (ident_of c)))
    (keep_name v x s e p (keep_one d y (class.Mark sign.Dot) (λ n. absurd cc) f o (keep_name c z q g r none)))

pub dotted_gives : {s q : Soft} (v c : Token) → looks v ≡ class.Name s → looks c ≡ class.Name q → ValidKind v.kind → ValidKind c.kind
    → Gives (dotted_text (text_of v.kind) (text_of c.kind)) Apart (Both (NamedAs v s) (Both (One (class.Mark sign.Dot)) (NamedAs c q)))
dotted_gives {s} {q} v c e g hv hc =
    then (text_of v.kind) (46 ∷ text_of c.kind) (name_prints v s e hv) (λ r p. (refl, refl)) (then (codes ".") (text_of c.kind) dot_gives (λ r p. tt) (name_prints c q g hc))

dotted_prints : {s q : Soft} (v d c : Token) → looks v ≡ class.Name s → looks d ≡ class.Mark sign.Dot → looks c ≡ class.Name q → ValidKind v.kind → ValidKind c.kind → Prints (form.Dotted (ident_of v) (ident_of c)) level.Atom (v ∷ d ∷ c ∷ [])
dotted_prints {s} {q} v d c e f g hv hc =
    let z = dotted_text (text_of v.kind) (text_of c.kind) in
    subst (λ (y : List ℕ). Gives y Apart (Same (form.Dotted (ident_of v) (ident_of c)) level.Atom (v ∷ d ∷ c ∷ []))) (sym (text_dotted (ident_of v) (ident_of c)))
    (means z (dotted_same v d c e f g) (dotted_gives v c e g hv hc))

-- ---- operators

unary_same : (t : Token) (op : UnaryOp) (f : Phrase) (l : Level) (u : List Token) → before l (looks t) ≡ Some op → (ts : List Token) → Both (One (prefix_class op)) (Operand f (next (prefix_binds op)) u) ts
    → Same (form.Unary op t.spot f) l (t ∷ u) ts
unary_same t op f l u e _ (both {w = w} (one s p) x) =
    let is = before_binds l (looks t) op e in
    let reads : before (prefix_binds op) (looks s) ≡ Some op = subst (λ c. before (prefix_binds op) c ≡ Some op) (sym p) (before_at op) in
    let not_less : bind l ≤ bind (prefix_binds op) = subst (λ m. bind l ≤ bind m) (sym is) (omega arith) in
    own_trims (form.Unary op t.spot f) l (t ∷ u) (s ∷ w) not_less (form.Unary op s.spot x.again) (prefixed s op reads x.derives)
    (bare_unary op s.spot x.again ∙ ap (λ (g : Phrase). form.Unary op nowhere g) x.same ∙ sym (bare_unary op t.spot f))
    (keep_one t s (prefix_class op) (prefix_no_go op) (before_class l (looks t) op e) p x.trims)

unary_prints : (t : Token) (op : UnaryOp) (f : Phrase) (l : Level) (u : List Token) → before l (looks t) ≡ Some op → Prints f (next l) u → Prints (form.Unary op t.spot f) l (t ∷ u)
unary_prints t op f l u e x =
    let is = before_binds l (looks t) op e in
    let m = next (prefix_binds op) in
    let y : Prints f m u = subst (λ k. Prints f (next k) u) (sym is) x in
    let inner = wrapped (least_behind op) (strength f) (text f) in
    let z : Gives inner Apart (Operand f m u) = subst (λ n. Gives (wrapped n (strength f) (text f)) Apart (Operand f m u)) (sym (behind_is op)) (wrap f m u y) in
    subst (λ (v : List ℕ). Gives v Apart (Same (form.Unary op t.spot f) l (t ∷ u))) (sym (text_unary op t.spot f))
    (means (prefix_symbol op ++ inner) (unary_same t op f l u e) (then (prefix_symbol op) inner (prefix_gives op) (λ r p. tt) z))

join_binary : (op : BinaryOp) (t : Token) {a b : Phrase} {u w : List Token} → Derives (left_of (binds op)) a u → between (binds op) (looks t) ≡ Some op → Derives (next (binds op)) b w → Derives (binds op) (form.Binary op t.spot a b) (u ++ t ∷ w)
join_binary binary.Or t x h y = chained t binary.Or refl x h y
join_binary binary.And t x h y = chained t binary.And refl x h y
join_binary binary.Add t x h y = chained t binary.Add refl x h y
join_binary binary.Sub t x h y = chained t binary.Sub refl x h y
join_binary binary.Mul t x h y = chained t binary.Mul refl x h y
join_binary binary.Equal t x h y = compared t binary.Equal x h y
join_binary binary.NotEqual t x h y = compared t binary.NotEqual x h y
join_binary binary.Less t x h y = compared t binary.Less x h y
join_binary binary.AtMost t x h y = compared t binary.AtMost x h y
join_binary binary.More t x h y = compared t binary.More x h y
join_binary binary.AtLeast t x h y = compared t binary.AtLeast x h y

binary_same : (t : Token) (op : BinaryOp) (a b : Phrase) (l : Level) (u w : List Token) → between l (looks t) ≡ Some op → (ts : List Token)
    → Both (Operand a (left_of (binds op)) u) (Both (One (class_at op)) (Operand b (next (binds op)) w)) ts → Same (form.Binary op t.spot a b) l (u ++ t ∷ w) ts
binary_same t op a b l u w e _ (both {u = m} x (both {w = n} (one s p) y)) =
    let is = between_binds l (looks t) op e in
    let reads : between (binds op) (looks s) ≡ Some op = subst (λ c. between (binds op) c ≡ Some op) (sym p) (between_at op) in
    let not_less : bind l ≤ bind (binds op) = subst (λ k. bind l ≤ bind k) (sym is) (omega arith) in
    own_trims (form.Binary op t.spot a b) l (u ++ t ∷ w) (m ++ s ∷ n) not_less (form.Binary op s.spot x.again y.again) (join_binary op s x.derives reads y.derives)
    (bare_binary op s.spot x.again y.again ∙ ap (λ (f : Phrase). form.Binary op nowhere f (bare_phrase y.again)) x.same ∙ ap (λ (f : Phrase). form.Binary op nowhere (bare_phrase a) f) y.same ∙ sym (bare_binary op t.spot a b))
    (trims_append x.trims (keep_one t s (class_at op) (class_no_go op) (between_class l (looks t) op e) p y.trims))

binary_prints : (t : Token) (op : BinaryOp) (a b : Phrase) (l : Level) (u w : List Token) → between l (looks t) ≡ Some op → Prints a (left_of (binds op)) u → Prints b (next (binds op)) w → Prints (form.Binary op t.spot a b) l (u ++ t ∷ w)
binary_prints t op a b l u w e x y =
    let left = wrapped (least_left op) (strength a) (text a) in
    let right = wrapped (least_right op) (strength b) (text b) in
    let sign = 32 ∷ (symbol op ++ 32 ∷ []) in
    let m = left_of (binds op) in
    let n = next (binds op) in
    let p : Gives left Apart (Operand a m u) = subst (λ k. Gives (wrapped k (strength a) (text a)) Apart (Operand a m u)) (sym (left_is op)) (wrap a m u x) in
    let q : Gives right Apart (Operand b n w) = subst (λ k. Gives (wrapped k (strength b) (text b)) Apart (Operand b n w)) (sym (right_is op)) (wrap b n w y) in
    subst (λ (v : List ℕ). Gives v Apart (Same (form.Binary op t.spot a b) l (u ++ t ∷ w))) (sym (text_binary op t.spot a b))
    (means (left ++ (sign ++ right)) (binary_same t op a b l u w e) (then left (sign ++ right) p (λ r z. (refl, refl)) (then sign right (operator_gives op) (λ r z. tt) q)))

null_same : (t n : Token) (a : Phrase) (u : List Token) → looks t ≡ class.Key key.Is → looks n ≡ class.Key key.Null → (ts : List Token)
    → Both (Operand a level.Sum u) (Both (One (class.Key key.Is)) (One (class.Key key.Null))) ts → Same (form.IsNull t.spot a false) level.Comparison (u ++ t ∷ n ∷ []) ts
null_same t n a u e f _ (both {u = w} x (both (one s p) (one m q))) =
    own_trims (form.IsNull t.spot a false) level.Comparison (u ++ t ∷ n ∷ []) (w ++ s ∷ m ∷ []) (omega arith) (form.IsNull s.spot x.again false) (null s m x.derives p q)
    (bare_null s.spot x.again false ∙ ap (λ (g : Phrase). form.IsNull nowhere g false) x.same ∙ sym (bare_null t.spot a false))
    (trims_append x.trims (keep_one t s (class.Key key.Is) (λ z. absurd cc) e p (keep_one n m (class.Key key.Null) (λ z. absurd cc) f q none)))

null_prints : (t n : Token) (a : Phrase) (u : List Token) → looks t ≡ class.Key key.Is → looks n ≡ class.Key key.Null → Prints a level.Sum u → Prints (form.IsNull t.spot a false) level.Comparison (u ++ t ∷ n ∷ [])
null_prints t n a u e f x =
    let left = wrapped 5 (strength a) (text a) in
    subst (λ (v : List ℕ). Gives v Apart (Same (form.IsNull t.spot a false) level.Comparison (u ++ t ∷ n ∷ []))) (sym (text_null t.spot a false))
    (means (left ++ codes " is null") (null_same t n a u e f) (then left (codes " is null") (wrap a level.Sum u x) (λ r z. (refl, refl)) (then (codes " is ") (codes "null") is_gives (λ r z. tt) null_gives)))

not_null_same : (t k n : Token) (a : Phrase) (u : List Token) → looks t ≡ class.Key key.Is → looks k ≡ class.Key key.Not → looks n ≡ class.Key key.Null → (ts : List Token)
    → Both (Operand a level.Sum u) (Both (One (class.Key key.Is)) (Both (One (class.Key key.Not)) (One (class.Key key.Null)))) ts → Same (form.IsNull t.spot a true) level.Comparison (u ++ t ∷ k ∷ n ∷ []) ts
not_null_same t k n a u e h f _ (both {u = w} x (both (one s p) (both (one i j) (one m q)))) =
    own_trims (form.IsNull t.spot a true) level.Comparison (u ++ t ∷ k ∷ n ∷ []) (w ++ s ∷ i ∷ m ∷ []) (omega arith) (form.IsNull s.spot x.again true) (not_null s i m x.derives p j q)
    (bare_null s.spot x.again true ∙ ap (λ (g : Phrase). form.IsNull nowhere g true) x.same ∙ sym (bare_null t.spot a true))
    (trims_append x.trims (keep_one t s (class.Key key.Is) (λ z. absurd cc) e p (keep_one k i (class.Key key.Not) (λ z. absurd cc) h j (keep_one n m (class.Key key.Null) (λ z. absurd cc) f q none))))

not_null_prints : (t k n : Token) (a : Phrase) (u : List Token) → looks t ≡ class.Key key.Is → looks k ≡ class.Key key.Not → looks n ≡ class.Key key.Null → Prints a level.Sum u → Prints (form.IsNull t.spot a true) level.Comparison (u ++ t ∷ k ∷ n ∷ [])
not_null_prints t k n a u e h f x =
    let left = wrapped 5 (strength a) (text a) in
    subst (λ (v : List ℕ). Gives v Apart (Same (form.IsNull t.spot a true) level.Comparison (u ++ t ∷ k ∷ n ∷ []))) (sym (text_null t.spot a true))
    (means (left ++ codes " is not null") (not_null_same t k n a u e h f)
    (then left (codes " is not null") (wrap a level.Sum u x) (λ r z. (refl, refl)) (then (codes " is ") (codes "not null") is_gives (λ r z. tt) (then (codes "not ") (codes "null") not_gives (λ r z. tt) null_gives))))

-- ---- parentheses and levels

within_parens : (f : Phrase) (l r : Token) (u : List Token) → looks l ≡ class.Mark sign.Left → looks r ≡ class.Mark sign.Right → (ts : List Token) → Same f level.Or u ts → Same f level.Atom (l ∷ (u ++ r ∷ [])) ts
within_parens f l r u p q ts x =
    record {
      again = x.again;
      derives = x.derives;
      same = x.same;
      trims = subst (λ (v : List Token). Trims (l ∷ (u ++ r ∷ [])) v) (append-nil ts) (shed l r p q x.trims none);
      around = λ less a b i j. keep_one l a (class.Mark sign.Left) (λ z. absurd cc) p i (trims_append x.trims (keep_one r b (class.Mark sign.Right) (λ z. absurd cc) q j none));
    }

looser : (f : Phrase) (l : Level) (u ts : List Token) → Same f (next l) u ts → Same f l u ts
looser f l u ts x = record { again = x.again; derives = x.derives; same = x.same; trims = x.trims; around = λ less. x.around (omega (arith, less, bind_next l)) }

pub prints : {l : Level} {f : Phrase} {u : List Token} → Derives l f u → Valid u → Prints f l u
prints (number t e) h = number_prints t e h.0
prints (word t e) h = word_prints t e h.0
prints (truth t e) h = subst (λ (v : List ℕ). Gives v Apart (Same (form.Truth true) level.Atom (t ∷ []))) (sym (text_truth true)) (means (codes "true") (truth_same t e) true_gives)
prints (falsity t e) h = subst (λ (v : List ℕ). Gives v Apart (Same (form.Truth false) level.Atom (t ∷ []))) (sym (text_truth false)) (means (codes "false") (falsity_same t e) false_gives)
prints (dotted v d c e f g) h = dotted_prints v d c e f g h.0 h.1.1.0
prints (parens l r {f} {u} e g x) h = means (text f) (within_parens f l r u e g) (prints x (valid_left u (r ∷ []) h.1))
prints (tighter {l} {f} {u} a x) h = means (text f) (looser f l u) (prints x h)
prints (prefixed {l} {f} {u} t op e x) h = unary_prints t op f l u e (prints x h.1)
prints (compared {a} {b} {u} {w} t op x e y) h =
    let is = between_binds level.Comparison (looks t) op e in
    binary_prints t op a b level.Comparison u w e (subst (λ k. Prints a (left_of k) u) (sym is) (prints x (valid_left u (t ∷ w) h))) (subst (λ k. Prints b (next k) w) (sym is) (prints y (valid_right u (t ∷ w) h).1))
prints (null {a} {u} t n x e f) h = null_prints t n a u e f (prints x (valid_left u (t ∷ n ∷ []) h))
prints (not_null {a} {u} t m n x e g f) h = not_null_prints t m n a u e g f (prints x (valid_left u (t ∷ m ∷ n ∷ []) h))
prints (chained {l} {a} {b} {u} {w} t op c x e y) h =
    let is = between_binds l (looks t) op e in
    let left : left_of (binds op) ≡ l = ap left_of is ∙ chain_left l c in
    binary_prints t op a b l u w e (subst (λ k. Prints a k u) (sym left) (prints x (valid_left u (t ∷ w) h))) (subst (λ k. Prints b (next k) w) (sym is) (prints y (valid_right u (t ∷ w) h).1))

-- an expression where any may stand
pub whole_prints : {f : Phrase} {u : List Token} → Derives level.Or f u → Valid u → Gives (text f) Apart (Operand f level.Or u)
whole_prints {f} {u} d h = means (text f) (λ ts. plain f level.Or u ts (bind_low (own f))) (prints d h)
