-- Parsers made of parsers.
use Rattle.std.proofs.Common.{◌≡◌, ◌≢◌, ◌⊎◌, ℕ, zero, suc, List, [], ◌∷◌, ◌++◌, Some, Ok, Err, refl, sym, ap, subst, ◌∙◌, inl, inr, append_assoc, length-append, arith, rules, Bool, true, false, cond}
use Rattle.std.proofs.lemmas.List.{append-nil}
use Rattle.postquel_tokens.specs.declared.token.Token.{Token}
use Rattle.postquel_tokens.specs.declared.fault.What.{What}
use Rattle.postquel_tokens.specs.declared.fault.What.TheVariants as what
use Rattle.postquel.specs.declared.class.Class.{Class}
use Rattle.postquel.specs.declared.class.Class.TheVariants as class
use Rattle.postquel_tokens.specs.declared.token.Sign.{Sign}
use Rattle.postquel_tokens.specs.declared.token.Sign.TheVariants as sign
use Rattle.postquel_tokens.specs.declared.token.TokenKind.TheVariants as kind
use Rattle.postquel_tokens.specs.contracts.token.Sign as sign_type
use Rattle.postquel_tokens.specs.contracts.name.Key as key_type
use Rattle.postquel_tokens.specs.declared.name.Key.{Key}
use Rattle.postquel.specs.Parts.{OrNone, absent, present}
use denote.Enum.Bare.{same_true, true_same}
use Rattle.postquel.specs.Input.{Input, Stop, Outcome, Parser, and_then, ◌>>=◌, pure, stop, peek, take, first, ◌>>◌, is_mark, is_key, expect, expect_key, or_none}
use Rattle.postquel.specs.Class.{looks}
use Rattle.postquel.specs.Syntax.{nest_step, opt_then, nest}
use Rattle.postquel.proofs.Good.{clean_both, nest-append, nest_both, same_first, bind_ok, bind_err, CanEnd, Then, at, Took, Halted, Again, Good}

abbrev pub Any : Class → Type 0
Any c = Unit {0}

abbrev pub gave : {A : Type 0} → A → Input → Outcome A
gave x i = Ok (x, i)

pub ok_pair : {A : Type 0} (x y : A) (i j : Input) → gave x i ≡ gave y j → (x ≡ y) × (i ≡ j)
ok_pair {A = A} x y i j e = let p : (x, i) ≡ (y, j) = cc in (ap (λ (q : A × Input). q.0) p, ap (λ (q : A × Input). q.1) p)

abbrev pub Is : {A : Type 0} → A → A → List Token → Type 0
Is x b u = (b ≡ x) × (u ≡ [])

-- a token that is not the end, and what it does to the depth
pub record Steps (k : Class) (d e : ℕ) : Type 0 where
  pub here : k ≢ class.End
  pub flat : nest_step k d ≡ Some e

abbrev pub One : Class → Token → List Token → Type 0
One k t u = (u ≡ t ∷ []) × (looks t ≡ k)

abbrev pub Mark : Sign → Unit {0} → List Token → Type 0
Mark s x u = (t : Token) × (u ≡ t ∷ []) × (looks t ≡ class.Mark s)

abbrev pub mark_token : Sign → Token
mark_token s = record { kind = kind.Mark s; spot = record { line = 1; col = 1 } }

-- what is read from one token
abbrev pub Single : {A : Type 0} → (Token → A → Type 0) → A → List Token → Type 0
Single K x u = (t : Token) × (u ≡ t ∷ []) × K t x

-- a value from the token in front, and what is read behind it
pub record Lead {A B : Type 0} (K : Token → A → Type 0) (F : A → B → List Token → Type 0) (b : B) (u : List Token) : Type 0 where
  pub token : Token
  pub value : A
  pub rest : List Token
  pub parts : u ≡ token ∷ rest
  pub is : K token value
  pub two : F value b rest

-- the image of what is read
pub record Image {A B : Type 0} (D : A → List Token → Type 0) (g : A → B) (b : B) (u : List Token) : Type 0 where
  pub value : A
  pub derives : D value u
  pub gives : b ≡ g value

abbrev pub This : Class → Token → Token → Type 0
This k t x = (x ≡ t) × (looks t ≡ k)

abbrev pub IsMark : Sign → Token → Unit {0} → Type 0
IsMark s t x = looks t ≡ class.Mark s

abbrev pub IsKey : Key → Token → Unit {0} → Type 0
IsKey k t x = looks t ≡ class.Key k

pub lead_first : {A B : Type 0} {K : Token → A → Type 0} {F : A → B → List Token → Type 0} {b : B} {u : List Token} (x : Lead K F b u) (r : List Token) → first (u ++ r) ≡ looks x.token
lead_first x r = ap (λ (v : List Token). first (v ++ r)) x.parts

module _ (bar : What) (barred : bar ≢ what.Unexpected) where
  pub pure_good : {A : Type 0} (x : A) (d : ℕ) (E : Class → Type 0) → Good bar Any d d E (Is x) (pure x)
  pure_good x d E = record {
    took = λ rest room a j h e.
        let p = ok_pair x a (at bar rest room) j e in
        record {
          used = [];
          left = rest;
          spare = room;
          is = sym p.1;
          split = refl;
          spent = omega arith;
          derives = (sym p.0, refl);
          nests = refl;
          clean = tt;
          local = λ r same. ap (λ b. gave b (at bar r room)) p.0;
        };
    halted = λ rest room s h e. absurd cc;
    again = λ a u r room given follows h. inl (room, rw (given.0, given.1) refl);
  }

  -- the same parser under another grammar, for certain tokens in front
  pub convert : {A : Type 0} {H K : Class → Type 0} {d e : ℕ} {E F : Class → Type 0} {D G : A → List Token → Type 0} (p : Parser A) → Good bar H d e E D p
      → ((c : Class) → K c → H c) → ((c : Class) → F c → E c) → ((a : A) (u : List Token) → D a u → G a u)
      → ((a : A) (u r : List Token) → G a u → K (first (u ++ r)) → F (first r) → D a u) → Good bar K d e F G p
  convert {D = D} {G = G} p g head tail to from = record {
    took = λ rest room a j h e.
        let t = g.took rest room a j (head (first rest) h) e in
        record { used = t.used; left = t.left; spare = t.spare; is = t.is; split = t.split; spent = t.spent; derives = to a t.used t.derives; nests = t.nests; clean = t.clean; local = t.local };
    halted = λ rest room s h e.
        let t = g.halted rest room s (head (first rest) h) e in
        let can : (v : List Token) → CanEnd D v → CanEnd G v = λ v c. record { value = c.value; more = c.more; derives = to c.value (v ++ c.more) c.derives } in
        record {
          used = t.used;
          split = t.split;
          depth = t.depth;
          nests = t.nests;
          within = t.within;
          clean = t.clean;
          local = t.local;
          end = elim t.end [
            | inl x ↦ inl (x.0, can t.used x.1)
            | inr l ↦ inr (record { token = l.token; more = l.more; next = l.next; real = l.real; can = can (t.used ++ l.token ∷ []) l.can; which = l.which })
          ];
        };
    again = λ a u r room given follows h. g.again a u r room (from a u r given h follows) (tail (first r) follows) (head (first (u ++ r)) h);
  }

  -- a sentence of the second grammar, after each value of the first
  abbrev pub Samples : {A B : Type 0} → (A → B → List Token → Type 0) → Type 0
  Samples {A = A} {B = B} F = (a : A) → (b : B) × (w : List Token) × F a b w

  -- one after the other
  pub in_turn : {A B : Type 0} {H : Class → Type 0} {d m n : ℕ} {E G : Class → Type 0} {D : A → List Token → Type 0} {F : A → B → List Token → Type 0} (p : Parser A) (q : A → Parser B)
      → Good bar H d m E D p → ((a : A) → Good bar Any m n G (F a) (q a)) → Samples F
      → ((a : A) (b : B) (w r : List Token) → F a b w → G (first r) → E (first (w ++ r)))
      → Good bar H d n G (Then D F) (p >>= q)
  in_turn {A = A} {B = B} {H = H} {d = d} {m = m} {n = n} {D = D} {F = F} p q g k samples follow = record {
    took = λ rest room b j h e.
        let x = bind_ok (p (at bar rest room)) q b j e in
        let t = g.took rest room x.0 x.1 h x.2 in
        let e2 : q x.0 (at bar t.left t.spare) ≡ Ok (b, j) = subst (λ (i : Input). q x.0 i ≡ Ok (b, j)) t.is x.3 in
        let s = (k x.0).took t.left t.spare b j tt e2 in
        let derives : Then D F b (t.used ++ s.used) = record { middle = x.0; front = t.used; back = s.used; parts = refl; one = t.derives; two = s.derives } in
        record {
          used = t.used ++ s.used;
          left = s.left;
          spare = s.spare;
          is = s.is;
          split = t.split ∙ ap (λ (w : List Token). t.used ++ w) s.split ∙ sym (append_assoc t.used s.used s.left);
          spent = omega (arith, t.spent, s.spent, length-append t.used s.used);
          derives = derives;
          nests = nest_both d m n t.used s.used t.nests s.nests;
          clean = clean_both t.used s.used t.clean s.clean;
          local = λ r same.
              let one = t.local (s.used ++ r) (same_first s.used r s.left same ∙ ap first (sym s.split)) in
              let two = s.local r same in
              rw (append_assoc t.used s.used r) (ap (λ (o : Outcome A). and_then o q) one ∙ two);
        };
    halted = λ rest room s h e.
        elim (bind_err (p (at bar rest room)) q s e) [
          | inl one ↦
              let t = g.halted rest room s h one in
              let can : (v : List Token) → CanEnd D v → CanEnd (Then D F) v = λ v c.
              let y = samples c.value in
              record { value = y.0; more = c.more ++ y.1; derives = record { middle = c.value; front = v ++ c.more; back = y.1; parts = sym (append_assoc v c.more y.1); one = c.derives; two = y.2 } } in
              record {
                used = t.used;
                split = t.split;
                depth = t.depth;
                nests = t.nests;
                within = t.within;
                clean = t.clean;
                local = λ r same. ap (λ (o : Outcome A). and_then o q) (t.local r same);
                end = elim t.end [
                  | inl x ↦ inl (x.0, can t.used x.1)
                  | inr l ↦ inr (record { token = l.token; more = l.more; next = l.next; real = l.real; can = can (t.used ++ l.token ∷ []) l.can; which = l.which })
                ];
              }
          | inr x ↦
              let t = g.took rest room x.0 x.1 h x.2 in
              let e2 : q x.0 (at bar t.left t.spare) ≡ Err s = subst (λ (i : Input). q x.0 i ≡ Err s) t.is x.3 in
              let z = (k x.0).halted t.left t.spare s tt e2 in
              let can : (v : List Token) → CanEnd (F x.0) v → CanEnd (Then D F) (t.used ++ v) = λ v c.
              record { value = c.value; more = c.more; derives = record { middle = x.0; front = t.used; back = v ++ c.more; parts = append_assoc t.used v c.more; one = t.derives; two = c.derives } } in
              record {
                used = t.used ++ z.used;
                split = t.split ∙ ap (λ (w : List Token). t.used ++ w) z.split ∙ sym (append_assoc t.used z.used s.rest);
                depth = z.depth;
                nests = nest_both d m z.depth t.used z.used t.nests z.nests;
                within = omega (arith, t.spent, z.within, length-append t.used z.used);
                clean = clean_both t.used z.used t.clean z.clean;
                local = λ r same.
                    let one = t.local (z.used ++ r) (same_first z.used r s.rest same ∙ ap first (sym z.split)) in
                    rw (append_assoc t.used z.used r) (ap (λ (o : Outcome A). and_then o q) one ∙ z.local r same);
                end = elim z.end [
                  | inl y ↦ inl (y.0, can z.used y.1)
                  | inr l ↦ inr (record {
                    token = l.token;
                    more = l.more;
                    next = l.next;
                    real = l.real;
                    can = subst (CanEnd (Then D F)) (sym (append_assoc t.used z.used (l.token ∷ []))) (can (z.used ++ l.token ∷ []) l.can);
                    which = elim l.which [
                      | inl y ↦ inl (y.0, y.1, nest_both d m 0 t.used z.used t.nests y.2)
                      | inr y ↦ inr (y.0, omega (arith, t.spent, y.1, length-append t.used z.used), λ a b. y.2 a (sym (nest-append d t.used z.used ∙ ap (λ o. opt_then o (λ k. nest k z.used)) t.nests) ∙ b))
                    ];
                  })
                ];
              }
        ];
    again = λ b u r room given follows h.
        let whole : u ++ r ≡ given.front ++ (given.back ++ r) = ap (λ (v : List Token). v ++ r) given.parts ∙ append_assoc given.front given.back r in
        let P : List Token → Type 0 = λ v. ((spare : ℕ) × ((p >>= q) (at bar v room) ≡ Ok (b, at bar r spare))) ⊎ ((s : Stop) × ((p >>= q) (at bar v room) ≡ Err s) × (s.what ≢ what.Unexpected)) in
        let one = g.again given.middle given.front (given.back ++ r) room given.one (follow given.middle b given.back r given.two follows) (subst (λ (v : List Token). H (first v)) whole h) in
        subst P (sym whole) (elim one [
          | inl x ↦ elim ((k given.middle).again b given.back r x.0 given.two follows tt) [
            | inl y ↦ inl (y.0, ap (λ (o : Outcome A). and_then o q) x.1 ∙ y.1)
            | inr y ↦ inr (y.0, ap (λ (o : Outcome A). and_then o q) x.1 ∙ y.1, y.2)
          ]
          | inr x ↦ inr (x.0, ap (λ (o : Outcome A). and_then o q) x.1, x.2)
        ]);
  }

  -- a choice by the token in front
  pub by_head : {A : Type 0} {d e : ℕ} {E : Class → Type 0} {D : A → List Token → Type 0} (f : Class → Parser A)
      → ((c : Class) → Good bar (λ k. k ≡ c) d e E D (f c)) → Good bar Any d e E D (peek >>= f)
  by_head f g = record {
    took = λ rest room a j h e.
        let t = (g (first rest)).took rest room a j refl e in
        record {
          used = t.used;
          left = t.left;
          spare = t.spare;
          is = t.is;
          split = t.split;
          spent = t.spent;
          derives = t.derives;
          nests = t.nests;
          clean = t.clean;
          local = λ r same. rw (same_first t.used r t.left same, ← t.split) (t.local r same);
        };
    halted = λ rest room s h e.
        let t = (g (first rest)).halted rest room s refl e in
        record {
          used = t.used;
          split = t.split;
          depth = t.depth;
          nests = t.nests;
          within = t.within;
          clean = t.clean;
          local = λ r same. rw (same_first t.used r s.rest same, ← t.split) (t.local r same);
          end = t.end;
        };
    again = λ a u r room given follows h. (g (first (u ++ r))).again a u r room given follows refl;
  }

  one_token : (k : Class) (d e : ℕ) (t : Token) → Steps k d e → looks t ≡ k → nest d (t ∷ []) ≡ Some e
  one_token k d e t plain h = rw (h, plain.flat) refl

  take_took : (k : Class) (d e : ℕ) → Steps k d e → (rest : List Token) (room : ℕ) (a : Token) (j : Input) → first rest ≡ k → take (at bar rest room) ≡ Ok (a, j) → Took bar take (One k) d e rest room a j
  unfolding take
  take_took k d m plain [] room a j h e = absurd (plain.here (sym h))
  take_took k d m plain (t ∷ ts) zero a j h e = absurd cc
  take_took k d m plain (t ∷ ts) (suc room) a j h e =
      let p = ok_pair t a (at bar ts room) j e in
      record {
        used = t ∷ [];
        left = ts;
        spare = room;
        is = sym p.1;
        split = refl;
        spent = omega arith;
        derives = (ap (λ (x : Token). x ∷ []) p.0, ap looks (sym p.0) ∙ h);
        nests = one_token k d m t plain h;
        clean = ((λ q. plain.here (sym h ∙ q)), tt);
        local = λ r same. ap (λ b. gave b (at bar r room)) p.0;
      }

  no_left : (k : Class) (d e : ℕ) (t : Token) → Steps k d e → looks t ≡ k → looks t ≡ class.Mark sign.Left → nest d [] ≡ Some 0 → ⊥
  no_left k d e t plain h a b =
      let z : d ≡ 0 = cc in
      let f = subst (λ c. nest_step c d ≡ Some e) (sym h ∙ a) plain.flat in
      let g : nest_step (class.Mark sign.Left) 0 ≡ Some e = subst (λ n. nest_step (class.Mark sign.Left) n ≡ Some e) z f in
      absurd cc

  take_barred : (r : List Token) → first r ≢ class.End → take (at bar r 0) ≡ Err (record { what = bar; rest = r })
  unfolding take
  take_barred [] h = absurd (h refl)
  take_barred (t ∷ ts) h = refl

  take_halted : (k : Class) (d e : ℕ) → Steps k d e → (rest : List Token) (room : ℕ) (s : Stop) → first rest ≡ k → take (at bar rest room) ≡ Err s → Halted bar take (One k) d rest room s
  unfolding take
  take_halted k d m plain [] room s h e = absurd (plain.here (sym h))
  take_halted k d m plain (t ∷ ts) (suc room) s h e = absurd cc
  take_halted k d m plain (t ∷ ts) zero s h e =
      let is : record { what = bar; rest = t ∷ ts } ≡ s = cc in
      subst (Halted bar take (One k) d (t ∷ ts) 0) is (record {
        used = [];
        split = refl;
        depth = d;
        nests = refl;
        within = omega arith;
        clean = tt;
        local = λ r same. take_barred r (λ q. plain.here (sym h ∙ sym same ∙ q));
        end = inr (record { token = t; more = ts; next = refl; real = λ q. plain.here (sym h ∙ q); can = record { value = t; more = []; derives = (refl, h) }; which = inr (refl, refl, λ a b. no_left k d m t plain h a b) });
      })

  pub take_good : (k : Class) (d e : ℕ) (E : Class → Type 0) → Steps k d e → Good bar (λ c. c ≡ k) d e E (One k) take
  unfolding take
  take_good k d m E plain = record {
    took = take_took k d m plain;
    halted = take_halted k d m plain;
    again = λ a u r room given follows h. elim room as (λ n. Again bar take a u r n) [
      | zero ↦ inr (record { what = bar; rest = a ∷ r }, rw given.0 refl, barred)
      | suc n ↦ inl (n, rw given.0 refl)
    ];
  }

  -- nothing of the grammar begins with this class
  pub refuse_good : {A : Type 0} {d e : ℕ} {E : Class → Type 0} {D : A → List Token → Type 0} (c : Class) → CanEnd D []
      → ((a : A) (u r : List Token) → D a u → first (u ++ r) ≡ c → ⊥) → Good bar (λ k. k ≡ c) d e E D (stop what.Unexpected)
  refuse_good {d = d} {D = D} c sample none = record {
    took = λ rest room a j h x. absurd cc;
    halted = λ rest room s h x.
        let is : record { what = what.Unexpected; rest = rest } ≡ s = cc in
        subst (Halted bar (stop what.Unexpected) D d rest room) is (record { used = []; split = refl; depth = d; nests = refl; within = omega arith; clean = tt; local = λ r same. refl; end = inl (refl, sample) });
    again = λ a u r room given follows h. absurd (none a u r given h);
  }

  same_mark : (s : Sign) (c : Class) → is_mark s c ≡ true → c ≡ class.Mark s
  same_mark s (class.Mark f) h = ap class.Mark (same_true sign_type.the_type (search rules) f s h)
  same_mark s _ h = absurd cc

  mark_same : (s : Sign) (c : Class) → c ≡ class.Mark s → is_mark s c ≡ true
  mark_same s c h = rw h (true_same sign_type.the_type s s refl)

  abbrev marked : Sign → Bool → Parser (Unit {0})
  marked s b = λ i. cond b ((take >> pure tt) i) (stop what.Unexpected i)

  marked_good : (s : Sign) (d e : ℕ) (E : Class → Type 0) → Steps (class.Mark s) d e → (c : Class) (b : Bool) → is_mark s c ≡ b → Good bar (λ k. k ≡ c) d e E (Mark s) (marked s b)
  marked_good s d e E steps c true h =
      convert (take >> pure tt) (in_turn take (λ t. pure tt) (take_good (class.Mark s) d e E steps) (λ t. pure_good tt e E) (λ t. (tt, [], (refl, refl))) (λ t b w r f g. rw f.1 g))
      (λ k q. q ∙ same_mark s c h) (λ k q. q)
      (λ x u y. (y.middle, y.parts ∙ ap (λ (v : List Token). y.front ++ v) y.two.1 ∙ append-nil y.front ∙ y.one.0, y.one.1))
      (λ x u r m q f. record { middle = m.0; front = u; back = []; parts = sym (append-nil u); one = (m.1, m.2); two = (refl, refl) })
  marked_good s d e E steps c false h = refuse_good c (record { value = tt; more = mark_token s ∷ []; derives = (mark_token s, refl, refl) })
      (λ x u r m q. let no : is_mark s c ≡ true = mark_same s c (sym q ∙ (rw m.1 m.2)) in absurd cc)

  pub expect_good : (s : Sign) (d e : ℕ) (E : Class → Type 0) → Steps (class.Mark s) d e → Good bar Any d e E (Mark s) (expect s)
  unfolding expect
  expect_good s d e E steps = by_head (λ c. marked s (is_mark s c)) (λ c. marked_good s d e E steps c (is_mark s c) refl)

  -- a choice, where the token in front is known
  pub at_head : {A : Type 0} {d e : ℕ} {E : Class → Type 0} {D : A → List Token → Type 0} (f : Class → Parser A) (c : Class)
      → Good bar (λ k. k ≡ c) d e E D (f c) → Good bar (λ k. k ≡ c) d e E D (peek >>= f)
  at_head f c g = record {
    took = λ rest room a j h x.
        let t = g.took rest room a j h (ap (λ k. f k (at bar rest room)) (sym h) ∙ x) in
        record {
          used = t.used;
          left = t.left;
          spare = t.spare;
          is = t.is;
          split = t.split;
          spent = t.spent;
          derives = t.derives;
          nests = t.nests;
          clean = t.clean;
          local = λ r same. ap (λ k. f k (at bar (t.used ++ r) room)) (same_first t.used r t.left same ∙ ap first (sym t.split) ∙ h) ∙ t.local r same;
        };
    halted = λ rest room s h x.
        let t = g.halted rest room s h (ap (λ k. f k (at bar rest room)) (sym h) ∙ x) in
        record {
          used = t.used;
          split = t.split;
          depth = t.depth;
          nests = t.nests;
          within = t.within;
          clean = t.clean;
          local = λ r same. ap (λ k. f k (at bar (t.used ++ r) room)) (same_first t.used r s.rest same ∙ ap first (sym t.split) ∙ h) ∙ t.local r same;
          end = t.end;
        };
    again = λ a u r room given follows h.
        let move : f (first (u ++ r)) (at bar (u ++ r) room) ≡ f c (at bar (u ++ r) room) = ap (λ k. f k (at bar (u ++ r) room)) h in
        elim (g.again a u r room given follows h) [
          | inl x ↦ inl (x.0, move ∙ x.1)
          | inr x ↦ inr (x.0, move ∙ x.1, x.2)
        ];
  }

  -- a token, and what is read behind it
  pub lead : {A B : Type 0} {H : Class → Type 0} {d m n : ℕ} {G : Class → Type 0} {K : Token → A → Type 0} {F : A → B → List Token → Type 0} (p : Parser A) (q : A → Parser B)
      → Good bar H d m Any (Single K) p → ((a : A) → Good bar Any m n G (F a) (q a)) → Samples F → Good bar H d n G (Lead K F) (p >>= q)
  lead {K = K} {F = F} p q g k samples =
      convert (p >>= q) (in_turn {F = F} p q g k samples (λ a b w r x e. tt)) (λ c h. h) (λ c h. h)
      (λ b u x. record { token = x.one.0; value = x.middle; rest = x.back; parts = x.parts ∙ ap (λ (v : List Token). v ++ x.back) x.one.1; is = x.one.2; two = x.two })
      (λ b u r x h e. record { middle = x.value; front = x.token ∷ []; back = x.rest; parts = x.parts; one = (x.token, refl, x.is); two = x.two })

  pub image : {A B : Type 0} {H : Class → Type 0} {d m : ℕ} {E : Class → Type 0} {D : A → List Token → Type 0} (p : Parser A) (g : A → B) → Good bar H d m E D p → Good bar H d m E (Image D g) (p >>= λ a. pure (g a))
  image {m = m} {E = E} {D = D} p f g =
      convert (p >>= λ a. pure (f a)) (in_turn {F = λ a. Is (f a)} p (λ a. pure (f a)) g (λ a. pure_good (f a) m E) (λ a. (f a, [], (refl, refl))) (λ a b w r x e. rw x.1 e)) (λ c h. h) (λ c h. h)
      (λ b u x. record { value = x.middle; derives = subst (D x.middle) (sym (x.parts ∙ ap (λ (v : List Token). x.front ++ v) x.two.1 ∙ append-nil x.front)) x.one; gives = x.two.0 })
      (λ b u r x h e. record { middle = x.value; front = u; back = []; parts = sym (append-nil u); one = x.derives; two = (x.gives, refl) })

  pub this_good : (k : Class) (d e : ℕ) → Steps k d e → Good bar (λ c. c ≡ k) d e Any (Single (This k)) take
  this_good k d e steps = convert take (take_good k d e Any steps) (λ c h. h) (λ c h. h) (λ t u x. (t, x.0, (refl, x.1))) (λ t u r x h q. (x.1 ∙ ap (λ (y : Token). y ∷ []) (sym x.2.0), ap looks x.2.0 ∙ x.2.1))

  -- ---- keys

  same_key : (k : Key) (c : Class) → is_key k c ≡ true → c ≡ class.Key k
  same_key k (class.Key f) h = ap class.Key (same_true key_type.the_type (search rules) f k h)
  same_key k _ h = absurd cc

  pub key_same : (k : Key) (c : Class) → c ≡ class.Key k → is_key k c ≡ true
  key_same k c h = rw h (true_same key_type.the_type k k refl)

  marked_key : Key → Bool → Parser (Unit {0})
  marked_key k b = λ i. cond b ((take >> pure tt) i) (stop what.Unexpected i)

  keyed_case : (k : Key) (sample : Token) → looks sample ≡ class.Key k → (d : ℕ) → (c : Class) (b : Bool) → is_key k c ≡ b → Good bar (λ x. x ≡ c) d d Any (Single (IsKey k)) (marked_key k b)
  unfolding marked_key
  keyed_case k sample is d c true h =
      convert (take >> pure tt) (image take (λ t. tt) (this_good (class.Key k) d d (record { here = λ e. absurd cc; flat = refl })))
      (λ x q. q ∙ same_key k c h) (λ x q. q)
      (λ x u y. (y.derives.0, y.derives.1, y.derives.2.1))
      (λ x u r m q f. record { value = m.0; derives = (m.0, m.1, (refl, m.2)); gives = refl })
  keyed_case k sample is d c false h = refuse_good c (record { value = tt; more = sample ∷ []; derives = (sample, refl, is) })
      (λ x u r m q. let no : is_key k c ≡ true = key_same k c (sym q ∙ (rw m.1 m.2)) in absurd cc)

  pub expect_key_good : (k : Key) (sample : Token) → looks sample ≡ class.Key k → (d : ℕ) → Good bar Any d d Any (Single (IsKey k)) (expect_key k)
  unfolding expect_key marked_key
  expect_key_good k sample is d = by_head (λ c. marked_key k (is_key k c)) (λ c. keyed_case k sample is d c (is_key k c) refl)

  -- ---- what begins with a key, or nothing

  chosen : {A : Type 0} → A → Parser A → Bool → Parser A
  chosen none p b = λ i. cond b (p i) (pure none i)

  module _ {A : Type 0} (none : A) (k : Key) {d : ℕ} {E : Class → Type 0} {D : A → List Token → Type 0} (p : Parser A)
      (g : Good bar (λ c. c ≡ class.Key k) d d E D p) (begins : (a : A) (u r : List Token) → D a u → first (u ++ r) ≡ class.Key k) where
    abbrev Behind : Class → Type 0
    Behind c = E c × (c ≢ class.Key k)

    from_present : (c : Class) → c ≡ class.Key k → (a : A) (u r : List Token) → OrNone none D a u → first (u ++ r) ≡ c → Behind (first r) → D a u
    from_present c is a u r absent h e = absurd (e.1 (h ∙ is))
    from_present c is a u r (present x) h e = x

    from_absent : (c : Class) → is_key k c ≡ false → (a : A) (u r : List Token) → OrNone none D a u → first (u ++ r) ≡ c → Is none a u
    from_absent c lacks a u r absent h = (refl, refl)
    from_absent c lacks a u r (present x) h = let yes : is_key k c ≡ true = key_same k c (sym h ∙ begins a u r x) in absurd cc

    chosen_case : (c : Class) (b : Bool) → is_key k c ≡ b → Good bar (λ x. x ≡ c) d d Behind (OrNone none D) (chosen none p b)
    unfolding chosen
    chosen_case c true h = convert p g (λ x q. q ∙ same_key k c h) (λ x q. q.0) (λ a u x. present x) (λ a u r x q e. from_present c (same_key k c h) a u r x q e)
    chosen_case c false h = convert (pure none) (pure_good none d Behind) (λ x q. tt) (λ x q. q) (λ a u x. rw (x.0, x.1) absent) (λ a u r x q e. from_absent c h a u r x q)

    pub or_none_good : Good bar Any d d Behind (OrNone none D) (or_none none k p)
    unfolding or_none chosen
    or_none_good = by_head (λ c. chosen none p (is_key k c)) (λ c. chosen_case c (is_key k c) refl)
