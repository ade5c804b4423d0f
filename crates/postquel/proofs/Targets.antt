-- Targets, ranges and sort keys.
use Rattle.std.proofs.Common.{◌≡◌, ◌≢◌, ◌⊎◌, ℕ, Bool, true, false, List, [], ◌∷◌, ◌++◌, refl, sym, ap, ◌∙◌, inl, inr}
use Rattle.postquel_tokens.specs.declared.fault.What.{What}
use Rattle.postquel_tokens.specs.declared.fault.What.TheVariants as what
use Rattle.postquel_tokens.specs.declared.token.Token.{Token}
use Rattle.postquel_tokens.specs.declared.token.TokenKind.TheVariants as kind
use Rattle.postquel_tokens.specs.declared.token.Sign.TheVariants as sign
use Rattle.postquel_tokens.specs.declared.form.Ident.{Ident}
use Rattle.postquel_tokens.specs.declared.form.RangeForm.{RangeForm}
use Rattle.postquel_tokens.specs.declared.form.KeyForm.{KeyForm}
use Rattle.postquel_tokens.specs.Forms.{Wish, Titled, Every, Column}
use Rattle.postquel.specs.declared.class.Class.{Class}
use Rattle.postquel.specs.declared.class.Class.TheVariants as class
use Rattle.postquel_tokens.specs.declared.name.Key.TheVariants as key
use Rattle.postquel.specs.declared.level.Level.TheVariants as level
use Rattle.postquel.specs.Class.{looks}
use Rattle.postquel_tokens.specs.Names.{key_of}
use Rattle.postquel.specs.Input.{◌>>=◌, pure, peek, take, first, expect_key}
use Rattle.postquel.specs.Grammar.{ident, ident_of}
use Rattle.postquel.specs.Parts.{OrNone, absent, Listed}
use Rattle.postquel.specs.Loop.{listed as listed_rule}
use Rattle.postquel.specs.Script as rule
use Rattle.postquel.specs.Statement as is
use Rattle.postquel.specs.Statement.{IsTarget, IsRange, IsDirection, IsSortKey}
use Rattle.postquel.proofs.Good.{Good}
use Rattle.postquel.proofs.Combine.{Any, convert, by_head, Steps, Single, Lead, Image, This, IsKey, lead_first, lead, image, this_good, refuse_good, mark_token, expect_key_good, or_none_good}
use Rattle.postquel.proofs.Rules.{Ends, zero_form, zero_text, zero_at}
use Rattle.postquel.proofs.Forms.{IsIdent, Names, name_token, name_is, name_given, ident_good}
use Rattle.postquel.proofs.Folds.{ValueTail, value_good}
use Rattle.postquel.proofs.Lists.{listed_good}

abbrev pub spelled : List ℕ → Token
spelled text = record { kind = kind.Name text; spot = record { line = 1; col = 1 } }

-- ---- targets

abbrev ColumnTail : Ident → Wish → List Token → Type 0
ColumnTail v w u = Image (Single (This (class.Key key.All))) (λ t. Every v) w u ⊎ Image Names (λ c. Column v c) w u

abbrev TargetTail : Ident → Wish → List Token → Type 0
TargetTail n w u = Lead (This (class.Mark sign.Equal)) (λ t. ValueTail n) w u ⊎ Lead (This (class.Mark sign.Dot)) (λ t. ColumnTail n) w u

all_first : (v : Ident) (w : Wish) (u r : List Token) → Image (Single (This (class.Key key.All))) (λ t. Every v) w u → first (u ++ r) ≡ class.Key key.All
all_first v w u r x = ap (λ (k : List Token). first (k ++ r)) x.derives.1 ∙ x.derives.2.1

names_first : (v : Ident) (w : Wish) (u r : List Token) → (x : Image Names (λ c. Column v c) w u) → first (u ++ r) ≡ class.Name x.derives.2.0.0
names_first v w u r x = ap (λ (k : List Token). first (k ++ r)) x.derives.1 ∙ x.derives.2.0.1

to_target : (w : Wish) (u : List Token) → Lead IsIdent TargetTail w u → IsTarget w u
to_target w u x = elim x.two [
  | inl y ↦ elim y.two [
    | inl z ↦ rw (x.parts, y.parts, z.gives, x.is.1) (is.titled x.token y.token x.is.0.1 y.is.1 z.derives)
    | inr z ↦
        let l = z.two in
        let f = l.two in
        rw (x.parts, y.parts, z.parts, l.parts, f.parts, f.two.derives.1, f.two.gives, x.is.1, z.is.1) (is.folded x.token y.token z.token l.token f.two.derives.0 x.is.0.1 y.is.1 z.is.0 l.is f.one f.two.derives.2)
  ]
  | inr y ↦ elim y.two [
    | inl z ↦ rw (x.parts, y.parts, z.derives.1, z.gives, x.is.1) (is.every x.token y.token z.derives.0 x.is.0.1 y.is.1 z.derives.2.1)
    | inr z ↦ rw (x.parts, y.parts, z.derives.1, z.gives, x.is.1, z.derives.2.1) (is.column x.token y.token z.derives.0 x.is.0.1 y.is.1 z.derives.2.0.1)
  ]
]

from_target : {w : Wish} {u : List Token} → IsTarget w u → Lead IsIdent TargetTail w u
from_target (is.titled {s} n e {f} {u} p q x) = record {
  token = n;
  value = ident_of n;
  rest = e ∷ u;
  parts = refl;
  is = ((s, p), refl);
  two = inl (record { token = e; value = e; rest = u; parts = refl; is = (refl, q); two = inl (record { value = f; derives = x; gives = refl }) });
}
from_target (is.folded {s} n e g l r {f} {u} p q h k x j) = record {
  token = n;
  value = ident_of n;
  rest = e ∷ g ∷ l ∷ (u ++ r ∷ []);
  parts = refl;
  is = ((s, p), refl);
  two = inl (record {
    token = e;
    value = e;
    rest = g ∷ l ∷ (u ++ r ∷ []);
    parts = refl;
    is = (refl, q);
    two = inr (record {
      token = g;
      value = ident_of g;
      rest = l ∷ (u ++ r ∷ []);
      parts = refl;
      is = (h, refl);
      two = record {
        token = l;
        value = tt;
        rest = u ++ r ∷ [];
        parts = refl;
        is = k;
        two = record { middle = f; front = u; back = r ∷ []; parts = refl; one = x; two = record { value = tt; derives = (r, refl, j); gives = refl } };
      };
    });
  });
}
from_target (is.every {s} v d a p q h) = record {
  token = v;
  value = ident_of v;
  rest = d ∷ a ∷ [];
  parts = refl;
  is = ((s, p), refl);
  two = inr (record { token = d; value = d; rest = a ∷ []; parts = refl; is = (refl, q); two = inl (record { value = a; derives = (a, refl, (refl, h)); gives = refl }) });
}
from_target (is.column {s} {q = z} v d c p q h) = record {
  token = v;
  value = ident_of v;
  rest = d ∷ c ∷ [];
  parts = refl;
  is = ((s, p), refl);
  two = inr (record { token = d; value = d; rest = c ∷ []; parts = refl; is = (refl, q); two = inr (record { value = ident_of c; derives = (c, refl, ((z, h), refl)); gives = refl }) });
}

-- ---- ranges

abbrev RangeTail : Ident → RangeForm → List Token → Type 0
RangeTail v = Lead (IsKey key.In) (λ x. Image Names (λ r. record { var = v; relation = r }))

to_range : (f : RangeForm) (u : List Token) → Lead IsIdent RangeTail f u → IsRange f u
to_range f u x =
    let y = x.two in
    let z = y.two in
    rw (x.parts, y.parts, z.derives.1, z.gives, x.is.1, z.derives.2.1) (is.range x.token y.token z.derives.0 x.is.0.1 y.is z.derives.2.0.1)

from_range : {f : RangeForm} {u : List Token} → IsRange f u → Lead IsIdent RangeTail f u
from_range (is.range {s} {q} v i r p h k) = record {
  token = v;
  value = ident_of v;
  rest = i ∷ r ∷ [];
  parts = refl;
  is = ((s, p), refl);
  two = record { token = i; value = tt; rest = r ∷ []; parts = refl; is = h; two = record { value = ident_of r; derives = (r, refl, ((q, k), refl)); gives = refl } };
}

in_token : Token
in_token = spelled (105 ∷ 110 ∷ [])

in_is : looks in_token ≡ class.Key key.In
unfolding in_token key_of
in_is = refl

-- ---- sort keys

abbrev Aim : Token → Bool → Type 0
Aim t b = ((looks t ≡ class.Mark sign.More) × (b ≡ true)) ⊎ ((looks t ≡ class.Mark sign.Less) × (b ≡ false))

to_direction : (b : Bool) (u : List Token) → Lead (This (class.Key key.Using)) (λ t. Single Aim) b u → IsDirection b u
to_direction b u x =
    let y = x.two in
    elim y.2 [
      | inl z ↦ rw (x.parts, y.1, z.1) (is.down x.token y.0 x.is.1 z.0)
      | inr z ↦ rw (x.parts, y.1, z.1) (is.up x.token y.0 x.is.1 z.0)
    ]

from_direction : {b : Bool} {u : List Token} → IsDirection b u → Lead (This (class.Key key.Using)) (λ t. Single Aim) b u
from_direction (is.up u m p q) = record { token = u; value = u; rest = m ∷ []; parts = refl; is = (refl, p); two = (m, refl, inr (q, refl)) }
from_direction (is.down u m p q) = record { token = u; value = u; rest = m ∷ []; parts = refl; is = (refl, p); two = (m, refl, inl (q, refl)) }

direction_first : (b : Bool) (u r : List Token) → IsDirection b u → first (u ++ r) ≡ class.Key key.Using
direction_first b u r (is.up t m p q) = p
direction_first b u r (is.down t m p q) = p

abbrev SortTail : Ident → KeyForm → List Token → Type 0
SortTail n = Image (OrNone false IsDirection) (λ b. record { target = n; down = b })

to_sort_key : (f : KeyForm) (u : List Token) → Lead IsIdent SortTail f u → IsSortKey f u
to_sort_key f u x = let y = x.two in rw (x.parts, y.gives, x.is.1) (is.sort_key x.token x.is.0.1 y.derives)

from_sort_key : {f : KeyForm} {u : List Token} → IsSortKey f u → Lead IsIdent SortTail f u
from_sort_key (is.sort_key {s} n {b} {u} p x) = record { token = n; value = ident_of n; rest = u; parts = refl; is = ((s, p), refl); two = record { value = b; derives = x; gives = refl } }

-- ---- samples

pub target_sample : (w : Wish) × (u : List Token) × IsTarget w u
target_sample = (Titled (ident_of name_token) zero_form, name_token ∷ mark_token sign.Equal ∷ zero_text, is.titled name_token (mark_token sign.Equal) name_is refl (zero_at level.Or))

pub range_sample : (f : RangeForm) × (u : List Token) × IsRange f u
range_sample = (record { var = ident_of name_token; relation = ident_of name_token }, name_token ∷ in_token ∷ name_token ∷ [], is.range name_token in_token name_token name_is in_is name_is)

pub sort_sample : (f : KeyForm) × (u : List Token) × IsSortKey f u
sort_sample = (record { target = ident_of name_token; down = false }, name_token ∷ [], is.sort_key name_token name_is absent)

-- which class follows a sort key
abbrev pub NoUsing : Class → Type 0
NoUsing c = Any c × (c ≢ class.Key key.Using)

module _ (bar : What) (barred : bar ≢ what.Unexpected) where
  pub plain : (k : Class) (d e : ℕ) → Steps k d e → Good bar (λ c. c ≡ k) d e Any (Single (This k)) take
  plain = this_good bar barred

  columns_case : (v : Ident) (c : Class) → Good bar (λ k. k ≡ c) 31 31 Any (ColumnTail v) (rule.columns_by v c)
  columns_case v (class.Key key.All) = convert bar barred (take >>= λ t. pure (Every v)) (image bar barred take (λ t. Every v) (plain (class.Key key.All) 31 31 (record { here = λ e. absurd cc; flat = refl })))
      (λ k e. e) (λ k e. e) (λ f u x. inl x)
      (λ f u r x e h. elim x [
        | inl y ↦ y
        | inr y ↦ let clash : class.Name y.derives.2.0.0 ≡ class.Key key.All = sym (names_first v f u r y) ∙ e in absurd cc
      ])
  columns_case v c = convert bar barred (ident >>= λ c. pure (Column v c)) (image bar barred ident (λ c. Column v c) (ident_good bar barred 31))
      (λ k e. tt) (λ k e. e) (λ f u x. inr x)
      (λ f u r x e h. elim x [
        | inr y ↦ y
        | inl y ↦ let clash : class.Key key.All ≡ c = sym (all_first v f u r y) ∙ e in absurd cc
      ])

  columns_good : (v : Ident) → Good bar Any 31 31 Any (ColumnTail v) (rule.columns_of v)
  unfolding rule.columns_of
  columns_good v = by_head bar barred (rule.columns_by v) (columns_case v)

  target_case : (n : Ident) (c : Class) → Good bar (λ k. k ≡ c) 31 31 (Ends level.Or) (TargetTail n) (rule.target_by n c)
  target_case n (class.Mark sign.Equal) = convert bar barred (take >>= λ t. rule.value_of n)
      (lead bar barred {F = λ t. ValueTail n} take (λ t. rule.value_of n) (plain (class.Mark sign.Equal) 31 31 (record { here = λ e. absurd cc; flat = refl })) (λ t. value_good bar barred n)
      (λ t. (Titled n zero_form, zero_text, inl (record { value = zero_form; derives = zero_at level.Or; gives = refl }))))
      (λ k e. e) (λ k e. e) (λ f u x. inl x)
      (λ f u r x e h. elim x [
        | inl y ↦ y
        | inr y ↦ let clash : class.Mark sign.Dot ≡ class.Mark sign.Equal = sym (lead_first y r ∙ y.is.1) ∙ e in absurd cc
      ])
  target_case n (class.Mark sign.Dot) = convert bar barred (take >>= λ t. rule.columns_of n)
      (lead bar barred {F = λ t. ColumnTail n} take (λ t. rule.columns_of n) (plain (class.Mark sign.Dot) 31 31 (record { here = λ e. absurd cc; flat = refl })) (λ t. columns_good n)
      (λ t. (Column n (ident_of name_token), name_token ∷ [], inr (record { value = ident_of name_token; derives = name_given; gives = refl }))))
      (λ k e. e) (λ k e. tt) (λ f u x. inr x)
      (λ f u r x e h. elim x [
        | inr y ↦ y
        | inl y ↦ let clash : class.Mark sign.Equal ≡ class.Mark sign.Dot = sym (lead_first y r ∙ y.is.1) ∙ e in absurd cc
      ])
  target_case n c = refuse_good bar barred c (record {
    value = Titled n zero_form;
    more = mark_token sign.Equal ∷ zero_text;
    derives = inl (record { token = mark_token sign.Equal; value = mark_token sign.Equal; rest = zero_text; parts = refl; is = (refl, refl); two = inl (record { value = zero_form; derives = zero_at level.Or; gives = refl }) });
  })
      (λ f u r x e. elim x [
        | inl y ↦ let clash : class.Mark sign.Equal ≡ c = sym (lead_first y r ∙ y.is.1) ∙ e in absurd cc
        | inr y ↦ let clash : class.Mark sign.Dot ≡ c = sym (lead_first y r ∙ y.is.1) ∙ e in absurd cc
      ])

  pub target_good : Good bar Any 31 31 (Ends level.Or) IsTarget rule.target
  unfolding rule.target
  target_good = convert bar barred (ident >>= λ n. peek >>= rule.target_by n)
      (lead bar barred {F = TargetTail} ident (λ n. peek >>= rule.target_by n) (ident_good bar barred 31) (λ n. by_head bar barred (rule.target_by n) (target_case n))
      (λ n. (Titled n zero_form, mark_token sign.Equal ∷ zero_text, inl (record { token = mark_token sign.Equal; value = mark_token sign.Equal; rest = zero_text; parts = refl; is = (refl, refl); two = inl (record { value = zero_form; derives = zero_at level.Or; gives = refl }) }))))
      (λ k e. e) (λ k e. e) to_target (λ f u r x e h. from_target x)

  pub targets_good : Good bar Any 31 31 (λ c. Ends level.Or c × (c ≢ class.Mark sign.Comma)) (Listed IsTarget) (listed_rule rule.target)
  targets_good = listed_good IsTarget bar barred 31 (Ends level.Or) rule.target target_good target_sample refl

  range_good : Good bar Any 32 32 Any IsRange rule.range
  unfolding rule.range
  range_good = convert bar barred (ident >>= λ v. expect_key key.In >>= λ x. ident >>= λ r. pure (record { var = v; relation = r }))
      (lead bar barred {F = RangeTail} ident (λ v. expect_key key.In >>= λ x. ident >>= λ r. pure (record { var = v; relation = r })) (ident_good bar barred 32)
      (λ v. lead bar barred {F = λ x. Image Names (λ r. record { var = v; relation = r })} (expect_key key.In) (λ x. ident >>= λ r. pure (record { var = v; relation = r })) (expect_key_good bar barred key.In in_token in_is 32)
      (λ x. image bar barred ident (λ r. record { var = v; relation = r }) (ident_good bar barred 32))
      (λ x. (record { var = v; relation = ident_of name_token }, name_token ∷ [], record { value = ident_of name_token; derives = name_given; gives = refl })))
      (λ v. (record { var = v; relation = ident_of name_token }, in_token ∷ name_token ∷ [], record { token = in_token; value = tt; rest = name_token ∷ []; parts = refl; is = in_is; two = record { value = ident_of name_token; derives = name_given; gives = refl } })))
      (λ k e. e) (λ k e. e) to_range (λ f u r x e h. from_range x)

  pub ranges_listed : Good bar Any 32 32 (λ c. Any c × (c ≢ class.Mark sign.Comma)) (Listed IsRange) (listed_rule rule.range)
  ranges_listed = listed_good IsRange bar barred 32 Any rule.range range_good range_sample tt

  direction_case : (c : Class) → Good bar (λ k. k ≡ c) 32 32 Any (Single Aim) (rule.direction_by c)
  direction_case (class.Mark sign.More) = convert bar barred (take >>= λ t. pure true) (image bar barred take (λ t. true) (plain (class.Mark sign.More) 32 32 (record { here = λ e. absurd cc; flat = refl })))
      (λ k e. e) (λ k e. e) (λ b u x. (x.derives.0, x.derives.1, inl (x.derives.2.1, x.gives)))
      (λ b u r x e h. elim x.2 [
        | inl y ↦ record { value = x.0; derives = (x.0, x.1, (refl, y.0)); gives = y.1 }
        | inr y ↦ let clash : class.Mark sign.Less ≡ class.Mark sign.More = sym y.0 ∙ ap (λ (v : List Token). first (v ++ r)) (sym x.1) ∙ e in absurd cc
      ])
  direction_case (class.Mark sign.Less) = convert bar barred (take >>= λ t. pure false) (image bar barred take (λ t. false) (plain (class.Mark sign.Less) 32 32 (record { here = λ e. absurd cc; flat = refl })))
      (λ k e. e) (λ k e. e) (λ b u x. (x.derives.0, x.derives.1, inr (x.derives.2.1, x.gives)))
      (λ b u r x e h. elim x.2 [
        | inr y ↦ record { value = x.0; derives = (x.0, x.1, (refl, y.0)); gives = y.1 }
        | inl y ↦ let clash : class.Mark sign.More ≡ class.Mark sign.Less = sym y.0 ∙ ap (λ (v : List Token). first (v ++ r)) (sym x.1) ∙ e in absurd cc
      ])
  direction_case c = refuse_good bar barred c (record { value = true; more = mark_token sign.More ∷ []; derives = (mark_token sign.More, refl, inl (refl, refl)) })
      (λ b u r x e. elim x.2 [
        | inl y ↦ let clash : class.Mark sign.More ≡ c = sym y.0 ∙ ap (λ (v : List Token). first (v ++ r)) (sym x.1) ∙ e in absurd cc
        | inr y ↦ let clash : class.Mark sign.Less ≡ c = sym y.0 ∙ ap (λ (v : List Token). first (v ++ r)) (sym x.1) ∙ e in absurd cc
      ])

  direction_good : Good bar Any 32 32 NoUsing (OrNone false IsDirection) rule.direction
  unfolding rule.direction
  direction_good = or_none_good bar barred false key.Using (take >>= λ t. peek >>= rule.direction_by)
      (convert bar barred (take >>= λ t. peek >>= rule.direction_by)
      (lead bar barred {F = λ t. Single Aim} take (λ t. peek >>= rule.direction_by) (plain (class.Key key.Using) 32 32 (record { here = λ e. absurd cc; flat = refl })) (λ t. by_head bar barred rule.direction_by direction_case)
      (λ t. (true, mark_token sign.More ∷ [], (mark_token sign.More, refl, inl (refl, refl)))))
      (λ k e. e) (λ k e. e) to_direction (λ f u r x e h. from_direction x))
      direction_first

  sort_good : Good bar Any 32 32 NoUsing IsSortKey rule.sort_key
  unfolding rule.sort_key
  sort_good = convert bar barred (ident >>= λ n. rule.direction >>= λ b. pure (record { target = n; down = b }))
      (lead bar barred {F = SortTail} ident (λ n. rule.direction >>= λ b. pure (record { target = n; down = b })) (ident_good bar barred 32)
      (λ n. image bar barred rule.direction (λ b. record { target = n; down = b }) direction_good)
      (λ n. (record { target = n; down = false }, [], record { value = false; derives = absent; gives = refl })))
      (λ k e. e) (λ k e. e) to_sort_key (λ f u r x e h. from_sort_key x)

  pub keys_listed : Good bar Any 32 32 (λ c. NoUsing c × (c ≢ class.Mark sign.Comma)) (Listed IsSortKey) (listed_rule rule.sort_key)
  keys_listed = listed_good IsSortKey bar barred 32 NoUsing rule.sort_key sort_good sort_sample (tt, λ e. absurd cc)
