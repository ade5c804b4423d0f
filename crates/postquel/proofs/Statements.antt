-- Statements and scripts.
use Rattle.std.proofs.Common.{◌≡◌, ◌≢◌, ℕ, ◌<◌, Bool, true, false, List, [], ◌∷◌, ◌++◌, length, Option, Some, None, Ok, refl, sym, ap, subst, ◌∙◌, append_assoc, arith}
use Rattle.std.proofs.lemmas.List.{append-nil}
use Rattle.postquel_tokens.specs.declared.fault.What.{What}
use Rattle.postquel_tokens.specs.declared.fault.What.TheVariants as what
use Rattle.postquel_tokens.specs.declared.token.Token.{Token}
use Rattle.postquel_tokens.specs.declared.token.Sign.TheVariants as sign
use Rattle.postquel_tokens.specs.declared.form.RangeForm.{RangeForm}
use Rattle.postquel_tokens.specs.declared.form.KeyForm.{KeyForm}
use Rattle.postquel_tokens.specs.declared.form.IntoForm.{IntoForm}
use Rattle.postquel_tokens.specs.declared.form.StepForm.{StepForm}
use Rattle.postquel_tokens.specs.Forms.{Wish, Condition, Sentence}
use Rattle.postquel.specs.declared.class.Class.{Class}
use Rattle.postquel.specs.declared.class.Class.TheVariants as class
use Rattle.postquel_tokens.specs.declared.name.Key.{Key}
use Rattle.postquel_tokens.specs.declared.name.Key.TheVariants as key
use Rattle.postquel.specs.declared.class.Soft.TheVariants as soft
use Rattle.postquel.specs.declared.level.Level.TheVariants as level
use Rattle.postquel.specs.Class.{looks, soft_of}
use Rattle.postquel_tokens.specs.Names.{key_of}
use Rattle.postquel.specs.Program.{Program}
use Rattle.postquel.specs.Input.{Input, Parser, ◌>>=◌, pure, take, first, expect, expect_key}
use Rattle.postquel.specs.Grammar.{ident, ident_of, number_of, disjunction, nested}
use Rattle.postquel.specs.Parts.{OrNone, absent, present, Listed, listed, none}
use Rattle.postquel.specs.Loop.{listed as listed_rule, repeat}
use Rattle.postquel.specs.Script as rule
use Rattle.postquel.specs.Script.{next_statement}
use Rattle.postquel.specs.Statement as is
use Rattle.postquel.specs.Statement.{IsTarget, IsRange, IsSortKey, IsUnique, IsKept, AreRanges, IsTest, AreKeys, IsStatement, IsStep, IsMachine, AreStatements, IsScript}
use Rattle.postquel.specs.Syntax.{Derives}
use Rattle.postquel.proofs.Good.{bind_ok, Then, at, Good}
use Rattle.postquel.proofs.Combine.{ok_pair, Any, convert, in_turn, by_head, Steps, Single, Lead, Image, This, IsMark, IsKey, Mark, lead_first, lead, image, this_good, refuse_good, mark_token, expect_good, expect_key_good, or_none_good}
use Rattle.postquel.proofs.Loops.{Turns, done, turn, repeat_good, repeat_end}
use Rattle.postquel.proofs.Rules.{Ends, zero_token, zero_form, zero_text, zero_at}
use Rattle.postquel.proofs.Forms.{Names, name_token, name_given, ident_good, whole_good}
use Rattle.postquel.proofs.Lists.{listed_good}
use Rattle.postquel.proofs.Targets.{spelled, NoUsing, target_sample, range_sample, sort_sample, targets_good, ranges_listed, keys_listed}

-- ---- parts that begin with a key

abbrev UniqueBy : Bool → List Token → Type 0
UniqueBy = Image (Single (This (class.Key key.Unique))) (λ t. true)

abbrev KeptBy : Option IntoForm → List Token → Type 0
KeptBy = Lead (This (class.Key key.Into)) (λ t. Image Names (λ n. Some (record { spot = t.spot; name = n })))

abbrev RangesBy : List RangeForm → List Token → Type 0
RangesBy = Lead (This (class.Key key.From)) (λ t. Listed IsRange)

abbrev TestBy : Option Condition → List Token → Type 0
TestBy = Lead (This (class.Key key.Where)) (λ t. Image (Derives level.Or) (λ f. Some (record { spot = t.spot; phrase = f })))

abbrev KeysBy : List KeyForm → List Token → Type 0
KeysBy = Lead (This (class.Key key.Sort)) (λ t. Lead (IsKey key.By) (λ x. Listed IsSortKey))

abbrev MachineBy : List StepForm → List Token → Type 0
MachineBy = Lead (This (class.Key key.Machine)) (λ t. Then (Listed IsStep) (λ ss. Image (Mark sign.Go) (λ x. ss)))

from_unique : {b : Bool} {u : List Token} → IsUnique b u → UniqueBy b u
from_unique (is.unique t p) = record { value = t; derives = (t, refl, (refl, p)); gives = refl }

from_kept : {o : Option IntoForm} {u : List Token} → IsKept o u → KeptBy o u
from_kept (is.kept {s} t n p q) = record { token = t; value = t; rest = n ∷ []; parts = refl; is = (refl, p); two = record { value = ident_of n; derives = (n, refl, ((s, q), refl)); gives = refl } }

from_ranges : {rs : List RangeForm} {u : List Token} → AreRanges rs u → RangesBy rs u
from_ranges (is.ranges t {rs} {u} p x) = record { token = t; value = t; rest = u; parts = refl; is = (refl, p); two = x }

from_test : {o : Option Condition} {u : List Token} → IsTest o u → TestBy o u
from_test (is.test t {f} {u} p x) = record { token = t; value = t; rest = u; parts = refl; is = (refl, p); two = record { value = f; derives = x; gives = refl } }

from_keys : {ks : List KeyForm} {u : List Token} → AreKeys ks u → KeysBy ks u
from_keys (is.keys t b {ks} {u} p q x) = record { token = t; value = t; rest = b ∷ u; parts = refl; is = (refl, p); two = record { token = b; value = tt; rest = u; parts = refl; is = q; two = x } }

from_machine : {ss : List StepForm} {u : List Token} → IsMachine ss u → MachineBy ss u
from_machine (is.machine t g {ss} {u} p x q) = record { token = t; value = t; rest = u ++ g ∷ []; parts = refl; is = (refl, p); two = record { middle = ss; front = u; back = g ∷ []; parts = refl; one = x; two = record { value = tt; derives = (g, refl, q); gives = refl } } }

unique_first : (b : Bool) (u r : List Token) → IsUnique b u → first (u ++ r) ≡ class.Key key.Unique
unique_first b u r (is.unique t p) = p

kept_first : (o : Option IntoForm) (u r : List Token) → IsKept o u → first (u ++ r) ≡ class.Key key.Into
kept_first o u r (is.kept t n p q) = p

ranges_first : (rs : List RangeForm) (u r : List Token) → AreRanges rs u → first (u ++ r) ≡ class.Key key.From
ranges_first rs u r (is.ranges t p x) = p

test_first : (o : Option Condition) (u r : List Token) → IsTest o u → first (u ++ r) ≡ class.Key key.Where
test_first o u r (is.test t p x) = p

keys_first : (ks : List KeyForm) (u r : List Token) → AreKeys ks u → first (u ++ r) ≡ class.Key key.Sort
keys_first ks u r (is.keys t b p q x) = p

machine_first : (ss : List StepForm) (u r : List Token) → IsMachine ss u → first (u ++ r) ≡ class.Key key.Machine
machine_first ss u r (is.machine t g p x q) = p

-- which class comes first where a part may be left out
or_first_by : {A B : Type 0} {none : A} {D : A → List Token → Type 0} {F : A → B → List Token → Type 0} (P : Class → Type 0) (k : Class) → P k → ((a : A) (u r : List Token) → D a u → first (u ++ r) ≡ k)
    → ((a : A) (b : B) (v r : List Token) → F a b v → P (first (v ++ r))) → (a : A) (b : B) (u v r : List Token) → OrNone none D a u → F a b v → P (first ((u ++ v) ++ r))
or_first_by P k here begins after a b u v r absent y = after a b v r y
or_first_by P k here begins after a b u v r (present x) y = subst P (sym (ap first (append_assoc u v r) ∙ begins a u (v ++ r) x)) here

or_first : {A B : Type 0} {none : A} {D : A → List Token → Type 0} {F : A → B → List Token → Type 0} (P : Class → Type 0) (k : Class) → P k → ((a : A) (u r : List Token) → D a u → first (u ++ r) ≡ k)
    → ((a : A) (b : B) (v r : List Token) → F a b v → P (first (v ++ r))) → (b : B) (w r : List Token) → Then (OrNone none D) F b w → P (first (w ++ r))
or_first P k here begins after b w r x = subst (λ (v : List Token). P (first (v ++ r))) (sym x.parts) (or_first_by P k here begins after x.middle b x.front x.back r x.one x.two)

-- ---- the rule of a statement, part by part

abbrev made : Bool → Option IntoForm → List Wish → List RangeForm → Option Condition → List KeyForm → Sentence
made un k ws rs o ks = record { unique = un; kept = k; wishes = ws; ranges = rs; test = o; keys = ks }

abbrev AfterKeys : Bool → Option IntoForm → List Wish → List RangeForm → Option Condition → List KeyForm → Sentence → List Token → Type 0
AfterKeys un k ws rs o ks = Image (Mark sign.Go) (λ x. made un k ws rs o ks)

abbrev AfterTest : Bool → Option IntoForm → List Wish → List RangeForm → Option Condition → Sentence → List Token → Type 0
AfterTest un k ws rs o = Then (OrNone [] AreKeys) (AfterKeys un k ws rs o)

abbrev AfterRanges : Bool → Option IntoForm → List Wish → List RangeForm → Sentence → List Token → Type 0
AfterRanges un k ws rs = Then (OrNone None IsTest) (AfterTest un k ws rs)

abbrev AfterRight : Bool → Option IntoForm → List Wish → Sentence → List Token → Type 0
AfterRight un k ws = Then (OrNone [] AreRanges) (AfterRanges un k ws)

abbrev AfterTargets : Bool → Option IntoForm → List Wish → Sentence → List Token → Type 0
AfterTargets un k ws = Lead (IsMark sign.Right) (λ x. AfterRight un k ws)

abbrev AfterLeft : Bool → Option IntoForm → Sentence → List Token → Type 0
AfterLeft un k = Then (Listed IsTarget) (AfterTargets un k)

abbrev AfterKept : Bool → Option IntoForm → Sentence → List Token → Type 0
AfterKept un k = Lead (IsMark sign.Left) (λ x. AfterLeft un k)

abbrev AfterUnique : Bool → Sentence → List Token → Type 0
AfterUnique un = Then (OrNone None IsKept) (AfterKept un)

abbrev AfterRetrieve : Sentence → List Token → Type 0
AfterRetrieve = Then (OrNone false IsUnique) AfterUnique

to_statement : (s : Sentence) (u : List Token) → Lead (IsKey key.Retrieve) (λ x. AfterRetrieve) s u → IsStatement s u
to_statement s u x =
    let un = x.two in
    let k = un.two in
    let l = k.two in
    let ws = l.two in
    let r = ws.two in
    let rs = r.two in
    let o = rs.two in
    let ks = o.two in
    let g = ks.two in
    rw (x.parts, un.parts, k.parts, l.parts, ws.parts, r.parts, rs.parts, o.parts, ks.parts, g.derives.1, g.gives)
    (is.retrieve x.token l.token r.token g.derives.0 x.is un.one k.one l.is ws.one r.is rs.one o.one ks.one g.derives.2)

from_statement : {s : Sentence} {u : List Token} → IsStatement s u → Lead (IsKey key.Retrieve) (λ x. AfterRetrieve) s u
from_statement (is.retrieve t l r g {un} {k} {ws} {rs} {o} {ks} {a} {b} {c} {d} {e} {f} pt pa pb pl pc pr pd pe pf pg) =
    record {
      token = t;
      value = tt;
      rest = a ++ (b ++ l ∷ (c ++ r ∷ (d ++ (e ++ (f ++ g ∷ [])))));
      parts = refl;
      is = pt;
      two = record {
        middle = un;
        front = a;
        back = b ++ l ∷ (c ++ r ∷ (d ++ (e ++ (f ++ g ∷ []))));
        parts = refl;
        one = pa;
        two = record {
          middle = k;
          front = b;
          back = l ∷ (c ++ r ∷ (d ++ (e ++ (f ++ g ∷ []))));
          parts = refl;
          one = pb;
          two = record {
            token = l;
            value = tt;
            rest = c ++ r ∷ (d ++ (e ++ (f ++ g ∷ [])));
            parts = refl;
            is = pl;
            two = record {
              middle = ws;
              front = c;
              back = r ∷ (d ++ (e ++ (f ++ g ∷ [])));
              parts = refl;
              one = pc;
              two = record {
                token = r;
                value = tt;
                rest = d ++ (e ++ (f ++ g ∷ []));
                parts = refl;
                is = pr;
                two = record {
                  middle = rs;
                  front = d;
                  back = e ++ (f ++ g ∷ []);
                  parts = refl;
                  one = pd;
                  two = record {
                    middle = o;
                    front = e;
                    back = f ++ g ∷ [];
                    parts = refl;
                    one = pe;
                    two = record {
                      middle = ks;
                      front = f;
                      back = g ∷ [];
                      parts = refl;
                      one = pf;
                      two = record { value = tt; derives = (g, refl, pg); gives = refl };
                    };
                  };
                };
              };
            };
          };
        };
      };
    }

-- ---- samples of what comes last

go_sample : (un : Bool) (k : Option IntoForm) (ws : List Wish) (rs : List RangeForm) (o : Option Condition) (ks : List KeyForm) → AfterKeys un k ws rs o ks (made un k ws rs o ks) (mark_token sign.Go ∷ [])
go_sample un k ws rs o ks = record { value = tt; derives = (mark_token sign.Go, refl, refl); gives = refl }

test_sample : (un : Bool) (k : Option IntoForm) (ws : List Wish) (rs : List RangeForm) (o : Option Condition) → AfterTest un k ws rs o (made un k ws rs o []) (mark_token sign.Go ∷ [])
test_sample un k ws rs o = record { middle = []; front = []; back = mark_token sign.Go ∷ []; parts = refl; one = absent; two = go_sample un k ws rs o [] }

ranges_sample : (un : Bool) (k : Option IntoForm) (ws : List Wish) (rs : List RangeForm) → AfterRanges un k ws rs (made un k ws rs None []) (mark_token sign.Go ∷ [])
ranges_sample un k ws rs = record { middle = None; front = []; back = mark_token sign.Go ∷ []; parts = refl; one = absent; two = test_sample un k ws rs None }

right_sample : (un : Bool) (k : Option IntoForm) (ws : List Wish) → AfterRight un k ws (made un k ws [] None []) (mark_token sign.Go ∷ [])
right_sample un k ws = record { middle = []; front = []; back = mark_token sign.Go ∷ []; parts = refl; one = absent; two = ranges_sample un k ws [] }

targets_sample : (un : Bool) (k : Option IntoForm) (ws : List Wish) → AfterTargets un k ws (made un k ws [] None []) (mark_token sign.Right ∷ mark_token sign.Go ∷ [])
targets_sample un k ws = record { token = mark_token sign.Right; value = tt; rest = mark_token sign.Go ∷ []; parts = refl; is = refl; two = right_sample un k ws }

left_sample : (un : Bool) (k : Option IntoForm) → (s : Sentence) × (w : List Token) × AfterLeft un k s w
left_sample un k =
    let t = target_sample in
    let ws : List Wish = t.0 ∷ [] in (
      made un k ws [] None [],
      (t.1 ++ []) ++ mark_token sign.Right ∷ mark_token sign.Go ∷ [],
      record { middle = ws; front = t.1 ++ []; back = mark_token sign.Right ∷ mark_token sign.Go ∷ []; parts = refl; one = listed t.2 none; two = targets_sample un k ws },
    )

kept_sample : (un : Bool) (k : Option IntoForm) → (s : Sentence) × (w : List Token) × AfterKept un k s w
kept_sample un k = let t = left_sample un k in (t.0, mark_token sign.Left ∷ t.1, record { token = mark_token sign.Left; value = tt; rest = t.1; parts = refl; is = refl; two = t.2 })

unique_sample : (un : Bool) → (s : Sentence) × (w : List Token) × AfterUnique un s w
unique_sample un = let t = kept_sample un None in (t.0, t.1, record { middle = None; front = []; back = t.1; parts = refl; one = absent; two = t.2 })

retrieve_sample : (s : Sentence) × (w : List Token) × AfterRetrieve s w
retrieve_sample = let t = unique_sample false in (t.0, t.1, record { middle = false; front = []; back = t.1; parts = refl; one = absent; two = t.2 })

by_token : Token
by_token = spelled (98 ∷ 121 ∷ [])

by_is : looks by_token ≡ class.Key key.By
unfolding by_token key_of
by_is = refl

retrieve_token : Token
retrieve_token = spelled (114 ∷ 101 ∷ 116 ∷ 114 ∷ 105 ∷ 101 ∷ 118 ∷ 101 ∷ [])

retrieve_is : looks retrieve_token ≡ class.Key key.Retrieve
unfolding retrieve_token key_of
retrieve_is = refl

after_token : Token
after_token = spelled (97 ∷ 102 ∷ 116 ∷ 101 ∷ 114 ∷ [])

after_is : looks after_token ≡ class.Name soft.After
unfolding after_token key_of soft_of
after_is = refl

go_first : {B : Type 0} (g : Unit {0} → B) (b : B) (v r : List Token) → Image (Mark sign.Go) g b v → first (v ++ r) ≡ class.Mark sign.Go
go_first g b v r x = ap (λ (k : List Token). first (k ++ r)) x.derives.1 ∙ x.derives.2

module _ (bar : What) (barred : bar ≢ what.Unexpected) where
  plain : (k : Class) (d e : ℕ) → Steps k d e → Good bar (λ c. c ≡ k) d e Any (Single (This k)) take
  plain = this_good bar barred

  key_steps : (k : Key) → Steps (class.Key k) 32 32
  key_steps k = record { here = λ e. absurd cc; flat = refl }

  unique_good : Good bar Any 32 32 (λ c. Any c × (c ≢ class.Key key.Unique)) (OrNone false IsUnique) rule.unique
  unfolding rule.unique
  unique_good = or_none_good bar barred false key.Unique (take >>= λ t. pure true)
      (convert bar barred (take >>= λ t. pure true) (image bar barred take (λ t. true) (plain (class.Key key.Unique) 32 32 (key_steps key.Unique))) (λ k e. e) (λ k e. e)
      (λ b u x. rw (x.derives.1, x.gives) (is.unique x.derives.0 x.derives.2.1)) (λ b u r x e h. from_unique x))
      unique_first

  kept_good : Good bar Any 32 32 (λ c. Any c × (c ≢ class.Key key.Into)) (OrNone None IsKept) rule.kept
  unfolding rule.kept
  kept_good =
      let p : Parser (Option IntoForm) = take >>= λ t. ident >>= λ name. pure (Some (record { spot = t.spot; name = name })) in
      or_none_good bar barred None key.Into p
      (convert bar barred p (lead bar barred {F = λ t. Image Names (λ n. Some (record { spot = t.spot; name = n }))} take (λ t. ident >>= λ name. pure (Some (record { spot = t.spot; name = name }))) (plain (class.Key key.Into) 32 32 (key_steps key.Into))
      (λ t. image bar barred ident (λ n. Some (record { spot = t.spot; name = n })) (ident_good bar barred 32))
      (λ t. (Some (record { spot = t.spot; name = ident_of name_token }), name_token ∷ [], record { value = ident_of name_token; derives = name_given; gives = refl })))
      (λ k e. e) (λ k e. e)
      (λ o u x. let y = x.two in rw (x.parts, y.derives.1, y.gives, x.is.0, y.derives.2.1) (is.kept x.token y.derives.0 x.is.1 y.derives.2.0.1)) (λ o u r x e h. from_kept x))
      kept_first

  ranges_good : Good bar Any 32 32 (λ c. (Any c × (c ≢ class.Mark sign.Comma)) × (c ≢ class.Key key.From)) (OrNone [] AreRanges) rule.ranges
  unfolding rule.ranges
  ranges_good = or_none_good bar barred [] key.From (take >>= λ t. listed_rule rule.range)
      (convert bar barred (take >>= λ t. listed_rule rule.range) (lead bar barred {F = λ t. Listed IsRange} take (λ t. listed_rule rule.range) (plain (class.Key key.From) 32 32 (key_steps key.From)) (λ t. ranges_listed bar barred)
      (λ t. let s = range_sample in (s.0 ∷ [], s.1 ++ [], listed s.2 none)))
      (λ k e. e) (λ k e. e) (λ rs u x. rw x.parts (is.ranges x.token x.is.1 x.two)) (λ rs u r x e h. from_ranges x))
      ranges_first

  test_good : Good bar Any 32 32 (λ c. Ends level.Or c × (c ≢ class.Key key.Where)) (OrNone None IsTest) rule.test
  unfolding rule.test
  test_good =
      let p : Parser (Option Condition) = take >>= λ t. disjunction (nested 32) >>= λ f. pure (Some (record { spot = t.spot; phrase = f })) in
      or_none_good bar barred None key.Where p
      (convert bar barred p (lead bar barred {F = λ t. Image (Derives level.Or) (λ f. Some (record { spot = t.spot; phrase = f }))} take (λ t. disjunction (nested 32) >>= λ f. pure (Some (record { spot = t.spot; phrase = f }))) (plain (class.Key key.Where) 32 32 (key_steps key.Where))
      (λ t. image bar barred (disjunction (nested 32)) (λ f. Some (record { spot = t.spot; phrase = f })) (whole_good bar barred 32))
      (λ t. (Some (record { spot = t.spot; phrase = zero_form }), zero_text, record { value = zero_form; derives = zero_at level.Or; gives = refl })))
      (λ k e. e) (λ k e. e)
      (λ o u x. let y = x.two in rw (x.parts, y.gives, x.is.0) (is.test x.token x.is.1 y.derives)) (λ o u r x e h. from_test x))
      test_first

  keys_good : Good bar Any 32 32 (λ c. (NoUsing c × (c ≢ class.Mark sign.Comma)) × (c ≢ class.Key key.Sort)) (OrNone [] AreKeys) rule.keys
  unfolding rule.keys
  keys_good =
      let p : Parser (List KeyForm) = take >>= λ t. expect_key key.By >>= λ x. listed_rule rule.sort_key in
      or_none_good bar barred [] key.Sort p
      (convert bar barred p (lead bar barred {F = λ t. Lead (IsKey key.By) (λ x. Listed IsSortKey)} take (λ t. expect_key key.By >>= λ x. listed_rule rule.sort_key) (plain (class.Key key.Sort) 32 32 (key_steps key.Sort))
      (λ t. lead bar barred {F = λ x. Listed IsSortKey} (expect_key key.By) (λ x. listed_rule rule.sort_key) (expect_key_good bar barred key.By by_token by_is 32) (λ x. keys_listed bar barred)
      (λ x. let s = sort_sample in (s.0 ∷ [], s.1 ++ [], listed s.2 none)))
      (λ t. let s = sort_sample in (s.0 ∷ [], by_token ∷ (s.1 ++ []), record { token = by_token; value = tt; rest = s.1 ++ []; parts = refl; is = by_is; two = listed s.2 none })))
      (λ k e. e) (λ k e. e) (λ ks u x. let y = x.two in rw (x.parts, y.parts) (is.keys x.token y.token x.is.1 y.is y.two)) (λ ks u r x e h. from_keys x))
      keys_first

  -- ---- statements

  module _ (un : Bool) (k : Option IntoForm) (ws : List Wish) where
    after_keys_good : (rs : List RangeForm) (o : Option Condition) (ks : List KeyForm) → Good bar Any 32 32 Any (AfterKeys un k ws rs o ks) (expect sign.Go >>= λ x. pure (made un k ws rs o ks))
    after_keys_good rs o ks = image bar barred (expect sign.Go) (λ x. made un k ws rs o ks) (expect_good bar barred sign.Go 32 32 Any (record { here = λ e. absurd cc; flat = refl }))

    after_test_good : (rs : List RangeForm) (o : Option Condition) → Good bar Any 32 32 Any (AfterTest un k ws rs o) (rule.keys >>= λ ks. expect sign.Go >>= λ x. pure (made un k ws rs o ks))
    after_test_good rs o = in_turn bar barred {F = AfterKeys un k ws rs o} rule.keys (λ ks. expect sign.Go >>= λ x. pure (made un k ws rs o ks)) keys_good (after_keys_good rs o) (λ ks. (made un k ws rs o ks, mark_token sign.Go ∷ [], go_sample un k ws rs o ks))
        (λ ks b w r x e. subst (λ c. (NoUsing c × (c ≢ class.Mark sign.Comma)) × (c ≢ class.Key key.Sort)) (sym (go_first (λ x. made un k ws rs o ks) b w r x)) (((tt, λ q. absurd cc), λ q. absurd cc), λ q. absurd cc))

    abbrev Tested : Class → Type 0
    Tested c = Ends level.Or c × (c ≢ class.Key key.Where)

    after_ranges_good : (rs : List RangeForm) → Good bar Any 32 32 Any (AfterRanges un k ws rs) (rule.test >>= λ o. rule.keys >>= λ ks. expect sign.Go >>= λ x. pure (made un k ws rs o ks))
    after_ranges_good rs = in_turn bar barred {F = AfterTest un k ws rs} rule.test (λ o. rule.keys >>= λ ks. expect sign.Go >>= λ x. pure (made un k ws rs o ks)) test_good (after_test_good rs) (λ o. (made un k ws rs o [], mark_token sign.Go ∷ [], test_sample un k ws rs o))
        (λ o b w r x e. or_first Tested (class.Key key.Sort) (refl, λ q. absurd cc) keys_first (λ ks b v r y. subst Tested (sym (go_first (λ x. made un k ws rs o ks) b v r y)) (refl, λ q. absurd cc)) b w r x)

    abbrev Ranged : Class → Type 0
    Ranged c = (Any c × (c ≢ class.Mark sign.Comma)) × (c ≢ class.Key key.From)

    after_right_good : Good bar Any 32 32 Any (AfterRight un k ws) (rule.ranges >>= λ rs. rule.test >>= λ o. rule.keys >>= λ ks. expect sign.Go >>= λ x. pure (made un k ws rs o ks))
    after_right_good = in_turn bar barred {F = AfterRanges un k ws} rule.ranges (λ rs. rule.test >>= λ o. rule.keys >>= λ ks. expect sign.Go >>= λ x. pure (made un k ws rs o ks)) ranges_good after_ranges_good (λ rs. (made un k ws rs None [], mark_token sign.Go ∷ [], ranges_sample un k ws rs))
        (λ rs b w r x e. or_first Ranged (class.Key key.Where) ((tt, λ q. absurd cc), λ q. absurd cc) test_first
        (λ o b v r y. or_first Ranged (class.Key key.Sort) ((tt, λ q. absurd cc), λ q. absurd cc) keys_first (λ ks b v r z. subst Ranged (sym (go_first (λ x. made un k ws rs o ks) b v r z)) ((tt, λ q. absurd cc), λ q. absurd cc)) b v r y) b w r x)

    closing_good : Good bar Any 31 32 Any (AfterTargets un k ws) (rule.closing un k ws)
    unfolding rule.closing
    closing_good = lead bar barred {F = λ x. AfterRight un k ws} (expect sign.Right) (λ x. rule.ranges >>= λ rs. rule.test >>= λ o. rule.keys >>= λ ks. expect sign.Go >>= λ x. pure (made un k ws rs o ks))
        (expect_good bar barred sign.Right 31 32 Any (record { here = λ e. absurd cc; flat = refl })) (λ x. after_right_good) (λ x. (made un k ws [] None [], mark_token sign.Go ∷ [], right_sample un k ws))

  abbrev Closes : Class → Type 0
  Closes c = Ends level.Or c × (c ≢ class.Mark sign.Comma)

  after_left_good : (un : Bool) (k : Option IntoForm) → Good bar Any 31 32 Any (AfterLeft un k) (listed_rule rule.target >>= rule.closing un k)
  after_left_good un k = in_turn bar barred {F = AfterTargets un k} (listed_rule rule.target) (rule.closing un k) (targets_good bar barred) (closing_good un k) (λ ws. (made un k ws [] None [], mark_token sign.Right ∷ mark_token sign.Go ∷ [], targets_sample un k ws))
      (λ ws b w r x e. subst Closes (sym (lead_first x r ∙ x.is)) (refl, λ q. absurd cc))

  after_kept_good : (un : Bool) (k : Option IntoForm) → Good bar Any 32 32 Any (AfterKept un k) (expect sign.Left >>= λ x. listed_rule rule.target >>= rule.closing un k)
  after_kept_good un k = lead bar barred {F = λ x. AfterLeft un k} (expect sign.Left) (λ x. listed_rule rule.target >>= rule.closing un k) (expect_good bar barred sign.Left 32 31 Any (record { here = λ e. absurd cc; flat = refl })) (λ x. after_left_good un k) (λ x. left_sample un k)

  after_unique_good : (un : Bool) → Good bar Any 32 32 Any (AfterUnique un) (rule.kept >>= λ k. expect sign.Left >>= λ x. listed_rule rule.target >>= rule.closing un k)
  after_unique_good un = in_turn bar barred {F = AfterKept un} rule.kept (λ k. expect sign.Left >>= λ x. listed_rule rule.target >>= rule.closing un k) kept_good (after_kept_good un) (kept_sample un)
      (λ k b w r x e. subst (λ c. Any c × (c ≢ class.Key key.Into)) (sym (lead_first x r ∙ x.is)) (tt, λ q. absurd cc))

  abbrev NoUnique : Class → Type 0
  NoUnique c = Any c × (c ≢ class.Key key.Unique)

  after_retrieve_good : Good bar Any 32 32 Any AfterRetrieve (rule.unique >>= λ un. rule.kept >>= λ k. expect sign.Left >>= λ x. listed_rule rule.target >>= rule.closing un k)
  after_retrieve_good = in_turn bar barred {F = AfterUnique} rule.unique (λ un. rule.kept >>= λ k. expect sign.Left >>= λ x. listed_rule rule.target >>= rule.closing un k) unique_good after_unique_good unique_sample
      (λ un b w r x e. or_first NoUnique (class.Key key.Into) (tt, λ q. absurd cc) kept_first (λ k b v r y. subst NoUnique (sym (lead_first y r ∙ y.is)) (tt, λ q. absurd cc)) b w r x)

  statement_good : Good bar Any 32 32 Any IsStatement rule.statement
  unfolding rule.statement
  statement_good =
      let p : Parser Sentence = expect_key key.Retrieve >>= λ x. rule.unique >>= λ un. rule.kept >>= λ k. expect sign.Left >>= λ x. listed_rule rule.target >>= rule.closing un k in
      convert bar barred p
      (lead bar barred {F = λ x. AfterRetrieve} (expect_key key.Retrieve) (λ x. rule.unique >>= λ un. rule.kept >>= λ k. expect sign.Left >>= λ x. listed_rule rule.target >>= rule.closing un k)
      (expect_key_good bar barred key.Retrieve retrieve_token retrieve_is 32) (λ x. after_retrieve_good) (λ x. retrieve_sample))
      (λ k e. e) (λ k e. e) to_statement (λ s u r x e h. from_statement x)

  statement_first : (s : Sentence) (u r : List Token) → IsStatement s u → first (u ++ r) ≡ class.Key key.Retrieve
  statement_first s u r x = let y = from_statement x in lead_first y r ∙ y.is

  -- ---- the list of statements

  abbrev NextStatement : List Sentence → List Sentence → List Token → Type 0
  NextStatement found = Image IsStatement (λ x. found ++ x ∷ [])

  abbrev AtEnd : Class → Type 0
  AtEnd c = c ≡ class.End

  one_statement : List Sentence → Parser (List Sentence)
  one_statement found = rule.statement >>= λ s. pure (found ++ s ∷ [])

  one_good : (found : List Sentence) → Good bar Any 32 32 Any (NextStatement found) (one_statement found)
  unfolding one_statement
  one_good found = image bar barred rule.statement (λ s. found ++ s ∷ []) statement_good

  goes_to : (found : List Sentence) (c : Class) → c ≢ class.End → next_statement found c ≡ Some (one_statement found)
  unfolding one_statement
  goes_to found class.End h = absurd (h refl)
  goes_to found _ h = refl

  turn_good : (found : List Sentence) (c : Class) (p : Parser (List Sentence)) → next_statement found c ≡ Some p → Good bar (λ k. k ≡ c) 32 32 Any (NextStatement found) p
  turn_good found class.End p h = absurd cc
  turn_good found c p h =
      let go = goes_to found c (λ e. absurd cc) in
      let is : one_statement found ≡ p = cc in
      subst (Good bar (λ k. k ≡ c) 32 32 Any (NextStatement found)) is (convert bar barred (one_statement found) (one_good found) (λ k e. tt) (λ k e. tt) (λ a u x. x) (λ a u r x e f. x))

  begins : (s m : List Sentence) (w r : List Token) → NextStatement s m w → (p : Parser (List Sentence)) × (next_statement s (first (w ++ r)) ≡ Some p)
  begins s m w r x =
      let head = statement_first x.value w r x.derives in
      (one_statement s, goes_to s (first (w ++ r)) (λ e. let clash : class.Key key.Retrieve ≡ class.End = sym head ∙ e in absurd cc))

  moves : (s m : List Sentence) (w : List Token) → NextStatement s m w → 0 < length w
  moves s m w x = let y = from_statement x.derives in omega (arith, ap length y.parts)

  stops : (s : List Sentence) (c : Class) → AtEnd c → next_statement s c ≡ None
  stops s c e = subst (λ k. next_statement s k ≡ None) (sym e) refl

  record Said (s f : List Sentence) (w : List Token) : Type 0 where
    news : List Sentence
    is : f ≡ s ++ news
    by : AreStatements news w

  to_said : {s f : List Sentence} {w : List Token} → Turns NextStatement s f w → Said s f w
  to_said (done s) = record { news = []; is = sym (append-nil s); by = is.empty }
  to_said (turn {s} {m} {f} {w} {v} x y) =
      let rest = to_said y in
      record { news = x.value ∷ rest.news; is = rest.is ∙ ap (λ (a : List Sentence). a ++ rest.news) x.gives ∙ append_assoc s (x.value ∷ []) rest.news; by = is.next x.derives rest.by }

  from_said : {ss : List Sentence} {w : List Token} → AreStatements ss w → (s : List Sentence) → Turns NextStatement s (s ++ ss) w
  from_said is.empty s = subst (λ (f : List Sentence). Turns NextStatement s f []) (sym (append-nil s)) (done s)
  from_said (is.next {s = t} {ss = ts} {u = u} {w = w} x y) s =
      let one : NextStatement s (s ++ t ∷ []) u = record { value = t; derives = x; gives = refl } in
      subst (λ (f : List Sentence). Turns NextStatement s f (u ++ w)) (append_assoc s (t ∷ []) ts) (turn one (from_said y (s ++ t ∷ [])))

  statements_good : Good bar Any 32 32 AtEnd AreStatements rule.statements
  unfolding rule.statements
  statements_good = convert bar barred (repeat next_statement [])
      (repeat_good bar barred 32 next_statement NextStatement AtEnd Any turn_good begins moves stops (λ s. refl) (λ c e. tt) (λ s c p h. tt) [])
      (λ k e. e) (λ k e. e) (λ ss u x. let y = to_said x in subst (λ (f : List Sentence). AreStatements f u) (sym y.is) y.by) (λ ss u r x e h. from_said x [])

  end_case : (s : List Sentence) (c : Class) → next_statement s c ≡ None → c ≡ class.End
  end_case s class.End h = refl
  end_case s _ h = absurd cc

  statements_end : (rest : List Token) (room : ℕ) (s : List Sentence) (j : Input) → rule.statements (at bar rest room) ≡ Ok (s, j) → first j.rest ≡ class.End
  unfolding rule.statements
  statements_end rest room s j h = end_case s (first j.rest) (repeat_end bar barred 32 next_statement NextStatement AtEnd Any turn_good begins moves stops (λ s. refl) (λ c e. tt) (λ s c p h. tt) [] rest room s j h)

  -- ---- the machine line

  number_case : (c : Class) → Good bar (λ k. k ≡ c) 32 32 Any (Single (This class.Number)) (rule.number_by c)
  number_case class.Number = plain class.Number 32 32 (record { here = λ e. absurd cc; flat = refl })
  number_case c = refuse_good bar barred c (record { value = zero_token; more = zero_token ∷ []; derives = (zero_token, refl, (refl, refl)) })
      (λ t u r x e. let clash : class.Number ≡ c = sym x.2.1 ∙ ap (λ (v : List Token). first (v ++ r)) (sym x.1) ∙ e in absurd cc)

  number_good : Good bar Any 32 32 Any (Single (This class.Number)) rule.number
  unfolding rule.number
  number_good = by_head bar barred rule.number_by number_case

  abbrev IsAfter : Token → Unit {0} → Type 0
  IsAfter t x = looks t ≡ class.Name soft.After

  after_case : (c : Class) → Good bar (λ k. k ≡ c) 32 32 Any (Single IsAfter) (rule.after_by c)
  after_case (class.Name soft.After) = convert bar barred (take >>= λ t. pure tt) (image bar barred take (λ t. tt) (plain (class.Name soft.After) 32 32 (record { here = λ e. absurd cc; flat = refl })))
      (λ k e. e) (λ k e. e) (λ t u x. (x.derives.0, x.derives.1, x.derives.2.1)) (λ t u r x e h. record { value = x.0; derives = (x.0, x.1, (refl, x.2)); gives = refl })
  after_case c = refuse_good bar barred c (record { value = tt; more = after_token ∷ []; derives = (after_token, refl, after_is) })
      (λ t u r x e. let clash : class.Name soft.After ≡ c = sym x.2 ∙ ap (λ (v : List Token). first (v ++ r)) (sym x.1) ∙ e in absurd cc)

  after_good : Good bar Any 32 32 Any (Single IsAfter) rule.after_word
  unfolding rule.after_word
  after_good = by_head bar barred rule.after_by after_case

  abbrev stepped : Token → Token → StepForm
  stepped n k = record { backends = number_of n.kind; backends_spot = n.spot; after = number_of k.kind; after_spot = k.spot }

  abbrev StepTail : Token → StepForm → List Token → Type 0
  StepTail n = Lead IsAfter (λ x. Image (Single (This class.Number)) (stepped n))

  last_sample : (n : Token) → Image (Single (This class.Number)) (stepped n) (stepped n zero_token) (zero_token ∷ [])
  last_sample n = record { value = zero_token; derives = (zero_token, refl, (refl, refl)); gives = refl }

  from_step : {s : StepForm} {u : List Token} → IsStep s u → Lead (This class.Number) StepTail s u
  from_step (is.step n a k p q h) = record { token = n; value = n; rest = a ∷ k ∷ []; parts = refl; is = (refl, p); two = record { token = a; value = tt; rest = k ∷ []; parts = refl; is = q; two = record { value = k; derives = (k, refl, (refl, h)); gives = refl } } }

  to_step : (s : StepForm) (u : List Token) → Lead (This class.Number) StepTail s u → IsStep s u
  to_step s u x =
      let y = x.two in
      let z = y.two in
      rw (x.parts, y.parts, z.derives.1, z.gives, x.is.0, z.derives.2.0) (is.step x.token y.token z.derives.0 x.is.1 y.is z.derives.2.1)

  step_good : Good bar Any 32 32 Any IsStep rule.step
  unfolding rule.step
  step_good = convert bar barred (rule.number >>= λ n. rule.after_word >>= λ x. rule.number >>= λ k. pure (stepped n k))
      (lead bar barred {F = StepTail} rule.number (λ n. rule.after_word >>= λ x. rule.number >>= λ k. pure (stepped n k)) number_good
      (λ n. lead bar barred {F = λ x. Image (Single (This class.Number)) (stepped n)} rule.after_word (λ x. rule.number >>= λ k. pure (stepped n k)) after_good (λ x. image bar barred rule.number (stepped n) number_good) (λ x. (stepped n zero_token, zero_token ∷ [], last_sample n)))
      (λ n. (stepped n zero_token, after_token ∷ zero_token ∷ [], record { token = after_token; value = tt; rest = zero_token ∷ []; parts = refl; is = after_is; two = last_sample n })))
      (λ k e. e) (λ k e. e) to_step (λ s u r x e h. from_step x)

  step_sample : (s : StepForm) × (u : List Token) × IsStep s u
  step_sample = (stepped zero_token zero_token, zero_token ∷ after_token ∷ zero_token ∷ [], is.step zero_token after_token zero_token refl after_is refl)

  steps_good : Good bar Any 32 32 (λ c. Any c × (c ≢ class.Mark sign.Comma)) (Listed IsStep) (listed_rule rule.step)
  steps_good = listed_good IsStep bar barred 32 Any rule.step step_good step_sample tt

  abbrev Machined : Class → Type 0
  Machined c = Any c × (c ≢ class.Key key.Machine)

  machine_good : Good bar Any 32 32 Machined (OrNone [] IsMachine) rule.machine
  unfolding rule.machine
  machine_good =
      let p : Parser (List StepForm) = take >>= λ t. listed_rule rule.step >>= λ ss. expect sign.Go >>= λ x. pure ss in
      or_none_good bar barred [] key.Machine p
      (convert bar barred p (lead bar barred {F = λ t. Then (Listed IsStep) (λ ss. Image (Mark sign.Go) (λ x. ss))} take (λ t. listed_rule rule.step >>= λ ss. expect sign.Go >>= λ x. pure ss) (plain (class.Key key.Machine) 32 32 (key_steps key.Machine))
      (λ t. in_turn bar barred {F = λ ss. Image (Mark sign.Go) (λ x. ss)} (listed_rule rule.step) (λ ss. expect sign.Go >>= λ x. pure ss) steps_good
      (λ ss. image bar barred (expect sign.Go) (λ x. ss) (expect_good bar barred sign.Go 32 32 Any (record { here = λ e. absurd cc; flat = refl })))
      (λ ss. (ss, mark_token sign.Go ∷ [], record { value = tt; derives = (mark_token sign.Go, refl, refl); gives = refl }))
      (λ ss b w r x e. subst (λ c. Any c × (c ≢ class.Mark sign.Comma)) (sym (go_first (λ x. ss) b w r x)) (tt, λ q. absurd cc)))
      (λ t. let s = step_sample in (s.0 ∷ [], (s.1 ++ []) ++ mark_token sign.Go ∷ [], record { middle = s.0 ∷ []; front = s.1 ++ []; back = mark_token sign.Go ∷ []; parts = refl; one = listed s.2 none; two = record { value = tt; derives = (mark_token sign.Go, refl, refl); gives = refl } })))
      (λ k e. e) (λ k e. e)
      (λ ss u x. let y = x.two in let z = y.two in rw (x.parts, y.parts, z.derives.1, z.gives) (is.machine x.token z.derives.0 x.is.1 y.one z.derives.2)) (λ ss u r x e h. from_machine x))
      machine_first

  -- ---- scripts

  abbrev program : List StepForm → List Sentence → Program
  program steps ss = record { steps = steps; sentences = ss }

  statements_first : {ss : List Sentence} {w : List Token} → AreStatements ss w → (r : List Token) → AtEnd (first r) → Machined (first (w ++ r))
  statements_first is.empty r e = (tt, λ q. let clash : class.End ≡ class.Key key.Machine = sym e ∙ q in absurd cc)
  statements_first (is.next {s = s} {ss = ss} {u = u} {w = w} x y) r e =
      let head : first ((u ++ w) ++ r) ≡ class.Key key.Retrieve = ap first (append_assoc u w r) ∙ statement_first s u (w ++ r) x in
      (tt, λ q. let clash : class.Key key.Retrieve ≡ class.Key key.Machine = sym head ∙ q in absurd cc)

  from_script : {s : Program} {u : List Token} → IsScript s u → Then (OrNone [] IsMachine) (λ steps. Image AreStatements (program steps)) s u
  from_script (is.script {steps} {ss} {u} {w} x y) = record { middle = steps; front = u; back = w; parts = refl; one = x; two = record { value = ss; derives = y; gives = refl } }

  pub script_good : Good bar Any 32 32 AtEnd IsScript rule.script
  unfolding rule.script
  script_good = convert bar barred (rule.machine >>= λ steps. rule.statements >>= λ ss. pure (program steps ss))
      (in_turn bar barred {F = λ steps. Image AreStatements (program steps)} rule.machine (λ steps. rule.statements >>= λ ss. pure (program steps ss)) machine_good (λ steps. image bar barred rule.statements (program steps) statements_good)
      (λ steps. (program steps [], [], record { value = []; derives = is.empty; gives = refl }))
      (λ steps b w r x e. statements_first x.derives r e))
      (λ k e. e) (λ k e. e) (λ s u x. let y = x.two in rw (x.parts, y.gives) (is.script x.one y.derives)) (λ s u r x e h. from_script x)

  pub script_end : (rest : List Token) (room : ℕ) (s : Program) (j : Input) → rule.script (at bar rest room) ≡ Ok (s, j) → first j.rest ≡ class.End
  unfolding rule.script
  script_end rest room s j h =
      let x = bind_ok (rule.machine (at bar rest room)) (λ steps. rule.statements >>= λ ss. pure (program steps ss)) s j h in
      let t = machine_good.took rest room x.0 x.1 tt x.2 in
      let y = bind_ok (rule.statements x.1) (λ ss. pure (program x.0 ss)) s j x.3 in
      let there : rule.statements (at bar t.left t.spare) ≡ Ok (y.0, y.1) = subst (λ (i : Input). rule.statements i ≡ Ok (y.0, y.1)) t.is y.2 in
      let last = statements_end t.left t.spare y.0 y.1 there in
      let same = ok_pair (program x.0 y.0) s y.1 j y.3 in
      subst (λ (i : Input). first i.rest ≡ class.End) same.1 last
