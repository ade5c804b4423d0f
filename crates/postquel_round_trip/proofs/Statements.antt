-- Statements, the machine line and scripts are read again.
use Rattle.std.proofs.Common.{◌≡◌, ℕ, Bool, true, false, List, [], ◌∷◌, ◌++◌, Option, Some, None, refl, ap, subst, ◌∙◌, append_assoc}
use Rattle.std.specs.Prelude.{codes, map}
use Rattle.std.specs.Option.{option_map}
use Rattle.postquel_tokens.specs.declared.token.Token.{Token}
use Rattle.postquel_tokens.specs.declared.token.Sign.TheVariants as sign
use Rattle.postquel_tokens.specs.declared.form.Ident.{Ident}
use Rattle.postquel_tokens.specs.declared.form.RangeForm.{RangeForm}
use Rattle.postquel_tokens.specs.declared.form.KeyForm.{KeyForm}
use Rattle.postquel_tokens.specs.declared.form.IntoForm.{IntoForm}
use Rattle.postquel_tokens.specs.Forms.{Phrase, Wish, Condition, Sentence}
use Rattle.postquel.specs.declared.class.Class.{Class}
use Rattle.postquel.specs.declared.class.Class.TheVariants as class
use Rattle.postquel_tokens.specs.declared.name.Key.TheVariants as key
use Rattle.postquel.specs.declared.class.Soft.{Soft}
use Rattle.postquel.specs.declared.level.Level.TheVariants as level
use Rattle.postquel.specs.Class.{looks}
use Rattle.postquel.specs.Grammar.{text_of, ident_of}
use Rattle.postquel.specs.Parts.{OrNone, absent, present, Listed, listed}
use Rattle.postquel.specs.Print.{text, joined, wish_text, range_text, key_text, unique_text, kept_text, ranges_text, test_text, keys_text, sentence_text}
use Rattle.postquel.specs.Statement.{IsTarget, IsRange, IsSortKey, IsUnique, unique, IsKept, kept, AreRanges, ranges, IsTest, test, AreKeys, keys, IsStatement, retrieve}
use Rattle.postquel_round_trip.specs.Bare.{nowhere, bare_wish, bare_range, bare_key, bare_into, bare_condition, bare_sentence}
use Rattle.postquel_round_trip.proofs.Trims.{Trims, none, trims_append}
use Rattle.postquel_round_trip.proofs.Lexing.{Gives, Any, Apart, Both, both, One, one, then, means, nothing, flat4, as_grouped}
use Rattle.postquel_round_trip.proofs.Literals.{named, name_blank_gives}
use Rattle.postquel_round_trip.proofs.Fixed.{left_gives, right_gives, go_gives, retrieve_gives, unique_gives, into_gives, from_gives, where_gives, sort_gives, by_gives}
use Rattle.postquel_round_trip.proofs.Expressions.{Operand, NamedAs, keep_one, keep_name, ident_same, whole_prints}
use Rattle.postquel_round_trip.proofs.Parts.{Kept, listed_prints}
use Rattle.postquel_round_trip.proofs.Targets.{target_prints, range_prints, key_prints}
use Rattle.postquel_round_trip.proofs.Valid.{Valid, valid_left, valid_right, name_valid, name_class}

-- ---- parts that may be absent

abbrev KeptUnique : Bool → List Token → List Token → Type 0
KeptUnique = Kept (λ b. b) (OrNone false IsUnique)

unique_same : (t : Token) → looks t ≡ class.Key key.Unique → (ts : List Token) → One (class.Key key.Unique) ts → KeptUnique true (t ∷ []) ts
unique_same t e _ (one s p) = record { again = true; derives = present (unique s p); same = refl; trims = keep_one t s (class.Key key.Unique) (λ n. absurd cc) e p none }

unique_prints : (b : Bool) (u : List Token) → OrNone false IsUnique b u → Gives (unique_text b) Any (KeptUnique b u)
unique_prints _ _ absent = nothing Any (KeptUnique false []) (record { again = false; derives = absent; same = refl; trims = none })
unique_prints _ _ (present (unique t e)) = means (codes "unique ") (unique_same t e) unique_gives

abbrev KeptInto : Option IntoForm → List Token → List Token → Type 0
KeptInto = Kept (option_map bare_into) (OrNone None IsKept)

into_bare : Ident → Option IntoForm
into_bare n = Some (record { spot = nowhere; name = n })

into_same : {s : Soft} (t n : Token) → looks t ≡ class.Key key.Into → looks n ≡ class.Name s → (ts : List Token) → Both (One (class.Key key.Into)) (NamedAs n s) ts → KeptInto (Some (record { spot = t.spot; name = ident_of n })) (t ∷ n ∷ []) ts
unfolding into_bare
into_same {s} t n e f _ (both (one x p) (named y q i)) =
    record {
      again = Some (record { spot = x.spot; name = ident_of y });
      derives = present (kept x y p q);
      same = ap into_bare (ident_same n y i);
      trims = keep_one t x (class.Key key.Into) (λ z. absurd cc) e p (keep_name n y s f q none);
    }

kept_prints : (k : Option IntoForm) (u : List Token) → OrNone None IsKept k u → Valid u → Gives (kept_text k) Any (KeptInto k u)
kept_prints _ _ absent h = nothing Any (KeptInto None []) (record { again = None; derives = absent; same = refl; trims = none })
kept_prints _ _ (present (kept {s} t n e f)) h =
    let name = text_of n.kind in
    means (codes "into " ++ (name ++ codes " ")) (into_same t n e f) (then (codes "into ") (name ++ codes " ") into_gives (λ r z. tt) (name_blank_gives name (class.Name s) (name_valid n.kind s h.1.0 f) (name_class n.kind s f)))

abbrev KeptRanges : List RangeForm → List Token → List Token → Type 0
KeptRanges = Kept (map bare_range) (OrNone [] AreRanges)

ranges_same : (t : Token) (rs : List RangeForm) (u : List Token) → looks t ≡ class.Key key.From → (ts : List Token) → Both (One (class.Key key.From)) (Kept (map bare_range) (Listed IsRange) rs u) ts → KeptRanges rs (t ∷ u) ts
ranges_same t rs u e _ (both (one s p) x) = record { again = x.again; derives = present (ranges s p x.derives); same = x.same; trims = keep_one t s (class.Key key.From) (λ n. absurd cc) e p x.trims }

ranges_by : (t : Token) (rs : List RangeForm) (u : List Token) → looks t ≡ class.Key key.From → Listed IsRange rs u → Valid u → Gives (ranges_text rs) Apart (KeptRanges rs (t ∷ u))
ranges_by t _ _ e (listed {a} {xs} {u} {w} x y) h =
    let items = joined range_text (a ∷ xs) in
    means (codes " from " ++ items) (ranges_same t (a ∷ xs) (u ++ w) e) (then (codes " from ") items from_gives (λ r z. tt) (listed_prints bare_range IsRange range_text range_prints (listed x y) h))

ranges_print : (rs : List RangeForm) (u : List Token) → OrNone [] AreRanges rs u → Valid u → Gives (ranges_text rs) Apart (KeptRanges rs u)
ranges_print _ _ absent h = nothing Apart (KeptRanges [] []) (record { again = []; derives = absent; same = refl; trims = none })
ranges_print _ _ (present (ranges t {rs} {u} e x)) h = ranges_by t rs u e x h.1

abbrev KeptTest : Option Condition → List Token → List Token → Type 0
KeptTest = Kept (option_map bare_condition) (OrNone None IsTest)

test_bare : Phrase → Option Condition
test_bare f = Some (record { spot = nowhere; phrase = f })

test_same : (t : Token) (f : Phrase) (u : List Token) → looks t ≡ class.Key key.Where → (ts : List Token) → Both (One (class.Key key.Where)) (Operand f level.Or u) ts → KeptTest (Some (record { spot = t.spot; phrase = f })) (t ∷ u) ts
unfolding test_bare
test_same t f u e _ (both (one s p) x) =
    record {
      again = Some (record { spot = s.spot; phrase = x.again });
      derives = present (test s p x.derives);
      same = ap test_bare x.same;
      trims = keep_one t s (class.Key key.Where) (λ n. absurd cc) e p x.trims;
    }

test_prints : (o : Option Condition) (u : List Token) → OrNone None IsTest o u → Valid u → Gives (test_text o) Apart (KeptTest o u)
test_prints _ _ absent h = nothing Apart (KeptTest None []) (record { again = None; derives = absent; same = refl; trims = none })
test_prints _ _ (present (test t {f} {u} e x)) h = means (codes " where " ++ text f) (test_same t f u e) (then (codes " where ") (text f) where_gives (λ r z. tt) (whole_prints x h.1))

abbrev KeptKeys : List KeyForm → List Token → List Token → Type 0
KeptKeys = Kept (map bare_key) (OrNone [] AreKeys)

keys_same : (t b : Token) (ks : List KeyForm) (u : List Token) → looks t ≡ class.Key key.Sort → looks b ≡ class.Key key.By → (ts : List Token)
    → Both (One (class.Key key.Sort)) (Both (One (class.Key key.By)) (Kept (map bare_key) (Listed IsSortKey) ks u)) ts → KeptKeys ks (t ∷ b ∷ u) ts
keys_same t b ks u e f _ (both (one s p) (both (one y q) x)) =
    record { again = x.again; derives = present (keys s y p q x.derives); same = x.same; trims = keep_one t s (class.Key key.Sort) (λ n. absurd cc) e p (keep_one b y (class.Key key.By) (λ n. absurd cc) f q x.trims) }

keys_by : (t b : Token) (ks : List KeyForm) (u : List Token) → looks t ≡ class.Key key.Sort → looks b ≡ class.Key key.By → Listed IsSortKey ks u → Valid u → Gives (keys_text ks) Apart (KeptKeys ks (t ∷ b ∷ u))
keys_by t b _ _ e f (listed {a} {xs} {u} {w} x y) h =
    let items = joined key_text (a ∷ xs) in
    means (codes " sort " ++ (codes "by " ++ items)) (keys_same t b (a ∷ xs) (u ++ w) e f)
    (then (codes " sort ") (codes "by " ++ items) sort_gives (λ r z. tt) (then (codes "by ") items by_gives (λ r z. tt) (listed_prints bare_key IsSortKey key_text key_prints (listed x y) h)))

keys_print : (ks : List KeyForm) (u : List Token) → OrNone [] AreKeys ks u → Valid u → Gives (keys_text ks) Apart (KeptKeys ks u)
keys_print _ _ absent h = nothing Apart (KeptKeys [] []) (record { again = []; derives = absent; same = refl; trims = none })
keys_print _ _ (present (keys t b {ks} {u} e f x)) h = keys_by t b ks u e f x h.1.1

-- ---- lines

-- a token of a class, then some, and the mark that ends a statement: again, with some left out
pub data Line (k : Class) : List Token → List Token → Type 0 where
  line : {x y : List Token} (t s g h : Token) → looks t ≡ k → looks s ≡ k → Trims x y → looks g ≡ class.Mark sign.Go → looks h ≡ class.Mark sign.Go → Line k (t ∷ (x ++ g ∷ [])) (s ∷ (y ++ h ∷ []))

pub record KeptLine {A : Type 0} (k : Class) (bare : A → A) (D : A → List Token → Type 0) (a : A) (u ts : List Token) : Type 0 where
  pub again : A
  pub derives : D again ts
  pub same : bare again ≡ bare a
  pub lines : Line k u ts

-- the tokens of a statement between its first and its last
within : (l r : Token) (a b c d e f : List Token) → List Token
within l r a b c d e f = a ++ (b ++ l ∷ (c ++ r ∷ (d ++ (e ++ f))))

within_is : (l r g : Token) (a b c d e f : List Token) → within l r a b c d e f ++ g ∷ [] ≡ a ++ (b ++ l ∷ (c ++ r ∷ (d ++ (e ++ (f ++ g ∷ [])))))
unfolding within
within_is l r g a b c d e f =
    let last : (d ++ (e ++ f)) ++ g ∷ [] ≡ d ++ (e ++ (f ++ g ∷ [])) = append_assoc d (e ++ f) (g ∷ []) ∙ ap (λ (v : List Token). d ++ v) (append_assoc e f (g ∷ [])) in
    let middle : (c ++ r ∷ (d ++ (e ++ f))) ++ g ∷ [] ≡ c ++ r ∷ (d ++ (e ++ (f ++ g ∷ []))) = append_assoc c (r ∷ (d ++ (e ++ f))) (g ∷ []) ∙ ap (λ (v : List Token). c ++ r ∷ v) last in
    let first : (b ++ l ∷ (c ++ r ∷ (d ++ (e ++ f)))) ++ g ∷ [] ≡ b ++ l ∷ (c ++ r ∷ (d ++ (e ++ (f ++ g ∷ [])))) = append_assoc b (l ∷ (c ++ r ∷ (d ++ (e ++ f)))) (g ∷ []) ∙ ap (λ (v : List Token). b ++ l ∷ v) middle in
    append_assoc a (b ++ l ∷ (c ++ r ∷ (d ++ (e ++ f)))) (g ∷ []) ∙ ap (λ (v : List Token). a ++ v) first

within_trims : (l r m n : Token) {a b c d e f p q s t v w : List Token} → looks l ≡ class.Mark sign.Left → looks r ≡ class.Mark sign.Right → looks m ≡ class.Mark sign.Left → looks n ≡ class.Mark sign.Right
    → Trims a p → Trims b q → Trims c s → Trims d t → Trims e v → Trims f w → Trims (within l r a b c d e f) (within m n p q s t v w)
unfolding within
within_trims l r m n i j k o x1 x2 x3 x4 x5 x6 =
    trims_append x1 (trims_append x2 (keep_one l m (class.Mark sign.Left) (λ z. absurd cc) i k (trims_append x3 (keep_one r n (class.Mark sign.Right) (λ z. absurd cc) j o (trims_append x4 (trims_append x5 x6))))))

sentence_bare : Bool → Option IntoForm → List Wish → List RangeForm → Option Condition → List KeyForm → Sentence
sentence_bare u k ws rs o ks = record { unique = u; kept = k; wishes = ws; ranges = rs; test = o; keys = ks }

abbrev StatementParts : Bool → Option IntoForm → List Wish → List RangeForm → Option Condition → List KeyForm → List Token → List Token → List Token → List Token → List Token → List Token → List Token → Type 0
StatementParts un k ws rs o ks a b c d e f =
    Both (One (class.Key key.Retrieve)) (Both (KeptUnique un a) (Both (KeptInto k b) (Both (One (class.Mark sign.Left)) (Both (Kept (map bare_wish) (Listed IsTarget) ws c) (Both (One (class.Mark sign.Right))
    (Both (KeptRanges rs d) (Both (KeptTest o e) (Both (KeptKeys ks f) (One (class.Mark sign.Go))))))))))

abbrev pub KeptStatement : Sentence → List Token → List Token → Type 0
KeptStatement = KeptLine (class.Key key.Retrieve) bare_sentence IsStatement

statement_same : (t l r g : Token) (un : Bool) (k : Option IntoForm) (ws : List Wish) (rs : List RangeForm) (o : Option Condition) (ks : List KeyForm) (a b c d e f : List Token)
    → looks t ≡ class.Key key.Retrieve → looks l ≡ class.Mark sign.Left → looks r ≡ class.Mark sign.Right → looks g ≡ class.Mark sign.Go → (ts : List Token) → StatementParts un k ws rs o ks a b c d e f ts
    → KeptStatement (record { unique = un; kept = k; wishes = ws; ranges = rs; test = o; keys = ks }) (t ∷ (a ++ (b ++ l ∷ (c ++ r ∷ (d ++ (e ++ (f ++ g ∷ []))))))) ts
unfolding sentence_bare
statement_same t l r g un k ws rs o ks a b c d e f i1 i2 i3 i4 _ (both (one s j1) (both {u = p} x1 (both {u = q} x2 (both (one m j2) (both {u = y} x3 (both (one n j3) (both {u = z} x4 (both {u = v} x5 (both {u = w} x6 (one h j4)))))))))) =
    let whole : Line (class.Key key.Retrieve) (t ∷ (within l r a b c d e f ++ g ∷ [])) (s ∷ (within m n p q y z v w ++ h ∷ [])) =
    line t s g h i1 j1 (within_trims l r m n i2 i3 j2 j3 x1.trims x2.trims x3.trims x4.trims x5.trims x6.trims) i4 j4 in
    record {
      again = record { unique = x1.again; kept = x2.again; wishes = x3.again; ranges = x4.again; test = x5.again; keys = x6.again };
      derives = retrieve s m n h j1 x1.derives x2.derives j2 x3.derives j3 x4.derives x5.derives x6.derives j4;
      same = rw (x1.same, x2.same, x3.same, x4.same, x5.same, x6.same) refl;
      lines = subst (λ (x : List Token). Line (class.Key key.Retrieve) (t ∷ x) (s ∷ (p ++ (q ++ m ∷ (y ++ n ∷ (z ++ (v ++ (w ++ h ∷ [])))))))) (within_is l r g a b c d e f)
          (subst (λ (x : List Token). Line (class.Key key.Retrieve) (t ∷ (within l r a b c d e f ++ g ∷ [])) (s ∷ x)) (within_is m n h p q y z v w) whole);
    }

key_tail : (ks : List KeyForm) (r : List ℕ) → Apart ((keys_text ks ++ codes " \\g\n") ++ r)
key_tail [] r = (refl, refl)
key_tail (k ∷ ks) r = (refl, refl)

test_tail : (o : Option Condition) (ks : List KeyForm) (r : List ℕ) → Apart ((test_text o ++ (keys_text ks ++ codes " \\g\n")) ++ r)
test_tail None ks r = key_tail ks r
test_tail (Some c) ks r = (refl, refl)

tail_is : (ws rs o ks : List ℕ) → (codes "(" ++ ws ++ codes ")") ++ (rs ++ o ++ ks ++ codes " \\g\n") ≡ codes "(" ++ (ws ++ (codes ")" ++ (rs ++ (o ++ (ks ++ codes " \\g\n")))))
tail_is ws rs o ks =
    ap (λ (v : List ℕ). codes "(" ++ v) (append_assoc ws (codes ")") (rs ++ o ++ ks ++ codes " \\g\n") ∙ ap (λ (v : List ℕ). ws ++ (codes ")" ++ v)) (flat4 rs o ks (codes " \\g\n")))

sentence_is : (u k ws rs o ks : List ℕ) → (codes "retrieve " ++ u ++ k ++ (codes "(" ++ ws ++ codes ")")) ++ (rs ++ o ++ ks ++ codes " \\g\n")
    ≡ codes "retrieve " ++ (u ++ (k ++ (codes "(" ++ (ws ++ (codes ")" ++ (rs ++ (o ++ (ks ++ codes " \\g\n"))))))))
sentence_is u k ws rs o ks =
    ap (λ (v : List ℕ). codes "retrieve " ++ v) (flat4 u k (codes "(" ++ ws ++ codes ")") (rs ++ o ++ ks ++ codes " \\g\n") ∙ ap (λ (v : List ℕ). u ++ (k ++ v)) (tail_is ws rs o ks))

pub statement_prints : (s : Sentence) (u : List Token) → IsStatement s u → Valid u → Gives (sentence_text s) Any (KeptStatement s u)
statement_prints _ _ (retrieve t l r g {un} {k} {ws} {rs} {o} {ks} {a} {b} {c} {d} {e} {f} i1 x1 x2 i2 x3 i3 x4 x5 x6 i4) h =
    let h1 = h.1 in
    let h2 = valid_right a (b ++ l ∷ (c ++ r ∷ (d ++ (e ++ (f ++ g ∷ []))))) h1 in
    let h3 = (valid_right b (l ∷ (c ++ r ∷ (d ++ (e ++ (f ++ g ∷ []))))) h2).1 in
    let h4 = (valid_right c (r ∷ (d ++ (e ++ (f ++ g ∷ [])))) h3).1 in
    let h5 = valid_right d (e ++ (f ++ g ∷ [])) h4 in
    let h6 = valid_right e (f ++ g ∷ []) h5 in
    let go = codes " \\g\n" in
    let t6 = keys_text ks ++ go in
    let t5 = test_text o ++ t6 in
    let t4 = ranges_text rs ++ t5 in
    let t3 = joined wish_text ws ++ (codes ")" ++ t4) in
    let t2 = kept_text k ++ (codes "(" ++ t3) in
    let t1 = unique_text un ++ t2 in
    let s : Sentence = record { unique = un; kept = k; wishes = ws; ranges = rs; test = o; keys = ks } in
    as_grouped (sentence_text s) (codes "retrieve " ++ t1) (sentence_is (unique_text un) (kept_text k) (joined wish_text ws) (ranges_text rs) (test_text o) (keys_text ks))
    (means (codes "retrieve " ++ t1) (statement_same t l r g un k ws rs o ks a b c d e f i1 i2 i3 i4)
    (then (codes "retrieve ") t1 retrieve_gives (λ z p. tt)
    (then (unique_text un) t2 (unique_prints un a x1) (λ z p. tt)
    (then (kept_text k) (codes "(" ++ t3) (kept_prints k b x2 (valid_left b (l ∷ (c ++ r ∷ (d ++ (e ++ (f ++ g ∷ []))))) h2)) (λ z p. tt)
    (then (codes "(") t3 left_gives (λ z p. tt)
    (then (joined wish_text ws) (codes ")" ++ t4) (listed_prints bare_wish IsTarget wish_text target_prints x3 (valid_left c (r ∷ (d ++ (e ++ (f ++ g ∷ [])))) h3)) (λ z p. (refl, refl))
    (then (codes ")") t4 right_gives (λ z p. tt)
    (then (ranges_text rs) t5 (ranges_print rs d x4 (valid_left d (e ++ (f ++ g ∷ [])) h4)) (λ z p. test_tail o ks z)
    (then (test_text o) t6 (test_prints o e x5 (valid_left e (f ++ g ∷ []) h5)) (λ z p. key_tail ks z)
    (then (keys_text ks) go (keys_print ks f x6 (valid_left f (g ∷ []) h6)) (λ z p. (refl, refl)) go_gives))))))))))
