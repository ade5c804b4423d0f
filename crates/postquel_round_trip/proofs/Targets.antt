-- Targets, ranges, sort keys and steps are read again.
use Rattle.std.proofs.Common.{◌≡◌, ◌≢◌, ℕ, ℤ, Bool, true, false, List, [], ◌∷◌, ◌++◌, Some, refl, sym, ap, subst, ◌∙◌, append_assoc}
use Rattle.std.specs.Prelude.{codes}
use Rattle.std.specs.Fmt.{signed_decimal}
use Rattle.std.proofs.lemmas.List.{append-nil}
use Rattle.postquel_tokens.specs.declared.token.Token.{Token}
use Rattle.postquel_tokens.specs.declared.token.Sign.TheVariants as sign
use Rattle.postquel_tokens.specs.declared.form.Ident.{Ident}
use Rattle.postquel_tokens.specs.declared.form.RangeForm.{RangeForm}
use Rattle.postquel_tokens.specs.declared.form.KeyForm.{KeyForm}
use Rattle.postquel_tokens.specs.declared.form.StepForm.{StepForm}
use Rattle.postquel_tokens.specs.Forms.{Phrase, Wish, Titled, Every, Column, Folded}
use Rattle.postquel.specs.declared.class.Class.{Class}
use Rattle.postquel.specs.declared.class.Class.TheVariants as class
use Rattle.postquel_tokens.specs.declared.name.Key.TheVariants as key
use Rattle.postquel.specs.declared.class.Soft.{Soft}
use Rattle.postquel.specs.declared.class.Soft.TheVariants as soft
use Rattle.postquel.specs.declared.level.Level.TheVariants as level
use Rattle.postquel.specs.Class.{looks}
use Rattle.postquel.specs.Grammar.{number_of, text_of, ident_of}
use Rattle.postquel.specs.Parts.{OrNone, absent, present}
use Rattle.postquel.specs.Print.{wish_text, range_text, key_text, step_text, text}
use Rattle.postquel.specs.Statement.{IsTarget, titled, folded, every, column, IsRange, range, IsDirection, up, down, IsSortKey, sort_key, IsStep, step}
use Rattle.postquel.specs.Syntax.{nest_step}
use Rattle.postquel_round_trip.specs.Bare.{nowhere, bare_ident, bare_phrase, bare_wish, bare_range, bare_key, bare_step}
use Rattle.postquel_round_trip.proofs.Trims.{Trims, none, omit, trims_append}
use Rattle.postquel_round_trip.proofs.Lexing.{Gives, Any, Apart, Both, both, One, one, then, means, loose, flat5, as_grouped}
use Rattle.postquel_round_trip.proofs.Literals.{named, Counted, counted, number_gives}
use Rattle.postquel_round_trip.proofs.Fixed.{left_gives, right_gives, dot_gives, equal_gives, all_gives, in_gives, using_gives, more_gives, after_gives}
use Rattle.postquel_round_trip.proofs.Expressions.{Operand, NamedAs, keep_one, keep_name, name_prints, dotted_gives, ident_same, whole_prints}
use Rattle.postquel_round_trip.proofs.Parts.{Kept}
use Rattle.postquel_round_trip.proofs.Valid.{Valid, ValidKind, valid_left, number_valid}

abbrev KeptTarget : Wish → List Token → List Token → Type 0
KeptTarget = Kept bare_wish IsTarget

titled_same : {s : Soft} (n e : Token) (f : Phrase) (u : List Token) → looks n ≡ class.Name s → looks e ≡ class.Mark sign.Equal → (ts : List Token)
    → Both (Both (NamedAs n s) (One (class.Mark sign.Equal))) (Operand f level.Or u) ts → KeptTarget (Titled (ident_of n) f) (n ∷ e ∷ u) ts
titled_same {s} n e f u p q _ (both (both (named m i o) (one d j)) x) =
    record {
      again = Titled (ident_of m) x.again;
      derives = titled m d i j x.derives;
      same = ap (λ (z : Ident). Titled z (bare_phrase x.again)) (ident_same n m o) ∙ ap (λ (z : Phrase). Titled (bare_ident (ident_of n)) z) x.same;
      trims = keep_name n m s p i (keep_one e d (class.Mark sign.Equal) (λ z. absurd cc) q j x.trims);
    }

folded_same : {s : Soft} (n e g l r : Token) (f : Phrase) (u : List Token) → looks n ≡ class.Name s → looks e ≡ class.Mark sign.Equal → looks g ≡ class.Name soft.Fold → looks l ≡ class.Mark sign.Left → looks r ≡ class.Mark sign.Right → (ts : List Token)
    → Both (Both (NamedAs n s) (One (class.Mark sign.Equal))) (Both (NamedAs g soft.Fold) (Both (One (class.Mark sign.Left)) (Both (Operand f level.Or u) (One (class.Mark sign.Right))))) ts
    → KeptTarget (Folded (ident_of n) (ident_of g) f) (n ∷ e ∷ g ∷ l ∷ (u ++ r ∷ [])) ts
folded_same {s} n e g l r f u p q k a b _ (both (both (named m i o) (one d j)) (both (named h v w) (both (one y c) (both x (one z t))))) =
    record {
      again = Folded (ident_of m) (ident_of h) x.again;
      derives = folded m d h y z i j v c x.derives t;
      same = ap (λ (z : Ident). Folded z (bare_ident (ident_of h)) (bare_phrase x.again)) (ident_same n m o) ∙ ap (λ (z : Ident). Folded (bare_ident (ident_of n)) z (bare_phrase x.again)) (ident_same g h w) ∙ ap (λ (z : Phrase). Folded (bare_ident (ident_of n)) (bare_ident (ident_of g)) z) x.same;
      trims = keep_name n m s p i (keep_one e d (class.Mark sign.Equal) (λ z. absurd cc) q j (keep_name g h soft.Fold k v (keep_one l y (class.Mark sign.Left) (λ z. absurd cc) a c (trims_append x.trims (keep_one r z (class.Mark sign.Right) (λ z. absurd cc) b t none)))));
    }

every_same : {s : Soft} (v d a : Token) → looks v ≡ class.Name s → looks d ≡ class.Mark sign.Dot → looks a ≡ class.Key key.All → (ts : List Token)
    → Both (NamedAs v s) (Both (One (class.Mark sign.Dot)) (One (class.Key key.All))) ts → KeptTarget (Every (ident_of v)) (v ∷ d ∷ a ∷ []) ts
every_same {s} v d a e f g _ (both (named x p i) (both (one y o) (one z r))) =
    record {
      again = Every (ident_of x);
      derives = every x y z p o r;
      same = ap (λ (n : Ident). Every n) (ident_same v x i);
      trims = keep_name v x s e p (keep_one d y (class.Mark sign.Dot) (λ n. absurd cc) f o (keep_one a z (class.Key key.All) (λ n. absurd cc) g r none));
    }

column_same : {s q : Soft} (v d c : Token) → looks v ≡ class.Name s → looks d ≡ class.Mark sign.Dot → looks c ≡ class.Name q → (ts : List Token)
    → Both (NamedAs v s) (Both (One (class.Mark sign.Dot)) (NamedAs c q)) ts → KeptTarget (Column (ident_of v) (ident_of c)) (v ∷ d ∷ c ∷ []) ts
column_same {s} {q} v d c e f g _ (both (named x p i) (both (one y o) (named z r j))) =
    record {
      again = Column (ident_of x) (ident_of z);
      derives = column x y z p o r;
      same = ap (λ (n : Ident). Column n (bare_ident (ident_of z))) (ident_same v x i) ∙ ap (λ (n : Ident). Column (bare_ident (ident_of v)) n) (ident_same c z j);
      trims = keep_name v x s e p (keep_one d y (class.Mark sign.Dot) (λ n. absurd cc) f o (keep_name c z q g r none));
    }

title_gives : {s : Soft} (n : Token) → looks n ≡ class.Name s → ValidKind n.kind → Gives (text_of n.kind ++ codes " = ") Any (Both (NamedAs n s) (One (class.Mark sign.Equal)))
title_gives {s} n p h = then (text_of n.kind) (codes " = ") (name_prints n s p h) (λ r z. (refl, refl)) equal_gives

pub target_prints : (t : Wish) (u : List Token) → IsTarget t u → Valid u → Gives (wish_text t) Apart (KeptTarget t u)
target_prints _ _ (titled {s} n e {f} {u} p q d) h =
    let title = text_of n.kind ++ codes " = " in
    means (title ++ text f) (titled_same n e f u p q) (then title (text f) (title_gives n p h.0) (λ r z. tt) (whole_prints d h.1.1))
target_prints _ _ (folded {s} n e g l r {f} {u} p q k a d b) h =
    let title = text_of n.kind ++ codes " = " in
    let fold = text_of g.kind in
    as_grouped (wish_text (Folded (ident_of n) (ident_of g) f)) (title ++ (fold ++ (codes "(" ++ (text f ++ codes ")")))) (flat5 title fold (codes "(") (text f) (codes ")"))
    (means (title ++ (fold ++ (codes "(" ++ (text f ++ codes ")")))) (folded_same n e g l r f u p q k a b)
    (then title (fold ++ (codes "(" ++ (text f ++ codes ")"))) (title_gives n p h.0) (λ r z. tt)
    (then fold (codes "(" ++ (text f ++ codes ")")) (name_prints g soft.Fold k h.1.1.0) (λ r z. (refl, refl))
    (then (codes "(") (text f ++ codes ")") left_gives (λ r z. tt)
    (then (text f) (codes ")") (whole_prints d (valid_left u (r ∷ []) h.1.1.1.1)) (λ r z. (refl, refl)) (loose Apart (codes ")") right_gives))))))
target_prints _ _ (every {s} v d a e f g) h =
    let name = text_of v.kind in
    means (name ++ codes ".all") (every_same v d a e f g) (then name (codes ".all") (name_prints v s e h.0) (λ r z. (refl, refl)) (then (codes ".") (codes "all") dot_gives (λ r z. tt) all_gives))
target_prints _ _ (column {s} {q} v d c e f g) h = means (wish_text (Column (ident_of v) (ident_of c))) (column_same v d c e f g) (dotted_gives v c e g h.0 h.1.1.0)

-- ---- ranges

range_bare : Ident → Ident → RangeForm
range_bare v r = record { var = v; relation = r }

range_same : {s q : Soft} (v i r : Token) → looks v ≡ class.Name s → looks i ≡ class.Key key.In → looks r ≡ class.Name q → (ts : List Token)
    → Both (NamedAs v s) (Both (One (class.Key key.In)) (NamedAs r q)) ts → Kept bare_range IsRange (record { var = ident_of v; relation = ident_of r }) (v ∷ i ∷ r ∷ []) ts
unfolding range_bare
range_same {s} {q} v d c e f g _ (both (named x p i) (both (one y o) (named z r j))) =
    record {
      again = record { var = ident_of x; relation = ident_of z };
      derives = range x y z p o r;
      same = ap (λ (n : Ident). range_bare n (bare_ident (ident_of z))) (ident_same v x i) ∙ ap (λ (n : Ident). range_bare (bare_ident (ident_of v)) n) (ident_same c z j);
      trims = keep_name v x s e p (keep_one d y (class.Key key.In) (λ n. absurd cc) f o (keep_name c z q g r none));
    }

pub range_prints : (a : RangeForm) (u : List Token) → IsRange a u → Valid u → Gives (range_text a) Apart (Kept bare_range IsRange a u)
range_prints _ _ (range {s} {q} v i r e f g) h =
    let name = text_of v.kind in
    let relation = text_of r.kind in
    as_grouped ((name ++ codes " in ") ++ relation) (name ++ (codes " in " ++ relation)) (append_assoc name (codes " in ") relation)
    (means (name ++ (codes " in " ++ relation)) (range_same v i r e f g) (then name (codes " in " ++ relation) (name_prints v s e h.0) (λ r z. (refl, refl)) (then (codes " in ") relation in_gives (λ r z. tt) (name_prints r q g h.1.1.0))))

-- ---- sort keys

key_bare : Bool → Ident → KeyForm
key_bare b n = record { target = n; down = b }

-- without a direction, or in the one that goes without saying
up_same : {s : Soft} (n : Token) (u : List Token) → looks n ≡ class.Name s → Trims u [] → (ts : List Token) → NamedAs n s ts → Kept bare_key IsSortKey (record { target = ident_of n; down = false }) (n ∷ u) ts
unfolding key_bare
up_same {s} n u e t _ (named x p i) = record { again = record { target = ident_of x; down = false }; derives = sort_key x p absent; same = ap (λ (z : Ident). key_bare false z) (ident_same n x i); trims = keep_name n x s e p t }

down_same : {s : Soft} (n u m : Token) → looks n ≡ class.Name s → looks u ≡ class.Key key.Using → looks m ≡ class.Mark sign.More → (ts : List Token)
    → Both (NamedAs n s) (Both (One (class.Key key.Using)) (One (class.Mark sign.More))) ts → Kept bare_key IsSortKey (record { target = ident_of n; down = true }) (n ∷ u ∷ m ∷ []) ts
unfolding key_bare
down_same {s} n u m e f g _ (both (named x p i) (both (one y o) (one z r))) =
    record {
      again = record { target = ident_of x; down = true };
      derives = sort_key x p (present (down y z o r));
      same = ap (λ (z : Ident). key_bare true z) (ident_same n x i);
      trims = keep_name n x s e p (keep_one u y (class.Key key.Using) (λ n. absurd cc) f o (keep_one m z (class.Mark sign.More) (λ n. absurd cc) g r none));
    }

leave : (t : Token) (c : Class) → looks t ≡ c → ((d : ℕ) → nest_step c d ≡ Some d) → c ≢ class.Mark sign.Go → {u w : List Token} → Trims u w → Trims (t ∷ u) w
leave t c e f n x = omit t (λ d. ap (λ k. nest_step k d) e ∙ f d) (λ z. n (sym e ∙ z)) x

name_nil : (n : Token) (s : Soft) → looks n ≡ class.Name s → ValidKind n.kind → Gives (text_of n.kind ++ []) Apart (NamedAs n s)
name_nil n s e h = subst (λ (z : List ℕ). Gives z Apart (NamedAs n s)) (sym (append-nil (text_of n.kind))) (name_prints n s e h)

key_by : {s : Soft} (n : Token) (b : Bool) (u : List Token) → looks n ≡ class.Name s → OrNone false IsDirection b u → Valid (n ∷ u) → Gives (key_text (record { target = ident_of n; down = b })) Apart (Kept bare_key IsSortKey (record { target = ident_of n; down = b }) (n ∷ u))
key_by {s} n _ _ e absent h = means (text_of n.kind ++ []) (up_same n [] e none) (name_nil n s e h.0)
key_by {s} n _ _ e (present (up u m f g)) h =
    means (text_of n.kind ++ []) (up_same n (u ∷ m ∷ []) e (leave u (class.Key key.Using) f (λ d. refl) (λ z. absurd cc) (leave m (class.Mark sign.Less) g (λ d. refl) (λ z. absurd cc) none))) (name_nil n s e h.0)
key_by {s} n _ _ e (present (down u m f g)) h =
    let name = text_of n.kind in
    means (name ++ codes " using >") (down_same n u m e f g) (then name (codes " using >") (name_prints n s e h.0) (λ r z. (refl, refl)) (then (codes " using ") (codes ">") using_gives (λ r z. tt) more_gives))

pub key_prints : (k : KeyForm) (u : List Token) → IsSortKey k u → Valid u → Gives (key_text k) Apart (Kept bare_key IsSortKey k u)
key_prints _ _ (sort_key {s} n {b} {u} e d) h = key_by n b u e d h

-- ---- steps

step_bare : ℤ → ℤ → StepForm
step_bare b a = record { backends = b; backends_spot = nowhere; after = a; after_spot = nowhere }

step_same : (n a k : Token) → looks n ≡ class.Number → looks a ≡ class.Name soft.After → looks k ≡ class.Number → (ts : List Token)
    → Both (Counted (number_of n.kind)) (Both (One (class.Name soft.After)) (Counted (number_of k.kind))) ts
    → Kept bare_step IsStep (record { backends = number_of n.kind; backends_spot = n.spot; after = number_of k.kind; after_spot = k.spot }) (n ∷ a ∷ k ∷ []) ts
unfolding step_bare
step_same n a k e f g _ (both (counted x p i) (both (one y o) (counted z r j))) =
    record {
      again = record { backends = number_of x.kind; backends_spot = x.spot; after = number_of z.kind; after_spot = z.spot };
      derives = step x y z p o r;
      same = ap (λ (m : ℤ). step_bare m (number_of z.kind)) i ∙ ap (λ (m : ℤ). step_bare (number_of n.kind) m) j;
      trims = keep_one n x class.Number (λ m. absurd cc) e p (keep_one a y (class.Name soft.After) (λ m. absurd cc) f o (keep_one k z class.Number (λ m. absurd cc) g r none));
    }

number_gives_of : (t : Token) → looks t ≡ class.Number → ValidKind t.kind → Gives (signed_decimal (number_of t.kind)) Apart (Counted (number_of t.kind))
number_gives_of t e h = let v = number_valid t.kind h e in subst (λ (n : ℤ). Gives (signed_decimal n) Apart (Counted n)) (sym v.1) (number_gives v.0 v.2)

pub step_prints : (a : StepForm) (u : List Token) → IsStep a u → Valid u → Gives (step_text a) Apart (Kept bare_step IsStep a u)
step_prints _ _ (step n a k e f g) h =
    let first = signed_decimal (number_of n.kind) in
    let last = signed_decimal (number_of k.kind) in
    as_grouped ((first ++ codes " after ") ++ last) (first ++ (codes " after " ++ last)) (append_assoc first (codes " after ") last)
    (means (first ++ (codes " after " ++ last)) (step_same n a k e f g) (then first (codes " after " ++ last) (number_gives_of n e h.0) (λ r z. (refl, refl)) (then (codes " after ") last after_gives (λ r z. tt) (number_gives_of k g h.1.1.0))))
