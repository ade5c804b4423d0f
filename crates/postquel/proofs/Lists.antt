-- Lists with commas.
use Rattle.std.proofs.Common.{◌≡◌, ◌≢◌, ℕ, ◌<◌, List, [], ◌∷◌, ◌++◌, length, Some, None, refl, sym, ap, subst, ◌∙◌, append_assoc, arith}
use Rattle.std.proofs.lemmas.List.{append-nil}
use Rattle.postquel_tokens.specs.declared.fault.What.{What}
use Rattle.postquel_tokens.specs.declared.fault.What.TheVariants as what
use Rattle.postquel_tokens.specs.declared.token.Token.{Token}
use Rattle.postquel_tokens.specs.declared.token.Sign.TheVariants as sign
use Rattle.postquel.specs.declared.class.Class.{Class}
use Rattle.postquel.specs.declared.class.Class.TheVariants as class
use Rattle.postquel.specs.Input.{Parser, ◌>>=◌, ◌>>◌, pure, take, first}
use Rattle.postquel.specs.Loop.{next_item, more_items, listed as listed_rule}
use Rattle.postquel.specs.Parts.{More, none, more, Listed, listed}
use Rattle.postquel.proofs.Good.{Then, Good}
use Rattle.postquel.proofs.Combine.{Any, convert, in_turn, Lead, Image, This, lead_first, lead, image, this_good}
use Rattle.postquel.proofs.Loops.{Turns, done, turn, repeat_good}

module _ {A : Type 0} (D : A → List Token → Type 0) where
  abbrev pub Next : List A → List A → List Token → Type 0
  Next found = Image (Lead (This (class.Mark sign.Comma)) (λ t. D)) (λ x. found ++ x ∷ [])

  next_first : (s m : List A) (w r : List Token) → Next s m w → first (w ++ r) ≡ class.Mark sign.Comma
  next_first s m w r x = lead_first x.derives r ∙ x.derives.is.1

  -- what a loop adds
  record Added (s f : List A) (w : List Token) : Type 0 where
    news : List A
    is : f ≡ s ++ news
    by : More D news w

  to_more : {s f : List A} {w : List Token} → Turns Next s f w → Added s f w
  to_more (done s) = record { news = []; is = sym (append-nil s); by = none }
  to_more (turn {s} {m} {f} {w} {v} x y) =
      let rest = to_more y in
      record {
        news = x.value ∷ rest.news;
        is = rest.is ∙ ap (λ (a : List A). a ++ rest.news) x.gives ∙ append_assoc s (x.value ∷ []) rest.news;
        by = subst (λ (b : List Token). More D (x.value ∷ rest.news) (b ++ v)) (sym x.derives.parts) (more x.derives.token x.derives.is.1 x.derives.two rest.by);
      }

  from_more : {xs : List A} {w : List Token} → More D xs w → (s : List A) → Turns Next s (s ++ xs) w
  from_more none s = subst (λ (f : List A). Turns Next s f []) (sym (append-nil s)) (done s)
  from_more (more {a} {xs} {u} {w} c p x y) s =
      let one : Next s (s ++ a ∷ []) (c ∷ u) = record { value = a; derives = record { token = c; value = c; rest = u; parts = refl; is = (refl, p); two = x }; gives = refl } in
      subst (λ (f : List A). Turns Next s f (c ∷ (u ++ w))) (append_assoc s (a ∷ []) xs) (turn one (from_more y (s ++ a ∷ [])))

  to_listed : (a : List A) (u : List Token) → Then D (λ t. Turns Next (t ∷ [])) a u → Listed D a u
  to_listed a u x = let y = to_more x.two in rw (x.parts, y.is) (listed x.one y.by)

  from_listed : {a : List A} {u : List Token} → Listed D a u → Then D (λ t. Turns Next (t ∷ [])) a u
  from_listed (listed {a} {xs} {u} {w} x y) = record { middle = a; front = u; back = w; parts = refl; one = x; two = from_more y (a ∷ []) }

  module _ (bar : What) (barred : bar ≢ what.Unexpected) (d : ℕ) (F : Class → Type 0) (p : Parser A) (g : Good bar Any d d F D p) (sample : (a : A) × (w : List Token) × D a w) (comma : F (class.Mark sign.Comma)) where
    abbrev Closes : Class → Type 0
    Closes c = F c × (c ≢ class.Mark sign.Comma)

    next_good : (found : List A) (c : Class) (q : Parser (List A)) → next_item p found c ≡ Some q → Good bar (λ k. k ≡ c) d d F (Next found) q
    next_good found (class.Mark sign.Comma) q h =
        let r : Parser (List A) = take >> p >>= λ x. pure (found ++ x ∷ []) in
        let is : r ≡ q = cc in
        subst (Good bar (λ k. k ≡ class.Mark sign.Comma) d d F (Next found)) is
        (image bar barred (take >> p) (λ x. found ++ x ∷ [])
        (lead bar barred {F = λ t. D} take (λ t. p) (this_good bar barred (class.Mark sign.Comma) d d (record { here = λ e. absurd cc; flat = refl })) (λ t. g) (λ t. sample)))
    next_good found _ q h = absurd cc

    next_begins : (s m : List A) (w r : List Token) → Next s m w → (q : Parser (List A)) × (next_item p s (first (w ++ r)) ≡ Some q)
    next_begins s m w r x = (take >> p >>= λ y. pure (s ++ y ∷ []), ap (next_item p s) (next_first s m w r x))

    next_moves : (s m : List A) (w : List Token) → Next s m w → 0 < length w
    next_moves s m w x = omega (arith, ap length x.derives.parts)

    comma_stops : (found : List A) (c : Class) → Closes c → next_item p found c ≡ None
    comma_stops found (class.Mark sign.Comma) h = absurd (h.1 refl)
    comma_stops found _ h = refl

    comma_more : (found : List A) (c : Class) (q : Parser (List A)) → next_item p found c ≡ Some q → F c
    comma_more found (class.Mark sign.Comma) q h = comma
    comma_more found _ q h = absurd cc

    more_good : (found : List A) → Good bar Any d d Closes (Turns Next found) (more_items p found)
    unfolding more_items
    more_good = repeat_good bar barred d (next_item p) Next Closes F next_good next_begins next_moves comma_stops (λ s. refl) (λ c e. e.0) comma_more

    turns_first : {s f : List A} {w : List Token} → Turns Next s f w → (r : List Token) → Closes (first r) → F (first (w ++ r))
    turns_first (done s) r e = e.0
    turns_first (turn {s} {m} {f} {w} {v} x y) r e =
        let head : first ((w ++ v) ++ r) ≡ class.Mark sign.Comma = ap first (append_assoc w v r) ∙ next_first s m w (v ++ r) x in
        subst F (sym head) comma

    pub listed_good : Good bar Any d d Closes (Listed D) (listed_rule p)
    unfolding listed_rule
    listed_good = convert bar barred (p >>= λ x. more_items p (x ∷ []))
        (in_turn bar barred {F = λ t. Turns Next (t ∷ [])} p (λ x. more_items p (x ∷ [])) g (λ t. more_good (t ∷ [])) (λ t. (t ∷ [], [], done (t ∷ []))) (λ a b w r x e. turns_first x r e))
        (λ k e. e) (λ k e. e) to_listed (λ a u r x h e. from_listed x)

pub listed_first : {A : Type 0} {D : A → List Token → Type 0} (E : Class → Type 0) → ((a : A) (u r : List Token) → D a u → E (first (u ++ r))) → {xs : List A} {u : List Token} → Listed D xs u → (r : List Token) → E (first (u ++ r))
listed_first E h (listed {a} {xs} {u} {w} x y) r = subst (λ (v : List Token). E (first v)) (sym (append_assoc u w r)) (h a u (w ++ r) x)
