-- Lists with commas, and parts that may be absent, are read again where their items are.
use Rattle.std.proofs.Common.{◌≡◌, ℕ, List, [], ◌∷◌, ◌++◌, refl, ap, ◌∙◌}
use Rattle.std.specs.Prelude.{codes, map}
use Rattle.postquel_tokens.specs.declared.token.Token.{Token}
use Rattle.postquel_tokens.specs.declared.token.Sign.TheVariants as sign
use Rattle.postquel.specs.declared.class.Class.TheVariants as class
use Rattle.postquel.specs.Class.{looks}
use Rattle.postquel.specs.Parts.{More, none, more, Listed, listed}
use Rattle.postquel.specs.Print.{further, joined}
use Rattle.postquel_round_trip.proofs.Trims.{Trims, none as no_tokens, trims_append}
use Rattle.postquel_round_trip.proofs.Lexing.{Gives, Apart, Both, both, One, one, then, means, nothing}
use Rattle.postquel_round_trip.proofs.Fixed.{comma_gives}
use Rattle.postquel_round_trip.proofs.Expressions.{keep_one}
use Rattle.postquel_round_trip.proofs.Valid.{Valid, valid_left, valid_right}

-- the same thing but for places, from tokens of which some were left out
pub record Kept {A : Type 0} (bare : A → A) (D : A → List Token → Type 0) (a : A) (u ts : List Token) : Type 0 where
  pub again : A
  pub derives : D again ts
  pub same : bare again ≡ bare a
  pub trims : Trims u ts

module _ {A : Type 0} (bare : A → A) (D : A → List Token → Type 0) (f : A → List ℕ) (each : (a : A) (u : List Token) → D a u → Valid u → Gives (f a) Apart (Kept bare D a u)) where
  apart_further : (xs : List A) (r : List ℕ) → Apart r → Apart (further f xs ++ r)
  apart_further [] r p = p
  apart_further (x ∷ xs) r p = (refl, refl)

  put : A → List A → List A
  put x xs = x ∷ xs

  more_same : (c : Token) (a : A) (xs : List A) (u w : List Token) → looks c ≡ class.Mark sign.Comma → (ts : List Token)
      → Both (One (class.Mark sign.Comma)) (Both (Kept bare D a u) (Kept (map bare) (More D) xs w)) ts → Kept (map bare) (More D) (a ∷ xs) (c ∷ (u ++ w)) ts
  unfolding put
  more_same c a xs u w e _ (both (one s p) (both x y)) =
      record {
        again = x.again ∷ y.again;
        derives = more s p x.derives y.derives;
        same = ap (λ (b : A). put b (map bare y.again)) x.same ∙ ap (λ (bs : List A). put (bare a) bs) y.same;
        trims = keep_one c s (class.Mark sign.Comma) (λ n. absurd cc) e p (trims_append x.trims y.trims);
      }

  more_prints : {xs : List A} {u : List Token} → More D xs u → Valid u → Gives (further f xs) Apart (Kept (map bare) (More D) xs u)
  more_prints none h = nothing Apart (Kept (map bare) (More D) [] []) (record { again = []; derives = none; same = refl; trims = no_tokens })
  more_prints (more {a} {xs} {u} {w} c e x y) h =
      means (codes ", " ++ (f a ++ further f xs)) (more_same c a xs u w e)
      (then (codes ", ") (f a ++ further f xs) comma_gives (λ r p. tt) (then (f a) (further f xs) (each a u x (valid_left u w h.1)) (apart_further xs) (more_prints y (valid_right u w h.1))))

  listed_same : (a : A) (xs : List A) (u w : List Token) → (ts : List Token) → Both (Kept bare D a u) (Kept (map bare) (More D) xs w) ts → Kept (map bare) (Listed D) (a ∷ xs) (u ++ w) ts
  unfolding put
  listed_same a xs u w _ (both x y) =
      record {
        again = x.again ∷ y.again;
        derives = listed x.derives y.derives;
        same = ap (λ (b : A). put b (map bare y.again)) x.same ∙ ap (λ (bs : List A). put (bare a) bs) y.same;
        trims = trims_append x.trims y.trims;
      }

  pub listed_prints : {xs : List A} {u : List Token} → Listed D xs u → Valid u → Gives (joined f xs) Apart (Kept (map bare) (Listed D) xs u)
  listed_prints (listed {a} {xs} {u} {w} x y) h =
      means (f a ++ further f xs) (listed_same a xs u w) (then (f a) (further f xs) (each a u x (valid_left u w h)) (apart_further xs) (more_prints y (valid_right u w h)))
