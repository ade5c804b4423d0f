-- Tokens of which some are left out: pairs of parentheses, and others that neither open nor close.
use Rattle.std.proofs.Common.{◌≡◌, ◌≢◌, ℕ, zero, suc, ◌≤◌, List, [], ◌∷◌, ◌++◌, length, Option, Some, None, refl, sym, ap, subst, ◌∙◌, append_assoc, length-append, arith}
use Rattle.postquel_tokens.specs.declared.token.Token.{Token}
use Rattle.postquel_tokens.specs.declared.token.Sign.TheVariants as sign
use Rattle.postquel.specs.declared.class.Class.{Class}
use Rattle.postquel.specs.declared.class.Class.TheVariants as class
use Rattle.postquel.specs.Class.{looks}
use Rattle.postquel.specs.Syntax.{nest_step, opt_then, nest}
use Rattle.postquel.proofs.Good.{nest-append, nest_both}

pub data Trims : List Token → List Token → Type 0 where
  none : Trims [] []
  keep : {u w : List Token} (t s : Token) → looks t ≡ looks s → looks t ≢ class.Mark sign.Go → Trims u w → Trims (t ∷ u) (s ∷ w)
  omit : {u w : List Token} (t : Token) → ((d : ℕ) → nest_step (looks t) d ≡ Some d) → looks t ≢ class.Mark sign.Go → Trims u w → Trims (t ∷ u) w
  shed : {u w v x : List Token} (l r : Token) → looks l ≡ class.Mark sign.Left → looks r ≡ class.Mark sign.Right → Trims u w → Trims v x → Trims (l ∷ (u ++ r ∷ v)) (w ++ x)

pub trims_append : {u w v x : List Token} → Trims u w → Trims v x → Trims (u ++ v) (w ++ x)
trims_append none y = y
trims_append (keep t s p g x) y = keep t s p g (trims_append x y)
trims_append (omit t f g x) y = omit t f g (trims_append x y)
trims_append {v = z} {x = o} (shed {u} {w} {v} {x} l r p q a b) y =
    let inner : Trims (l ∷ (u ++ r ∷ (v ++ z))) (w ++ (x ++ o)) = shed l r p q a (trims_append b y) in
    subst (λ (m : List Token). Trims (l ∷ m) ((w ++ x) ++ o)) (sym (append_assoc u (r ∷ v) z)) (subst (λ (m : List Token). Trims (l ∷ (u ++ r ∷ (v ++ z))) m) (sym (append_assoc w x o)) inner)

pub trims_length : {u w : List Token} → Trims u w → length w ≤ length u
trims_length none = omega arith
trims_length (keep t s p g x) = omega (arith, trims_length x)
trims_length (omit t f g x) = omega (arith, trims_length x)
trims_length (shed {u} {w} {v} {x} l r p q a b) = omega (arith, trims_length a, trims_length b, length-append u (r ∷ v), length-append w x)

-- ---- no deeper

step_raise : (c : Class) (d e : ℕ) → nest_step c d ≡ Some e → nest_step c (suc d) ≡ Some (suc e)
step_raise (class.Mark sign.Left) zero e h = absurd cc
step_raise (class.Mark sign.Left) (suc d) e h = let same : d ≡ e = cc in ap (λ (n : ℕ). Some (suc n)) same
step_raise (class.Mark sign.Right) d e h = let same : suc d ≡ e = cc in ap (λ (n : ℕ). Some (suc n)) same
step_raise _ d e h = let same : d ≡ e = cc in ap (λ (n : ℕ). Some (suc n)) same

pub opt_some : (o : Option ℕ) (f : ℕ → Option ℕ) (e : ℕ) → opt_then o f ≡ Some e → (k : ℕ) × (o ≡ Some k) × (f k ≡ Some e)
opt_some None f e h = absurd cc
opt_some (Some k) f e h = (k, refl, h)

raise : (w : List Token) (d e : ℕ) → nest d w ≡ Some e → nest (suc d) w ≡ Some (suc e)
raise [] d e h = let same : d ≡ e = cc in ap (λ (n : ℕ). Some (suc n)) same
raise (t ∷ w) d e h =
    let x = opt_some (nest_step (looks t) d) (λ k. nest k w) e h in
    ap (λ o. opt_then o (λ k. nest k w)) (step_raise (looks t) d x.0 x.1) ∙ raise w x.0 e x.2

left_step : (c : Class) (d e : ℕ) → c ≡ class.Mark sign.Left → nest_step c d ≡ Some e → d ≡ suc e
left_step (class.Mark sign.Left) zero e p h = absurd cc
left_step (class.Mark sign.Left) (suc d) e p h = let same : d ≡ e = cc in ap (λ (n : ℕ). suc n) same
left_step _ d e p h = absurd cc

pub trims_nest : {u w : List Token} → Trims u w → (d e : ℕ) → nest d u ≡ Some e → nest d w ≡ Some e
trims_nest none d e h = h
trims_nest (keep {u} {w} t s p g x) d e h =
    let a = opt_some (nest_step (looks t) d) (λ k. nest k u) e h in
    ap (λ c. opt_then (nest_step c d) (λ k. nest k w)) (sym p) ∙ ap (λ o. opt_then o (λ k. nest k w)) a.1 ∙ trims_nest x a.0 e a.2
trims_nest (omit {u} {w} t f g x) d e h =
    trims_nest x d e (ap (λ o. opt_then o (λ k. nest k u)) (sym (f d)) ∙ h)
trims_nest (shed {u} {w} {v} {x} l r p q a b) d e h =
    let one = opt_some (nest_step (looks l) d) (λ k. nest k (u ++ r ∷ v)) e h in
    let two = opt_some (nest one.0 u) (λ k. nest k (r ∷ v)) e (sym (nest-append one.0 u (r ∷ v)) ∙ one.2) in
    let deep : d ≡ suc one.0 = left_step (looks l) d one.0 p one.1 in
    let inner : nest (suc one.0) w ≡ Some (suc two.0) = raise w one.0 two.0 (trims_nest a one.0 two.0 two.1) in
    let outer : nest (suc two.0) x ≡ Some e = trims_nest b (suc two.0) e (ap (λ c. opt_then (nest_step c two.0) (λ k. nest k v)) (sym q) ∙ two.2) in
    subst (λ (k : ℕ). nest k (w ++ x) ≡ Some e) (sym deep) (nest_both (suc one.0) (suc two.0) e w x inner outer)

-- ---- all within one statement

abbrev pub NoGo : List Token → Type 0
NoGo [] = Unit {0}
NoGo (t ∷ ts) = (looks t ≢ class.Mark sign.Go) × NoGo ts

no_go_both : (u w : List Token) → NoGo u → NoGo w → NoGo (u ++ w)
no_go_both [] w h k = k
no_go_both (t ∷ u) w h k = (h.0, no_go_both u w h.1 k)

left_no_go : (c : Class) → c ≡ class.Mark sign.Left → c ≢ class.Mark sign.Go
left_no_go c p = λ e. let no : class.Mark sign.Left ≡ class.Mark sign.Go = sym p ∙ e in absurd cc

right_no_go : (c : Class) → c ≡ class.Mark sign.Right → c ≢ class.Mark sign.Go
right_no_go c p = λ e. let no : class.Mark sign.Right ≡ class.Mark sign.Go = sym p ∙ e in absurd cc

pub trims_within : {u w : List Token} → Trims u w → NoGo u × NoGo w
trims_within none = (tt, tt)
trims_within (keep t s p g x) = let h = trims_within x in ((g, h.0), (λ e. g (p ∙ e), h.1))
trims_within (omit t f g x) = let h = trims_within x in ((g, h.0), h.1)
trims_within (shed {u} {w} {v} {x} l r p q a b) =
    let h = trims_within a in
    let k = trims_within b in
    ((left_no_go (looks l) p, no_go_both u (r ∷ v) h.0 (right_no_go (looks r) q, k.0)), no_go_both w x h.1 k.1)
