-- Where a parser stops, nothing of the grammar goes on; and each text has one tree.
use Rattle.std.proofs.Common.{◌≡◌, ◌≢◌, ℕ, zero, suc, ◌+◌, ◌≤◌, List, [], ◌∷◌, ◌++◌, length, Some, Ok, Err, refl, sym, ap, subst, ◌∙◌, inl, inr, length-append, arith}
use Rattle.std.proofs.lemmas.List.{append-nil}
use Rattle.postquel_tokens.specs.declared.token.Token.{Token}
use Rattle.postquel_tokens.specs.declared.fault.What.{What}
use Rattle.postquel_tokens.specs.declared.fault.What.TheVariants as what
use Rattle.postquel.specs.declared.class.Class.{Class}
use Rattle.postquel.specs.declared.class.Class.TheVariants as class
use Rattle.postquel_tokens.specs.declared.token.Sign.TheVariants as sign
use Rattle.postquel_tokens.specs.Forms.{Phrase}
use Rattle.postquel.specs.declared.level.Level.TheVariants as level
use Rattle.postquel.specs.Input.{Input, Stop, Outcome, Parser, first}
use Rattle.postquel.specs.Grammar.{disjunction, nested}
use Rattle.postquel.specs.Class.{looks}
use Rattle.postquel.specs.Syntax.{nest_step, opt_then, nest, Derives}
use Rattle.postquel.proofs.Good.{at, Good}
use Rattle.postquel.proofs.Combine.{Any}
use Rattle.postquel.proofs.Forms.{whole_good}

ok_err : {A : Type 0} (o : Outcome A) (x : A × Input) (s : Stop) → o ≡ Ok x → o ≡ Err s → ⊥
ok_err (Ok y) x s p q = absurd cc
ok_err (Err t) x s p q = absurd cc

err_one : {A : Type 0} (o : Outcome A) (s t : Stop) → o ≡ Err s → o ≡ Err t → s ≡ t
err_one (Ok y) s t p q = absurd cc
err_one (Err u) s t p q = cc

pub ok_one : {A : Type 0} (o : Outcome A) (x y : A × Input) → o ≡ Ok x → o ≡ Ok y → x ≡ y
ok_one (Ok z) x y p q = cc
ok_one (Err u) x y p q = absurd cc

module _ (bar : What) (barred : bar ≢ what.Unexpected) where
  module _ {A : Type 0} (d e : ℕ) (E : Class → Type 0) (D : A → List Token → Type 0) (p : Parser A) (g : Good bar Any d e E D p) (ends : E class.End) where
    -- with the token that is refused, nothing of the grammar begins
    pub not_viable : (rest : List Token) (room : ℕ) (s : Stop) (h : p (at bar rest room) ≡ Err s) → s.what ≡ what.Unexpected → (t : Token) (more : List Token) → s.rest ≡ t ∷ more
        → (a : A) (w : List Token) → D a ((g.halted rest room s tt h).used ++ t ∷ w) → ⊥
    not_viable rest room s h un t more is a w derives =
        let x = g.halted rest room s tt h in
        let err = x.local (t ∷ w) (sym (ap first is)) in
        let err2 = subst (λ (v : List Token). p (at bar v room) ≡ Err (record { what = s.what; rest = t ∷ w })) (sym (append-nil (x.used ++ t ∷ w))) err in
        elim (g.again a (x.used ++ t ∷ w) [] room derives ends tt) [
          | inl y ↦ ok_err (p (at bar ((x.used ++ t ∷ w) ++ []) room)) (a, at bar [] y.0) (record { what = s.what; rest = t ∷ w }) y.1 err2
          | inr y ↦ y.2 (ap (λ (z : Stop). z.what) (err_one (p (at bar ((x.used ++ t ∷ w) ++ []) room)) y.0 (record { what = s.what; rest = t ∷ w }) y.1 err2) ∙ un)
        ]

    -- at the end, what was read is nothing whole
    pub not_whole : (rest : List Token) (room : ℕ) (s : Stop) (h : p (at bar rest room) ≡ Err s) → s.what ≡ what.Unexpected → first s.rest ≡ class.End → (a : A) → D a (g.halted rest room s tt h).used → ⊥
    not_whole rest room s h un is a derives =
        let x = g.halted rest room s tt h in
        let err = x.local s.rest refl in
        elim (g.again a x.used s.rest room derives (subst E (sym is) ends) tt) [
          | inl y ↦ ok_err (p (at bar (x.used ++ s.rest) room)) (a, at bar s.rest y.0) (record { what = s.what; rest = s.rest }) y.1 err
          | inr y ↦ y.2 (ap (λ (z : Stop). z.what) (err_one (p (at bar (x.used ++ s.rest) room)) y.0 (record { what = s.what; rest = s.rest }) y.1 err) ∙ un)
        ]

step : (c : Class) (d e : ℕ) (u : List Token) → ((k : ℕ) → nest k u ≡ Some e → k ≤ e + length u) → opt_then (nest_step c d) (λ k. nest k u) ≡ Some e → d ≤ e + suc (length u)
step (class.Mark sign.Left) zero e u low h = absurd cc
step (class.Mark sign.Left) (suc d) e u low h = omega (arith, low d h)
step (class.Mark sign.Right) d e u low h = omega (arith, low (suc d) h)
step _ d e u low h = omega (arith, low d h)

nest_low : (d e : ℕ) (u : List Token) → nest d u ≡ Some e → d ≤ e + length u
nest_low d e [] h = let same : d ≡ e = cc in omega arith
nest_low d e (t ∷ u) h = step (looks t) d e u (λ k q. nest_low k e u q) h

-- with room for all, what is derived is taken
taken : (f : Phrase) (u : List Token) → Derives level.Or f u → (spare : ℕ) × (disjunction (nested (suc (length u))) (at what.TooDeep (u ++ []) (suc (length u))) ≡ Ok (f, at what.TooDeep [] spare))
taken f u x =
    let n : ℕ = suc (length u) in
    let bar : what.TooDeep ≢ what.Unexpected = λ e. absurd cc in
    let g = whole_good what.TooDeep bar n in
    elim (g.again f u [] n x refl tt) [
      | inl y ↦ y
      | inr y ↦
          let z = g.halted (u ++ []) n y.0 tt y.1 in
          let total : length u ≡ length z.used + length y.0.rest = omega (arith, ap length z.split, length-append u [], length-append z.used y.0.rest) in
          absurd (elim z.end [
            | inl q ↦ y.2 q.0
            | inr l ↦ elim l.which [
              | inl q ↦ omega (arith, nest_low n 0 z.used q.2)
              | inr q ↦ omega (arith, q.1, total)
            ]
          ])
    ]

-- No list of tokens has two trees.
pub one_tree : (f g : Phrase) (u : List Token) → Derives level.Or f u → Derives level.Or g u → f ≡ g
one_tree f g u x y =
    let p = taken f u x in
    let q = taken g u y in
    ap (λ (z : Phrase × Input). z.0) (ok_one (disjunction (nested (suc (length u))) (at what.TooDeep (u ++ []) (suc (length u)))) (f, at what.TooDeep [] p.0) (g, at what.TooDeep [] q.0) p.1 q.1)
