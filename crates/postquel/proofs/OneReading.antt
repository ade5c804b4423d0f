-- Two readings of one list of tokens are equal.
use Rattle.std.proofs.Common.{◌≡◌, ◌≢◌, ◌⊎◌, ℕ, List, [], ◌∷◌, ◌++◌, length, Some, None, Ok, Err, refl, sym, ap, subst, ◌∙◌, inl, inr, append_assoc, length-append, arith}
use Rattle.std.proofs.lemmas.List.{append-nil}
use Rattle.postquel_tokens.specs.declared.fault.Spot.{Spot}
use Rattle.postquel_tokens.specs.declared.fault.What.{What}
use Rattle.postquel_tokens.specs.declared.fault.What.TheVariants as what
use Rattle.postquel_tokens.specs.declared.token.Token.{Token}
use Rattle.postquel_tokens.specs.declared.token.Sign.TheVariants as sign
use Rattle.postquel.specs.declared.class.Class.TheVariants as class
use Rattle.postquel.specs.Class.{looks}
use Rattle.postquel.specs.Program.{Program}
use Rattle.postquel.specs.Input.{Input}
use Rattle.postquel.specs.Script.{script}
use Rattle.postquel.specs.Statement.{IsScript}
use Rattle.postquel.specs.Syntax.{nest_step, opt_then, nest}
use Rattle.postquel.specs.Reading.{Begins, Free, Whole, IsUnexpected, Passes, Faulty, OneReading}
use Rattle.postquel.proofs.Good.{nest-append, at}
use Rattle.postquel.proofs.Statements.{script_good}
use Rattle.postquel.proofs.Viable.{ok_one}

-- ---- two cuts of one list

abbrev Cuts : List Token → Token → List Token → Token → Type 0
Cuts u t v s = ((u ≡ v) × (t ≡ s)) ⊎ (((w : List Token) × (v ≡ u ++ t ∷ w)) ⊎ ((w : List Token) × (u ≡ v ++ s ∷ w)))

one_more : (x y : Token) (u v : List Token) (t s : Token) → x ≡ y → Cuts u t v s → Cuts (x ∷ u) t (y ∷ v) s
one_more x y u v t s e (inl c) = inl (let p : u ≡ v = c.0 in cc, c.1)
one_more x y u v t s e (inr (inl c)) = inr (inl (c.0, let p : v ≡ u ++ t ∷ c.0 = c.1 in cc))
one_more x y u v t s e (inr (inr c)) = inr (inr (c.0, let p : u ≡ v ++ s ∷ c.0 = c.1 in cc))

cuts : (u v : List Token) (t s : Token) (r q : List Token) → u ++ t ∷ r ≡ v ++ s ∷ q → Cuts u t v s
cuts [] [] t s r q e = inl (refl, cc)
cuts [] (y ∷ v) t s r q e = inr (inl (v, let same : t ≡ y = cc in ap (λ (z : Token). z ∷ v) (sym same)))
cuts (x ∷ u) [] t s r q e = inr (inr (u, let same : x ≡ s = cc in ap (λ (z : Token). z ∷ u) same))
cuts (x ∷ u) (y ∷ v) t s r q e = let same : x ≡ y = cc in let rest : u ++ t ∷ r ≡ v ++ s ∷ q = cc in one_more x y u v t s same (cuts u v t s r q rest)

same_front : (u v : List Token) (t s : Token) → u ++ t ∷ [] ≡ v ++ s ∷ [] → u ≡ v
same_front u v t s e = elim (cuts u v t s [] [] e) [
  | inl c ↦ c.0
  | inr c ↦ elim c [
    | inl d ↦ absurd (omega (arith, ap length e, length-append u (t ∷ []), length-append v (s ∷ []), ap length d.1, length-append u (t ∷ d.0)))
    | inr d ↦ absurd (omega (arith, ap length e, length-append u (t ∷ []), length-append v (s ∷ []), ap length d.1, length-append v (s ∷ d.0)))
  ]
]

-- ---- past a token that is at fault no script goes on

too_deep : (u w : List Token) (t : Token) (left : ℕ) → looks t ≡ class.Mark sign.Left → nest 32 u ≡ Some 0 → nest 32 (u ++ t ∷ w) ≡ Some left → ⊥
too_deep u w t left l z e =
    let none : nest 32 (u ++ t ∷ w) ≡ None = nest-append 32 u (t ∷ w) ∙ ap (λ o. opt_then o (λ k. nest k (t ∷ w))) z ∙ ap (λ c. opt_then (nest_step c 0) (λ k. nest k w)) l in
    absurd cc

blocked : (all : List Token) (w : What) (p : Spot) (f : Faulty all w p) (v more : List Token) → v ≡ f.used ++ f.token ∷ more → Free all v → Begins v → ⊥
blocked all w p f v more e free begins = elim f.why [
  | inl y ↦ y.1.none begins.script (more ++ begins.more) (subst (IsScript begins.script) (ap (λ (x : List Token). x ++ begins.more) e ∙ append_assoc f.used (f.token ∷ more) begins.more) begins.is)
  | inr y ↦ elim y.1.1 [
    | inl d ↦ too_deep f.used more f.token free.left d.1 d.2 (subst (λ (x : List Token). nest 32 x ≡ Some free.left) e free.nests)
    | inr d ↦ omega (arith, free.counts, d.1, ap length e, length-append f.used (f.token ∷ more))
  ]
]

-- ---- one script

one_script : (all : List Token) (limit : What) (is_limit : limit ≢ what.Unexpected) (a b : Program) (u : List Token) → Free all u → IsScript a u → IsScript b u → a ≡ b
one_script all limit is_limit a b u free x y =
    let g = script_good limit is_limit in
    let given : (c : Program) → IsScript c u → (spare : ℕ) × (script (at limit (u ++ []) (length u)) ≡ Ok (c, at limit [] spare)) = λ c z.
    elim (g.again c u [] (length u) z refl tt) [
      | inl k ↦ k
      | inr k ↦
          let h = g.halted (u ++ []) (length u) k.0 tt k.1 in
          absurd (elim h.end [
            | inl q ↦ k.2 q.0
            | inr l ↦
                let whole : u ≡ h.used ++ l.token ∷ l.more = sym (append-nil u) ∙ h.split ∙ ap (λ (v : List Token). h.used ++ v) l.next in
                elim l.which [
                  | inl q ↦ too_deep h.used l.more l.token free.left q.1 q.2 (subst (λ (v : List Token). nest 32 v ≡ Some free.left) whole free.nests)
                  | inr q ↦ omega (arith, q.1, ap length whole, length-append h.used (l.token ∷ l.more))
                ]
          ])
    ] in
    let p = given a x in
    let q = given b y in
    ap (λ (z : Program × Input). z.0) (ok_one (script (at limit (u ++ []) (length u))) (a, at limit [] p.0) (b, at limit [] q.0) p.1 q.1)

too_deep_limit : what.TooDeep ≢ what.Unexpected
too_deep_limit = λ e. absurd cc

both_whole : (all : List Token) (a b : Program) → Whole all a → Whole all b → a ≡ b
both_whole all a b x y =
    let same = same_front x.text.tokens y.text.tokens x.text.end y.text.end (sym x.text.parts ∙ y.text.parts) in
    one_script all what.TooDeep too_deep_limit a b y.text.tokens y.free (subst (IsScript a) same x.is) y.is

whole_fault : (all : List Token) (a : Program) (w : What) (p : Spot) → Whole all a → Faulty all w p → ⊥
whole_fault all a w p x f = elim (cuts x.text.tokens f.used x.text.end f.token [] f.rest (sym x.text.parts ∙ f.parts)) [
  | inl c ↦
      let last : looks f.token ≡ class.End = ap looks (sym c.1) ∙ x.text.is_end in
      elim f.why [
        | inl y ↦ y.1.unfinished last a (subst (IsScript a) c.0 x.is)
        | inr y ↦ y.1.0 last
      ]
  | inr c ↦ elim c [
    | inl d ↦ omega (arith, ap length (sym x.text.parts ∙ f.parts), length-append x.text.tokens (x.text.end ∷ []), length-append f.used (f.token ∷ f.rest), ap length d.1, length-append x.text.tokens (x.text.end ∷ d.0))
    | inr d ↦ blocked all w p f x.text.tokens d.0 d.1 x.free (record { script = a; more = []; is = subst (IsScript a) (sym (append-nil x.text.tokens)) x.is })
  ]
]

abbrev fault : What → Spot → What × Spot
fault w p = (w, p)

pair : (w v : What) (p q : Spot) → w ≡ v → p ≡ q → fault w p ≡ fault v q
pair w v p q e h = cc

same_why : (all used : List Token) (t : Token) (w v : What) → ((w ≡ what.Unexpected) × IsUnexpected used t) ⊎ (Begins (used ++ t ∷ []) × Passes all used t w) → ((v ≡ what.Unexpected) × IsUnexpected used t) ⊎ (Begins (used ++ t ∷ []) × Passes all used t v) → w ≡ v
same_why all used t w v (inl x) (inl y) = x.0 ∙ sym y.0
same_why all used t w v (inl x) (inr y) = absurd (x.1.none y.0.script y.0.more (subst (IsScript y.0.script) (append_assoc used (t ∷ []) y.0.more) y.0.is))
same_why all used t w v (inr x) (inl y) = absurd (y.1.none x.0.script x.0.more (subst (IsScript x.0.script) (append_assoc used (t ∷ []) x.0.more) x.0.is))
same_why all used t w v (inr x) (inr y) = elim x.1.1 [
  | inl c ↦ elim y.1.1 [
    | inl d ↦ c.0 ∙ sym d.0
    | inr d ↦ absurd (d.2 c.1 c.2)
  ]
  | inr c ↦ elim y.1.1 [
    | inl d ↦ absurd (c.2 d.1 d.2)
    | inr d ↦ c.0 ∙ sym d.0
  ]
]

both_faulty : (all : List Token) (w v : What) (p q : Spot) → Faulty all w p → Faulty all v q → fault w p ≡ fault v q
both_faulty all w v p q f g = elim (cuts f.used g.used f.token g.token f.rest g.rest (sym f.parts ∙ g.parts)) [
  | inl c ↦
      let why = subst (λ (u : List Token). ((w ≡ what.Unexpected) × IsUnexpected u g.token) ⊎ (Begins (u ++ g.token ∷ []) × Passes all u g.token w)) c.0
      (subst (λ (t : Token). ((w ≡ what.Unexpected) × IsUnexpected f.used t) ⊎ (Begins (f.used ++ t ∷ []) × Passes all f.used t w)) c.1 f.why) in
      pair w v p q (same_why all g.used g.token w v why g.why) (f.there ∙ ap (λ (t : Token). t.spot) c.1 ∙ sym g.there)
  | inr c ↦ elim c [
    | inl d ↦ absurd (blocked all w p f g.used d.0 d.1 g.free g.begins)
    | inr d ↦ absurd (blocked all v q g f.used d.0 d.1 f.free f.begins)
  ]
]

pub one_reading : OneReading
one_reading all (Ok a) (Ok b) x y = ap (λ (s : Program). Ok s) (both_whole all a b x y)
one_reading all (Ok a) (Err f) x y = absurd (whole_fault all a f.0 f.1 x y)
one_reading all (Err f) (Ok b) x y = absurd (whole_fault all b f.0 f.1 y x)
one_reading all (Err f) (Err g) x y = ap (λ (e : What × Spot). Err e) (both_faulty all f.0 g.0 f.1 g.1 x y)
