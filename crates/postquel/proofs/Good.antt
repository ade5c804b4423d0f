-- What a parser owes to a relation: what it takes is derived, what is derived is taken again, and it stops where nothing goes on.
use Rattle.std.proofs.Common.{◌≡◌, ◌≢◌, ◌⊎◌, ℕ, ◌+◌, ◌≤◌, List, [], ◌∷◌, ◌++◌, length, Some, None, Ok, Err, refl, inl, inr}
use Rattle.postquel_tokens.specs.declared.token.Token.{Token}
use Rattle.postquel_tokens.specs.declared.fault.What.{What}
use Rattle.postquel_tokens.specs.declared.fault.What.TheVariants as what
use Rattle.postquel.specs.declared.class.Class.{Class}
use Rattle.postquel.specs.declared.class.Class.TheVariants as class
use Rattle.postquel_tokens.specs.declared.token.Sign.TheVariants as sign
use Rattle.postquel.specs.Input.{Input, Stop, Outcome, Parser, and_then, first}
use Rattle.postquel.specs.Class.{looks}
use Rattle.postquel.specs.Syntax.{nest_step, opt_then, nest}

-- ---- tokens

pub nest-append : (d : ℕ) (u w : List Token) → nest d (u ++ w) ≡ opt_then (nest d u) (λ e. nest e w)
nest-append d [] w = refl
nest-append d (t ∷ u) w =
    elim (nest_step (looks t) d) as (λ o. opt_then o (λ e. nest e (u ++ w)) ≡ opt_then (opt_then o (λ e. nest e u)) (λ e. nest e w)) [
      | None ↦ refl
      | Some e ↦ nest-append e u w
    ]

pub nest_both : (d e f : ℕ) (u w : List Token) → nest d u ≡ Some e → nest e w ≡ Some f → nest d (u ++ w) ≡ Some f
nest_both d e f u w p q = rw (nest-append, p) q

pub same_first : (u r s : List Token) → first r ≡ first s → first (u ++ r) ≡ first (u ++ s)
same_first [] r s h = h
same_first (t ∷ u) r s h = refl

-- ---- outcomes

pub bind_ok : {A B : Type 0} (o : Outcome A) (f : A → Parser B) (b : B) (k : Input) → and_then o f ≡ Ok (b, k) → (a : A) × (j : Input) × (o ≡ Ok (a, j)) × (f a j ≡ Ok (b, k))
bind_ok (Ok x) f b k e = (x.0, x.1, refl, e)
bind_ok (Err s) f b k e = absurd cc

pub bind_err : {A B : Type 0} (o : Outcome A) (f : A → Parser B) (s : Stop) → and_then o f ≡ Err s → (o ≡ Err s) ⊎ ((a : A) × (j : Input) × (o ≡ Ok (a, j)) × (f a j ≡ Err s))
bind_err (Ok x) f s e = inr (x.0, x.1, refl, e)
bind_err (Err d) f s e = inl (cc)

-- what a grammar gives to a value
abbrev pub Rel : Type 0 → Type 1
Rel A = A → List Token → Type 0

pub record CanEnd {A : Type 0} (D : A → List Token → Type 0) (u : List Token) : Type 0 where
  pub value : A
  pub more : List Token
  pub derives : D value (u ++ more)

pub record Then {A B : Type 0} (D : A → List Token → Type 0) (F : A → B → List Token → Type 0) (b : B) (u : List Token) : Type 0 where
  pub middle : A
  pub front : List Token
  pub back : List Token
  pub parts : u ≡ front ++ back
  pub one : D middle front
  pub two : F middle b back

-- no token is the end
abbrev pub Clean : List Token → Type 0
Clean [] = Unit {0}
Clean (t ∷ ts) = (looks t ≢ class.End) × Clean ts

pub clean_both : (u w : List Token) → Clean u → Clean w → Clean (u ++ w)
clean_both [] w p q = q
clean_both (t ∷ u) w p q = (p.0, clean_both u w p.1 q)

abbrev pub at : What → List Token → ℕ → Input
at bar rest room = record { rest = rest; room = room; bar = bar }

module _ (bar : What) where
  pub record Took {A : Type 0} (p : Parser A) (D : A → List Token → Type 0) (d e : ℕ) (rest : List Token) (room : ℕ) (a : A) (j : Input) : Type 0 where
    pub used : List Token
    pub left : List Token
    pub spare : ℕ
    pub is : j ≡ at bar left spare
    pub split : rest ≡ used ++ left
    pub spent : room ≡ length used + spare
    pub derives : D a used
    pub nests : nest d used ≡ Some e
    pub clean : Clean used
    pub local : (r : List Token) → first r ≡ first left → p (at bar (used ++ r) room) ≡ Ok (a, at bar r spare)

  -- the limit that a token passes
  pub record Limit {A : Type 0} (D : A → List Token → Type 0) (d : ℕ) (used : List Token) (room : ℕ) (why : What) (rest : List Token) : Type 0 where
    pub token : Token
    pub more : List Token
    pub next : rest ≡ token ∷ more
    pub real : looks token ≢ class.End
    pub can : CanEnd D (used ++ token ∷ [])
    pub which : ((why ≡ what.TooDeep) × (looks token ≡ class.Mark sign.Left) × (nest d used ≡ Some 0)) ⊎ ((why ≡ bar) × (room ≡ length used) × (looks token ≡ class.Mark sign.Left → nest d used ≡ Some 0 → ⊥))

  pub record Halted {A : Type 0} (p : Parser A) (D : A → List Token → Type 0) (d : ℕ) (rest : List Token) (room : ℕ) (s : Stop) : Type 0 where
    pub used : List Token
    pub split : rest ≡ used ++ s.rest
    pub depth : ℕ
    pub nests : nest d used ≡ Some depth
    pub within : length used ≤ room
    pub clean : Clean used
    pub local : (r : List Token) → first r ≡ first s.rest → p (at bar (used ++ r) room) ≡ Err (record { what = s.what; rest = r })
    pub end : ((s.what ≡ what.Unexpected) × CanEnd D used) ⊎ Limit D d used room s.what s.rest

  abbrev pub Again : {A : Type 0} → Parser A → A → List Token → List Token → ℕ → Type 0
  Again p a u r room = ((spare : ℕ) × (p (at bar (u ++ r) room) ≡ Ok (a, at bar r spare))) ⊎ ((s : Stop) × (p (at bar (u ++ r) room) ≡ Err s) × (s.what ≢ what.Unexpected))

  -- H: which token comes first; E: which token follows
  pub record Good {A : Type 0} (H : Class → Type 0) (d e : ℕ) (E : Class → Type 0) (D : A → List Token → Type 0) (p : Parser A) : Type 0 where
    pub took : (rest : List Token) (room : ℕ) (a : A) (j : Input) → H (first rest) → p (at bar rest room) ≡ Ok (a, j) → Took p D d e rest room a j
    pub halted : (rest : List Token) (room : ℕ) (s : Stop) → H (first rest) → p (at bar rest room) ≡ Err s → Halted p D d rest room s
    pub again : (a : A) (u r : List Token) (room : ℕ) → D a u → E (first r) → H (first (u ++ r)) → Again p a u r room
