-- The tokens of a text are a script, or there is a first token with which no script goes on, or a limit is met first.
use Rattle.std.proofs.Common.{◌≡◌, ◌≢◌, ℕ, ◌≤◌, List, [], ◌∷◌, ◌++◌, length, Some, Ok, Err, refl, sym, ap, subst, ◌∙◌, inl, inr, arith}
use Rattle.postquel_tokens.specs.declared.token.Token.{Token}
use Rattle.postquel_tokens.specs.declared.fault.What.{What}
use Rattle.postquel_tokens.specs.declared.fault.What.TheVariants as what
use Rattle.postquel.specs.declared.class.Class.TheVariants as class
use Rattle.postquel.specs.Program.{Program}
use Rattle.postquel.specs.Input.{Input, Stop, first}
use Rattle.postquel.specs.Script.{script}
use Rattle.postquel.specs.Statement.{IsScript}
use Rattle.postquel.specs.Class.{looks}
use Rattle.postquel.specs.Syntax.{nest}
use Rattle.postquel.proofs.Good.{Clean, CanEnd, at}
use Rattle.postquel.proofs.Statements.{script_good, script_end}
use Rattle.postquel.proofs.Viable.{not_viable}

cut : (ts used left : List Token) (e : Token) → Clean ts → Clean used → looks e ≡ class.End → first left ≡ class.End → ts ++ e ∷ [] ≡ used ++ left → used ≡ ts
cut [] [] left e p q end last h = refl
cut [] (u ∷ used) left e p q end last h = let same : e ≡ u = cc in absurd (q.0 (ap looks (sym same) ∙ end))
cut (t ∷ ts) [] left e p q end last h = absurd (p.0 (ap first h ∙ last))
cut (t ∷ ts) (u ∷ used) left e p q end last h =
    let same : t ≡ u = cc in
    let rest : ts ++ e ∷ [] ≡ used ++ left = cc in
    let tail = cut ts used left e p.1 q.1 end last rest in
    cc

module _ (bar : What) (barred : bar ≢ what.Unexpected) (ts : List Token) (e : Token) (clean : Clean ts) (end : looks e ≡ class.End) (room : ℕ) where
  abbrev all : List Token
  all = ts ++ e ∷ []

  pub whole : (s : Program) (j : Input) → script (at bar all room) ≡ Ok (s, j) → IsScript s ts × (length ts ≤ room) × (nest 32 ts ≡ Some 32)
  whole s j h =
      let t = (script_good bar barred).took all room s j tt h in
      let last : first t.left ≡ class.End = ap (λ (i : Input). first i.rest) (sym t.is) ∙ script_end bar barred all room s j h in
      let same = cut ts t.used t.left e clean t.clean end last t.split in
      (subst (IsScript s) same t.derives, omega (arith, t.spent, ap length same), subst (λ (v : List Token). nest 32 v ≡ Some 32) same t.nests)

  -- where it stops, what was read begins a script
  pub begun : (h : Stop) → script (at bar all room) ≡ Err h → h.what ≡ what.Unexpected → (used : List Token) × (all ≡ used ++ h.rest) × CanEnd (IsScript) used
  begun h q un =
      let t = (script_good bar barred).halted all room h tt q in (
        t.used,
        t.split,
        elim t.end [
          | inl x ↦ x.1
          | inr l ↦ elim l.which [
            | inl x ↦ let no : what.TooDeep ≡ what.Unexpected = sym x.0 ∙ un in absurd cc
            | inr x ↦ absurd (barred (sym x.0 ∙ un))
          ]
        ],
      )

  -- and with the token there nothing begins one
  pub refused : (h : Stop) (q : script (at bar all room) ≡ Err h) → h.what ≡ what.Unexpected → (t : Token) (more : List Token) → h.rest ≡ t ∷ more
      → (s : Program) (w : List Token) → IsScript s (((script_good bar barred).halted all room h tt q).used ++ t ∷ w) → ⊥
  refused = not_viable bar barred 32 32 (λ c. c ≡ class.End) (IsScript) script (script_good bar barred) refl all room
