-- Whole scripts are read again, line by line.
use Rattle.std.proofs.Common.{◌≡◌, List, [], ◌∷◌, ◌++◌, refl, ap, ◌∙◌}
use Rattle.std.specs.Prelude.{codes, map}
use Rattle.postquel_tokens.specs.declared.token.Token.{Token}
use Rattle.postquel_tokens.specs.declared.token.Sign.TheVariants as sign
use Rattle.postquel_tokens.specs.declared.form.StepForm.{StepForm}
use Rattle.postquel_tokens.specs.Forms.{Sentence}
use Rattle.postquel.specs.declared.class.Class.TheVariants as class
use Rattle.postquel_tokens.specs.declared.name.Key.TheVariants as key
use Rattle.postquel.specs.Class.{looks}
use Rattle.postquel.specs.Parts.{OrNone, absent, present, Listed, listed}
use Rattle.postquel.specs.Print.{joined, step_text, sentence_text, sentences_text, machine_text, script_text}
use Rattle.postquel.specs.Program.{Program}
use Rattle.postquel.specs.Statement.{IsStep, IsMachine, machine, AreStatements, empty, next, IsScript, script}
use Rattle.postquel_round_trip.specs.Bare.{bare_step, bare_sentence, bare}
use Rattle.postquel_round_trip.proofs.Lexing.{Gives, Any, Both, both, One, one, then, means, nothing}
use Rattle.postquel_round_trip.proofs.Fixed.{go_gives, machine_gives}
use Rattle.postquel_round_trip.proofs.Parts.{Kept, listed_prints}
use Rattle.postquel_round_trip.proofs.Targets.{step_prints}
use Rattle.postquel_round_trip.proofs.Statements.{Line, line, KeptStatement, statement_prints}
use Rattle.postquel_round_trip.proofs.Valid.{Valid, valid_left, valid_right}

-- ---- the statements

pub data Lines : List Token → List Token → Type 0 where
  empty_lines : Lines [] []
  next_line : {u ts w xs : List Token} → Line (class.Key key.Retrieve) u ts → Lines w xs → Lines (u ++ w) (ts ++ xs)

pub record KeptStatements (ss : List Sentence) (u ts : List Token) : Type 0 where
  pub again : List Sentence
  pub derives : AreStatements again ts
  pub same : map bare_sentence again ≡ map bare_sentence ss
  pub lines : Lines u ts

put : Sentence → List Sentence → List Sentence
put s ss = s ∷ ss

next_same : (s : Sentence) (ss : List Sentence) (u w ts : List Token) → Both (KeptStatement s u) (KeptStatements ss w) ts → KeptStatements (s ∷ ss) (u ++ w) ts
unfolding put
next_same s ss u w _ (both x y) =
    record {
      again = x.again ∷ y.again;
      derives = next x.derives y.derives;
      same = ap (λ (z : Sentence). put z (map bare_sentence y.again)) x.same ∙ ap (λ (zs : List Sentence). put (bare_sentence s) zs) y.same;
      lines = next_line x.lines y.lines;
    }

pub statements_print : {ss : List Sentence} {u : List Token} → AreStatements ss u → Valid u → Gives (sentences_text ss) Any (KeptStatements ss u)
statements_print empty h = nothing Any (KeptStatements [] []) (record { again = []; derives = empty; same = refl; lines = empty_lines })
statements_print (next {s} {ss} {u} {w} x y) h =
    means (sentence_text s ++ sentences_text ss) (next_same s ss u w)
    (then (sentence_text s) (sentences_text ss) (statement_prints s u x (valid_left u w h)) (λ r p. tt) (statements_print y (valid_right u w h)))

-- ---- the machine line

-- there is none, or there is this
pub data MachineLine : List Token → List Token → Type 0 where
  no_machine : MachineLine [] []
  machine_line : {u ts : List Token} → Line (class.Key key.Machine) u ts → MachineLine u ts

pub record KeptMachine (steps : List StepForm) (u ts : List Token) : Type 0 where
  pub again : List StepForm
  pub derives : OrNone [] IsMachine again ts
  pub same : map bare_step again ≡ map bare_step steps
  pub lines : MachineLine u ts

machine_same : (t g : Token) (steps : List StepForm) (u : List Token) → looks t ≡ class.Key key.Machine → looks g ≡ class.Mark sign.Go → (ts : List Token)
    → Both (One (class.Key key.Machine)) (Both (Kept (map bare_step) (Listed IsStep) steps u) (One (class.Mark sign.Go))) ts → KeptMachine steps (t ∷ (u ++ g ∷ [])) ts
machine_same t g steps u e f _ (both (one s p) (both x (one h q))) =
    record { again = x.again; derives = present (machine s h p x.derives q); same = x.same; lines = machine_line (line t s g h e p x.trims f q) }

machine_by : (t g : Token) (steps : List StepForm) (u : List Token) → looks t ≡ class.Key key.Machine → looks g ≡ class.Mark sign.Go → Listed IsStep steps u → Valid u → Gives (machine_text steps) Any (KeptMachine steps (t ∷ (u ++ g ∷ [])))
machine_by t g _ _ e f (listed {a} {xs} {u} {w} x y) h =
    let items = joined step_text (a ∷ xs) in
    let go = codes " \\g\n" in
    means (codes "machine " ++ (items ++ go)) (machine_same t g (a ∷ xs) (u ++ w) e f)
    (then (codes "machine ") (items ++ go) machine_gives (λ r z. tt) (then items go (listed_prints bare_step IsStep step_text step_prints (listed x y) h) (λ r z. (refl, refl)) go_gives))

pub machine_print : (steps : List StepForm) (u : List Token) → OrNone [] IsMachine steps u → Valid u → Gives (machine_text steps) Any (KeptMachine steps u)
machine_print _ _ absent h = nothing Any (KeptMachine [] []) (record { again = []; derives = absent; same = refl; lines = no_machine })
machine_print _ _ (present (machine t g {ss} {u} e x f)) h = machine_by t g ss u e f x (valid_left u (g ∷ []) h.1)

-- ---- the script

pub data ScriptLines : List Token → List Token → Type 0 where
  script_lines : {u ts w xs : List Token} → MachineLine u ts → Lines w xs → ScriptLines (u ++ w) (ts ++ xs)

pub record KeptScript (p : Program) (u ts : List Token) : Type 0 where
  pub again : Program
  pub derives : IsScript again ts
  pub same : bare again ≡ bare p
  pub lines : ScriptLines u ts

program : List StepForm → List Sentence → Program
program steps ss = record { steps = steps; sentences = ss }

script_same : (steps : List StepForm) (ss : List Sentence) (u w ts : List Token) → Both (KeptMachine steps u) (KeptStatements ss w) ts → KeptScript (record { steps = steps; sentences = ss }) (u ++ w) ts
unfolding program
script_same steps ss u w _ (both x y) =
    record {
      again = record { steps = x.again; sentences = y.again };
      derives = script x.derives y.derives;
      same = ap (λ (z : List StepForm). program z (map bare_sentence y.again)) x.same ∙ ap (λ (z : List Sentence). program (map bare_step steps) z) y.same;
      lines = script_lines x.lines y.lines;
    }

pub script_prints : (p : Program) (u : List Token) → IsScript p u → Valid u → Gives (script_text p) Any (KeptScript p u)
script_prints _ _ (script {steps} {ss} {u} {w} x y) h =
    means (machine_text steps ++ sentences_text ss) (script_same steps ss u w)
    (then (machine_text steps) (sentences_text ss) (machine_print steps u x (valid_left u w h)) (λ r p. tt) (statements_print y (valid_right u w h)))
