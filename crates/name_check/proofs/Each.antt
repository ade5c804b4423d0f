-- What is found of each statement of a script.
use Rattle.std.proofs.Common.{◌≡◌, ℕ, ◌+◌, List, [], ◌∷◌, ◌++◌, map, Option, Some, None, Result, Ok}
use Rattle.std.proofs.Common.{Err, All, refl, sym, ap, ◌∙◌}
use Rattle.postquel_tokens.specs.declared.fault.TextErr.{TextErr}
use Rattle.postquel_tokens.specs.Forms.{Sentence}
use Rattle.rel_meaning.specs.Expression.{Question}
use Rattle.name_check.specs.declared.heading.Heading.{Heading}
use Rattle.name_check.specs.Sentences.{question_in, questions_in, queries_of, headings_after}
use Rattle.name_check.specs.Sentences.{or_fault, script_fault, HasNumbers}
use Rattle.name_check.specs.Steps.{Asked, question_by}
use Rattle.name_check.specs.Resolved.{MayAskEach}
use Rattle.name_check.specs.Whole.{asked, asked_in}
use Rattle.name_check.proofs.May.{answered_may}

pub each_question : (hs : List Heading) (ss : List Sentence) →
    map question_by (asked_in hs ss) ≡ questions_in hs ss
each_question hs [] = refl
each_question hs (s ∷ ss) =
    ap (λ qs. question_in hs s ∷ qs) (each_question (headings_after hs s) ss)

pub ok_parts : {A : Type 0} (a b : A) (o : Option TextErr) → or_fault a o ≡ Ok b →
    (a ≡ b) × (o ≡ None)
ok_parts a b None e = (cc, refl)
ok_parts a b (Some f) e = absurd cc

pub fault_stays : {A B : Type 0} (a : A) (b : B) (o : Option TextErr) (f : TextErr) →
    or_fault a o ≡ Err f → or_fault b o ≡ Err f
fault_stays a b None f e = absurd cc
fault_stays a b (Some g) f e = cc

pub gives_questions : (hs : List Heading) (ss : List Sentence) (found : List Asked) →
    or_fault (asked_in hs ss) (script_fault hs ss) ≡ Ok found →
    queries_of hs ss ≡ Ok (map question_by found)
gives_questions hs ss found e =
    let parts : (asked_in hs ss ≡ found) × (script_fault hs ss ≡ None) =
    ok_parts (asked_in hs ss) found (script_fault hs ss) e in
    ap (or_fault (questions_in hs ss)) parts.1
    ∙ ap (λ qs. Ok qs) (sym (each_question hs ss) ∙ ap (map question_by) parts.0)

pub found_may : (hs : List Heading) (ss : List Sentence) (found : List Asked) → All HasNumbers ss →
    or_fault (asked_in hs ss) (script_fault hs ss) ≡ Ok found → MayAskEach hs ss
found_may hs ss found h e =
    answered_may hs ss (map question_by found) h (gives_questions hs ss found e)
