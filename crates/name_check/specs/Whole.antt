-- What the steps of a statement's check have to do with the whole statement.
use Rattle.std.specs.Prelude.{◌≡◌, Bool, List, [], ◌∷◌, ◌++◌, map, Option, Some, None, Result, Ok, Err}
use Rattle.std.specs.List.{flat_map}
use Rattle.std.specs.Option.{option_map}
use Rattle.postquel_tokens.specs.declared.fault.TextErr.{TextErr}
use Rattle.postquel_tokens.specs.Forms.{Wish, Condition, Sentence}
use Rattle.rel_meaning.specs.declared.query.Var.{Var}
use Rattle.rows.specs.declared.plain.Relation.{Relation}
use Rattle.rel_meaning.specs.Expression.{Expression}
use Rattle.name_check.specs.declared.heading.Heading.{Heading}
use Rattle.name_check.specs.Faults.{meaning_in}
use Rattle.name_check.specs.Sentences.{Shown, head_of, inner_fault, wish_shown, wishes_fault, test_fault, plain_outputs, fold_outputs, question_in, head_in, heading_of, headings_after, or_fault, script_fault}
use Rattle.name_check.specs.Folds.{plan_in, wish_ops}
use Rattle.name_check.specs.Headers.{kept_name}
use Rattle.name_check.specs.Steps.{Chosen, Asked}
use Rattle.name_check.specs.Agreed.{Grew}

pub record ShownFits (headings : List Heading) (vars : List Var) (w : Wish) (new : List Shown) : Type 0 where
  pub free : inner_fault headings vars w ≡ None
  pub means : wish_shown headings vars w ≡ new

abbrev pub ShownAgrees : List Heading → List Var → List Var → Wish → Result (List Shown × List Var) TextErr → Type 0
ShownAgrees headings vars now w (Ok p) = ShownFits headings vars w p.0 × Grew p.1 now
ShownAgrees headings vars now w (Err f) = inner_fault headings vars w ≡ Some f

abbrev pub with_wishes : List Heading → List Var → Chosen → List Wish → Chosen
with_wishes headings vars out ws = record {
  plain = out.plain ++ flat_map (plain_outputs headings vars) ws;
  operands = out.operands ++ flat_map (fold_outputs headings vars) ws;
  head = out.head ++ flat_map (λ w. map head_of (wish_shown headings vars w)) ws;
  ops = out.ops ++ flat_map (wish_ops headings vars) ws;
}

pub record WishesFit (headings : List Heading) (limited : Bool) (vars : List Var) (out : Chosen) (ws : List Wish) (new : Chosen) : Type 0 where
  pub free : wishes_fault headings limited vars out.head ws ≡ None
  pub means : with_wishes headings vars out ws ≡ new

abbrev pub WishesAgree : List Heading → Bool → List Var → List Var → Chosen → List Wish → Result (Chosen × List Var) TextErr → Type 0
WishesAgree headings limited vars now out ws (Ok p) = WishesFit headings limited vars out ws p.0 × Grew p.1 now
WishesAgree headings limited vars now out ws (Err f) = wishes_fault headings limited vars out.head ws ≡ Some f

pub record TestFits (headings : List Heading) (vars : List Var) (test : Option Condition) (new : Option Expression) : Type 0 where
  pub free : test_fault headings vars test ≡ None
  pub means : option_map (λ c. meaning_in headings vars c.phrase) test ≡ new

abbrev pub TestAgrees : List Heading → List Var → Option Condition → Result (Option Expression × List Var) TextErr → Type 0
TestAgrees headings vars test (Ok p) = TestFits headings vars test p.0 × (p.1 ≡ vars)
TestAgrees headings vars test (Err f) = test_fault headings vars test ≡ Some f

abbrev pub asked : List Heading → Sentence → Asked
asked headings s = record { question = question_in headings s; head = head_in headings s; plan = plan_in headings s; into = kept_name s.kept }

-- for each statement of a script
abbrev pub asked_in : List Heading → List Sentence → List Asked
asked_in headings [] = []
asked_in headings (s ∷ ss) = asked headings s ∷ asked_in (headings_after headings s) ss

-- the same of a script over a catalogue, or its first fault
abbrev pub found_of_script : List Relation → List Sentence → Result (List Asked) TextErr
found_of_script catalog script =
    or_fault (asked_in (map heading_of catalog) script) (script_fault (map heading_of catalog) script)
