-- The values of the last fragments of the statements.
use Rattle.std.proofs.Common.{◌≡◌, ℕ, zero, suc, ◌+◌, ◌<◌, ◌≤◌, ◌++◌, Bool, true, false, cond, List, [], ◌∷◌, length, map, drop, drop-cons, get_or, refl, ap, sym, ◌∙◌, subst, arith, append_assoc, Option, Some, None}
use Rattle.std.specs.List.{All}
use Rattle.std.proofs.lemmas.List.{get_or_default, length-map}
use Rattle.hash_join.specs.Table.{Table}
use Rattle.plan_tree.specs.declared.fragment.Fragment.{Fragment}
use Rattle.history.specs.declared.event.Event.{Event}
use Rattle.master.specs.Ends.{AllEnded, AreAnswers, marked_values}
use Rattle.master.specs.Kind.{Slotted, is_ended, value_in}
use Rattle.master.specs.Lasts.{is_last, last_flags}
use Rattle.master.specs.Ledger.{IsKept, Ledger, Tools, at, no_slot, unended}
use Rattle.master.specs.Meaning.{Meaning, outline_of, run_of}
use Rattle.master.proofs.Nexts.{none_unended, some_unended}

pub marked_cons : (b : Bool) (bs : List Bool) (s : Slotted) (rest : List Slotted) → marked_values (b ∷ bs) (s ∷ rest) ≡ marked_values (b ∷ []) (s ∷ []) ++ marked_values bs rest
marked_cons true bs s rest = refl
marked_cons false bs s rest = refl

-- the loop's step
pub marked_more : (found now all : List (Option Table)) (marks : List Bool) (n : ℕ) (b : Bool) (s : Slotted) (before rest : List Slotted) → n < length marks → b ≡ get_or marks n b → before ≡ s ∷ rest → found ++ marked_values (drop n marks) before ≡ all → now ≡ found ++ marked_values (b ∷ []) (s ∷ [])
    → now ++ marked_values (drop (n + 1) marks) rest ≡ all
marked_more found now all marks n b s before rest lt is there e put =
    let next : suc n ≡ n + 1 = omega arith in
    let opened : drop n marks ≡ b ∷ drop (n + 1) marks = drop-cons marks n b lt ∙ ap (λ x. x ∷ drop (suc n) marks) (sym is) ∙ ap (λ k. b ∷ drop k marks) next in
    ap (λ xs. xs ++ marked_values (drop (n + 1) marks) rest) put ∙ append_assoc found (marked_values (b ∷ []) (s ∷ [])) (marked_values (drop (n + 1) marks) rest)
    ∙ ap (λ xs. found ++ xs) (sym (marked_cons b (drop (n + 1) marks) s rest)) ∙ ap (λ bs. found ++ marked_values bs (s ∷ rest)) (sym opened) ∙ ap (λ xs. found ++ marked_values (drop n marks) xs) (sym there) ∙ e

pub marked_none : (bs : List Bool) → marked_values bs [] ≡ []
marked_none [] = refl
marked_none (b ∷ bs) = refl

-- the loop over the fragments
pub flags_more : (flags : List Bool) (k : ℕ) (f : Fragment) (fs : List Fragment) (all : List Bool) → k < length fs → f ≡ get_or fs k f → flags ++ last_flags (drop k fs) ≡ all → (flags ++ is_last f (drop (k + 1) fs) ∷ []) ++ last_flags (drop (k + 1) fs) ≡ all
flags_more flags k f fs all lt is e =
    let next : suc k ≡ k + 1 = omega arith in
    let opened : drop k fs ≡ f ∷ drop (k + 1) fs = drop-cons fs k f lt ∙ ap (λ x. x ∷ drop (suc k) fs) (sym is) ∙ ap (λ n. f ∷ drop n fs) next in
    append_assoc flags (is_last f (drop (k + 1) fs) ∷ []) (last_flags (drop (k + 1) fs)) ∙ ap (λ gs. flags ++ last_flags gs) (sym opened) ∙ e

pub length_flags : (fs : List Fragment) → length (last_flags fs) ≡ length fs
length_flags [] = refl
length_flags (f ∷ fs) = let h = length_flags fs in omega arith

pub all_ended : (slots : List Slotted) → AllEnded slots → All (λ s. is_ended s ≡ true) slots
all_ended slots ended k d lt = ap is_ended (get_or_default slots k d no_slot lt) ∙ ended k lt

-- ---- the end of a control
pub ended_all : (m : Meaning) (log : List Event) (slots : List Slotted) (t : Tools) → IsKept m log slots t → (t.finishes < length slots → ⊥) → AllEnded slots
ended_all m log slots t k full = none_unended slots (let u = k.unended in omega arith)

pub marks_enough : (m : Meaning) (log : List Event) (slots : List Slotted) (t : Tools) → IsKept m log slots t → length slots ≤ length t.lasts
marks_enough m log slots t k = omega (arith, ap (λ (bs : List Bool). length bs) k.answers.0, length_flags m.fragments, k.fits.size, length-map m.fragments outline_of)

pub room_enough : (m : Meaning) (log : List Event) (slots : List Slotted) (t : Tools) → IsKept m log slots t → length slots ≤ t.answer_room
room_enough m log slots t k = omega (arith, k.answers.3, k.fits.size, length-map m.fragments outline_of)

pub are_answers : (m : Meaning) (log : List Event) (slots : List Slotted) (t : Tools) (answers : List Table) → IsKept m log slots t → (t.finishes < length slots → ⊥) → map Some answers ≡ marked_values t.lasts slots → AreAnswers m (record { log = log; slots = slots }) answers
are_answers m log slots t answers k full are = record {
  all = λ ended. are ∙ ap (λ bs. marked_values bs slots) k.answers.0;
  none = λ no. absurd (no (ended_all m log slots t k full));
}

pub no_answers : (m : Meaning) (log : List Event) (slots : List Slotted) (t : Tools) (answers : List Table) → IsKept m log slots t → t.finishes < length slots → answers ≡ [] → AreAnswers m (record { log = log; slots = slots }) answers
no_answers m log slots t answers k few none = record {
  all = λ ended.
      let f = some_unended slots (let u = k.unended in omega arith) in
      absurd (let e = sym (ended f.0 f.1) ∙ f.2 in cc);
  none = λ no. none;
}

pub empty_rest : (slots : List Slotted) → length slots ≡ 0 → slots ≡ []
empty_rest [] e = refl
empty_rest (s ∷ slots) e = absurd (omega arith)
