-- A printed history and the same history turned round.
use Rattle.std.proofs.Common.{◌≡◌, List, [], ◌∷◌, ◌++◌, reverse, refl, ap, sym, ◌∙◌, subst, append_assoc}
use Rattle.std.proofs.lemmas.List.{reverse-append, reverse-reverse}
use Rattle.history.specs.declared.event.Event.{Event}
use Rattle.history.specs.Outline.{Run}
use Rattle.history.specs.Allowed.{Permits, IsLegal}
use Rattle.history.specs.Printed.{IsLegalLog}
use Rattle.history.proofs.RunSound.{legal_rest}

turned : (before later : List Event) (e : Event) → reverse (before ++ e ∷ later) ≡ reverse later ++ e ∷ reverse before
turned before later e =
    ap (λ (xs : List Event). reverse xs) (sym (append_assoc before (e ∷ []) later))
    ∙ reverse-append (before ++ e ∷ []) later ∙ ap (λ xs. reverse later ++ xs) (reverse-append before (e ∷ []))

pub log_of : (run : Run) (log : List Event) → IsLegal run (reverse log) → IsLegalLog run log
log_of run log legal before later e is =
    (legal_rest run (reverse later) (e ∷ reverse before) (subst (IsLegal run) (ap (λ (xs : List Event). reverse xs) is ∙ turned before later e) legal)).0

each_allowed : (run : Run) (h : List Event) → ((later before : List Event) (e : Event) → h ≡ later ++ e ∷ before → Permits run before e) → IsLegal run h
each_allowed run [] all = tt
each_allowed run (e ∷ h) all = (all [] h e refl, each_allowed run h (λ later before x is. all (e ∷ later) before x (ap (λ xs. e ∷ xs) is)))

pub of_log : (run : Run) (log : List Event) → IsLegalLog run log → IsLegal run (reverse log)
of_log run log all = each_allowed run (reverse log) (λ later before e is.
    let back = sym (reverse-reverse log) ∙ ap (λ (xs : List Event). reverse xs) is ∙ turned later before e in
    subst (λ (xs : List Event). Permits run xs e) (reverse-reverse before) (all (reverse before) (reverse later) e back))
