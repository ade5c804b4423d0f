-- Where all is released and a fragment isn't finished, there is something to do.
use Rattle.std.proofs.Common.{◌≡◌, ◌≢◌, ℕ, ◌+◌, ◌<◌, ◌++◌, false, List, [], ◌∷◌, length, reverse, refl, ap, sym, ◌∙◌, subst, inl, inr, arith, Option, Some, None}
use Rattle.std.proofs.lemmas.List.{length-reverse}
use Rattle.adjust_protocol.specs.History.{held_in, is_collecting_in, out_in}
use Rattle.adjust_protocol.specs.Moves.{Move, Running}
use Rattle.adjust_protocol.specs.Release.{IsReleased}
use Rattle.history.proofs.CheckerSound.{next_is}
use Rattle.history.proofs.Progress.{goes_on}
use Rattle.history.proofs.RunSound.{keeps}
use Rattle.history.specs.Boards.{BoardIs, Follows}
use Rattle.history.specs.Outline.{Run}
use Rattle.history.specs.Projected.{begun, moves_of}
use Rattle.history.specs.Running.{IsStill}
use Rattle.history.specs.declared.event.Event.{Event}
use Rattle.master.specs.Answers.{IsRest}
use Rattle.master.specs.Kind.{Slotted}
use Rattle.master.specs.Ledger.{IsKept, Tools, scans}
use Rattle.master.specs.Meaning.{Meaning, run_of}
use Rattle.master.specs.Release.{AreReleased}

-- a history says of a board that is released that nothing is held, out or being collected
still_at : (run : Run) (f : ℕ) (o : Option ℕ) (xs : List Move) (s : Running) → (o ≡ None → xs ≡ []) → BoardIs run f o xs s → IsReleased s → ((role : ℕ) → role < 64 → (held_in xs role ≡ false) × (out_in xs role ≡ [])) × (is_collecting_in xs ≡ false)
still_at run f None xs s still b released =
    subst (λ (ys : List Move). ((role : ℕ) → role < 64 → (held_in ys role ≡ false) × (out_in ys role ≡ [])) × (is_collecting_in ys ≡ false)) (sym (still refl)) (λ role lt. (refl, refl), refl)
still_at run f (Some d) xs s still b released =
    (λ role lt. (b.told.held role lt ∙ released.unheld role lt, b.told.marks.outs role lt ∙ released.idle role lt), b.told.collecting ∙ released.uncollected)

no_reverse : (log : List Event) → log ≢ [] → reverse log ≡ [] → ⊥
no_reverse [] some e = some refl
no_reverse (x ∷ log) some e = let n = ap (λ (es : List Event). length es) e in absurd (omega (arith, length-reverse (x ∷ log)))

pub no_rest : (m : Meaning) (log : List Event) (slots : List Slotted) (t : Tools) → IsKept m log slots t → AreReleased slots → IsRest (run_of m) (reverse log) → ⊥
no_rest m log slots t k released rest =
    let run = run_of m in
    let h = reverse log in
    let still : IsStill run h = λ f lt. still_at run f (begun h f) (moves_of h f) (scans slots f) (keeps run h k.fits.follows.legal f).still (k.fits.follows.each f lt) (released f (omega (arith, k.fits.size))) in
    let f = rest.unfinished in
    let on = goes_on run h k.within k.ordered k.fits.follows.legal (no_reverse log k.fits.started) k.fits.whole still f.0 f.1 f.2 in
    elim (next_is run h 0 k.fits.whole on) [
      | inl c ↦ rest.no_collect 0 c.0 c.1
      | inr s ↦ rest.no_seat 0 s.0 s.1 s.2
    ]
