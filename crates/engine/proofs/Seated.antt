-- One worker alone, where all is released, is seated at a role that can claim.
use Rattle.std.proofs.Common.{◌≡◌, ℕ, ◌<◌, ◌++◌, ◌∷◌, ◌&&◌, ◌||◌, not, Bool, true, false, cond, eqb, ltb, List, [], length, reverse, set, get_or, refl, ap, sym, ◌∙◌, subst, arith, Option, Some, None, is_some}
use Rattle.std.proofs.lemmas.Bool.{and_parts, eq-eqb, ltb-true}
use Rattle.std.proofs.lemmas.List.{get_or-set_same, reverse-append}
use Rattle.hash_join.specs.Table.{Table}
use Rattle.page_partition.specs.Scan.{left_of, out_of}
use Rattle.adjust_protocol.specs.Free.{is_below}
use Rattle.adjust_protocol.specs.History.{Setting, held_in, is_free_in}
use Rattle.adjust_protocol.specs.HistoryLaws.{Stands, free_told}
use Rattle.adjust_protocol.specs.Moves.{Move, Running, is_free, is_held}
use Rattle.adjust_protocol.specs.Moves as move
use Rattle.adjust_protocol.specs.Told.{Told}
use Rattle.history.specs.Allowed.{IsLegal}
use Rattle.history.specs.Boards.{BoardIs, rule_by}
use Rattle.history.specs.Projected.{begun, is_finished, moves_of, runs}
use Rattle.history.specs.State.{setting_from}
use Rattle.history.specs.declared.event.Event.{Event}
use Rattle.history.specs.declared.event.Event.TheVariants as event
use Rattle.master.specs.Answers.{IsJob}
use Rattle.master.specs.Calls.{moved}
use Rattle.master.specs.Ledger.{Fits, Ledger, at, no_slot, scans}
use Rattle.master.specs.Meaning.{Meaning, run_of}
use Rattle.master.specs.Release.{AreReleased}
use Rattle.engine.specs.Lone.{CanClaim}

some_of : (o : Option ℕ) → is_some o ≡ true → (d : ℕ) × (o ≡ Some d)
some_of None e = absurd (cc)
some_of (Some d) e = (d, refl)

-- the board of a fragment that has begun is as its moves say
told_at : (m : Meaning) (c : Ledger) (h : List Event) (f d : ℕ) → Fits m c → reverse c.log ≡ h → f < length (run_of m).fragments → begun h f ≡ Some d → Told (setting_from (run_of m) f (Some d)) (moves_of h f) (scans c.slots f)
told_at m c h f d fits turned lt e =
    let there = subst (λ (xs : List Event). BoardIs (run_of m) f (begun xs f) (moves_of xs f) (scans c.slots f)) turned (fits.follows.each f lt) in
    let stands : Stands (setting_from (run_of m) f (Some d)) (moves_of h f) (scans c.slots f) = subst (λ o. BoardIs (run_of m) f o (moves_of h f) (scans c.slots f)) e there in
    stands.told

or_true : (b : Bool) → b || false ≡ true → b ≡ true
or_true true e = refl
or_true false e = e

left_free : (held : Bool) (left : List ℕ) (asked : Option ℕ) (role : ℕ) → not held && (ltb 0 (length left) || is_below asked role) ≡ true → asked ≡ None → 0 < length left
left_free held left None role free calm = ltb-true 0 (length left) (or_true (ltb 0 (length left)) (and_parts (not held) (ltb 0 (length left) || false) free).1)
left_free held left (Some n) role free calm = absurd (cc)

seat_here : (f role : ℕ) (xs : List Move) → cond (eqb f f) (move.Seat role ∷ []) [] ++ xs ≡ move.Seat role ∷ xs
seat_here f role xs = let e = eq-eqb f f refl in simp e

held_here : (role : ℕ) (xs : List Move) → held_in (move.Seat role ∷ xs) role ≡ true
held_here role xs = let e = eq-eqb role role refl in simp e

pub can_claim : (m : Meaning) (old new : Ledger) (backend f role : ℕ) (found : List Table) → Fits m old → Fits m new → AreReleased old.slots → IsJob old new f role found → new.log ≡ old.log ++ event.Seat backend f role ∷ []
    → CanClaim (scans new.slots f) role
can_claim m old new backend f role found was fits released job log =
    let run = run_of m in
    let h = reverse old.log in
    let turned : reverse new.log ≡ event.Seat backend f role ∷ h = ap reverse log ∙ reverse-append old.log (event.Seat backend f role ∷ []) in
    let legal = subst (λ (xs : List Event). IsLegal run xs) turned fits.follows.legal in
    let seat = legal.0 in
    let inside = seat.2.0 in
    let running = seat.2.1.0 in
    let d = some_of (begun h f) (and_parts (is_some (begun h f)) (not (is_finished h f)) running).0 in
    let before = told_at m old h f d.0 was refl inside d.1 in
    let after = told_at m new (event.Seat backend f role ∷ h) f d.0 fits turned inside d.1 in
    let free_after : is_free_in (setting_from run f (Some d.0)) (moves_of h f) role ≡ true = subst (λ o. is_free_in (setting_from run f o) (moves_of h f) role ≡ true) d.1 seat.3.2 in
    let free : is_free (scans old.slots f) role ≡ true = sym (free_told (setting_from run f (Some d.0)) (moves_of h f) (scans old.slots f) before role job.below) ∙ free_after in
    let same : at new.slots f ≡ moved (at old.slots f) (move.Seat role ∷ []) = ap (λ xs. at xs f) job.slots ∙ (get_or-set_same old.slots f (moved (at old.slots f) (move.Seat role ∷ [])) no_slot job.inside) in
    let idle = released f job.inside in
    record {
      held = sym (after.held role job.below) ∙ ap (λ xs. held_in xs role) (seat_here f role (moves_of h f)) ∙ held_here role (moves_of h f);
      idle = ap (λ s. out_of s.board.running.scan.marks role) same ∙ idle.idle role job.below;
      calm = ap (λ s. s.board.running.asked) same ∙ idle.unasked;
      left = subst (λ s. 0 < length (left_of s.board.running.scan.marks role)) (sym same) (left_free (is_held (scans old.slots f) role) (left_of (scans old.slots f).scan.marks role) (scans old.slots f).asked role free idle.unasked);
    }
