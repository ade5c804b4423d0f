use Rattle.std.proofs.Common.{◌≡◌, ◌+◌, ◌-◌, ◌<◌, ◌≤◌, ◌++◌, ◌∷◌, [], true, sym, ◌∙◌, ap, subst, arith, List, ℕ, length, refl, set, vec_len, vec_capacity, append-nil}
use Rattle.rows.specs.declared.plain.Machine.{Machine}
use Rattle.page_partition.specs.Scan.{out_of}
use Rattle.adjust_protocol.specs.Moves.{MayClaim, Running, is_held}
use Rattle.adjust_protocol.specs.Answers.{ClaimAnswer, claim_moves}
use Rattle.adjust_protocol.specs.declared.answers.Settled.{Settled}
use Rattle.history.specs.declared.event.Event.{Event}
use Rattle.history.specs.declared.event.Event.TheVariants as event
use Rattle.history.specs.Boards.{rule_by}
use Rattle.master.specs.Answers.{Claims}
use Rattle.master.specs.Calls.{claim_events, moved_at, settle_events}
use Rattle.master.specs.Kind.{Slotted, scan_of}
use Rattle.master.specs.Ledger.{Ledger, at, scans}
use Rattle.master.proofs.Kept.{as_before, call_claim, call_none, looked, unclaimed}
use Rattle.master.proofs.Happened.{no_batch, no_claim_events, none_moved}
use Rattle.master.proofs.control.Control.claim.Goals as goal

pub invariant_of-self-in_err-room : goal.invariant_of-self-in_err-room
invariant_of-self-in_err-room g c =
    call_none g.K.RunName.meaning c.self.inside.history.items c.make_room.new.history.items c.self.inside.slots.items _ c.args.fragment (vec_capacity c.make_room.new.history - vec_len c.make_room.new.history)
    c.index_mut-slot.result.now c.index_mut-slot.result.now c.self.invariant c.index_mut-slot.ensures.value refl c.make_room.ensures.items (omega (arith, c.self.invariant.kept, c.make_room.ensures.len, c.make_room.ensures.capacity))

pub invariant_of-self-in-Batch : goal.invariant_of-self-in-Batch
invariant_of-self-in-Batch g c =
    let lt = subst (λ (l : Ledger). c.args.fragment < length l.slots) (sym c.self.view_is) c.requires.fragment in
    let items = c.push_reserved.ensures.items ∙ ap (λ es. es ++ event.Claim c.args.fragment c.args.role c.places_of-places.result ∷ []) c.make_room.ensures.items ∙ ap (λ ps. c.self.inside.history.items ++ event.Claim c.args.fragment c.args.role ps ∷ []) c.places_of-places.ensures in
    call_claim g.K.RunName.meaning c.self.inside.history.items c.push_reserved.new.self.items c.self.inside.slots.items _ c.args.fragment c.args.role c.self.inside.machine.batch (c.self.inside.needed + 2) (vec_capacity c.push_reserved.new.self - vec_len c.push_reserved.new.self)
    c.in-Batch.batch c.claim.result c.index_mut-slot.result.now c.claim.new.self c.self.invariant lt refl c.in-Batch.is c.index_mut-slot.ensures.value c.claim.ensures.moves c.claim.ensures.rest items
    (omega arith) (omega (arith, c.in_ok-make_room.ensures.ok, c.push_reserved.ensures.len, c.push_reserved.ensures.capacity))

pub returns-in-Batch-clause-fits : goal.returns-in-Batch-clause-fits
returns-in-Batch-clause-fits g c = (invariant_of-self-in-Batch g c).fits

pub invariant_of-self-in-Hold-1 : goal.invariant_of-self-in-Hold-1
invariant_of-self-in-Hold-1 g c =
    let o = c.index_mut-slot.result.now in
    call_none g.K.RunName.meaning c.self.inside.history.items c.make_room.new.history.items c.self.inside.slots.items _ c.args.fragment (vec_capacity c.make_room.new.history - vec_len c.make_room.new.history)
    o c.claim.new.self c.self.invariant c.index_mut-slot.ensures.value (unclaimed (rule_by o.by_entries) c.self.inside.machine.batch c.args.role c.claim.result o c.claim.new.self c.in_default.not-Batch c.claim.ensures.moves c.claim.ensures.rest)
    c.make_room.ensures.items (omega (arith, c.self.invariant.kept, c.make_room.ensures.len, c.make_room.ensures.capacity))

pub returns-in_default : goal.returns-in_default
returns-in_default g c =
    let lt = subst (λ (l : Ledger). c.args.fragment < length l.slots) (sym c.self.view_is) c.requires.fragment in
    let o = c.index_mut-slot.result.now in
    let here : o ≡ at c.args.self.now.slots c.args.fragment = looked c.self.inside.slots.items c.args.fragment o lt c.index_mut-slot.ensures.value ∙ ap (λ (l : Ledger). at l.slots c.args.fragment) c.self.view_is in
    record {
      events = c.make_room.ensures.items ∙ ap (λ (l : Ledger). l.log) c.self.view_is ∙ sym (ap (λ es. c.args.self.now.log ++ es) (no_claim_events c.args.fragment c.args.role c.claim.result c.in_default.not-Batch) ∙ append-nil _);
      slots =
          as_before c.self.inside.slots.items c.args.fragment o c.claim.new.self c.index_mut-slot.ensures.value (unclaimed (rule_by o.by_entries) c.self.inside.machine.batch c.args.role c.claim.result o c.claim.new.self c.in_default.not-Batch c.claim.ensures.moves c.claim.ensures.rest)
          ∙ ap (λ (l : Ledger). l.slots) c.self.view_is ∙ sym (none_moved c.args.self.now.slots c.args.fragment c.args.role c.claim.result c.in_default.not-Batch);
      answer = no_batch g.K.RunName.meaning.machine.batch (scans c.args.self.now.slots c.args.fragment) c.args.role c.claim.result c.in_default.not-Batch (subst (λ (x : Slotted). ClaimAnswer (scan_of x) c.args.role c.claim.result) here c.claim.ensures.answer);
      err = tt;
      fits = (invariant_of-self-in-Hold-1 g c).fits;
    }
