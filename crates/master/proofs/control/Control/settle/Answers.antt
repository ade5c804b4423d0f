use Rattle.std.proofs.Common.{◌≡◌, ◌+◌, ◌-◌, ◌<◌, ◌≤◌, ◌++◌, ◌∷◌, [], true, sym, ◌∙◌, ap, subst, arith, List, ℕ, length, refl, set, vec_len, vec_capacity, append-nil}
use Rattle.rows.specs.declared.plain.Machine.{Machine}
use Rattle.page_partition.specs.Scan.{out_of}
use Rattle.adjust_protocol.specs.Moves.{Makes, MayClaim, Running, is_held}
use Rattle.adjust_protocol.specs.Answers.{ClaimAnswer, claim_moves, settle_moves}
use Rattle.adjust_protocol.specs.declared.answers.Settled.{Settled}
use Rattle.history.specs.declared.event.Event.{Event}
use Rattle.history.specs.declared.event.Event.TheVariants as event
use Rattle.history.specs.Boards.{rule_by}
use Rattle.master.specs.Answers.{Claims}
use Rattle.master.specs.Calls.{claim_events, moved_at, settle_events, settled_at}
use Rattle.master.specs.Content.{AreOuts}
use Rattle.master.specs.Kind.{Slotted, scan_of}
use Rattle.master.specs.Ledger.{Ledger, at, scans}
use Rattle.master.proofs.Kept.{call_settle, looked, need_out, need_some}
use Rattle.master.proofs.Happened.{answered, made_at, as_settled, cut_degree, cut_events, only_settle}
use Rattle.master.proofs.control.Control.settle.Goals as goal

pub overflow_sub-self : goal.overflow_sub-self
overflow_sub-self g c =
    let lt = subst (λ (l : Ledger). c.args.fragment < length l.slots) (sym c.self.view_is) c.requires.fragment in
    let some = subst (λ (l : Ledger). 0 < length (out_of (scans l.slots c.args.fragment).scan.marks c.args.role)) (sym c.self.view_is) c.requires.some in
    omega (arith, need_out (at c.self.inside.slots.items c.args.fragment) c.args.role c.requires.role some, need_some g.K.RunName.meaning c.self.inside.history.items c.self.inside.slots.items _ c.args.fragment c.self.invariant lt)

pub push_reserved-requires : goal.push_reserved-requires
push_reserved-requires g c =
    let lt = subst (λ (l : Ledger). c.args.fragment < length l.slots) (sym c.self.view_is) c.requires.fragment in
    let some = subst (λ (l : Ledger). 0 < length (out_of (scans l.slots c.args.fragment).scan.marks c.args.role)) (sym c.self.view_is) c.requires.some in
    omega (arith, need_out (at c.self.inside.slots.items c.args.fragment) c.args.role c.requires.role some, need_some g.K.RunName.meaning c.self.inside.history.items c.self.inside.slots.items _ c.args.fragment c.self.invariant lt, c.self.invariant.kept)

pub push_reserved-requires-in-Cut : goal.push_reserved-requires-in-Cut
push_reserved-requires-in-Cut g c =
    let lt = subst (λ (l : Ledger). c.args.fragment < length l.slots) (sym c.self.view_is) c.requires.fragment in
    let some = subst (λ (l : Ledger). 0 < length (out_of (scans l.slots c.args.fragment).scan.marks c.args.role)) (sym c.self.view_is) c.requires.some in
    omega (arith, need_out (at c.self.inside.slots.items c.args.fragment) c.args.role c.requires.role some, need_some g.K.RunName.meaning c.self.inside.history.items c.self.inside.slots.items _ c.args.fragment c.self.invariant lt, c.self.invariant.kept, c.push_reserved.ensures.len, c.push_reserved.ensures.capacity)

pub invariant_of-self : goal.invariant_of-self
invariant_of-self g c =
    let lt = subst (λ (l : Ledger). c.args.fragment < length l.slots) (sym c.self.view_is) c.requires.fragment in
    let some = subst (λ (l : Ledger). 0 < length (out_of (scans l.slots c.args.fragment).scan.marks c.args.role)) (sym c.self.view_is) c.requires.some in
    let outs = subst (λ (l : Ledger). AreOuts g.K.RunName.meaning c.args.fragment (out_of (scans l.slots c.args.fragment).scan.marks c.args.role) c.args.outputs) (sym c.self.view_is) c.requires.outs in
    let o = c.index_mut-slot.result.now in
    let same : length (out_of (scan_of o).scan.marks c.args.role) ≡ length (out_of (scans c.args.self.now.slots c.args.fragment).scan.marks c.args.role) =
    ap (λ (x : Slotted). length (out_of (scan_of x).scan.marks c.args.role)) (looked c.self.inside.slots.items c.args.fragment o lt c.index_mut-slot.ensures.value ∙ ap (λ (l : Ledger). at l.slots c.args.fragment) c.self.view_is) in
    let n : c.min-count.result ≡ length c.args.outputs = omega (arith, c.min-count.ensures, c.len.ensures, c.len-2.ensures.len, ap (λ (xs : List ℕ). length xs) c.out-batch.ensures, c.requires.count, same) in
    let degree = c.degree-degree.ensures ∙ cut_degree (rule_by o.by_entries) (scan_of o) (scan_of c.settle-settled.new.self) c.args.role (length c.args.outputs) c.in-Cut.cut c.settle-settled.result c.in-Cut.is c.settle-settled.ensures.moves in
    let first = c.push_reserved.ensures.items ∙ ap (λ (m : ℕ). c.self.inside.history.items ++ event.Settle c.args.fragment c.args.role m ∷ []) n in
    let items = cut_events c.self.inside.history.items c.push_reserved.new.self.items c.push_reserved-in-Cut.new.self.items c.args.fragment c.args.role (length c.args.outputs) c.degree-degree.result c.in-Cut.cut (scan_of o).asked c.settle-settled.result c.in-Cut.is degree first c.push_reserved-in-Cut.ensures.items in
    call_settle g.K.RunName.meaning c.self.inside.history.items c.push_reserved-in-Cut.new.self.items c.self.inside.slots.items _ c.args.fragment c.args.role (c.self.inside.needed - 2) (vec_capacity c.push_reserved-in-Cut.new.self - vec_len c.push_reserved-in-Cut.new.self)
    c.args.outputs c.settle-settled.result o c.settle-settled.new.self c.self.invariant lt outs c.requires.role some c.index_mut-slot.ensures.value c.settle-settled.ensures.moves c.settle-settled.ensures.answer c.settle-settled.ensures.rest items
    (omega arith) (omega (arith, c.self.invariant.kept, c.push_reserved.ensures.len, c.push_reserved.ensures.capacity, c.push_reserved-in-Cut.ensures.len, c.push_reserved-in-Cut.ensures.capacity))

pub returns-in-Cut-clause-fits : goal.returns-in-Cut-clause-fits
returns-in-Cut-clause-fits g c = (invariant_of-self g c).fits

pub invariant_of-self-in_default : goal.invariant_of-self-in_default
invariant_of-self-in_default g c =
    let lt = subst (λ (l : Ledger). c.args.fragment < length l.slots) (sym c.self.view_is) c.requires.fragment in
    let some = subst (λ (l : Ledger). 0 < length (out_of (scans l.slots c.args.fragment).scan.marks c.args.role)) (sym c.self.view_is) c.requires.some in
    let outs = subst (λ (l : Ledger). AreOuts g.K.RunName.meaning c.args.fragment (out_of (scans l.slots c.args.fragment).scan.marks c.args.role) c.args.outputs) (sym c.self.view_is) c.requires.outs in
    let o = c.index_mut-slot.result.now in
    let same : length (out_of (scan_of o).scan.marks c.args.role) ≡ length (out_of (scans c.args.self.now.slots c.args.fragment).scan.marks c.args.role) =
    ap (λ (x : Slotted). length (out_of (scan_of x).scan.marks c.args.role)) (looked c.self.inside.slots.items c.args.fragment o lt c.index_mut-slot.ensures.value ∙ ap (λ (l : Ledger). at l.slots c.args.fragment) c.self.view_is) in
    let n : c.min-count.result ≡ length c.args.outputs = omega (arith, c.min-count.ensures, c.len.ensures, c.len-2.ensures.len, ap (λ (xs : List ℕ). length xs) c.out-batch.ensures, c.requires.count, same) in
    let items = c.push_reserved.ensures.items ∙ ap (λ (m : ℕ). c.self.inside.history.items ++ event.Settle c.args.fragment c.args.role m ∷ []) n
    ∙ ap (λ (es : List Event). c.self.inside.history.items ++ es) (only_settle c.args.fragment c.args.role (length c.args.outputs) (scan_of o).asked c.settle-settled.result c.in_default.not-Cut) in
    call_settle g.K.RunName.meaning c.self.inside.history.items c.push_reserved.new.self.items c.self.inside.slots.items _ c.args.fragment c.args.role (c.self.inside.needed - 2) (vec_capacity c.push_reserved.new.self - vec_len c.push_reserved.new.self)
    c.args.outputs c.settle-settled.result o c.settle-settled.new.self c.self.invariant lt outs c.requires.role some c.index_mut-slot.ensures.value c.settle-settled.ensures.moves c.settle-settled.ensures.answer c.settle-settled.ensures.rest items
    (omega arith) (omega (arith, c.self.invariant.kept, c.push_reserved.ensures.len, c.push_reserved.ensures.capacity))

pub returns-in_default : goal.returns-in_default
returns-in_default g c =
    let lt = subst (λ (l : Ledger). c.args.fragment < length l.slots) (sym c.self.view_is) c.requires.fragment in
    let o = c.index_mut-slot.result.now in
    let same : o ≡ at c.args.self.now.slots c.args.fragment = looked c.self.inside.slots.items c.args.fragment o lt c.index_mut-slot.ensures.value ∙ ap (λ (l : Ledger). at l.slots c.args.fragment) c.self.view_is in
    let size = ap (λ (x : Slotted). length (out_of (scan_of x).scan.marks c.args.role)) same in
    let n : c.min-count.result ≡ length c.args.outputs = omega (arith, c.min-count.ensures, c.len.ensures, c.len-2.ensures.len, ap (λ (xs : List ℕ). length xs) c.out-batch.ensures, c.requires.count, size) in
    let items = c.push_reserved.ensures.items ∙ ap (λ (m : ℕ). c.self.inside.history.items ++ event.Settle c.args.fragment c.args.role m ∷ []) n
    ∙ ap (λ (es : List Event). c.self.inside.history.items ++ es) (only_settle c.args.fragment c.args.role (length c.args.outputs) (scan_of o).asked c.settle-settled.result c.in_default.not-Cut) in
    record {
      events = items ∙ ap (λ (x : Slotted). c.self.inside.history.items ++ settle_events c.args.fragment c.args.role (length c.args.outputs) (scan_of x).asked c.settle-settled.result) same
          ∙ ap (λ (l : Ledger). l.log ++ settle_events c.args.fragment c.args.role (length c.args.outputs) (scans c.args.self.now.slots c.args.fragment).asked c.settle-settled.result) c.self.view_is;
      slots = ap (set c.self.inside.slots.items c.args.fragment) (as_settled c.self.inside.slots.items c.args.fragment c.args.role c.args.outputs c.settle-settled.result o c.settle-settled.new.self lt c.index_mut-slot.ensures.value c.settle-settled.ensures.moves c.settle-settled.ensures.rest)
          ∙ ap (λ (l : Ledger). settled_at l.slots c.args.fragment c.args.role c.args.outputs c.settle-settled.result) c.self.view_is;
      answer = answered c.args.self.now c.self.inside.history.items c.self.inside.slots.items c.args.fragment c.settle-settled.result o c.settle-settled.new.self c.self.view_is lt c.index_mut-slot.ensures.value c.settle-settled.ensures.answer;
      moves = made_at c.args.self.now c.self.inside.history.items c.self.inside.slots.items c.args.fragment c.args.role (length c.args.outputs) c.settle-settled.result o c.settle-settled.new.self c.self.view_is lt c.index_mut-slot.ensures.value c.settle-settled.ensures.moves;
      fits = (invariant_of-self-in_default g c).fits;
    }

pub returns-in-Cut-clause-moves : goal.returns-in-Cut-clause-moves
returns-in-Cut-clause-moves g c =
    let lt = subst (λ (l : Ledger). c.args.fragment < length l.slots) (sym c.self.view_is) c.requires.fragment in
    let old = c.args.self.now.slots in
    subst (λ (a : Settled). Makes (rule_by (at old c.args.fragment).by_entries) 64 (scans old c.args.fragment) (settle_moves (scans old c.args.fragment).asked c.args.role (length c.args.outputs) a) (scans (set c.self.inside.slots.items c.args.fragment c.settle-settled.new.self) c.args.fragment)) c.in-Cut.is
    (made_at c.args.self.now c.self.inside.history.items c.self.inside.slots.items c.args.fragment c.args.role (length c.args.outputs) c.settle-settled.result c.index_mut-slot.result.now c.settle-settled.new.self c.self.view_is lt c.index_mut-slot.ensures.value c.settle-settled.ensures.moves)
