use Rattle.std.proofs.Common.{◌≡◌, ◌-◌, ◌<◌, ◌≤◌, [], ◌∷◌, length, ap, ◌∙◌, sym, subst, None, unwrap_or, drop, ◌++◌}
use Rattle.std.proofs.lemmas.Bool.{false≢true}
use Rattle.page_partition.specs.Scan.{Scan, left_of, out_of, given_back}
use Rattle.adjust_protocol.specs.Moves.{Running, Rule, Settle, Divide, Makes, is_full}
use Rattle.adjust_protocol.specs.Steps.{IsRule, count_fits, kept_finished, kept_more, kept_divide, full_after, not_full_after, makes_finished, makes_more, makes_cut, full_divide, sound_give}
use Rattle.adjust_protocol.proofs.turns.Turns.settle.Goals as goal

pub overflow_sub-self : goal.overflow_sub-self
overflow_sub-self g c =
    let s : Running = record { scan = g.V.Division.scan c.self.inside.division; held = c.self.inside.held; asked = c.self.inside.asked; collecting = c.self.inside.collecting } in
    let few = subst (λ (z : Running). c.args.count ≤ length (out_of z.scan.marks c.args.role)) (sym c.self.view_is) c.requires.count in
    count_fits s c.self.inside.missing c.args.role c.args.count few c.self.invariant.0.sound

pub invariant_of-self : goal.invariant_of-self
invariant_of-self g c =
    let s : Running = record { scan = g.V.Division.scan c.self.inside.division; held = c.self.inside.held; asked = c.self.inside.asked; collecting = c.self.inside.collecting } in
    let few = subst (λ (z : Running). c.args.count ≤ length (out_of z.scan.marks c.args.role)) (sym c.self.view_is) c.requires.count in (
      kept_finished s c.self.inside.missing c.args.role c.args.count (g.V.Division.scan c.give_back.new.self) c.requires.role few c.give_back.ensures.after c.self.invariant.0,
      c.self.invariant.1 ∙ sym (ap (λ (z : Scan). z.degree) c.give_back.ensures.after),
      c.self.invariant.2,
    )

pub returns-then-is_complete-clause-moves : goal.returns-then-is_complete-clause-moves
returns-then-is_complete-clause-moves g c =
    let rule : Rule = record { redivided = g.V.Division.redivided; cut = g.V.Division.cut } in
    let s : Running = record { scan = g.V.Division.scan c.self.inside.division; held = c.self.inside.held; asked = c.self.inside.asked; collecting = c.self.inside.collecting } in
    let few = subst (λ (z : Running). c.args.count ≤ length (out_of z.scan.marks c.args.role)) (sym c.self.view_is) c.requires.count in
    let some = subst (λ (z : Running). 0 < length (out_of z.scan.marks c.args.role)) (sym c.self.view_is) c.requires.some in
    let full = full_after s c.self.inside.missing c.args.role c.args.count (g.V.Division.scan c.give_back.new.self) c.requires.role few c.give_back.ensures.after c.self.invariant.0 (c.is_complete.ensures.0 c.if-is_complete.true) in
    subst (λ (z : Running). Makes rule 64 z (Settle c.args.role c.args.count ∷ []) (record s { scan = g.V.Division.scan c.give_back.new.self; asked = None })) c.self.view_is
    (makes_finished rule s c.args.role c.args.count (g.V.Division.scan c.give_back.new.self) c.requires.role some few c.give_back.ensures.after full)

pub returns-then-is_complete-clause-answer : goal.returns-then-is_complete-clause-answer
returns-then-is_complete-clause-answer g c =
    let s : Running = record { scan = g.V.Division.scan c.self.inside.division; held = c.self.inside.held; asked = c.self.inside.asked; collecting = c.self.inside.collecting } in
    let few = subst (λ (z : Running). c.args.count ≤ length (out_of z.scan.marks c.args.role)) (sym c.self.view_is) c.requires.count in
    full_after s c.self.inside.missing c.args.role c.args.count (g.V.Division.scan c.give_back.new.self) c.requires.role few c.give_back.ensures.after c.self.invariant.0 (c.is_complete.ensures.0 c.if-is_complete.true)

pub invariant_of-self-in_default : goal.invariant_of-self-in_default
invariant_of-self-in_default g c =
    let s : Running = record { scan = g.V.Division.scan c.self.inside.division; held = c.self.inside.held; asked = c.self.inside.asked; collecting = c.self.inside.collecting } in
    let few = subst (λ (z : Running). c.args.count ≤ length (out_of z.scan.marks c.args.role)) (sym c.self.view_is) c.requires.count in (
      kept_more s c.self.inside.missing c.args.role c.args.count (g.V.Division.scan c.give_back.new.self) c.requires.role few c.give_back.ensures.after (λ d. d.0 c.in_default.is) c.self.invariant.0,
      c.self.invariant.1 ∙ sym (ap (λ (z : Scan). z.degree) c.give_back.ensures.after),
      c.self.invariant.2,
    )

pub returns-in_default-clause-answer : goal.returns-in_default-clause-answer
returns-in_default-clause-answer g c =
    let s : Running = record { scan = g.V.Division.scan c.self.inside.division; held = c.self.inside.held; asked = c.self.inside.asked; collecting = c.self.inside.collecting } in
    let few = subst (λ (z : Running). c.args.count ≤ length (out_of z.scan.marks c.args.role)) (sym c.self.view_is) c.requires.count in (
      not_full_after s c.self.inside.missing c.args.role c.args.count (g.V.Division.scan c.give_back.new.self) c.requires.role few c.give_back.ensures.after c.self.invariant.0 (λ z. false≢true (sym c.if-is_complete.false ∙ c.is_complete.ensures.1 z)),
      λ d. d.0 c.in_default.is,
    )

pub invariant_of-self-then-not-is_idle : goal.invariant_of-self-then-not-is_idle
invariant_of-self-then-not-is_idle g c =
    let s : Running = record { scan = g.V.Division.scan c.self.inside.division; held = c.self.inside.held; asked = c.self.inside.asked; collecting = c.self.inside.collecting } in
    let few = subst (λ (z : Running). c.args.count ≤ length (out_of z.scan.marks c.args.role)) (sym c.self.view_is) c.requires.count in (
      kept_more s c.self.inside.missing c.args.role c.args.count (g.V.Division.scan c.give_back.new.self) c.requires.role few c.give_back.ensures.after (λ d. false≢true (sym c.if-not-is_idle.true ∙ c.is_idle.ensures.1 d.1)) c.self.invariant.0,
      c.self.invariant.1 ∙ sym (ap (λ (z : Scan). z.degree) c.give_back.ensures.after),
      c.self.invariant.2,
    )

pub returns-then-not-is_idle-clause-moves : goal.returns-then-not-is_idle-clause-moves
returns-then-not-is_idle-clause-moves g c =
    let rule : Rule = record { redivided = g.V.Division.redivided; cut = g.V.Division.cut } in
    let s : Running = record { scan = g.V.Division.scan c.self.inside.division; held = c.self.inside.held; asked = c.self.inside.asked; collecting = c.self.inside.collecting } in
    let few = subst (λ (z : Running). c.args.count ≤ length (out_of z.scan.marks c.args.role)) (sym c.self.view_is) c.requires.count in
    let some = subst (λ (z : Running). 0 < length (out_of z.scan.marks c.args.role)) (sym c.self.view_is) c.requires.some in
    let full = not_full_after s c.self.inside.missing c.args.role c.args.count (g.V.Division.scan c.give_back.new.self) c.requires.role few c.give_back.ensures.after c.self.invariant.0 (λ z. false≢true (sym c.if-is_complete.false ∙ c.is_complete.ensures.1 z)) in
    subst (λ (z : Running). Makes rule 64 z (Settle c.args.role c.args.count ∷ []) (record s { scan = g.V.Division.scan c.give_back.new.self })) c.self.view_is
    (makes_more rule s c.args.role c.args.count (g.V.Division.scan c.give_back.new.self) c.requires.role some few c.give_back.ensures.after full)

pub returns-then-not-is_idle-clause-answer : goal.returns-then-not-is_idle-clause-answer
returns-then-not-is_idle-clause-answer g c =
    let s : Running = record { scan = g.V.Division.scan c.self.inside.division; held = c.self.inside.held; asked = c.self.inside.asked; collecting = c.self.inside.collecting } in
    let few = subst (λ (z : Running). c.args.count ≤ length (out_of z.scan.marks c.args.role)) (sym c.self.view_is) c.requires.count in (
      not_full_after s c.self.inside.missing c.args.role c.args.count (g.V.Division.scan c.give_back.new.self) c.requires.role few c.give_back.ensures.after c.self.invariant.0 (λ z. false≢true (sym c.if-is_complete.false ∙ c.is_complete.ensures.1 z)),
      λ d. false≢true (sym c.if-not-is_idle.true ∙ c.is_idle.ensures.1 d.1),
    )

pub divide-cut-requires-clause-idle : goal.divide-cut-requires-clause-idle
divide-cut-requires-clause-idle g c = c.is_idle.ensures.0 c.if-not-is_idle.false

pub invariant_of-self-2 : goal.invariant_of-self-2
invariant_of-self-2 g c =
    let rule : Rule = record { redivided = g.V.Division.redivided; cut = g.V.Division.cut } in
    let laws : IsRule rule = record { deposits_kept = g.met.V.Division.deposits_kept; positions_kept = g.met.V.Division.positions_kept; none_out = g.met.V.Division.none_out; named = g.met.V.Division.named } in
    let s : Running = record { scan = g.V.Division.scan c.self.inside.division; held = c.self.inside.held; asked = c.self.inside.asked; collecting = c.self.inside.collecting } in
    let few = subst (λ (z : Running). c.args.count ≤ length (out_of z.scan.marks c.args.role)) (sym c.self.view_is) c.requires.count in
    let mid = sound_give s c.self.inside.missing c.args.role c.args.count c.requires.role few c.self.invariant.0.sound in
    let range = c.self.invariant.0.sound.degrees c.in-Some.degree c.in-Some.is in (
      kept_divide rule laws (record s { scan = record s.scan { marks = given_back c.args.role c.args.count s.scan.marks } }) (c.self.inside.missing - c.args.count) c.in-Some.degree (g.V.Division.scan c.divide-cut.new.self) range.0 range.1
          (c.divide-cut.ensures.after ∙ ap (λ (z : Scan). record { marks = rule.redivided c.in-Some.degree z.marks; degree = c.in-Some.degree; room = z.room - 1 }) c.give_back.ensures.after) mid,
      sym (ap (λ (z : Scan). z.degree) c.divide-cut.ensures.after),
      (range.0, range.1),
    )

pub returns-clause-moves : goal.returns-clause-moves
returns-clause-moves g c =
    let rule : Rule = record { redivided = g.V.Division.redivided; cut = g.V.Division.cut } in
    let s : Running = record { scan = g.V.Division.scan c.self.inside.division; held = c.self.inside.held; asked = c.self.inside.asked; collecting = c.self.inside.collecting } in
    let few = subst (λ (z : Running). c.args.count ≤ length (out_of z.scan.marks c.args.role)) (sym c.self.view_is) c.requires.count in
    let some = subst (λ (z : Running). 0 < length (out_of z.scan.marks c.args.role)) (sym c.self.view_is) c.requires.some in
    let full = not_full_after s c.self.inside.missing c.args.role c.args.count (g.V.Division.scan c.give_back.new.self) c.requires.role few c.give_back.ensures.after c.self.invariant.0 (λ z. false≢true (sym c.if-is_complete.false ∙ c.is_complete.ensures.1 z)) in
    subst (λ (z : Running). Makes rule 64 z (Settle c.args.role c.args.count ∷ Divide (unwrap_or z.asked 0) c.divide-cut.result ∷ []) (record s { scan = g.V.Division.scan c.divide-cut.new.self; asked = None })) c.self.view_is
    (makes_cut rule s c.args.role c.args.count c.in-Some.degree c.divide-cut.result (g.V.Division.scan c.give_back.new.self) (g.V.Division.scan c.divide-cut.new.self) c.requires.role some few c.give_back.ensures.after full c.in-Some.is (c.is_idle.ensures.0 c.if-not-is_idle.false) c.divide-cut.ensures.cut c.divide-cut.ensures.after)

pub returns-clause-answer : goal.returns-clause-answer
returns-clause-answer g c =
    let rule : Rule = record { redivided = g.V.Division.redivided; cut = g.V.Division.cut } in
    let laws : IsRule rule = record { deposits_kept = g.met.V.Division.deposits_kept; positions_kept = g.met.V.Division.positions_kept; none_out = g.met.V.Division.none_out; named = g.met.V.Division.named } in
    let s : Running = record { scan = g.V.Division.scan c.self.inside.division; held = c.self.inside.held; asked = c.self.inside.asked; collecting = c.self.inside.collecting } in
    let few = subst (λ (z : Running). c.args.count ≤ length (out_of z.scan.marks c.args.role)) (sym c.self.view_is) c.requires.count in
    let full = not_full_after s c.self.inside.missing c.args.role c.args.count (g.V.Division.scan c.give_back.new.self) c.requires.role few c.give_back.ensures.after c.self.invariant.0 (λ z. false≢true (sym c.if-is_complete.false ∙ c.is_complete.ensures.1 z)) in (
      (c.in-Some.degree, sym (ap (λ (z : Running). z.asked) c.self.view_is) ∙ c.in-Some.is),
      ap (λ (z : Scan). is_full z.marks) c.divide-cut.ensures.after ∙ full_divide rule laws c.in-Some.degree (g.V.Division.scan c.give_back.new.self).marks ∙ full,
    )

pub returns-then-is_complete-clause-front : goal.returns-then-is_complete-clause-front
returns-then-is_complete-clause-front g c =
    subst (λ (z : Running). left_of (g.V.Division.scan c.give_back.new.self).marks c.args.role ≡ drop c.args.count (out_of z.scan.marks c.args.role) ++ left_of z.scan.marks c.args.role) c.self.view_is c.give_back.ensures.front

pub returns-in_default-clause-front : goal.returns-in_default-clause-front
returns-in_default-clause-front g c =
    subst (λ (z : Running). left_of (g.V.Division.scan c.give_back.new.self).marks c.args.role ≡ drop c.args.count (out_of z.scan.marks c.args.role) ++ left_of z.scan.marks c.args.role) c.self.view_is c.give_back.ensures.front

pub returns-then-not-is_idle-clause-front : goal.returns-then-not-is_idle-clause-front
returns-then-not-is_idle-clause-front g c =
    subst (λ (z : Running). left_of (g.V.Division.scan c.give_back.new.self).marks c.args.role ≡ drop c.args.count (out_of z.scan.marks c.args.role) ++ left_of z.scan.marks c.args.role) c.self.view_is c.give_back.ensures.front
