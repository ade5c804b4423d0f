use Rattle.std.proofs.Common.{◌≡◌, ℕ, [], ◌∷◌, ap, ◌∙◌, sym, subst, Some, None, Option, unwrap_or}
use Rattle.std.proofs.lemmas.Bool.{false≢true}
use Rattle.page_partition.specs.Scan.{Scan}
use Rattle.adjust_protocol.specs.Moves.{Running, Rule, Ask, Divide, Makes, wanted}
use Rattle.adjust_protocol.specs.Kept.{IsKept}
use Rattle.adjust_protocol.specs.Steps.{IsRule, full_is, full_not, makes_ask, ask_full, ask_same, ask_new, kept_divide, calm_none, makes_ask_cut}
use Rattle.adjust_protocol.proofs.turns.Turns.ask.Goals as goal

pub returns-then-is_complete-clause-moves : goal.returns-then-is_complete-clause-moves
returns-then-is_complete-clause-moves g c =
    let rule : Rule = record { redivided = g.V.Division.redivided; cut = g.V.Division.cut } in
    let s : Running = record { scan = g.V.Division.scan c.self.inside.division; held = c.self.inside.held; asked = c.self.inside.asked; collecting = c.self.inside.collecting } in
    subst (λ (z : Running). Makes rule 64 z (Ask c.args.degree ∷ []) z) c.self.view_is
    (makes_ask rule s c.args.degree s.asked c.requires.low c.requires.high c.self.invariant.0.calm (ask_full s c.args.degree (full_is s c.self.inside.missing c.self.invariant.0.sound (c.is_complete.ensures.0 c.if-is_complete.true))))

pub returns-then-wanted_degree-degree-clause-moves : goal.returns-then-wanted_degree-degree-clause-moves
returns-then-wanted_degree-degree-clause-moves g c =
    let rule : Rule = record { redivided = g.V.Division.redivided; cut = g.V.Division.cut } in
    let s : Running = record { scan = g.V.Division.scan c.self.inside.division; held = c.self.inside.held; asked = c.self.inside.asked; collecting = c.self.inside.collecting } in
    let same : wanted s ≡ c.args.degree = ap (unwrap_or c.self.inside.asked) (sym c.self.invariant.1) ∙ sym c.wanted_degree.ensures ∙ c.if-wanted_degree-degree.true in
    subst (λ (z : Running). Makes rule 64 z (Ask c.args.degree ∷ []) z) c.self.view_is
    (makes_ask rule s c.args.degree s.asked c.requires.low c.requires.high c.self.invariant.0.calm (ask_same s c.args.degree same))

pub divide-cut-requires-clause-idle : goal.divide-cut-requires-clause-idle
divide-cut-requires-clause-idle g c = c.is_idle.ensures.0 c.if-is_idle.true

pub invariant_of-self : goal.invariant_of-self
invariant_of-self g c =
    let rule : Rule = record { redivided = g.V.Division.redivided; cut = g.V.Division.cut } in
    let laws : IsRule rule = record { deposits_kept = g.met.V.Division.deposits_kept; positions_kept = g.met.V.Division.positions_kept; none_out = g.met.V.Division.none_out; named = g.met.V.Division.named } in
    let s : Running = record { scan = g.V.Division.scan c.self.inside.division; held = c.self.inside.held; asked = c.self.inside.asked; collecting = c.self.inside.collecting } in
    let none : c.self.inside.asked ≡ None = calm_none c.self.inside.asked c.self.invariant.0.calm (c.is_idle.ensures.0 c.if-is_idle.true) in (
      subst (λ (o : Option ℕ). IsKept (record s { scan = g.V.Division.scan c.divide-cut.new.self; asked = o }) c.self.inside.missing) (sym none)
          (kept_divide rule laws s c.self.inside.missing c.args.degree (g.V.Division.scan c.divide-cut.new.self) c.requires.low c.requires.high c.divide-cut.ensures.after c.self.invariant.0.sound),
      sym (ap (λ (z : Scan). z.degree) c.divide-cut.ensures.after),
      (c.requires.low, c.requires.high),
    )

pub returns-then-is_idle-clause-moves : goal.returns-then-is_idle-clause-moves
returns-then-is_idle-clause-moves g c =
    let rule : Rule = record { redivided = g.V.Division.redivided; cut = g.V.Division.cut } in
    let s : Running = record { scan = g.V.Division.scan c.self.inside.division; held = c.self.inside.held; asked = c.self.inside.asked; collecting = c.self.inside.collecting } in
    let other : wanted s ≡ c.args.degree → ⊥ = λ e. c.if-wanted_degree-degree.false (c.wanted_degree.ensures ∙ ap (unwrap_or c.self.inside.asked) c.self.invariant.1 ∙ e) in
    let full = full_not s c.self.inside.missing c.self.invariant.0.sound (λ z. false≢true (sym c.if-is_complete.false ∙ c.is_complete.ensures.1 z)) in
    let none : c.self.inside.asked ≡ None = calm_none c.self.inside.asked c.self.invariant.0.calm (c.is_idle.ensures.0 c.if-is_idle.true) in
    subst (λ (z : Running). Makes rule 64 z (Ask c.args.degree ∷ Divide c.args.degree c.divide-cut.result ∷ []) (record s { scan = g.V.Division.scan c.divide-cut.new.self })) c.self.view_is
    (subst (λ (o : Option ℕ). Makes rule 64 s (Ask c.args.degree ∷ Divide c.args.degree c.divide-cut.result ∷ []) (record s { scan = g.V.Division.scan c.divide-cut.new.self; asked = o })) (sym none)
    (makes_ask_cut rule s c.args.degree c.divide-cut.result (g.V.Division.scan c.divide-cut.new.self) c.requires.low c.requires.high c.self.invariant.0.calm (ask_new s c.args.degree full other) (c.is_idle.ensures.0 c.if-is_idle.true) c.divide-cut.ensures.cut c.divide-cut.ensures.after))

pub returns-clause-moves : goal.returns-clause-moves
returns-clause-moves g c =
    let rule : Rule = record { redivided = g.V.Division.redivided; cut = g.V.Division.cut } in
    let s : Running = record { scan = g.V.Division.scan c.self.inside.division; held = c.self.inside.held; asked = c.self.inside.asked; collecting = c.self.inside.collecting } in
    let other : wanted s ≡ c.args.degree → ⊥ = λ e. c.if-wanted_degree-degree.false (c.wanted_degree.ensures ∙ ap (unwrap_or c.self.inside.asked) c.self.invariant.1 ∙ e) in
    let full = full_not s c.self.inside.missing c.self.invariant.0.sound (λ z. false≢true (sym c.if-is_complete.false ∙ c.is_complete.ensures.1 z)) in
    subst (λ (z : Running). Makes rule 64 z (Ask c.args.degree ∷ []) (record s { asked = Some c.args.degree })) c.self.view_is
    (makes_ask rule s c.args.degree (Some c.args.degree) c.requires.low c.requires.high c.self.invariant.0.calm (ask_new s c.args.degree full other))
