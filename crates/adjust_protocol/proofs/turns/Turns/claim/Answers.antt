use Rattle.std.proofs.Common.{◌≡◌, ◌<◌, [], ◌∷◌, length, true, ap, ◌∙◌, sym, subst}
use Rattle.page_partition.specs.Scan.{Scan, left_of, out_of}
use Rattle.adjust_protocol.specs.Moves.{Running, Rule, Claim, Makes, is_held}
use Rattle.adjust_protocol.specs.Steps.{some_left, none_of, some_of, kept_claim, makes_claim}
use Rattle.std.proofs.lemmas.Bool.{false≢true}
use Rattle.adjust_protocol.proofs.turns.Turns.claim.Goals as goal

pub returns-then-is_some-clause-answer : goal.returns-then-is_some-clause-answer
returns-then-is_some-clause-answer g c =
    let some = some_of c.self.inside.asked (sym c.is_some.ensures ∙ c.if-is_some.true) in
    (some.0, sym (ap (λ (s : Running). s.asked) c.self.view_is) ∙ some.1)

pub invariant_of-self : goal.invariant_of-self
invariant_of-self g c =
    let s : Running = record { scan = g.V.Division.scan c.self.inside.division; held = c.self.inside.held; asked = c.self.inside.asked; collecting = c.self.inside.collecting } in
    let none = none_of c.self.inside.asked (sym c.is_some.ensures ∙ c.if-is_some.false) in (
      kept_claim s c.self.inside.missing c.args.most c.args.role _ c.requires.role none c.take_first.ensures.after c.self.invariant.0,
      c.self.invariant.1 ∙ sym (ap (λ (z : Scan). z.degree) c.take_first.ensures.after),
      c.self.invariant.2,
    )

pub returns-clause-moves : goal.returns-clause-moves
returns-clause-moves g c =
    let rule : Rule = record { redivided = g.V.Division.redivided; cut = g.V.Division.cut } in
    let s : Running = record { scan = g.V.Division.scan c.self.inside.division; held = c.self.inside.held; asked = c.self.inside.asked; collecting = c.self.inside.collecting } in
    let none = none_of c.self.inside.asked (sym c.is_some.ensures ∙ c.if-is_some.false) in
    let held = subst (λ (z : Running). is_held z c.args.role ≡ true) (sym c.self.view_is) c.requires.held in
    let idle = subst (λ (z : Running). out_of z.scan.marks c.args.role ≡ []) (sym c.self.view_is) c.requires.idle in
    let some : 0 < length (left_of s.scan.marks c.args.role) = some_left _ (λ e. false≢true (sym c.if-is_spent.false ∙ c.is_spent.ensures.1 e)) in
    subst (λ (z : Running). Makes rule c.args.most z (Claim c.args.role c.take_first.result ∷ []) (record s { scan = g.V.Division.scan c.take_first.new.self })) c.self.view_is
    (makes_claim rule s c.args.most c.args.role c.take_first.result (g.V.Division.scan c.take_first.new.self) c.requires.role held idle none some c.take_first.ensures.batch c.take_first.ensures.after)

pub returns-then-is_spent-clause-answer : goal.returns-then-is_spent-clause-answer
returns-then-is_spent-clause-answer g c = (
  sym (ap (λ (z : Running). z.asked) c.self.view_is) ∙ none_of c.self.inside.asked (sym c.is_some.ensures ∙ c.if-is_some.false),
  ap (λ (z : Running). left_of z.scan.marks c.args.role) (sym c.self.view_is) ∙ c.is_spent.ensures.0 c.if-is_spent.true,
)
