use Rattle.std.proofs.Common.{rules, ◌≡◌, ◌∙◌, ◌∷◌, ap, map, subst, sym}
use Rattle.plan_tree.specs.Fragments.{after_probe, through}
use Rattle.plan_tree.specs.Pieces.{probing_of}
use Rattle.hash_join.specs.Table.{Table, rows_of}
use Rattle.pipeline.specs.Probes.{AreValues}
use Rattle.pipeline.proofs.Oks.{if_ok_more}
use Rattle.pipeline.proofs.chain.+run_probes.Goals as goal

pub returns-clause-output : goal.returns-clause-output
returns-clause-output t c = λ values from.
    let ep : c.args.probes.now ≡ c.in-Some.probe.now ∷ c.in-Some.probes.now = search rules in
    let ei : c.args.inputs.now ≡ c.in-Some-split_first.input.now ∷ c.in-Some-split_first.inputs.now = search rules in
    let probe = c.in-Some.probe.now in
    let probes = c.in-Some.probes.now in
    let rows = c.args.rows in
    let all = subst (λ xs. AreValues values (map probing_of (probe ∷ probes)) (map (λ x. x.value) xs)) ei (subst (λ ps. AreValues values (map probing_of ps) (map (λ x. x.value) c.args.inputs.now)) ep from) in
    let step : c.in_ok-rows.rows ≡ after_probe values c.args.before.now (probing_of probe) rows = c.in_ok-rows.ensures.output values (all.0 ∙ ap (λ (built : Table). rows_of built.lists) (sym c.deref.ensures)) in
    if_ok_more c.run_probes.result _ (λ found. found ≡ through values c.args.before.now (map probing_of c.args.probes.now) rows)
    (λ found told. told ∙ ap (through values probe.layout (map probing_of probes)) step ∙ sym (ap (λ ps. through values c.args.before.now (map probing_of ps) rows) ep))
    (c.run_probes.ensures.output values all.1)
