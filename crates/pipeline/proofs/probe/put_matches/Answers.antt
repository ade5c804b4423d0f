use Rattle.std.proofs.Common.{arith, ap, ◌∙◌, refl}
use Rattle.rows.specs.Layouts.{IsRowIn}
use Rattle.plan_tree.specs.Fragments.{added}
use Rattle.plan_tree.specs.Pieces.{probing_of}
use Rattle.hash_join.specs.Table.{key_of, matching}
use Rattle.pipeline.proofs.Joined.{joined_fits, key_is, made_all, place_fits}
use Rattle.pipeline.proofs.probe.put_matches.Goals as goal

pub put_joined-requires-clause-fits : goal.put_joined-requires-clause-fits
put_joined-requires-clause-fits c =
    let before = c.args.before.now in
    let first = added before c.args.probe.now.layout in
    joined_fits before first (probing_of c.args.probe.now) c.args.built.now c.row.result.now c.args.row.now c.requires.can refl
    (place_fits (IsRowIn first) c.args.built.now.lists _ c.row.result.now c.requires.can.fits.rows
    (c.matches_in-at-items.ensures.places c.loop-at.at-index (record { position = 0; place = 0 }) c.loop-at-test.true) c.row.ensures) c.requires.row

pub returns : goal.returns
returns c =
    let before = c.args.before.now in
    let p = probing_of c.args.probe.now in
    let row = c.args.row.now in
    made_all before p c.args.built.now row (key_of c.args.way.now.keys.items row) c.matches_in-at-items.result.now c.loop-at.at-index c.args.out.now.items c.loop-at.out.items c.requires.can
    (ap (λ places. key_of places row) c.requires.keys ∙ key_is before p c.args.built.now row c.requires.can)
    (c.matches_in-at-items.ensures.found ∙ (λ i. matching c.args.built.now (key_of (c.as_slice.ensures.value i) (c.items.ensures i)))) (omega arith) c.loop-at.invariant
