use Rattle.std.proofs.Common.{◌≡◌, ◌<◌, sym, subst, [], get_or, length, arith}
use Rattle.std.proofs.lemmas.Option.{get_or_from_slice_get}
use Rattle.hash_join.specs.Table.{rows_of}
use Rattle.merge_join.specs.Sides.{AreBelow}
use Rattle.merge_join.proofs.InOrder.{passed_from, right_rises}
use Rattle.merge_join.proofs.merging.first_start.Goals as goal

pub first_of-requires-clause-rises : goal.first_of-requires-clause-rises
first_of-requires-clause-rises c =
    right_rises c.args.first.now c.args.second.now c.args.keys.now c.args.left.now.lists
    c.args.right.now.lists c.requires.left c.requires.right c.nth.result.now

pub returns-clause-passed : goal.returns-clause-passed
returns-clause-passed c =
    let within : c.args.number < length (rows_of c.args.left.now.lists) =
    (let e = c.rows.ensures in let f = c.if-number-rows.false in omega (arith, e, f)) in
    let is : get_or (rows_of c.args.left.now.lists) c.args.number []
    ≡ c.nth.result.now = get_or_from_slice_get (rows_of c.args.left.now.lists) c.args.number
    c.nth.result.now [] c.nth.ensures in
    passed_from c.args.first.now c.args.second.now c.args.keys.now c.args.left.now.lists
    c.args.right.now.lists c.requires.left c.requires.right c.args.number [] c.first_of.result
    within
    (subst (λ a. AreBelow c.args.first.now c.args.second.now c.args.keys.now a
    (rows_of c.args.right.now.lists) c.first_of.result) (sym is) c.first_of.ensures.start.0)
