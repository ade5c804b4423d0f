use Rattle.std.proofs.Common.{◌≡◌, ◌++◌, sym, subst, map, filter, [], get_or, arith}
use Rattle.std.proofs.lemmas.Option.{get_or_from_slice_get}
use Rattle.rows.specs.Keys.{keys_match}
use Rattle.rows.specs.Layouts.{IsRowIn}
use Rattle.hash_join.specs.Table.{rows_of}
use Rattle.plan_tree.specs.Combining.{combined}
use Rattle.merge_join.specs.Sides.{AreBelow}
use Rattle.merge_join.proofs.InOrder.{passed_from, right_rises}
use Rattle.merge_join.proofs.Matches.{fits_get}
use Rattle.merge_join.proofs.merging.put_row.Goals as goal

pub first_from-next-requires-clause-rises : goal.first_from-next-requires-clause-rises
first_from-next-requires-clause-rises c =
    right_rises c.args.first.now c.args.second.now c.args.keys.now c.args.left.now.lists
    c.args.right.now.lists c.requires.left c.requires.right c.nth-a.result.now

pub first_from-next-requires-clause-below : goal.first_from-next-requires-clause-below
first_from-next-requires-clause-below c =
    let is : get_or (rows_of c.args.left.now.lists) c.args.number []
    ≡ c.nth-a.result.now = get_or_from_slice_get (rows_of c.args.left.now.lists) c.args.number
    c.nth-a.result.now [] c.nth-a.ensures in
    subst (λ a. AreBelow c.args.first.now c.args.second.now c.args.keys.now a
    (rows_of c.args.right.now.lists) c.args.start) is
    (c.requires.passed c.args.number [] (omega arith) c.requires.number)

pub put_matches-requires-clause-left : goal.put_matches-requires-clause-left
put_matches-requires-clause-left c =
    fits_get (IsRowIn c.args.first.now) (rows_of c.args.left.now.lists) c.args.number
    c.nth-a.result.now c.nth-a.ensures c.requires.left.fit

pub put_matches-requires-clause-rises : goal.put_matches-requires-clause-rises
put_matches-requires-clause-rises c =
    right_rises c.args.first.now c.args.second.now c.args.keys.now c.args.left.now.lists
    c.args.right.now.lists c.requires.left c.requires.right c.nth-a.result.now

pub returns-clause-passed : goal.returns-clause-passed
returns-clause-passed c =
    let is : get_or (rows_of c.args.left.now.lists) c.args.number []
    ≡ c.nth-a.result.now = get_or_from_slice_get (rows_of c.args.left.now.lists) c.args.number
    c.nth-a.result.now [] c.nth-a.ensures in
    passed_from c.args.first.now c.args.second.now c.args.keys.now c.args.left.now.lists
    c.args.right.now.lists c.requires.left c.requires.right c.args.number []
    c.first_from-next.result c.requires.number
    (subst (λ a. AreBelow c.args.first.now c.args.second.now c.args.keys.now a
    (rows_of c.args.right.now.lists) c.first_from-next.result) (sym is)
    c.first_from-next.ensures.start.0)

pub returns-clause-added : goal.returns-clause-added
returns-clause-added c =
    let is : get_or (rows_of c.args.left.now.lists) c.args.number []
    ≡ c.nth-a.result.now = get_or_from_slice_get (rows_of c.args.left.now.lists) c.args.number
    c.nth-a.result.now [] c.nth-a.ensures in
    subst (λ a. c.put_matches.new.out.items ≡ c.args.out.now.items
    ++ map (λ b. combined c.args.layout.now c.args.first.now c.args.second.now a b)
    (filter (λ b. keys_match c.args.first.now c.args.second.now c.args.keys.now a b)
    (rows_of c.args.right.now.lists)))
    (sym is) c.in_ok-put_matches.ensures
