use Rattle.std.proofs.Common.{◌≡◌, ◌++◌, subst, map, filter, [], get_or, arith}
use Rattle.rows.specs.Keys.{keys_match}
use Rattle.hash_join.specs.Table.{rows_of}
use Rattle.plan_tree.specs.Combining.{combined}
use Rattle.merge_join.proofs.Matches.{row_more}
use Rattle.merge_join.proofs.merging.put_rows.Goals as goal

pub loop-number-preserved : goal.loop-number-preserved
loop-number-preserved c =
    let left = c.args.first.now in
    let right = c.args.second.now in
    let keys = c.args.keys.now in
    let lefts = rows_of c.args.left.now.lists in
    let rows = rows_of c.args.right.now.lists in
    let number = c.loop-number.number in
    record {
      within = c.in_ok-start.ensures.within;
      passed = λ k a low high. c.in_ok-start.ensures.passed k a (omega (arith, low)) high;
      made = row_more left right keys lefts rows number c.args.upto c.loop-number.out.items
          c.put_row.new.out.items _ c.loop-number-test.true c.requires.within
          (subst (λ layout. c.put_row.new.out.items ≡ c.loop-number.out.items
          ++ map (λ b. combined layout left right (get_or lefts number []) b)
          (filter (λ b. keys_match left right keys (get_or lefts number []) b) rows))
          c.requires.layout c.in_ok-start.ensures.added)
          c.loop-number.invariant.made;
    }
