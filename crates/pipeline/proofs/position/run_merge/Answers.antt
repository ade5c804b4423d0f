use Rattle.std.proofs.Common.{subst, sym}
use Rattle.std.specs.List.{AllByRecursion}
use Rattle.rows.specs.Layouts.{IsRowIn}
use Rattle.hash_join.specs.Table.{rows_of}
use Rattle.plan_tree.specs.Combining.{merged}
use Rattle.pipeline.proofs.Merging.{matched_fits}
use Rattle.pipeline.proofs.position.run_merge.Goals as goal

pub kept_rows-requires-clause-rows : goal.kept_rows-requires-clause-rows
kept_rows-requires-clause-rows c =
    let first = c.args.first.now in
    let second = c.args.second.now in
    subst (λ l. AllByRecursion (IsRowIn l) c.in_ok-rows.rows) (sym c.in_ok-layout.ensures)
    (subst (AllByRecursion (IsRowIn (merged first second))) (sym c.in_ok-rows.ensures)
    (matched_fits first second c.args.keys.now c.requires.first c.requires.second c.requires.apart (rows_of c.args.left.now.lists) (rows_of c.args.right.now.lists) c.requires.left.fit c.requires.right.fit c.args.slice))
