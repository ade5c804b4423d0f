use Rattle.std.proofs.Common.{◌≡◌, ◌≤◌, sym, subst, length, drop, [], arith}
use Rattle.std.specs.List.{AllByRecursion}
use Rattle.std.proofs.Math.ListN.{drop_of_length-le}
use Rattle.rows.specs.Layouts.{FitsColumns}
use Rattle.hash_join.specs.Table.{rows_of}
use Rattle.merge_join.proofs.Merged.{drop_get}
use Rattle.merge_join.proofs.tests.rows_fit.Goals as goal

pub loop-number-preserved : goal.loop-number-preserved
loop-number-preserved c rest =
    let rows = rows_of c.args.built.now.lists in
    let fits = rw c.items.ensures at c.values_fit.ensures in
    c.loop-number.invariant
    (subst (AllByRecursion (FitsColumns c.args.columns.now))
    (sym (drop_get rows c.loop-number.number c.nth.result.now c.nth.ensures))
    (fits c.if-not-values_fit.false, rest))

pub returns : goal.returns
returns c e =
    let rows = rows_of c.args.built.now.lists in
    let past : length rows ≤ c.loop-number.number =
    (let f = c.rows-number-end.ensures in let t = c.loop-number-test.false in omega (arith, f, t))
    in
    let none : drop c.loop-number.number rows ≡ [] = drop_of_length-le rows past in
    subst (λ columns. AllByRecursion (FitsColumns columns) rows) (sym c.requires.columns)
    (c.loop-number.invariant
    (subst (AllByRecursion (FitsColumns c.args.columns.now)) (sym none) tt))
