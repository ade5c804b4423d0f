use Rattle.std.proofs.Common.{◌≡◌, ◌<◌, ◌++◌, ap, length, map, [], true, false, get_or, arith}
use Rattle.std.specs.Ordering.{is_lt, is_eq}
use Rattle.std.proofs.lemmas.Option.{get_or_from_slice_get}
use Rattle.rows.specs.Layouts.{IsRowIn}
use Rattle.hash_join.specs.Table.{rows_of}
use Rattle.plan_tree.specs.Combining.{combined}
use Rattle.merge_join.specs.Sides.{key_order}
use Rattle.merge_join.proofs.Matches.{fits_get, none_behind, run_begins, run_ends, run_more}
use Rattle.merge_join.proofs.Ordered.{unequal_from}
use Rattle.merge_join.proofs.merging.put_run.Goals as goal

pub loop-number-init : goal.loop-number-init
loop-number-init c =
    let order = key_order c.args.first.now c.args.second.now c.args.keys.now
    c.args.a.now in
    ap (λ bs. c.args.out.now.items
    ++ map (λ b. combined c.args.layout.now c.args.first.now c.args.second.now
    c.args.a.now b) bs)
    (run_begins order (rows_of c.args.right.now.lists) c.args.start
    c.requires.within c.requires.start.0)

pub keys_order-requires-clause-right : goal.keys_order-requires-clause-right
keys_order-requires-clause-right c =
    fits_get (IsRowIn c.args.second.now) (rows_of c.args.right.now.lists) c.loop-number.number
    c.nth-b.result.now c.nth-b.ensures c.requires.fit

pub returns-then-not-is_eq : goal.returns-then-not-is_eq
returns-then-not-is_eq c =
    let order = key_order c.args.first.now c.args.second.now c.args.keys.now
    c.args.a.now in
    let rows = rows_of c.args.right.now.lists in
    let number = c.loop-number.number in
    let b = c.nth-b.result.now in
    let is : get_or rows number [] ≡ b = get_or_from_slice_get rows number b [] c.nth-b.ensures in
    let within : number < length rows =
    (let e = c.rows-count.ensures in let t = c.loop-number-test.true in omega (arith, e, t)) in
    let e : c.keys_order.result ≡ order b = rw c.items.ensures at c.keys_order.ensures in
    let unlike : is_eq (order (get_or rows number []))
    ≡ false = (let f = c.is_eq.ensures in let g = c.if-not-is_eq.true in cc) in
    let not_below : is_lt (order (get_or rows number [])) ≡ false = c.requires.start.1 number []
    (omega (arith, c.loop-number.auto.number)) within in
    run_ends (λ b. is_eq (order b))
    (λ b. combined c.args.layout.now c.args.first.now c.args.second.now c.args.a.now
    b) rows number _ _
    (none_behind (λ b. is_eq (order b)) rows number
    (unequal_from order rows c.requires.rises number [] within not_below unlike))
    c.loop-number.invariant

pub combined_row-requires-clause-second : goal.combined_row-requires-clause-second
combined_row-requires-clause-second c =
    fits_get (IsRowIn c.args.second.now) (rows_of c.args.right.now.lists) c.loop-number.number
    c.nth-b.result.now c.nth-b.ensures c.requires.fit

pub loop-number-preserved : goal.loop-number-preserved
loop-number-preserved c =
    let order = key_order c.args.first.now c.args.second.now c.args.keys.now
    c.args.a.now in
    let b = c.nth-b.result.now in
    let e : c.keys_order.result ≡ order b = rw c.items.ensures at c.keys_order.ensures in
    let same : is_eq (order b)
    ≡ true = (let f = c.is_eq.ensures in let g = c.if-not-is_eq.false in cc) in
    run_more (λ b. is_eq (order b))
    (λ b. combined c.args.layout.now c.args.first.now c.args.second.now c.args.a.now
    b)
    (rows_of c.args.right.now.lists) c.loop-number.number b c.in_ok-combined_row.field-0
    c.loop-number.out.items c.push.new.self.items _
    c.nth-b.ensures same c.in_ok-combined_row.ensures c.in_ok-push.ensures.items
    c.loop-number.invariant
