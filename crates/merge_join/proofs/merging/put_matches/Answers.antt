use Rattle.std.proofs.Common.{◌≡◌, ◌++◌, ◌∙◌, sym, ap, subst, map, true, false}
use Rattle.std.specs.Prelude.{OnOk}
use Rattle.std.specs.List.{list_any}
use Rattle.std.proofs.lemmas.List.{append-nil}
use Rattle.rows.specs.Values.{is_null}
use Rattle.hash_join.specs.Table.{row_key, rows_of}
use Rattle.plan_tree.specs.Combining.{combined}
use Rattle.merge_join.specs.Sides.{left_columns}
use Rattle.merge_join.proofs.Matches.{no_match, run_matches}
use Rattle.merge_join.proofs.merging.put_matches.Goals as goal

pub returns-then-holds_null : goal.returns-then-holds_null
returns-then-holds_null c =
    let e = rw c.items.ensures at c.holds_null.ensures in
    let null : list_any is_null (row_key c.args.first.now (left_columns c.args.keys.now)
    c.args.a.now) ≡ true = sym e ∙ c.if-holds_null.true in
    sym (append-nil c.args.out.now.items)
    ∙ ap (λ bs. c.args.out.now.items
    ++ map (λ b. combined c.args.layout.now c.args.first.now c.args.second.now
    c.args.a.now b) bs)
    (sym (no_match c.args.first.now c.args.second.now c.args.keys.now c.args.a.now
    (rows_of c.args.right.now.lists) null))

pub returns : goal.returns
returns c =
    let e = rw c.items.ensures at c.holds_null.ensures in
    let null : list_any is_null (row_key c.args.first.now (left_columns c.args.keys.now)
    c.args.a.now) ≡ false = sym e ∙ c.if-holds_null.false in
    subst (λ bs. OnOk c.put_run.result (c.put_run.new.out.items ≡ c.args.out.now.items
    ++ map (λ b. combined c.args.layout.now c.args.first.now c.args.second.now
    c.args.a.now b) bs))
    (run_matches c.args.first.now c.args.second.now c.args.keys.now c.args.a.now
    (rows_of c.args.right.now.lists) null)
    c.put_run.ensures
