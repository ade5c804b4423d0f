-- The values of a part, one more at a time.
use Rattle.std.proofs.Common.{◌≡◌, ℕ, ◌+◌, ◌<◌, List, [], ◌∷◌, ◌++◌, append_assoc, length, drop, ap}
use Rattle.std.proofs.lemmas.List.{drop_more}
use Rattle.rows.specs.declared.value.Value.{Value}
use Rattle.rows.specs.declared.field.ColType.TheVariants as col
use Rattle.rows.specs.declared.plain.LayoutColumn.{LayoutColumn}
use Rattle.plan_tree.specs.Assignments.{Assignment}
use Rattle.plan_tree.specs.Combining.{values_of}

pub values_more : (e : Assignment) (var n : ℕ) (cs : List LayoutColumn) (old new whole : List Value)
    (v : Value)
    → n < length cs → v ≡ e var n → new ≡ old ++ v ∷ [] → old ++ values_of e var n (drop n cs)
    ≡ whole
    → new ++ values_of e var (n + 1) (drop (n + 1) cs) ≡ whole
values_more e var n cs old new whole v lt is put told =
    let k : values_of e var n (drop n cs) ≡ e var n ∷ values_of e var (n + 1) (drop (n + 1) cs) =
    ap (values_of e var n) (drop_more cs n (record { col_type = col.Int4; bound = 0 }) lt) in
    rw (put, append_assoc, is, ← k) told
