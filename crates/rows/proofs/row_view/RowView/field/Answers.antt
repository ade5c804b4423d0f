use Rattle.std.proofs.Common.{◌∙◌, sym, ap, arith, is_some}
use Rattle.std.proofs.lemmas.List.{length-take-le}
use Rattle.rows.proofs.RowValues.{some_same}
use Rattle.rows.specs.declared.field.ColType.TheVariants as col
use Rattle.std.proofs.Common.{[], false}
use Rattle.rows.specs.RowFields.{values_in}
use Rattle.rows.proofs.RowWhole.{whole_of, same_length, field_at, behind_some}
use Rattle.rows.proofs.row_view.RowView.field.Goals as goal

pub slice_bounds-behind_known-end : goal.slice_bounds-behind_known-end
slice_bounds-behind_known-end c =
    let e = whole_of (values_in c.self.inside.columns.now c.self.inside.bits c.self.inside.bytes.now) c.args.self.now c.self.invariant c.self.view_is in
    sym (length-take-le c.args.column c.self.inside.columns.now (omega (arith, c.requires, same_length c.self.inside.columns.now c.self.inside.bits c.self.inside.bytes.now c.args.self.now e)))

pub behind_known-bits-requires : goal.behind_known-bits-requires
behind_known-bits-requires c =
    let e = whole_of (values_in c.self.inside.columns.now c.self.inside.bits c.self.inside.bytes.now) c.args.self.now c.self.invariant c.self.view_is in
    behind_some c.self.inside.columns.now c.self.inside.bits c.self.inside.bytes.now c.args.self.now c.args.column (record { name = []; col_type = col.Int4; nullable = false }) e (omega (arith, c.requires, same_length c.self.inside.columns.now c.self.inside.bits c.self.inside.bytes.now c.args.self.now e))

pub bounds-self-inside-place : goal.bounds-self-inside-place
bounds-self-inside-place c =
    let e = whole_of (values_in c.self.inside.columns.now c.self.inside.bits c.self.inside.bytes.now) c.args.self.now c.self.invariant c.self.view_is in
    omega (arith, c.requires, same_length c.self.inside.columns.now c.self.inside.bits c.self.inside.bytes.now c.args.self.now e)

pub known_front-requires : goal.known_front-requires
known_front-requires c =
    let e = whole_of (values_in c.self.inside.columns.now c.self.inside.bits c.self.inside.bytes.now) c.args.self.now c.self.invariant c.self.view_is in
    let f = field_at c.self.inside.columns.now c.self.inside.bits c.self.inside.bytes.now c.args.self.now c.args.column c.index-self-place.result e (omega (arith, c.requires, same_length c.self.inside.columns.now c.self.inside.bits c.self.inside.bytes.now c.args.self.now e)) c.behind_known-bits.result.0 c.behind_known-bits.result.1.now c.behind_known-bits.ensures in
    ap is_some f.1

pub returns : goal.returns
returns c =
    let e = whole_of (values_in c.self.inside.columns.now c.self.inside.bits c.self.inside.bytes.now) c.args.self.now c.self.invariant c.self.view_is in
    let f = field_at c.self.inside.columns.now c.self.inside.bits c.self.inside.bytes.now c.args.self.now c.args.column c.index-self-place.result e (omega (arith, c.requires, same_length c.self.inside.columns.now c.self.inside.bits c.self.inside.bytes.now c.args.self.now e)) c.behind_known-bits.result.0 c.behind_known-bits.result.1.now c.behind_known-bits.ensures in
    ap (λ p. p.0) (some_same _ _ (sym c.known_front.ensures ∙ f.1))
