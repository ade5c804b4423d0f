use Rattle.std.proofs.Common.{◌∙◌, sym, ap, arith}
use Rattle.rows.specs.RowFields.{row_in, values_in}
use Rattle.rows.proofs.RowWhole.{ends_where, parts_of, bits_small, some_of, none_of, same_values}
use Rattle.rows.proofs.row_view.RowReader.read.Goals as goal

pub low_number-bits-requires : goal.low_number-bits-requires
low_number-bits-requires c = omega (arith, c.self.invariant, c.split_at.ensures.front_len, c.if-self-gt32.false, c.if-bytes-self.false, bits_small c.self.inside.columns.now (omega (arith, c.if-self-gt32.false)))

pub invariant_of-result : goal.invariant_of-result
invariant_of-result c = ends_where c.self.inside.columns.now c.low_number-bits.result c.split_at.result.1.now ∙ (sym c.are_values.ensures ∙ c.if-are_values.true)

pub returns-then-are_values : goal.returns-then-are_values
returns-then-are_values c =
    let parts = parts_of c.self.inside.columns.now c.args.bytes.now (omega (arith, c.if-self-gt32.false)) (omega (arith, c.self.invariant, c.if-bytes-self.false)) in
    let same = same_values c.self.inside.columns.now c.self.inside.columns.now c.args.bytes.now c.split_at.result.0.now c.split_at.result.1.now c.self.inside.front c.low_number-bits.result c.self.invariant (λ i. c.self.inside.columns.now) c.split_at.ensures.front c.split_at.ensures.back c.low_number-bits.ensures in
    sym (ap (λ cs. row_in cs c.args.bytes.now) (sym c.self.view_is) ∙ (parts ∙ (same ∙ some_of (values_in c.self.inside.columns.now c.low_number-bits.result c.split_at.result.1.now) (ends_where c.self.inside.columns.now c.low_number-bits.result c.split_at.result.1.now ∙ (sym c.are_values.ensures ∙ c.if-are_values.true)))))

pub returns-else-are_values : goal.returns-else-are_values
returns-else-are_values c =
    let parts = parts_of c.self.inside.columns.now c.args.bytes.now (omega (arith, c.if-self-gt32.false)) (omega (arith, c.self.invariant, c.if-bytes-self.false)) in
    let same = same_values c.self.inside.columns.now c.self.inside.columns.now c.args.bytes.now c.split_at.result.0.now c.split_at.result.1.now c.self.inside.front c.low_number-bits.result c.self.invariant (λ i. c.self.inside.columns.now) c.split_at.ensures.front c.split_at.ensures.back c.low_number-bits.ensures in
    sym (ap (λ cs. row_in cs c.args.bytes.now) (sym c.self.view_is) ∙ (parts ∙ (same ∙ none_of (values_in c.self.inside.columns.now c.low_number-bits.result c.split_at.result.1.now) (ends_where c.self.inside.columns.now c.low_number-bits.result c.split_at.result.1.now ∙ (sym c.are_values.ensures ∙ c.if-are_values.false)))))
