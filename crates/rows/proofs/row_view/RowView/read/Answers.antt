use Rattle.std.proofs.Common.{◌∙◌, sym, ap, subst}
use Rattle.std.proofs.Math.Facts.{Fits-lt-pow}
use Rattle.rows.specs.RowBytes.{Decodes}
use Rattle.rows.specs.RowFields.{row_in}
use Rattle.rows.proofs.RowWhole.{decodes, read_of}
use Rattle.rows.proofs.row_view.RowView.read.Goals as goal

pub returns-clause-encoded : goal.returns-clause-encoded
returns-clause-encoded c = subst (Decodes c.args.columns.now c.args.bytes.now) (sym (c.read.ensures ∙ ap (λ cs. row_in cs c.args.bytes.now) c.of.ensures)) (decodes c.args.columns.now c.args.bytes.now (λ i. Fits-lt-pow (c.type_inv.bytes i)))

pub returns-clause-of_columns : goal.returns-clause-of_columns
returns-clause-of_columns c = read_of c.args.columns.now c.args.bytes.now c.read.result
    (subst (Decodes c.args.columns.now c.args.bytes.now) (sym (c.read.ensures ∙ ap (λ cs. row_in cs c.args.bytes.now) c.of.ensures)) (decodes c.args.columns.now c.args.bytes.now (λ i. Fits-lt-pow (c.type_inv.bytes i))))
