use Rattle.std.proofs.Common.{sym, ◌∙◌, arith}
use Rattle.rows.specs.declared.field.ColType.TheVariants.{Int4}
use Rattle.key_index.proofs.Scanning.{no_level, no_items}
use Rattle.key_index.proofs.Placed.{too_many, more_behind, is_fine}
use Rattle.key_index.proofs.fixed.check_fixed.Goals as goal
use Rattle.key_index.proofs.fixed.check_fixed.Goals.{then-len-eq0-via-then-len-eq0, then-len-eq0-via-else-len-eq0+then-offset-bytes}

pub returns-then-from-level : goal.returns-then-from-level
returns-then-from-level c = λ start. no_level Int4 c.args.level start c.args.bytes.now (λ e. c.if-from-level.true (c.from.ensures ∙ (c.read_short.ensures ∙ e)))

pub returns-then-len-eq0 : goal.returns-then-len-eq0
returns-then-len-eq0 c = λ start.
    elim c.then-len-eq0.branch [
      | then-len-eq0-via-then-len-eq0 w ↦ no_items Int4 c.args.level start c.args.bytes.now (omega (arith, c.read_short.ensures, c.from.ensures, c.if-from-level.false)) (omega (arith, c.read_short-len.ensures, w.if-len-eq0.true))
      | then-len-eq0-via-else-len-eq0+then-offset-bytes w ↦ too_many c.args.level start c.read_short-len.result c.args.bytes.now c.requires (omega (arith, c.read_short.ensures, c.from.ensures, c.if-from-level.false)) (sym c.read_short-len.ensures) (omega (arith, w.if-len-eq0.false))
          (omega (arith, w.offset.ensures, w.if-offset-bytes.true))
    ]

pub returns-then-not-are_zeros : goal.returns-then-not-are_zeros
returns-then-not-are_zeros c = λ start.
    more_behind c.args.level start c.read_short-len.result c.args.bytes.now c.requires (omega (arith, c.read_short.ensures, c.from.ensures, c.if-from-level.false)) (sym c.read_short-len.ensures) (omega (arith, c.if-len-eq0.false)) (omega (arith, c.offset.ensures, c.if-offset-bytes.false))
    c.bytes_from.result.now c.bytes_from.ensures (sym c.are_zeros.ensures ∙ c.if-not-are_zeros.true)

pub returns : goal.returns
returns c = λ start.
    is_fine c.args.level start c.read_short-len.result c.args.bytes.now c.requires (omega (arith, c.read_short.ensures, c.from.ensures, c.if-from-level.false)) (sym c.read_short-len.ensures) (omega (arith, c.if-len-eq0.false)) (omega (arith, c.offset.ensures, c.if-offset-bytes.false))
    c.bytes_from.result.now c.bytes_from.ensures (sym c.are_zeros.ensures ∙ c.if-not-are_zeros.false)
