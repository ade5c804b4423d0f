use Rattle.std.proofs.Common.{sym, ◌∙◌, eqb-true}
use Rattle.key_index.proofs.Drives.{no_page}
use Rattle.key_index.proofs.writing.write_index.Goals as goal

pub returns-then-is_empty-clause-ok : goal.returns-then-is_empty-clause-ok
returns-then-is_empty-clause-ok g c = λ page bytes drive at at_d.
    absurd (no_page c.args.index.now.file c.args.entries.now page bytes (eqb-true _ _ (sym c.is_empty.ensures ∙ c.if-is_empty.true)) at)
