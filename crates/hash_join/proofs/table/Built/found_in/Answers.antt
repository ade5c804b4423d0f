use Rattle.std.proofs.Common.{◌∙◌, sym}
use Rattle.hash_join.specs.Table.{key_of}
use Rattle.hash_join.proofs.Places.{no_match}
use Rattle.hash_join.proofs.table.Built.found_in.Goals as goal

pub returns-then-null_within : goal.returns-then-null_within
returns-then-null_within c = sym (no_match c.args.self.now (key_of c.args.columns.now c.args.row.now) (sym c.null_within.ensures ∙ c.if-null_within.true))
