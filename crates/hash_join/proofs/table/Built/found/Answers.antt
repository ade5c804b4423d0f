use Rattle.std.proofs.Common.{◌∙◌, sym}
use Rattle.hash_join.proofs.Places.{no_match}
use Rattle.hash_join.proofs.table.Built.found.Goals as goal

pub returns-then-holds_null : goal.returns-then-holds_null
returns-then-holds_null c = sym (no_match c.args.self.now c.args.key.now (sym c.holds_null.ensures ∙ c.if-holds_null.true))
