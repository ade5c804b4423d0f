use Rattle.std.proofs.Common.{◌∙◌, ap, Ok, arith, sym}
use Rattle.catalog_load.proofs.Answering.{written}
use Rattle.catalog_load.proofs.Lexing.{has_token}
use Rattle.catalog_load.proofs.catalog.written.Goals as goal

pub unreachable-requires : goal.unreachable-requires
unreachable-requires c =
    let some = has_token c.args.text.now c.in_ok-tokens.tokens c.in_ok-tokens.ensures in
    let none = rw c.items.ensures at c.in_default.ensures.cases in
    absurd (omega (arith, some, none))

pub returns : goal.returns
returns c = written c.args.text.now c.in-Some.tokens.now c.in-Some.end.now (record { gives = c.in_ok-tokens.ensures ∙ ap Ok (sym c.items.ensures ∙ c.in-Some.ensures.cases.0) }) _ c.entries.result c.entries.ensures
