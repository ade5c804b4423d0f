use Rattle.std.proofs.Common.{◌∙◌}
use Rattle.postquel.specs.Program.{program_of}
use Rattle.postquel_round_trip.proofs.Again.{prints_short, lexer_gives_no_fault}
use Rattle.postquel_round_trip.proofs.printed_tokens.Goals as goal

pub lex-requires : goal.lex-requires
lex-requires c = prints_short (program_of c.args.script.now) c.deref.result.now c.requires (c.deref.ensures.value ∙ c.in_ok-text.ensures)

pub unreachable-requires : goal.unreachable-requires
unreachable-requires c =
    lexer_gives_no_fault (program_of c.args.script.now) c.deref.result.now c.in-Err-Fault.field-0-0 c.in-Err-Fault.field-0-1 c.in-Err-Fault.field-0-2 c.in-Err-Fault.field-0 c.lex.result c.requires (c.deref.ensures.value ∙ c.in_ok-text.ensures) c.in-Err-Fault.field-0-is c.in-Err-Fault.is c.lex.ensures
