use Rattle.std.proofs.Common.{ap}
use Rattle.std.specs.Result.{result_map_both}
use Rattle.postquel.specs.Program.{program_of}
use Rattle.postquel_round_trip.proofs.Again.{parser_tells_same, parser_tells_no_fault}
use Rattle.postquel_round_trip.proofs.reread.Goals as goal

pub returns-in-Ok-clause-same : goal.returns-in-Ok-clause-same
returns-in-Ok-clause-same c =
    parser_tells_same (program_of c.args.script.now) (program_of c.in-Ok.again) c.in_ok-tokens.tokens (result_map_both program_of (λ e. e) c.parse.result) c.requires c.in_ok-tokens.ensures (ap (result_map_both program_of (λ e. e)) c.in-Ok.is) c.parse.ensures

pub unreachable-requires : goal.unreachable-requires
unreachable-requires c =
    parser_tells_no_fault (program_of c.args.script.now) c.in_ok-tokens.tokens c.in-Err-Fault.field-0-0 c.in-Err-Fault.field-0-1 c.in-Err-Fault.field-0-2 c.in-Err-Fault.field-0 (result_map_both program_of (λ e. e) c.parse.result) c.requires c.in_ok-tokens.ensures c.in-Err-Fault.field-0-is (ap (result_map_both program_of (λ e. e)) c.in-Err-Fault.is) c.parse.ensures
