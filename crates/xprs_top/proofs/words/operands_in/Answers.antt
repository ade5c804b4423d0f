use Rattle.std.proofs.Common.{map, string_bytes, ap, sym, ◌∙◌}
use Rattle.std.specs.Option.{option_map}
use Rattle.command_words.specs.Forms.{request_of}
use Rattle.xprs_top.proofs.Ranges.{aims, asked_none, asked_of}
use Rattle.xprs_top.proofs.words.operands_in.Goals as goal

pub returns-in-Some-clause-asked : goal.returns-in-Some-clause-asked
returns-in-Some-clause-asked c =
    asked_of (map string_bytes c.args.words.now) (request_of c.in-Some.request) (option_map request_of c.in_ok-request.field-0) c.operands_of.result
    c.in_ok-request.ensures (ap (option_map request_of) c.in-Some.is) c.operands_of.ensures

pub returns-in-Some-clause-machine : goal.returns-in-Some-clause-machine
returns-in-Some-clause-machine c =
    aims (map string_bytes c.args.words.now) (request_of c.in-Some.request) c.operands_of.result
    (sym c.in_ok-request.ensures ∙ ap (option_map request_of) c.in-Some.is) c.operands_of.ensures

pub returns-in-None-clause-asked : goal.returns-in-None-clause-asked
returns-in-None-clause-asked c =
    asked_none (map string_bytes c.args.words.now) (sym (ap (option_map request_of) c.in-None.is) ∙ c.in_ok-request.ensures)
