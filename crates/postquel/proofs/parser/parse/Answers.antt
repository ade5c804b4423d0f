use Rattle.std.proofs.Common.{refl}
use Rattle.postquel.specs.Program.{program_of}
use Rattle.postquel.specs.Script.{script}
use Rattle.postquel.specs.Start.{start_of}
use Rattle.postquel.proofs.Lexed.{lexed_text}
use Rattle.postquel.proofs.Public.{tells}
use Rattle.postquel.proofs.parser.parse.Goals as goal

pub returns : goal.returns
returns c = tells c.args.tokens.now (lexed_text c.args.tokens.now c.requires) program_of c.parsed.result (script (start_of c.args.tokens.now)) refl c.parsed.ensures
