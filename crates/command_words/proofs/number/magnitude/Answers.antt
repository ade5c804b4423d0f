use Rattle.command_words.proofs.Digits.{parsed}
use Rattle.command_words.proofs.number.magnitude.Goals as goal

pub returns : goal.returns
returns c =
    rw c.ok.ensures.value (parsed c.args.text.now c.parse.result c.parse.ensures.value.0 c.requires.some c.requires.digits)
