-- What a shelf answers where a file could not be had.
use Rattle.std.specs.declared.io.ErrorKind.{ErrorKind}
use Rattle.std.specs.declared.io.ErrorKind.TheVariants as kind
use Rattle.xp_outside.specs.declared.shelf.ShelfErr.{ShelfErr}
use Rattle.xp_outside.specs.declared.shelf.ShelfErr.TheVariants as answer
use Rattle.xprs_cli.specs.declared.folder.ReadErr.{ReadErr}
use Rattle.xprs_cli.specs.declared.folder.ReadErr.TheVariants as cause

-- where it was opened and not read whole
abbrev pub answer_of : ReadErr → ShelfErr
answer_of cause.TooLong = answer.TooLong
answer_of cause.Failed = answer.Failed
answer_of cause.NoMemory = answer.NoMemory

-- where it was not opened
abbrev pub opening_answer : ErrorKind → ShelfErr
opening_answer kind.OutOfMemory = answer.NoMemory
opening_answer k = answer.Missing
