-- How a run by several backends ends as long as it isn't built.
use Rattle.std.specs.Prelude.{◌≡◌, Option, Some, None, ⊤}
use Rattle.command_words.specs.Forms.{Asked}
use Rattle.xprs_top.specs.declared.status.Status.{Status}
use Rattle.xprs_top.specs.declared.status.Status.TheVariants.{NoMemory, NotBuilt, Usage}
use Rattle.xprs_top.specs.declared.status.Unbuilt.TheVariants.{Run}

-- words of a form end as what isn't built, and others as no form, unless memory is wanting
abbrev pub EndsRun : Option Asked → Status → Type 0
EndsRun form NoMemory = ⊤
EndsRun None status = status ≡ Usage
EndsRun (Some asked) status = status ≡ NotBuilt Run
