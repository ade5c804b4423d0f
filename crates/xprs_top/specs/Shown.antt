-- An answer that is shown, without where it lies in memory.
use Rattle.xprs_top.specs.declared.answering.Shown.{Shown}
use Rattle.xprs_top.specs.Answers.{Answer}

abbrev pub answer_by : Shown → Answer
answer_by shown = record { header = shown.header.now; rows = shown.rows.now }
