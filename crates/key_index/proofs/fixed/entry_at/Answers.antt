use Rattle.std.proofs.Common.{ℕ, ◌+◌, List, ap, ◌∙◌}
use Rattle.rows.specs.declared.field.ColType.TheVariants.{Int4}
use Rattle.key_index.specs.Aims.{seen_item}
use Rattle.key_index.specs.Readings.{item_front}
use Rattle.key_index.proofs.Placed.{here}
use Rattle.key_index.proofs.fixed.entry_at.Goals as goal

pub returns : goal.returns
returns c =
    let number = ap (λ (k : ℕ). item_front Int4 c.args.level (c.args.start + k) c.bytes_from-rest.result.now) c.from.ensures in
    let bytes = ap (λ (xs : List ℕ). item_front Int4 c.args.level (c.args.start + c.args.place) xs) c.bytes_from-rest.ensures in
    here c.args.level c.args.start c.args.place c.args.bytes.now c.requires.there (seen_item c.in-Some.entry) c.in-Some.field-0-1.now (c.in-Some.ensures ∙ (number ∙ bytes))
