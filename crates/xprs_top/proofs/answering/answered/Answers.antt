use Rattle.std.proofs.Common.{◌≡◌, length, drop, arith}
use Rattle.xprs_top.proofs.Devices.{whole_slice}
use Rattle.xprs_top.proofs.answering.answered.Goals as goal

pub returns-clause-made : goal.returns-clause-made
returns-clause-made g c = λ before now.
    let same : c.args.drives.len ≡ length c.laid_answers-text.new.drives = omega (arith, c.laid_answers-text.ensures.count, c.requires.count, c.args.drives.ok) in
    rw (whole_slice c.args.drives.len c.laid_answers-text.new.drives (drop (length c.laid_answers-text.new.drives) c.args.drives.items) same) (c.laid_answers-text.ensures.made before now)
