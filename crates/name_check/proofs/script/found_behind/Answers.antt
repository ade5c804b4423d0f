use Rattle.std.proofs.Common.{rules, arith}
use Rattle.std.proofs.lemmas.Grind.{common_steps}
use Rattle.name_check.proofs.Rest.{drop_at}
use Rattle.name_check.proofs.script.found_behind.Goals as goal

pub returns-in_err-found : goal.returns-in_err-found
returns-in_err-found c =
    let e =
    drop_at c.args.script.now.statements c.loop-place.place c.get.result.now c.get.ensures in
    first_of (search rules, grind (arith, common_steps))

pub loop-place-preserved : goal.loop-place-preserved
loop-place-preserved c =
    let e =
    drop_at c.args.script.now.statements c.loop-place.place c.get.result.now c.get.ensures in
    first_of (search rules, grind (arith, common_steps))
