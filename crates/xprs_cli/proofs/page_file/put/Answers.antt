use Rattle.std.proofs.Common.{◌≡◌, ◌+◌, ◌-◌, ◌≤◌, take, drop, length, length-drop, subst, arith}
use Rattle.xprs_cli.specs.Bytes.{Writes}
use Rattle.xprs_cli.proofs.Overlays.{writes_more, all_behind}
use Rattle.xprs_cli.proofs.page_file.put.Goals as goal

pub loop-at-preserved : goal.loop-at-preserved
loop-at-preserved g c =
    let rest = subst (λ xs. Writes (g.F.PageFile.bytes c.loop-at.file) (g.F.PageFile.bytes c.write_front.new.file) (c.args.offset + c.loop-at.at) c.in-Some.count xs) (all_behind c.loop-at.at c.args.from.now) c.in-Some.ensures.put in (
      omega (arith, subst (λ xs. c.in-Some.count ≤ length xs) (all_behind c.loop-at.at c.args.from.now) c.in-Some.ensures.bound.1, length-drop c.loop-at.at c.args.from.now, c.loop-at-test.true),
      writes_more (g.F.PageFile.bytes c.args.file.now) (g.F.PageFile.bytes c.loop-at.file) (g.F.PageFile.bytes c.write_front.new.file) c.args.offset c.loop-at.at c.in-Some.count c.args.from.now c.loop-at.invariant.1 rest,
    )
