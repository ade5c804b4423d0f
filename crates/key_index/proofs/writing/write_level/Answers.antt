use Rattle.std.proofs.Common.{◌+◌, length, arith}
use Rattle.std.proofs.lemmas.Result.{err_from_is_err_and}
use Rattle.heap_page.specs.Maps.{IsPlace}
use Rattle.key_index.specs.Files.{index_pages}
use Rattle.heap_page.proofs.Drives.{cause_later, quiet_trans}
use Rattle.key_index.proofs.Drives.{has_page, page_here, starts, writes, wrote_page}
use Rattle.key_index.proofs.Nodes.{base_small, below_pages}
use Rattle.key_index.proofs.writing.write_level.Goals as goal

pub loop-place-init : goal.loop-place-init
loop-place-init g c = starts g.D.Drive c.args.map.now c.args.file (index_pages c.args.file c.args.entries.now) c.args.level.now.base c.args.drives.now c.requires.room c.requires.drives

pub write_page-requires-clause-page : goal.write_page-requires-clause-page
write_page-requires-clause-page g c =
    has_page c.args.map.now c.args.file (length (index_pages c.args.file c.args.entries.now)) (c.args.level.now.base + c.loop-place.place) c.requires.pages
    (omega (arith, c.loop-place-test.true, c.len-place-end.ensures, below_pages c.args.entries.now c.args.level.now c.requires.level c.requires.keys c.args.file))

pub write_page-requires-clause-small : goal.write_page-requires-clause-small
write_page-requires-clause-small g c =
    omega (arith, c.loop-place-test.true, c.len-place-end.ensures, base_small c.args.entries.now c.args.level.now c.requires.level c.requires.keys c.requires.few)

pub returns-in_err-write_page-clause-written : goal.returns-in_err-write_page-clause-written
returns-in_err-write_page-clause-written g c =
    wrote_page g.D.Drive c.args.map.now c.args.file (index_pages c.args.file c.args.entries.now) c.args.level.now.base c.args.drives.now c.loop-place.place c.loop-place.drives c.write_page.new.drives c.loop-place.invariant
    (has_page c.args.map.now c.args.file (length (index_pages c.args.file c.args.entries.now)) (c.args.level.now.base + c.loop-place.place) c.requires.pages
    (omega (arith, c.loop-place-test.true, c.len-place-end.ensures, below_pages c.args.entries.now c.args.level.now c.requires.level c.requires.keys c.args.file)))
    c.write_page.ensures.written

pub returns-in_err-write_page-clause-err : goal.returns-in_err-write_page-clause-err
returns-in_err-write_page-clause-err g c =
    let p = err_from_is_err_and c.from_residual.result c.from_residual.ensures.1 in
    rw (p.1, p.2) (cause_later g.D.Drive c.args.map.now (IsPlace c.args.map.now c.args.file) c.args.drives.now c.loop-place.drives c.write_page.new.drives _ c.loop-place.invariant.wrote c.in_err-write_page.ensures.err c.requires.room)

pub loop-place-preserved : goal.loop-place-preserved
loop-place-preserved g c =
    writes g.D.Drive c.args.map.now c.args.file (index_pages c.args.file c.args.entries.now) c.args.level.now.base c.args.drives.now c.loop-place.place _ c.loop-place.drives c.write_page.new.drives c.loop-place.invariant
    (has_page c.args.map.now c.args.file (length (index_pages c.args.file c.args.entries.now)) (c.args.level.now.base + c.loop-place.place) c.requires.pages
    (omega (arith, c.loop-place-test.true, c.len-place-end.ensures, below_pages c.args.entries.now c.args.level.now c.requires.level c.requires.keys c.args.file)))
    (page_here c.args.entries.now c.args.level.now c.requires.level c.requires.keys c.args.file c.loop-place.place (omega (arith, c.loop-place-test.true, c.len-place-end.ensures)))
    c.write_page.ensures.written c.in_ok-write_page.ensures.ok c.in_ok-write_page.ensures.quiet

pub returns-in_err-write_page-clause-quiet : goal.returns-in_err-write_page-clause-quiet
returns-in_err-write_page-clause-quiet g c =
    let p = err_from_is_err_and c.from_residual.result c.from_residual.ensures.1 in
    rw (p.1, p.2) (quiet_trans g.D.Drive _ c.args.drives.now c.loop-place.drives c.write_page.new.drives c.loop-place.invariant.wrote.len c.loop-place.invariant.quiet c.in_err-write_page.ensures.quiet)
